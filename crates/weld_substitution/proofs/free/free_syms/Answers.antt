use Rattle.std.proofs.Common.{◌≡◌, ◌∙◌, ◌↔◌, ℕ, List, [], ap, subst, sym}
use Rattle.weld_tree.specs.Program.{AreDistinct, IsOneOf}
use Rattle.weld_meaning.specs.Names.{IsFree}
use Rattle.weld_substitution.specs.FreeNames.{each_once, free_uses}
use Rattle.weld_substitution.specs.Gathering.{gathered}
use Rattle.weld_substitution.proofs.Gathered.{gathered_once, once_is_distinct, free_is_among}
use Rattle.weld_substitution.proofs.free.free_syms.Goals as goal

pub returns-clause-order : goal.returns-clause-order
returns-clause-order c = c.in_ok-gather_free.ensures ∙ ap (λ (there : List ℕ). gathered c.args.e.now [] there) c.new-syms.ensures ∙ gathered_once c.args.e.now

pub returns-clause-distinct : goal.returns-clause-distinct
returns-clause-distinct c =
    let h : c.gather_free.new.syms ≡ each_once (free_uses c.args.e.now) =
    c.in_ok-gather_free.ensures ∙ ap (λ (there : List ℕ). gathered c.args.e.now [] there) c.new-syms.ensures ∙ gathered_once c.args.e.now in
    subst AreDistinct (sym h) (once_is_distinct c.args.e.now)

pub returns-clause-free : goal.returns-clause-free
returns-clause-free c =
    let h : c.gather_free.new.syms ≡ each_once (free_uses c.args.e.now) =
    c.in_ok-gather_free.ensures ∙ ap (λ (there : List ℕ). gathered c.args.e.now [] there) c.new-syms.ensures ∙ gathered_once c.args.e.now in
    λ s. subst (λ (ss : List ℕ). IsOneOf ss s ↔ IsFree c.args.e.now s) (sym h) (free_is_among c.args.e.now s)
