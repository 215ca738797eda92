use Rattle.std.proofs.Common.{◌≡◌, ◌∙◌, suc, false, ap, sym, subst}
use Rattle.weld_tree.specs.ExprTree.{ExprTree}
use Rattle.weld_rewriting.specs.Sweep.{swept, moves, IsStill}
use Rattle.weld_rewriting.proofs.Falling.{one_more, same, falls_at}
use Rattle.weld_rewriting.proofs.rounds.rounds.sweep_until_still.Goals as goal

pub returns-then-not-moved-clause-swept : goal.returns-then-not-moved-clause-swept
returns-then-not-moved-clause-swept g c =
    let r = g.R.Rule.rule c.args.rule.now in
    (suc c.rounds.invariant.0, c.in_ok-moved.ensures.swept ∙ ap (swept r) c.rounds.invariant.1 ∙ sym (one_more r c.rounds.invariant.0 c.args.e.now))

pub returns-then-not-moved-clause-still : goal.returns-then-not-moved-clause-still
returns-then-not-moved-clause-still g c =
    let r = g.R.Rule.rule c.args.rule.now in
    let rest : moves r c.rounds.e ≡ false = sym c.in_ok-moved.ensures.matched ∙ c.if-not-moved.true in
    let stays = same r c.rounds.e rest in
    subst (λ (e : ExprTree). IsStill r e) (sym (c.in_ok-moved.ensures.swept ∙ stays.0)) stays.1

pub rounds-smaller : goal.rounds-smaller
rounds-smaller g c =
    falls_at (g.R.Rule.rule c.args.rule.now) c.rounds.e c.sweep.new.e c.requires (sym c.in_ok-moved.ensures.matched ∙ c.if-not-moved.false) c.in_ok-moved.ensures.swept

pub rounds-preserved : goal.rounds-preserved
rounds-preserved g c =
    let r = g.R.Rule.rule c.args.rule.now in
    (suc c.rounds.invariant.0, c.in_ok-moved.ensures.swept ∙ ap (swept r) c.rounds.invariant.1 ∙ sym (one_more r c.rounds.invariant.0 c.args.e.now))
