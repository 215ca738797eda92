use Rattle.std.proofs.Common.{◌≡◌, Option, sym, subst, ◌∙◌, IfOk, is_some}
use Rattle.weld_tree.specs.ExprTree.{ExprTree}
use Rattle.weld_rewriting.specs.Sweep.{or_same}
use Rattle.weld_vertical_struct.proofs.Trying.{opened_is}
use Rattle.weld_vertical_struct.proofs.rule.OpenedRule.try_at.Goals as goal

pub returns-then-not-producer_has_pair-clause-matched : goal.returns-then-not-producer_has_pair-clause-matched
returns-then-not-producer_has_pair-clause-matched g c =
    let same = opened_is (g.R.Rule.rule c.args.self.now.rule) c.args.e.now (sym c.producer_has_pair.ensures ∙ c.if-not-producer_has_pair.true) in
    subst (λ (d : Option ExprTree). IfOk c.try_at.result (λ matched. matched ≡ is_some d)) (sym same) c.try_at.ensures.matched

pub returns-then-not-producer_has_pair-clause-settled : goal.returns-then-not-producer_has_pair-clause-settled
returns-then-not-producer_has_pair-clause-settled g c =
    let same = opened_is (g.R.Rule.rule c.args.self.now.rule) c.args.e.now (sym c.producer_has_pair.ensures ∙ c.if-not-producer_has_pair.true) in
    subst (λ (d : Option ExprTree). IfOk c.try_at.result (λ x. c.try_at.new.e ≡ or_same d c.args.e.now)) (sym same) c.try_at.ensures.settled
