use Rattle.std.proofs.Common.{◌≡◌, ◌∙◌, ℕ, List, sym, subst}
use Rattle.weld_meaning.specs.LinearWalk.{after_taking}
use Rattle.weld_linear.specs.AvailableView.{view_builder, stands_below}
use Rattle.weld_uses.proofs.Chains.{hidden, missing, used, used_value}
use Rattle.weld_uses.proofs.rules.nodes.use_chain.Goals as goal

pub returns-then-not-is_seen : goal.returns-then-not-is_seen
returns-then-not-is_seen c =
    hidden c.in-Ok.ensures (sym c.is_seen.ensures ∙ c.if-not-is_seen.true)

pub returns-then-lacks : goal.returns-then-lacks
returns-then-lacks c =
    missing (view_builder c.args.chain.now) c.args.scope.now c.args.left.now c.in-Ok-wanted.wanted c.in-Ok.real c.in-Ok.ensures
    (sym c.is_seen.ensures ∙ c.if-not-is_seen.false) c.in-Ok-wanted.ensures (sym c.lacks.ensures ∙ c.if-lacks.true)

pub returns-in-Ok-answer_of : goal.returns-in-Ok-answer_of
returns-in-Ok-answer_of c =
    used (view_builder c.args.chain.now) c.args.scope.now c.args.left.now c.in-Ok-wanted.wanted c.take.new.self c.in-Ok.real c.in-Ok-answer_of.source
    c.in-Ok.ensures (sym c.is_seen.ensures ∙ c.if-not-is_seen.false) c.in-Ok-wanted.ensures (sym c.lacks.ensures ∙ c.if-lacks.false)
    (subst (λ (p : List ℕ). c.take.new.self ≡ after_taking (λ s q. stands_below c.args.chain.now.name.0 p c.in-Ok.real (s, q)) c.args.left.now) c.as_slice.ensures c.take.ensures)
    c.in-Ok-answer_of.ensures

pub returns-then-is_value : goal.returns-then-is_value
returns-then-is_value c =
    used_value (view_builder c.args.chain.now) c.args.scope.now c.args.left.now c.in-Ok.real c.in-Ok.ensures (sym c.is_value.ensures ∙ c.if-is_value.true)
