use Rattle.std.proofs.Common.{◌≡◌, Some, slice_get, ap, ◌∙◌, arith}
use Rattle.weld_turns.specs.CodeView.{slot_value}
use Rattle.weld_turns.proofs.Shapes.{one_more_set}
use Rattle.weld_turns.proofs.turns.put_numbers.Goals as goal

pub loop-k-preserved : goal.loop-k-preserved
loop-k-preserved c =
    one_more_set (λ j o. slice_get c.args.fields.now j ≡ Some (slot_value o)) c.loop-k.slots c.loop-k.k c.in-Some.n (omega (arith, c.loop-k-test.true, c.if-len-slots.false, c.loop-k.auto.slots, c.len.ensures, c.len-k-end.ensures))
    (c.at.ensures ∙ ap Some c.in-Some.ensures) c.loop-k.invariant
