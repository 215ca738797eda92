use Rattle.std.proofs.Common.{sym, ◌∙◌, arith}
use Rattle.weld_turns.specs.CodeView.{slots_of}
use Rattle.weld_turns.proofs.Shapes.{field_added}
use Rattle.weld_turns.proofs.SlotLemmas.{slot_is}
use Rattle.weld_turns.proofs.turns.fields_of.Goals as goal

pub loop-k-preserved : goal.loop-k-preserved
loop-k-preserved c =
    field_added c.loop-k.fields c.push.new.self c.loop-k.k (slots_of c.args.slots.now) _ c.in_ok-push.ensures.ok c.loop-k.invariant
    (sym c.to_num.ensures ∙ sym (slot_is c.args.slots.now c.loop-k.k c.index-slots-k.result (omega (arith, c.loop-k-test.true, c.requires)) c.index-slots-k.is))
