use Rattle.std.proofs.Common.{ap, sym, ◌∙◌}
use Rattle.weld_builders.specs.Outcome.{and_then}
use Rattle.weld_meaning.specs.Evaluation.{negated}
use Rattle.weld_turns.specs.CodeView.{value}
use Rattle.weld_turns.specs.Lowering.{between}
use Rattle.weld_turns.proofs.LowerLemmas.{opposite_code, opposite_ok, puts_as, slot_rests, work_is, work_ok}
use Rattle.weld_turns.proofs.lower_code.+put.Goals as goal

pub bring_place-returns-in-Some : goal.bring_place-returns-in-Some
bring_place-returns-in-Some t c = slot_rests c.args.slot c.args.rest c.args.code.now c.in-Some.field-0 c.args.place c.in-Some.is c.requires.slot

pub put_code-returns-in-Slot : goal.put_code-returns-in-Slot
put_code-returns-in-Slot t c = puts_as c.put_slot.result c.args.rest c.args.code.now _ c.args.to c.args.below c.in-Slot.is c.put_slot.ensures

pub put_code-returns-in-Literal : goal.put_code-returns-in-Literal
put_code-returns-in-Literal t c = puts_as c.put_literal.result c.args.rest c.args.code.now _ c.args.to c.args.below c.in-Literal.is c.put_literal.ensures

pub put_code-returns-in-Work : goal.put_code-returns-in-Work
put_code-returns-in-Work t c =
    work_is c.put_work.result c.args.rest c.in-Work.op c.args.code.now c.deref.result.now c.deref-in-Work.result.now c.args.to c.args.below
    (λ f. ap (λ x. value x f) c.in-Work.is ∙ ap (λ x. between c.in-Work.op x c.in-Work.y.value f) (sym c.deref.ensures) ∙ ap (λ x. between c.in-Work.op c.deref.result.now x f) (sym c.deref-in-Work.ensures)) c.put_work.ensures

pub put_work-returns : goal.put_work-returns
put_work-returns t c =
    work_ok c.bring_place.result c.in-Ok-bring.next c.in-Ok.last c.args.rest c.args.op c.args.x.now c.args.y.now c.args.to c.args.below c.place_or.result c.operand_for.result c.slot_of-first.result c.at_hand-second.result
    c.requires c.slot_of-first.ensures c.place_or.ensures c.operand_for.ensures c.in-Ok.ensures c.in-Ok-bring.ensures c.bring_place.ensures

pub put_opposite-returns : goal.put_opposite-returns
put_opposite-returns t c = opposite_ok c.bring_place.result c.in-Ok.last c.args.rest c.args.x.now c.args.to c.args.below c.place_or.result c.slot_of-slot.result c.place_or.ensures c.in-Ok.ensures c.bring_place.ensures

pub put_code-returns-in-Opposite : goal.put_code-returns-in-Opposite
put_code-returns-in-Opposite t c =
    opposite_code c.put_opposite.result c.args.rest c.args.code.now c.deref-in-Opposite.result.now c.args.to c.args.below
    (λ f. ap (λ x. value x f) c.in-Opposite.is ∙ ap (λ x. and_then (value x f) negated) (sym c.deref-in-Opposite.ensures)) c.put_opposite.ensures
