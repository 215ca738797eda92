use Rattle.std.proofs.Common.{ℤ, w64, ap, sym, subst, ◌∙◌}
use Rattle.std.proofs.lemmas.Int.{to_z-of_z}
use Rattle.weld_data.specs.Value.{number}
use Rattle.weld_builders.specs.Outcome.{done, and_then}
use Rattle.weld_meaning.specs.Evaluation.{operated}
use Rattle.weld_eval.specs.Word.{of_word}
use Rattle.weld_turns.specs.Answers.{KindAndWord}
use Rattle.weld_turns.specs.CodeView.{slots_of, value}
use Rattle.weld_turns.proofs.Runs.{goes_on_with}
use Rattle.weld_turns.proofs.run.+run.Goals as goal

pub worked-returns-in-Ok : goal.worked-returns-in-Ok
worked-returns-in-Ok t c =
    goes_on_with c.worked_with.result c.worked_with.new.into (value c.args.x.now (slots_of c.args.slots.now)) (λ v. and_then (value c.args.y.now (slots_of c.args.slots.now)) (λ w. operated c.args.op v w)) _
    (c.in-Ok.ensures.1 ∙ ap (λ (z : ℤ). done (number c.in-Ok.kind (of_word c.in-Ok.kind z))) (sym (to_z-of_z w64 c.part.new.into c.in-Ok.ensures.2))) c.worked_with.ensures

pub worked_with-returns-in-Ok : goal.worked_with-returns-in-Ok
worked_with-returns-in-Ok t c =
    subst (λ (z : ℤ). KindAndWord c.operate.result c.operate.new.into (and_then (value c.args.y.now (slots_of c.args.slots.now)) (λ w. operated c.args.op (number c.args.kind (of_word c.args.kind z)) w))) (to_z-of_z w64 c.args.x c.ranges.x)
    (goes_on_with c.operate.result c.operate.new.into (value c.args.y.now (slots_of c.args.slots.now)) _ _
    (c.in-Ok.ensures.1 ∙ ap (λ (z : ℤ). done (number c.in-Ok.other (of_word c.in-Ok.other z))) (sym (to_z-of_z w64 c.part.new.into c.in-Ok.ensures.2))) c.operate.ensures)
