use Rattle.std.proofs.Common.{◌≡◌, ℕ, ◌<◌, true, false, Err, refl, subst, ◌∙◌, arith}
use Rattle.weld_builders.specs.Outcome.{done}
use Rattle.weld_meaning.specs.Evaluation.{truth_of}
use Rattle.weld_turns.specs.CodeView.{shape_value}
use Rattle.weld_turns.specs.StepView.{shown, step_value, words_of}
use Rattle.weld_turns.specs.Answers.{NextState}
use Rattle.weld_turns.specs.OnRows.{HasWords}
use Rattle.weld_turns.specs.Scopes.{room_of}
use Rattle.weld_turns.specs.declared.code.Halt.{Halt}
use Rattle.weld_turns.proofs.OnRows.{fault_with, stepped_with}
use Rattle.weld_turns.proofs.States.{exceeds}
use Rattle.weld_turns.proofs.on_rows.run_all.Goals as goal

pub returns-in-Ok-false : goal.returns-in-Ok-false
returns-in-Ok-false c =
    let next = c.in-Ok-false.ensures in
    let go : truth_of next.0 ≡ done false = cc in
    let less : c.loop-turn._turn < 1000000 = omega (arith, c.loop-turn-test.true) in
    let at : c.room-at.result ≡ room_of c.args.shape = c.room-at.ensures.exact in
    let there : HasWords (room_of c.args.shape) c.args.row.now (words_of c.put_row.new.words) = subst (λ (n : ℕ). HasWords n c.args.row.now (words_of c.put_row.new.words)) at (c.if-not-put_row.ensures.there refl) in
    let kept : (i : ℕ) → i < room_of c.args.shape → words_of c.put_row.new.words i ≡ words_of c.loop-turn.words i = λ i low. c.if-not-put_row.ensures.kept refl i (omega (arith, low, at)) in
    λ g is. c.loop-turn.invariant g is
    ∙ stepped_with c.args.step.now c.args.shape c.args.row.now (words_of c.loop-turn.words) (words_of c.put_row.new.words) (words_of c.run_steps.new.words) g c.loop-turn._turn next.0 false less is
    there kept next.1 go

pub loop-turn-preserved : goal.loop-turn-preserved
loop-turn-preserved c =
    let next = c.in-Ok-true.ensures in
    let go : truth_of next.0 ≡ done true = cc in
    let less : c.loop-turn._turn < 1000000 = omega (arith, c.loop-turn-test.true) in
    let at : c.room-at.result ≡ room_of c.args.shape = c.room-at.ensures.exact in
    let there : HasWords (room_of c.args.shape) c.args.row.now (words_of c.put_row.new.words) = subst (λ (n : ℕ). HasWords n c.args.row.now (words_of c.put_row.new.words)) at (c.if-not-put_row.ensures.there refl) in
    let kept : (i : ℕ) → i < room_of c.args.shape → words_of c.put_row.new.words i ≡ words_of c.loop-turn.words i = λ i low. c.if-not-put_row.ensures.kept refl i (omega (arith, low, at)) in
    λ g is. c.loop-turn.invariant g is
    ∙ stepped_with c.args.step.now c.args.shape c.args.row.now (words_of c.loop-turn.words) (words_of c.put_row.new.words) (words_of c.run_steps.new.words) g c.loop-turn._turn next.0 true less is
    there kept next.1 go

pub returns-in-Err-Fault : goal.returns-in-Err-Fault
returns-in-Err-Fault c =
    let less : c.loop-turn._turn < 1000000 = omega (arith, c.loop-turn-test.true) in
    let at : c.room-at.result ≡ room_of c.args.shape = c.room-at.ensures.exact in
    let there : HasWords (room_of c.args.shape) c.args.row.now (words_of c.put_row.new.words) = subst (λ (n : ℕ). HasWords n c.args.row.now (words_of c.put_row.new.words)) at (c.if-not-put_row.ensures.there refl) in
    let kept : (i : ℕ) → i < room_of c.args.shape → words_of c.put_row.new.words i ≡ words_of c.loop-turn.words i = λ i low. c.if-not-put_row.ensures.kept refl i (omega (arith, low, at)) in
    λ g is. c.loop-turn.invariant g is
    ∙ fault_with c.args.step.now c.args.shape c.args.row.now (words_of c.loop-turn.words) (words_of c.put_row.new.words) g c.loop-turn._turn less is
    there kept
    (subst (λ (h : Halt). NextState (Err h) c.args.shape (shown (words_of c.run_steps.new.words)) (step_value c.args.step.now c.args.shape (words_of c.put_row.new.words))) c.in-Err-Fault.field-0-is c.in-Err-Fault.ensures)

pub returns : goal.returns
returns c = λ g is. c.loop-turn.invariant g is ∙ exceeds (shape_value c.args.shape 0 (shown (words_of c.loop-turn.words))) g c.loop-turn._turn (omega (arith, c.loop-turn-test.false))
