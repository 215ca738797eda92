use Rattle.std.proofs.Common.{[], ◌-◌, Err, ap, subst}
use Rattle.weld_builders.specs.Outcome.{map_out}
use Rattle.weld_meaning.specs.Evaluation.{turn_limit}
use Rattle.weld_meaning.specs.Thing.{plain}
use Rattle.weld_turns.specs.CodeView.{shape_value}
use Rattle.weld_turns.specs.OnRows.{RunsAll}
use Rattle.weld_turns.specs.StepView.{shown, words_of}
use Rattle.weld_turns.specs.declared.code.Halt.{Halt}
use Rattle.weld_turns.specs.declared.code.Halt.TheVariants.{Fault}
use Rattle.weld_turns.proofs.OnRows.{ended_on}
use Rattle.weld_turns.proofs.turns.run_lowered.Goals as goal

pub returns-in-Ok : goal.returns-in-Ok
returns-in-Ok c = ended_on c.last_words.result c.args.step.now c.args.shape [] (words_of c.args.words.now) (words_of c.run_all.new.words) (turn_limit - 8) c.in-Ok.ensures c.last_words.ensures

pub returns-in-Err-Fault : goal.returns-in-Err-Fault
returns-in-Err-Fault c =
    let ends : RunsAll (Err Fault) c.args.step.now c.args.shape [] 8 (shape_value c.args.shape 0 (shown (words_of c.args.words.now))) (shape_value c.args.shape 0 (shown (words_of c.run_all.new.words))) =
    subst (λ (h : Halt). RunsAll (Err h) c.args.step.now c.args.shape [] 8 (shape_value c.args.shape 0 (shown (words_of c.args.words.now))) (shape_value c.args.shape 0 (shown (words_of c.run_all.new.words)))) c.in-Err-Fault.field-0-is c.in-Err-Fault.ensures in
    λ g is. ap (map_out plain) (ends g (λ w has. is w))
