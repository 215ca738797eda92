use Rattle.std.proofs.Common.{◌-◌, refl}
use Rattle.weld_meaning.specs.Evaluation.{turn_limit}
use Rattle.weld_turns.specs.CodeView.{slots_of}
use Rattle.weld_turns.specs.Lowering.{rest_value}
use Rattle.weld_turns.specs.StepView.{words_of}
use Rattle.weld_turns.proofs.States.{lowered_some}
use Rattle.weld_turns.proofs.turns.run_on.Goals as goal

pub returns-in-Ok : goal.returns-in-Ok
returns-in-Ok c =
    lowered_some c.run_lowered.result c.args.turn.now c.in-Ok.step c.args.shape (slots_of c.args.slots.now) (words_of c.put_words.new.words) (rest_value c.of_turn-whole.result) (turn_limit - 8)
    c.of_turn-whole.ensures c.in-Ok.ensures.lowered (c.if-not-put_words.ensures refl) c.run_lowered.ensures
