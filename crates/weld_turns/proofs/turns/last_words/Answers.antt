use Rattle.std.proofs.Common.{refl, sym}
use Rattle.weld_turns.specs.CodeView.{slots_of}
use Rattle.weld_turns.specs.StepView.{words_of}
use Rattle.weld_turns.proofs.Shapes.{words_put}
use Rattle.weld_turns.proofs.States.{state_shown}
use Rattle.weld_turns.proofs.turns.last_words.Goals as goal

pub returns : goal.returns
returns c =
    state_shown c.last_state.result c.args.shape (slots_of c.show_words.new.slots) (words_of c.args.words.now)
    (sym (words_put c.args.shape c.room.result (slots_of c.show_words.new.slots) (words_of c.args.words.now) c.room.ensures.exact (c.if-not-show_words.ensures refl))) c.last_state.ensures
