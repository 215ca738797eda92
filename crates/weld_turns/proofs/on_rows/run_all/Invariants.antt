use Rattle.std.proofs.Common.{◌≡◌, ◌-◌}
use Rattle.weld_data.specs.Value.{Value}
use Rattle.weld_builders.specs.Outcome.{Outcome}
use Rattle.weld_meaning.specs.Evaluation.{turns, turn_limit}
use Rattle.weld_turns.specs.CodeView.{shape_value}
use Rattle.weld_turns.specs.OnRows.{IsFollowedWith}
use Rattle.weld_turns.specs.StepView.{shown, words_of}
use Rattle.weld_turns.proofs.on_rows.run_all.Given as goal

-- the turns that are left from the state make the whole

abbrev pub invariant-loop-turn : goal.invariant-loop-turn
invariant-loop-turn l = (g : Value → Outcome Value) → IsFollowedWith l.step l.shape l.row g → turns (turn_limit - l.from) (shape_value l.shape 0 (shown (words_of l.initial.words))) g ≡ turns (turn_limit - l._turn) (shape_value l.shape 0 (shown (words_of l.words))) g
