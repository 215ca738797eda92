use Rattle.std.proofs.Common.{arith}
use Rattle.weld_turns.specs.OnRows.{state_of, EndsWith}
use Rattle.weld_blocks.specs.Turned.{word_in, words_in}
use Rattle.weld_blocks.proofs.TurnLemmas.{state_set}
use Rattle.weld_blocks.proofs.turning.end_each.Goals as goal

pub loop-place-preserved : goal.loop-place-preserved
loop-place-preserved c =
    state_set (λ j s. EndsWith c.args.step.now c.args.shape (words_in c.args.columns.now j) (state_of c.args.shape (word_in c.args.first.now j) (word_in c.args.second.now j)) (state_of c.args.shape s.first s.second))
    c.loop-place.states c.loop-place.place c.in-Some.state (omega (arith, c.loop-place-test.true, c.loop-place.auto.states)) c.in-Some.ensures c.loop-place.invariant
