use Rattle.std.proofs.Common.{◌≡◌, drop}
use Rattle.std.specs.Vec.Iter.{into_iter_items}
use Rattle.weld_tile_parts.specs.Parts.{joined_evaluation, IsWhole}
use Rattle.weld_exec.specs.Run.{evaluation_of, rows_at}
use Rattle.weld_share.specs.Mapped.{AreAnswers}
use Rattle.weld_share.proofs.tiled.join_batch.Given as goal

abbrev pub invariant-loop-answer : goal.invariant-loop-answer
invariant-loop-answer g l = record {
  whole : IsWhole l.joined;
  evaluation : joined_evaluation l.joined ≡ evaluation_of l.run.plan.now l.run.env.now;
  answers : AreAnswers l.run.plan.now l.run.env.now l.joined.next l.joined.end (rows_at l.run.env.now) (drop l.len l.left) (into_iter_items l.answer-iterator);
}
