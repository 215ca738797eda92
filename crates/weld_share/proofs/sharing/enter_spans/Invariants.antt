use Rattle.std.proofs.Common.{◌≡◌, ℕ, length}
use Rattle.std.specs.Vec.Iter.{into_iter_items}
use Rattle.weld_eval.specs.ThingView.{thing_of}
use Rattle.weld_tile_parts.specs.Parts.{joined_evaluation, IsWhole}
use Rattle.weld_exec.specs.Run.{evaluation_of}
use Rattle.weld_board.specs.Spans.{AreSpans}
use Rattle.weld_share.specs.Shared.{HasMade, row_of}
use Rattle.weld_share.proofs.sharing.enter_spans.Given as goal

abbrev pub invariant-loop-span : goal.invariant-loop-span
invariant-loop-span g l = record {
  whole : IsWhole l.joined;
  evaluation : joined_evaluation l.joined ≡ evaluation_of l.run.plan.now l.run.env.now;
  left : (at : ℕ) × AreSpans (λ first next part. HasMade l.run.plan.now l.run.env.now l.batch first next (thing_of part)) at (length l.batch) (into_iter_items l.span-iterator) × (l.joined.end ≡ row_of l.batch at);
}
