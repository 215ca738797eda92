use Rattle.std.proofs.Common.{◌≡◌, None}
use Rattle.weld_data.specs.declared.op.MergeOp.TheVariants as merges
use Rattle.weld_data.specs.Wrapped.{wrapped}
use Rattle.weld_data.specs.View.{view_column}
use Rattle.weld_builders.specs.Part.{combined}
use Rattle.weld_eager.proofs.Grouping.{KeysSoFar, MergedSoFar}
use Rattle.weld_eager.proofs.groups.sums_by_keys.Given as goal

abbrev pub invariant-loop-i : goal.invariant-loop-i
invariant-loop-i l =
    MergedSoFar (combined merges.Add l.fn.kind) (wrapped l.fn.kind) (view_column l.keys) l.xs l.i l.sums.numbers
    × KeysSoFar (view_column l.keys) l.sums.numbers
    × (l.sums.key ≡ None) × (l.sums.op ≡ merges.Add) × (l.sums.kind ≡ l.fn.kind)
