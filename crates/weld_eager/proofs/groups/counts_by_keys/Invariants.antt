use Rattle.std.proofs.Common.{◌≡◌, pos, None}
use Rattle.weld_data.specs.declared.kind.Kind.TheVariants as kinds
use Rattle.weld_data.specs.declared.op.MergeOp.TheVariants as merges
use Rattle.weld_data.specs.Value.{Value}
use Rattle.weld_data.specs.View.{view_column}
use Rattle.weld_builders.specs.Part.{combined}
use Rattle.weld_eager.proofs.Grouping.{KeysSoFar, MergedSoFar}
use Rattle.weld_eager.proofs.groups.counts_by_keys.Given as goal

abbrev pub invariant-loop-i : goal.invariant-loop-i
invariant-loop-i l =
    MergedSoFar (combined merges.Add kinds.I64) (λ (v : Value). pos 1) (view_column l.keys) (view_column l.keys) l.i l.counts.numbers
    × KeysSoFar (view_column l.keys) l.counts.numbers
    × (l.counts.key ≡ None) × (l.counts.op ≡ merges.Add) × (l.counts.kind ≡ kinds.I64)
