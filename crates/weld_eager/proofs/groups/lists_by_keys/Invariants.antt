use Rattle.std.proofs.Common.{◌≡◌, ◌∷◌, [], None}
use Rattle.weld_data.specs.Value.{Value}
use Rattle.weld_data.specs.View.{view_column}
use Rattle.weld_builders.specs.Part.{appended}
use Rattle.weld_eager.proofs.Grouping.{KeysSoFar, MergedSoFar}
use Rattle.weld_eager.proofs.groups.lists_by_keys.Given as goal

abbrev pub invariant-loop-i : goal.invariant-loop-i
invariant-loop-i l =
    MergedSoFar appended (λ (v : Value). v ∷ []) (view_column l.keys) (view_column l.vs) l.i l.lists.groups
    × KeysSoFar (view_column l.keys) l.lists.groups
    × (l.lists.key ≡ None) × (l.lists.items ≡ l.fn.kind)
