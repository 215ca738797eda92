-- What can be merged into a builder, and when it has a result.
use Rattle.std.specs.Prelude.{None, length}
use Rattle.weld_data.specs.Value.{Value}
use Rattle.weld_builders.specs.Builder.{item}
use Rattle.weld_builders.specs.Part.{Part, list_part, total_part, totals_part, kinds_of, cells_part, keyed_part, groups_part}
use Rattle.weld_pieces.specs.Kept.{Kept, kept_list, kept_total, kept_totals, kept_cells, kept_keyed, kept_groups, Takes}
use Rattle.weld_pieces.specs.Keyed.{KeysAreKept, HasOneKeyType}

-- how a builder is kept whose items and keys are kept as values
abbrev pub plain_kept : Part → Kept
plain_kept (list_part vs) = kept_list None
plain_kept (total_part op k x) = kept_total op k
plain_kept (totals_part op xs) = kept_totals op (kinds_of xs)
plain_kept (cells_part op k xs) = kept_cells op k (length xs)
plain_kept (keyed_part op k m) = kept_keyed None op k
plain_kept (groups_part m) = kept_groups None None

-- the value is an item of the builder: any value for a list, a number of its kind, a struct of such, a number with an index, or with a key; a value with a key
abbrev pub IsItemOf : Part → Value → Type 0
IsItemOf p v = Takes (plain_kept p) (item v)

-- the keys are of one type, so that there is a dictionary of them
abbrev pub HasResult : Part → Type 0
HasResult (list_part vs) = Unit {0}
HasResult (total_part op k x) = Unit {0}
HasResult (totals_part op xs) = Unit {0}
HasResult (cells_part op k xs) = Unit {0}
HasResult (keyed_part op k m) = KeysAreKept None m × HasOneKeyType m
HasResult (groups_part m) = KeysAreKept None m × HasOneKeyType m
