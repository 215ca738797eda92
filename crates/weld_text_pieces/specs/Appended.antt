-- Texts that values are appended to.
use Rattle.std.specs.Prelude.{◌≡◌, ◌++◌, ℕ, List}
use Rattle.weld_data.specs.Value.{Value}
use Rattle.weld_tree.specs.TypeTree.{TypeTree}
use Rattle.weld_tree.specs.HasValue.{HasValue}
use Rattle.weld_write_value.specs.Showing.{show}

-- behind the old text stands that of the value, at any type that it is of
abbrev pub IsAppended : List ℕ → List ℕ → Value → Type 0
IsAppended old new v = (t : TypeTree) → HasValue t v → new ≡ old ++ show t v
