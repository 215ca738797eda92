-- Values read into the places of a list.
use Rattle.std.specs.Prelude.{◌+◌, ℕ, List, map, take}
use Rattle.weld_data.specs.Value.{Value}
use Rattle.weld_values.specs.declared.flaw.Flaw.TheVariants.{Fine}
use Rattle.weld_values.specs.Grammar.{Part}
use Rattle.weld_values.specs.Judging.{IsReadInto}

-- behind the places before it, this place has the value that was read, with which nothing is wrong
abbrev pub IsPlaced : {A : Type 0} → Part Value → (A → Value) → List ℕ → ℕ → List A → List A → List ℕ → Type 0
IsPlaced R value text place old new rest = IsReadInto R text Fine (map value (take place old)) (map value (take (place + 1) new)) rest
