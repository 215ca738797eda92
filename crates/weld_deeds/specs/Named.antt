-- Structs of numbers that a name stands for, field by field.
use Rattle.std.specs.Prelude.{◌≡◌, ℕ, ◌<◌, List, ◌++◌, map, Option, Some, None}
use Rattle.std.specs.Global.{Vec}
use Rattle.weld_data.specs.Value.{Value}
use Rattle.weld_blocks.specs.Numbers.{number_at}
use Rattle.weld_blocks.specs.Structs.{AreCounted, AreStructs}
use Rattle.weld_blocks.specs.declared.numbers.Numbers.{Numbers}

-- fields have come to others that have these numbers at each of so many places
pub record HaveGrown (old new : List Numbers) (count : ℕ) (more : ℕ → List Value) : Type 0 where
  pub added : List Numbers
  pub is : new ≡ old ++ added
  pub long : AreCounted added count
  pub each : (j : ℕ) → j < count → map (λ c. number_at c j) added ≡ more j

-- the fields of structs, of which each is what it must be at its place; there may be none
abbrev pub MayBeStructs : (ℕ → Value → Type 0) → Option (Vec Numbers) → ℕ → Type 0
MayBeStructs gives (Some cs) count = AreStructs gives cs.items count
MayBeStructs gives None count = Unit {0}
