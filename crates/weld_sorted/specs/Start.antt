-- The first items of a text as one number, by which most texts can be compared.
use Rattle.std.specs.Prelude.{◌≡◌, ℕ, zero, suc, ℤ, pos, ◌+◌, ◌*◌, ◌<◌, ◌+ℤ◌, List, [], ◌∷◌, drop}
use Rattle.weld_data.specs.declared.value.Val.{Val}
use Rattle.weld_data.specs.declared.value.Val.TheVariants as val
use Rattle.weld_data.specs.declared.value.Column.TheVariants as column

-- the digit of the first item: it is counted from -128 on; 0 where there is none
abbrev pub IsDigit : List ℤ → ℕ → Type 0
IsDigit [] d = d ≡ 0
IsDigit (x ∷ xs) d = (x +ℤ pos 128 ≡ pos d) × (d < 256)

-- so many items, as digits to base 256 behind those of a number, make this number
unfoldable pub IsStart : ℕ → ℕ → List ℤ → ℕ → Type 0
IsStart zero before items start = start ≡ before
IsStart (suc n) before items start = (d : ℕ) × IsDigit items d × IsStart n (before * 256 + d) (drop 1 items) start

-- the list is kept as numbers of kind i8, as texts are
abbrev pub IsText : Val → Type 0
IsText (val.List (column.I8 items)) = Unit {0}
IsText _ = ⊥

-- of a text the number is that of its first 16 items
abbrev pub HasStart : Val → ℕ → Type 0
HasStart (val.List (column.I8 items)) start = IsStart 16 0 items start
HasStart _ start = Unit {0}
