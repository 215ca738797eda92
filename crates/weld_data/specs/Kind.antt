-- Kinds of numbers: their bits and their ranges.
use Rattle.std.specs.Prelude.{ℕ, ◌^◌, ℤ, pos, neg_ℤ, ◌≤ℤ◌}
use Rattle.weld_data.specs.declared.kind.Kind.{Kind}
use Rattle.weld_data.specs.declared.kind.Kind.TheVariants.{Bool, I8, I16, I32, I64, U8, U16, U32, U64}

-- the kind is one of integers
abbrev pub IsInteger : Kind → Type 0
IsInteger Bool = ⊥
IsInteger I8 = Unit {0}
IsInteger I16 = Unit {0}
IsInteger I32 = Unit {0}
IsInteger I64 = Unit {0}
IsInteger U8 = Unit {0}
IsInteger U16 = Unit {0}
IsInteger U32 = Unit {0}
IsInteger U64 = Unit {0}

-- how many numbers the kind has
abbrev pub size_of : Kind → ℕ
size_of Bool = 2
size_of I8 = 2 ^ 8
size_of I16 = 2 ^ 16
size_of I32 = 2 ^ 32
size_of I64 = 2 ^ 64
size_of U8 = 2 ^ 8
size_of U16 = 2 ^ 16
size_of U32 = 2 ^ 32
size_of U64 = 2 ^ 64

-- the least number of the kind
abbrev pub least : Kind → ℤ
least Bool = pos 0
least I8 = neg_ℤ (pos (2 ^ 7))
least I16 = neg_ℤ (pos (2 ^ 15))
least I32 = neg_ℤ (pos (2 ^ 31))
least I64 = neg_ℤ (pos (2 ^ 63))
least U8 = pos 0
least U16 = pos 0
least U32 = pos 0
least U64 = pos 0

-- the greatest number of the kind
abbrev pub greatest : Kind → ℤ
greatest Bool = pos 1
greatest I8 = pos 127
greatest I16 = pos 32767
greatest I32 = pos 2147483647
greatest I64 = pos 9223372036854775807
greatest U8 = pos 255
greatest U16 = pos 65535
greatest U32 = pos 4294967295
greatest U64 = pos 18446744073709551615

-- the number is one of the kind
pub record InRange (kind : Kind) (x : ℤ) : Type 0 where
  pub low : least kind ≤ℤ x
  pub high : x ≤ℤ greatest kind

-- each number of the kind is one of 64 bits with a sign
abbrev pub IsNarrow : Kind → Type 0
IsNarrow Bool = Unit {0}
IsNarrow I8 = Unit {0}
IsNarrow I16 = Unit {0}
IsNarrow I32 = Unit {0}
IsNarrow I64 = Unit {0}
IsNarrow U8 = Unit {0}
IsNarrow U16 = Unit {0}
IsNarrow U32 = Unit {0}
IsNarrow U64 = ⊥
