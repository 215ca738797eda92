-- Wrapping: the number of a kind that stands for a whole number.
use Rattle.std.specs.Prelude.{◌≡◌, ℕ, ◌^◌, ℤ, pos, ◌+ℤ◌, ◌*ℤ◌}
use Rattle.std.specs.Int.{w8, w16, w32, w64, int_rem_euclid, int_wrap}
use Rattle.weld_data.specs.declared.kind.Kind.{Kind}
use Rattle.weld_data.specs.declared.kind.Kind.TheVariants.{Bool, I8, I16, I32, I64, U8, U16, U32, U64}
use Rattle.weld_data.specs.Kind.{InRange, size_of}

-- x and y differ by a multiple of n
abbrev pub SameModulo : ℕ → ℤ → ℤ → Type 0
SameModulo n x y = (turns : ℤ) × (x ≡ y +ℤ turns *ℤ pos n)

-- y is the number of the kind that equals x modulo two to the number of its bits
pub record IsWrapped (kind : Kind) (x y : ℤ) : Type 0 where
  pub in_range : InRange kind y
  pub same : SameModulo (size_of kind) x y

-- that number, as std computes it
abbrev pub wrapped : Kind → ℤ → ℤ
wrapped Bool x = int_rem_euclid x (pos 2)
wrapped I8 x = int_wrap w8 x
wrapped I16 x = int_wrap w16 x
wrapped I32 x = int_wrap w32 x
wrapped I64 x = int_wrap w64 x
wrapped U8 x = int_rem_euclid x (pos (2 ^ 8))
wrapped U16 x = int_rem_euclid x (pos (2 ^ 16))
wrapped U32 x = int_rem_euclid x (pos (2 ^ 32))
wrapped U64 x = int_rem_euclid x (pos (2 ^ 64))
