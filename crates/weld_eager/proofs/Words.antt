-- Numbers as the code has them, in words of 128 bits.
use Rattle.std.proofs.Common.{◌≡◌, ℕ, zero, suc, ◌<◌, ℤ, pos, List, [], ◌∷◌, length, slice_index_or, sym, subst, to_z, of_z, arith}
use Rattle.std.specs.Int.{w128}
use Rattle.std.proofs.lemmas.Int.{ints, to_z-of_z}
use Rattle.weld_data.specs.declared.kind.Kind.{Kind}
use Rattle.weld_data.specs.declared.kind.Kind.TheVariants as kinds
use Rattle.weld_data.specs.Kind.{InRange}
use Rattle.weld_builders.specs.Range.{AllInRange}

-- a number's bits, read back
abbrev pub bits : ℤ → ℤ
bits x = to_z w128 (of_z w128 x)

pub bits_are : (k : Kind) (x : ℤ) → InRange k x → bits x ≡ x
bits_are kinds.Bool x h = to_z-of_z w128 x (omega (arith, ints, h.low, h.high))
bits_are kinds.I8 x h = to_z-of_z w128 x (omega (arith, ints, h.low, h.high))
bits_are kinds.I16 x h = to_z-of_z w128 x (omega (arith, ints, h.low, h.high))
bits_are kinds.I32 x h = to_z-of_z w128 x (omega (arith, ints, h.low, h.high))
bits_are kinds.I64 x h = to_z-of_z w128 x (omega (arith, ints, h.low, h.high))
bits_are kinds.U8 x h = to_z-of_z w128 x (omega (arith, ints, h.low, h.high))
bits_are kinds.U16 x h = to_z-of_z w128 x (omega (arith, ints, h.low, h.high))
bits_are kinds.U32 x h = to_z-of_z w128 x (omega (arith, ints, h.low, h.high))
bits_are kinds.U64 x h = to_z-of_z w128 x (omega (arith, ints, h.low, h.high))

pub all_in_range_at : (k : Kind) (xs : List ℤ) (i : ℕ) (d : ℤ) → AllInRange k xs → i < length xs → InRange k (slice_index_or xs i d)
all_in_range_at k [] i d h l = absurd (omega (arith, l))
all_in_range_at k (x ∷ xs) zero d h l = h.0
all_in_range_at k (x ∷ xs) (suc i) d h l = all_in_range_at k xs i d h.1 (omega (arith, l))

pub bits_in_range : (k : Kind) (x : ℤ) → InRange k x → InRange k (bits x)
bits_in_range k x h = subst (InRange k) (sym (bits_are k x h)) h

pub cell_in_range : (k : Kind) (xs : List ℤ) (i : ℕ) → AllInRange k xs → i < length xs → InRange k (bits (slice_index_or xs i (pos 0)))
cell_in_range k xs i h l = bits_in_range k (slice_index_or xs i (pos 0)) (all_in_range_at k xs i (pos 0) h l)

-- the number that was read at a place
pub read_in_range : (k : Kind) (xs : List ℤ) (i : ℕ) (x : ℤ) → AllInRange k xs → i < length xs → x ≡ slice_index_or xs i x → InRange k x
read_in_range k xs i x h l is = subst (InRange k) (sym is) (all_in_range_at k xs i x h l)
