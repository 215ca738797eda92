-- Laws of shapes, and of parts that have nothing merged.
use Rattle.std.proofs.Common.{◌≡◌, ℕ, zero, suc, List, [], ◌∷◌, length, refl, ap}
use Rattle.weld_data.specs.declared.kind.Kind.{Kind}
use Rattle.weld_data.specs.declared.op.MergeOp.{MergeOp}
use Rattle.weld_builders.specs.Part.{Part, Shape, list_shape, total_shape, totals_shape, cells_shape, keyed_shape, groups_shape, shape_of, start_part, bare, repeated, kinds_of, neutral_totals}

pub length-repeated : {X : Type 0} (x : X) (n : ℕ) → length (repeated x n) ≡ n
length-repeated x zero = refl
length-repeated x (suc n) = ap suc (length-repeated x n)

pub kinds_of-neutral_totals : (op : MergeOp) (ks : List Kind) → kinds_of (neutral_totals op ks) ≡ ks
kinds_of-neutral_totals op [] = refl
kinds_of-neutral_totals op (k ∷ ks) = λ i. k ∷ kinds_of-neutral_totals op ks i

pub shape_of-start_part : (s : Shape) → shape_of (start_part s) ≡ s
shape_of-start_part list_shape = refl
shape_of-start_part (total_shape op k) = refl
shape_of-start_part (totals_shape op ks) = ap (totals_shape op) (kinds_of-neutral_totals op ks)
shape_of-start_part (cells_shape op k n) = ap (cells_shape op k) (length-repeated _ n)
shape_of-start_part (keyed_shape op k) = refl
shape_of-start_part groups_shape = refl

pub shape_of-bare : (p : Part) → shape_of (bare p) ≡ shape_of p
shape_of-bare p = shape_of-start_part (shape_of p)
