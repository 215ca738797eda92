-- Lists of legs that are too long for the lane form.
use Rattle.std.proofs.Common.{◌≡◌, ◌≤◌, ◌<◌, Bool, true, false, List, [], ◌∷◌, length, map, refl, arith}
use Rattle.weld_data.specs.declared.kind.Kind.TheVariants as kinds
use Rattle.weld_tree.specs.ExprTree.{pack_legs}
use Rattle.weld_tree.specs.ExprView.{view_leg}
use Rattle.weld_tree.specs.declared.expr.Leg.{Leg}
use Rattle.weld_sizes.specs.Lanes.{are_two, legs_kind}

-- three legs or more have no kind, nor has none
pub no_kind : (legs : List Leg) → 3 ≤ length legs → kinds.Bool ≡ legs_kind (pack_legs (map view_leg legs))
no_kind [] h = absurd (omega (arith, h))
no_kind (l ∷ []) h = absurd (omega (arith, h))
no_kind (l ∷ m ∷ []) h = absurd (omega (arith, h))
no_kind (l ∷ m ∷ k ∷ ls) h = refl

pub none_of : (legs : List Leg) → length legs < 2 → false ≡ are_two (pack_legs (map view_leg legs))
none_of [] h = refl
none_of (l ∷ []) h = refl
none_of (l ∷ m ∷ ls) h = absurd (omega (arith, h))

pub two_of : (legs : List Leg) → 2 ≤ length legs → true ≡ are_two (pack_legs (map view_leg legs))
two_of [] h = absurd (omega (arith, h))
two_of (l ∷ []) h = absurd (omega (arith, h))
two_of (l ∷ m ∷ ls) h = refl
