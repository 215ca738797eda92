-- Lists of legs of which one is the only one.
use Rattle.std.proofs.Common.{◌≡◌, ◌≤◌, ℕ, Option, None, List, [], ◌∷◌, length, map, refl, arith}
use Rattle.weld_tree.specs.ExprTree.{pack_legs}
use Rattle.weld_tree.specs.ExprView.{view_leg}
use Rattle.weld_tree.specs.declared.expr.Leg.{Leg}
use Rattle.weld_joining.specs.Joining.{only_name}

-- of two legs or more none is the only one
pub more_legs_none : (legs : List Leg) → 2 ≤ length legs → ◌≡◌ {A = Option ℕ} None (only_name (pack_legs (map view_leg legs)))
more_legs_none [] h = absurd (omega (arith, h))
more_legs_none (l ∷ []) h = absurd (omega (arith, h))
more_legs_none (l ∷ m ∷ ls) h = refl
