-- Lists that are lent to be changed in place.
use Rattle.std.specs.Prelude.{◌≡◌, List, length, take, drop, map, ◌++◌}
use Rattle.std.proofs.Common.{arith, append-nil, sym, ap, ◌∙◌}
use Rattle.std.proofs.lemmas.List.{drop_all, length-map}
use Rattle.std.proofs.Math.Seq.{take-length}
use Rattle.std.specs.Borrow.{Lends, MutBor, Fml, Array}
use Rattle.weld_tree.specs.ExprTree.{ExprTree, LegTree}
use Rattle.weld_tree.specs.ExprView.{view_leg}
use Rattle.weld_tree.specs.declared.expr.Leg.{Leg}
use Rattle.weld_tree.specs.contracts.expr.Legs as legs
use Rattle.weld_tree.specs.contracts.expr.Leg as leg
use Rattle.weld_tree.specs.contracts.expr.Exprs as exprs
use Rattle.weld_tree.specs.contracts.expr.Expr as expr

-- the new items in place of as many of the old ones
abbrev pub refill : {X : Type 0} → List X → List X → List X
refill old new = take (length old) (new ++ drop (length new) old)

-- the list ends as what the slice was made
abbrev pub LendsExprs : MutBor (List ExprTree) → MutBor (List ExprTree) → Fml
LendsExprs list slice = Lends exprs.the_row (Array expr.the_row 0) list slice (refill list.now)

pub refill_is : {X : Type 0} (old new : List X) → length new ≡ length old → refill old new ≡ new
refill_is old new e = rw (← e, drop_all (length new) old (omega (arith, e)), append-nil) (take-length new)

pub refill_legs : (old : List LegTree) (was new : List Leg) → map view_leg was ≡ old → length new ≡ length was → refill old (map view_leg new) ≡ map view_leg new
refill_legs old was new e n = refill_is old (map view_leg new) (length-map new view_leg ∙ n ∙ sym (length-map was view_leg) ∙ ap length e)

-- the list ends as what the slice was made, seen as plain data
abbrev pub LendsLegs : MutBor (List LegTree) → MutBor (List Leg) → Fml
LendsLegs list slice = Lends legs.the_row (Array leg.the_row 0) list slice (λ w. refill list.now (map view_leg w))
