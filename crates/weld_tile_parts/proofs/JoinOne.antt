-- Builders join in one way at most.
use Rattle.std.proofs.Common.{◌≡◌, ℕ, ℤ, Option, Some, None, Bool, true, false, List, [], ◌∷◌, refl}
use Rattle.std.proofs.Props.{props}
use Rattle.std.specs.Coded.{Coded, Coded-set, code_by, coded×, coded_list, coded_option, coded_bool, coded_ℕ, Unit-prop, ×_prop}
use Rattle.weld_data.specs.declared.kind.Kind.{Kind}
use Rattle.weld_data.specs.declared.op.MergeOp.{MergeOp}
use Rattle.weld_data.specs.Kind.{InRange}
use Rattle.weld_pieces.specs.Keyed.{coded_kind, coded_op}
use Rattle.weld_builders.specs.Part.{Part, Totals, list_part, total_part, totals_part, cells_part, keyed_part, groups_part, Shape, list_shape, total_shape, totals_shape, cells_shape, keyed_shape, groups_shape, shape_of}
use Rattle.weld_builders.specs.Range.{IsInRange, AllInRange, TotalsInRange}
use Rattle.weld_meaning.specs.Thing.{Thing, plain, building, several, Things, no_things, more_things}
use Rattle.weld_eval.specs.Takes.{Join, AllJoin}

-- ---- shapes as a tuple of which one place is filled

abbrev Places : Type 0
Places = Option (MergeOp × Kind) × (Option (MergeOp × (Kind × ℕ)) × (Option (MergeOp × Kind) × (Option (MergeOp × List Kind) × Bool)))

abbrev place_of : Shape → Places
place_of list_shape = (None, (None, (None, (None, true))))
place_of (total_shape op k) = (Some (op, k), (None, (None, (None, true))))
place_of (totals_shape op ks) = (None, (None, (None, (Some (op, ks), true))))
place_of (cells_shape op k n) = (None, (Some (op, (k, n)), (None, (None, true))))
place_of (keyed_shape op k) = (None, (None, (Some (op, k), (None, true))))
place_of groups_shape = (None, (None, (None, (None, false))))

abbrev plain_at : Bool → Shape
plain_at true = list_shape
plain_at false = groups_shape

abbrev totals_at : Option (MergeOp × List Kind) → Shape → Shape
totals_at (Some t) s = totals_shape t.0 t.1
totals_at None s = s

abbrev keyed_at : Option (MergeOp × Kind) → Shape → Shape
keyed_at (Some t) s = keyed_shape t.0 t.1
keyed_at None s = s

abbrev cells_at : Option (MergeOp × (Kind × ℕ)) → Shape → Shape
cells_at (Some t) s = cells_shape t.0 t.1.0 t.1.1
cells_at None s = s

abbrev total_at : Option (MergeOp × Kind) → Shape → Shape
total_at (Some t) s = total_shape t.0 t.1
total_at None s = s

abbrev shape_at : Places → Shape
shape_at p = total_at p.0 (cells_at p.1.0 (keyed_at p.1.1.0 (totals_at p.1.1.1.0 (plain_at p.1.1.1.1))))

shape_at-place_of : (s : Shape) → shape_at (place_of s) ≡ s
shape_at-place_of list_shape = refl
shape_at-place_of (total_shape op k) = refl
shape_at-place_of (totals_shape op ks) = refl
shape_at-place_of (cells_shape op k n) = refl
shape_at-place_of (keyed_shape op k) = refl
shape_at-place_of groups_shape = refl

coded_shape : Coded Shape
coded_shape =
    code_by Places (coded× (coded_option (coded× coded_op coded_kind)) (coded× (coded_option (coded× coded_op (coded× coded_kind coded_ℕ))) (coded× (coded_option (coded× coded_op coded_kind)) (coded× (coded_option (coded× coded_op (coded_list coded_kind))) coded_bool))))
    place_of shape_at shape_at-place_of

shapes_one : (s t : Shape) → IsProp (s ≡ t)
shapes_one = Coded-set coded_shape

-- ---- ranges

in_range_one : (k : Kind) (x : ℤ) → IsProp (InRange k x)
in_range_one k x = hlevel props

all_in_range_one : (k : Kind) (xs : List ℤ) → IsProp (AllInRange k xs)
all_in_range_one k [] = Unit-prop
all_in_range_one k (x ∷ xs) = ×_prop (in_range_one k x) (all_in_range_one k xs)

totals_in_range_one : (xs : Totals) → IsProp (TotalsInRange xs)
totals_in_range_one [] = Unit-prop
totals_in_range_one (x ∷ xs) = ×_prop (in_range_one x.0 x.1) (totals_in_range_one xs)

part_in_range_one : (p : Part) → IsProp (IsInRange p)
part_in_range_one (list_part vs) = Unit-prop
part_in_range_one (total_part op k x) = in_range_one k x
part_in_range_one (totals_part op xs) = totals_in_range_one xs
part_in_range_one (cells_part op k xs) = all_in_range_one k xs
part_in_range_one (keyed_part op k m) = Unit-prop
part_in_range_one (groups_part m) = Unit-prop

-- ---- joins

never_one : IsProp ⊥
never_one = λ x y. absurd x

mutual
  pub joins_one : (s d : Thing) → IsProp (Join s d)
  joins_one (plain v) d = never_one
  joins_one (building p) (plain v) = never_one
  joins_one (building p) (building q) = ×_prop (shapes_one (shape_of p) (shape_of q)) (part_in_range_one p)
  joins_one (building p) (several ds) = never_one
  joins_one (several ss) (plain v) = never_one
  joins_one (several ss) (building q) = never_one
  joins_one (several ss) (several ds) = all_join_one ss ds

  all_join_one : (ss ds : Things) → IsProp (AllJoin ss ds)
  all_join_one no_things no_things = Unit-prop
  all_join_one no_things (more_things d ds) = never_one
  all_join_one (more_things s ss) no_things = never_one
  all_join_one (more_things s ss) (more_things d ds) = ×_prop (joins_one s d) (all_join_one ss ds)
