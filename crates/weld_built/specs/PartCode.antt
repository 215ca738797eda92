-- Parts coded as a tuple of which one place is filled.
use Rattle.std.specs.Prelude.{◌≡◌, ℤ, Option, Some, None, List, [], refl}
use Rattle.std.specs.Coded.{Coded, code_by, coded×, coded_option, coded_list, coded_ℤ}
use Rattle.std.specs.FinMap as finite
use Rattle.weld_data.specs.declared.kind.Kind.{Kind}
use Rattle.weld_data.specs.declared.op.MergeOp.{MergeOp}
use Rattle.weld_data.specs.Value.{Value}
use Rattle.weld_data.specs.ValueCode.{coded_value, coded_values}
use Rattle.weld_builders.specs.ValueOrder.{ValueMap}
use Rattle.weld_builders.specs.Part.{Part, Totals, list_part, total_part, totals_part, cells_part, keyed_part, groups_part}
use Rattle.weld_pieces.specs.Keyed.{coded_kind, coded_op}

abbrev Places : Type 0
Places =
    Option (List Value) × (Option (MergeOp × (Kind × ℤ)) × (Option (MergeOp × (Kind × List ℤ))
    × (Option (MergeOp × (Kind × ValueMap ℤ)) × (Option (MergeOp × Totals) × Option (ValueMap (List Value))))))

abbrev place_of : Part → Places
place_of (list_part vs) = (Some vs, (None, (None, (None, (None, None)))))
place_of (total_part op k x) = (None, (Some (op, (k, x)), (None, (None, (None, None)))))
place_of (totals_part op xs) = (None, (None, (None, (None, (Some (op, xs), None)))))
place_of (cells_part op k xs) = (None, (None, (Some (op, (k, xs)), (None, (None, None)))))
place_of (keyed_part op k m) = (None, (None, (None, (Some (op, (k, m)), (None, None)))))
place_of (groups_part m) = (None, (None, (None, (None, (None, Some m)))))

abbrev groups_at : Option (ValueMap (List Value)) → Part
groups_at (Some m) = groups_part m
groups_at None = list_part []

abbrev totals_at : Option (MergeOp × Totals) → Part → Part
totals_at (Some t) p = totals_part t.0 t.1
totals_at None p = p

abbrev keyed_at : Option (MergeOp × (Kind × ValueMap ℤ)) → Part → Part
keyed_at (Some t) p = keyed_part t.0 t.1.0 t.1.1
keyed_at None p = p

abbrev cells_at : Option (MergeOp × (Kind × List ℤ)) → Part → Part
cells_at (Some t) p = cells_part t.0 t.1.0 t.1.1
cells_at None p = p

abbrev total_at : Option (MergeOp × (Kind × ℤ)) → Part → Part
total_at (Some t) p = total_part t.0 t.1.0 t.1.1
total_at None p = p

abbrev list_at : Option (List Value) → Part → Part
list_at (Some vs) p = list_part vs
list_at None p = p

abbrev part_at : Places → Part
part_at p = list_at p.0 (total_at p.1.0 (cells_at p.1.1.0 (keyed_at p.1.1.1.0 (totals_at p.1.1.1.1.0 (groups_at p.1.1.1.1.1)))))

pub part_at-place_of : (p : Part) → part_at (place_of p) ≡ p
part_at-place_of (list_part vs) = refl
part_at-place_of (total_part op k x) = refl
part_at-place_of (totals_part op xs) = refl
part_at-place_of (cells_part op k xs) = refl
part_at-place_of (keyed_part op k m) = refl
part_at-place_of (groups_part m) = refl

abbrev pub coded_part : Coded Part
coded_part =
    code_by Places
    (coded× (coded_option coded_values) (coded× (coded_option (coded× coded_op (coded× coded_kind coded_ℤ))) (coded× (coded_option (coded× coded_op (coded× coded_kind (coded_list coded_ℤ))))
    (coded× (coded_option (coded× coded_op (coded× coded_kind (finite.code coded_value coded_ℤ)))) (coded× (coded_option (coded× coded_op (coded_list (coded× coded_kind coded_ℤ)))) (coded_option (finite.code coded_value coded_values)))))))
    place_of part_at part_at-place_of
