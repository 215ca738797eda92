-- A code of objects, by which lists of them are models.
use Rattle.std.specs.Prelude.{◌≡◌, ◌⊎◌, ℕ, List, refl}
use Rattle.std.proofs.Common.{inl, inr}
use Rattle.std.specs.Coded.{Coded, code_by, coded×, coded⊎, coded_list, coded_ℕ}
use Rattle.weld_data.specs.Value.{Value}
use Rattle.weld_data.specs.ValueCode.{coded_value}
use Rattle.weld_tree.specs.TypeTree.{TypeTree}
use Rattle.weld_tree.specs.TypeCode.{coded_type}
use Rattle.weld_tree.specs.Program.{ProgramTree, coded_program}
use Rattle.weld_objects.specs.Objects.{Object, given, call}

abbrev pub Parts : Type 0
Parts = (TypeTree × Value) ⊎ (TypeTree × (List ℕ × ProgramTree))

abbrev pub parts_of : Object → Parts
parts_of (given t v) = inl (t, v)
parts_of (call t ids p) = inr (t, (ids, p))

abbrev pub object_of : Parts → Object
object_of (inl x) = given x.0 x.1
object_of (inr x) = call x.0 x.1.0 x.1.1

pub object_of-parts_of : (o : Object) → object_of (parts_of o) ≡ o
object_of-parts_of (given t v) = refl
object_of-parts_of (call t ids p) = refl

abbrev pub coded_object : Coded Object
coded_object = code_by Parts (coded⊎ (coded× coded_type coded_value) (coded× coded_type (coded× (coded_list coded_ℕ) coded_program))) parts_of object_of object_of-parts_of
