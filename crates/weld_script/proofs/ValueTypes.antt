-- What is declared is of a type of values.
use Rattle.std.specs.Prelude.{◌<◌, suc, List, [], ◌∷◌, length}
use Rattle.std.specs.List.{All}
use Rattle.std.proofs.Common.{inl, arith}
use Rattle.weld_tree.specs.TypeTree.{TypeTree, scalar, vec, struct, dict, build}
use Rattle.weld_tree.specs.Types.{IsWellFormed, IsBuilderFree, AreWellFormed, AreBuilderFree, HasTypes}
use Rattle.weld_calls.specs.CallTypes.{IsValueType}
use Rattle.weld_table.specs.Table.{IsCell, list_types}
use Rattle.weld_script.specs.declared.made.Declared.{Declared}
use Rattle.weld_script.specs.declared.made.Declared.TheVariants.{Input, Table}
use Rattle.weld_script.specs.Script.{IsDeclared, declared_type}

cell_formed : (t : TypeTree) → IsCell t → IsWellFormed t
cell_formed (scalar k) c = tt
cell_formed (vec (scalar k)) c = (tt, tt)
cell_formed (vec (vec t)) c = absurd c
cell_formed (vec (struct ts)) c = absurd c
cell_formed (vec (dict t u)) c = absurd c
cell_formed (vec (build b)) c = absurd c
cell_formed (struct ts) c = absurd c
cell_formed (dict t u) c = absurd c
cell_formed (build b) c = absurd c

cell_free : (t : TypeTree) → IsCell t → IsBuilderFree t
cell_free (scalar k) c = tt
cell_free (vec (scalar k)) c = tt
cell_free (vec (vec t)) c = absurd c
cell_free (vec (struct ts)) c = absurd c
cell_free (vec (dict t u)) c = absurd c
cell_free (vec (build b)) c = absurd c
cell_free (struct ts) c = absurd c
cell_free (dict t u) c = absurd c
cell_free (build b) c = absurd c

rest : (t : TypeTree) (ts : List TypeTree) → All IsCell (t ∷ ts) → All IsCell ts
rest t ts a k d h = a (suc k) d (omega (arith, h))

lists_formed : (ts : List TypeTree) → All IsCell ts → AreWellFormed (list_types ts)
lists_formed [] a = tt
lists_formed (t ∷ ts) a = let c : IsCell t = a 0 t (omega arith) in ((cell_formed t c, cell_free t c), lists_formed ts (rest t ts a))

lists_free : (ts : List TypeTree) → All IsCell ts → AreBuilderFree (list_types ts)
lists_free [] a = tt
lists_free (t ∷ ts) a = (cell_free t (a 0 t (omega arith)), lists_free ts (rest t ts a))

have_types : (ts : List TypeTree) → 0 < length ts → HasTypes (list_types ts)
have_types [] h = absurd (omega (arith, h))
have_types (t ∷ ts) h = tt

pub declared_values : (d : Declared) → IsDeclared d → IsValueType (declared_type d)
declared_values (Input t) h = h
declared_values (Table names ts) h =
    record { formed = (have_types ts h.some, lists_formed ts h.cells, inl (lists_free ts h.cells)); free = lists_free ts h.cells }
