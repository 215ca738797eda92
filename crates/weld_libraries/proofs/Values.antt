-- The types of objects are types of values.
use Rattle.std.proofs.Common.{◌≡◌, ℕ, zero, suc, List, [], ◌∷◌, length, Option, Some, None, refl, subst, arith}
use Rattle.weld_tree.specs.TypeTree.{TypeTree}
use Rattle.weld_tree.specs.Types.{IsWellFormed}
use Rattle.weld_tree.specs.Program.{ProgramTree}
use Rattle.weld_meaning.specs.Typing.{ProgramHas}
use Rattle.weld_objects.specs.Objects.{Object, given, call, type_of, type_at, with_one, DepsFit, IsObject, AreObjectsFrom, AreObjects}
use Rattle.weld_objects.specs.Additions.{unless_there, first_unknown}
use Rattle.weld_calls.specs.CallTypes.{IsValueType, AreValueTypes}
use Rattle.weld_calls.specs.CallPrograms.{params_from}
use Rattle.weld_libraries.specs.Answers.{before, types_at}

-- what every program's type is
abbrev pub TypesFormed : Type 0
TypesFormed = (p : ProgramTree) (t : TypeTree) → ProgramHas p t → IsWellFormed t

object_type : TypesFormed → (types : ℕ → Option TypeTree) (o : Object) → IsObject types o → IsValueType (type_of o)
object_type formed types (given t v) h = record { formed = h.formed; free = h.free }
object_type formed types (call t ids p) h = record { formed = formed p t h.typed; free = h.typed.builder_free }

type_there : TypesFormed → (id : ℕ) (types : ℕ → Option TypeTree) (os : List Object) (k : ℕ) (t : TypeTree) → AreObjectsFrom id types os → type_at os k ≡ Some t → IsValueType t
type_there formed id types [] k t are e = absurd (let no : None ≡ Some t = e in cc)
type_there formed id types (o ∷ os) zero t are e = (let f : Some (type_of o) ≡ Some t = e in let g : type_of o ≡ t = cc in subst IsValueType g (object_type formed types o are.0))
type_there formed id types (o ∷ os) (suc k) t are e = type_there formed (suc id) (with_one id (Some (type_of o)) types) os k t are.1 e

pub values_there : TypesFormed → (os : List Object) (ids : List ℕ) → AreObjects os → AreValueTypes (types_at os ids)
values_there formed os [] are = tt
values_there formed os (id ∷ ids) are = by (type_at os id) refl (values_there formed os ids are)
  where
    by : (o : Option TypeTree) → type_at os id ≡ o → AreValueTypes (types_at os ids) → AreValueTypes (before o (types_at os ids))
    by None e rest = rest
    by (Some t) e rest = (type_there formed 0 (λ k. None) os id t are e, rest)

-- a program with parameters of these types may be called on the objects
pub params_fit : (os : List Object) (ids : List ℕ) (n : ℕ) → first_unknown os ids ≡ None → DepsFit (type_at os) ids (params_from n (types_at os ids))
params_fit os [] n e = tt
params_fit os (id ∷ ids) n e = by (type_at os id) refl e (λ f. params_fit os ids (suc n) f)
  where
    by : (o : Option TypeTree) → type_at os id ≡ o → unless_there o id (first_unknown os ids) ≡ None
        → (first_unknown os ids ≡ None → DepsFit (type_at os) ids (params_from (suc n) (types_at os ids)))
        → DepsFit (type_at os) (id ∷ ids) (params_from n (before o (types_at os ids)))
    by None there f rest = absurd (let no : Some id ≡ None = f in cc)
    by (Some t) there f rest = (there, rest f)

-- as many types as ids
pub types_count : (os : List Object) (ids : List ℕ) → first_unknown os ids ≡ None → length (types_at os ids) ≡ length ids
types_count os [] e = refl
types_count os (id ∷ ids) e = by (type_at os id) e (λ f. types_count os ids f)
  where
    by : (o : Option TypeTree) → unless_there o id (first_unknown os ids) ≡ None → (first_unknown os ids ≡ None → length (types_at os ids) ≡ length ids)
        → length (before o (types_at os ids)) ≡ length (id ∷ ids)
    by None f rest = absurd (let no : Some id ≡ None = f in cc)
    by (Some t) f rest = (let h = rest f in omega (arith, h))
