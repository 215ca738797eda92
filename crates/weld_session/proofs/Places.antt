-- Types of the objects of a graph, and ids that are there.
use Rattle.std.proofs.Common.{◌≡◌, ℕ, zero, suc, ◌<◌, List, [], ◌∷◌, length, map, Option, Some, None, refl, ap, ◌∙◌, arith}
use Rattle.weld_tree.specs.TypeTree.{TypeTree}
use Rattle.weld_meaning.specs.Typing.{noted_type}
use Rattle.weld_objects.specs.Objects.{Object, type_at}
use Rattle.weld_objects.specs.Additions.{first_unknown, unless_there}
use Rattle.weld_calls.specs.CallTypes.{argument}
use Rattle.weld_libraries.specs.Answers.{before, types_at as types_there}
use Rattle.weld_script.specs.Script.{AreBelow, types_at}
use Rattle.weld_session.specs.Gathering.{types_of}

pub type_there : (os : List Object) (id : ℕ) → id < length os → type_at os id ≡ Some (argument id (types_of os))
type_there [] id h = absurd (omega (arith, h))
type_there (o ∷ os) zero h = refl
type_there (o ∷ os) (suc id) h = type_there os id (omega (arith, h))

pub none_unknown : (os : List Object) (ids : List ℕ) → AreBelow (length os) ids → first_unknown os ids ≡ None
none_unknown os [] h = refl
none_unknown os (id ∷ ids) h =
    ap (λ (t : Option TypeTree). unless_there t id (first_unknown os ids)) (type_there os id h.0) ∙ none_unknown os ids h.1

pub same_types : (os : List Object) (ids : List ℕ) → AreBelow (length os) ids → types_there os ids ≡ types_at (types_of os) ids
same_types os [] h = refl
same_types os (id ∷ ids) h =
    ap (λ (t : Option TypeTree). before t (types_there os ids)) (type_there os id h.0)
    ∙ ap (λ ts. argument id (types_of os) ∷ ts) (same_types os ids h.1)

pub same_notes : (os : List Object) (ids : List ℕ) → AreBelow (length os) ids
    → map (λ id. noted_type (type_at os id)) ids ≡ types_at (types_of os) ids
same_notes os [] h = refl
same_notes os (id ∷ ids) h = λ i. noted_type (type_there os id h.0 i) ∷ same_notes os ids h.1 i
