-- When a call isn't added, and what it is refused for.
use Rattle.std.specs.Prelude.{◌≡◌, ◌≢◌, ℕ, zero, suc, List, [], ◌∷◌, length, Option, Some, None}
use Rattle.weld_tree.specs.declared.binder.Binder.{Binder}
use Rattle.weld_tree.specs.TypeTree.{TypeTree}
use Rattle.weld_objects.specs.Objects.{Object, type_at, DepsFit}

-- an id that isn't there; how many parameters there are, and how many ids; or a place, from 0, with the type of its parameter
-- and that of its object
pub data CallFault : Type 0 where
  unknown : ℕ → CallFault
  count : ℕ → ℕ → CallFault
  mismatch : ℕ → TypeTree → TypeTree → CallFault

abbrev pub unless_there : Option TypeTree → ℕ → Option ℕ → Option ℕ
unless_there None id later = Some id
unless_there (Some t) id later = later

-- the first id that isn't there
abbrev pub first_unknown : List Object → List ℕ → Option ℕ
first_unknown os [] = None
first_unknown os (id ∷ ids) = unless_there (type_at os id) id (first_unknown os ids)

-- at that place stand the first types that differ: the parameter's, and the object's
abbrev pub FirstMismatch : List Object → List ℕ → List Binder → ℕ → TypeTree → TypeTree → Type 0
FirstMismatch os [] bs place expected found = ⊥
FirstMismatch os (id ∷ ids) [] place expected found = ⊥
FirstMismatch os (id ∷ ids) (b ∷ bs) zero expected found = (b.note ≡ Some expected) × (type_at os id ≡ Some found) × (expected ≢ found)
FirstMismatch os (id ∷ ids) (b ∷ bs) (suc place) expected found = (type_at os id ≡ b.note) × FirstMismatch os ids bs place expected found

-- what a call of a program with these parameters is refused for: an id that isn't there before the wrong number of ids, and this
-- before a wrong type
abbrev pub IsRefused : List Object → List ℕ → List Binder → CallFault → Type 0
IsRefused os ids bs (unknown id) = first_unknown os ids ≡ Some id
IsRefused os ids bs (count wanted found) = (first_unknown os ids ≡ None) × (wanted ≡ length bs) × (found ≡ length ids) × (wanted ≢ found)
IsRefused os ids bs (mismatch place expected found) = (first_unknown os ids ≡ None) × (length bs ≡ length ids) × FirstMismatch os ids bs place expected found

-- it may be added: each parameter is of the type of its object
abbrev pub MayBeAdded : List Object → List ℕ → List Binder → Type 0
MayBeAdded os ids bs = DepsFit (type_at os) ids bs
