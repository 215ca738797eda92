-- What a library answers to a call.
use Rattle.std.specs.Prelude.{◌≡◌, ℕ, List, [], ◌∷◌, ◌++◌, length, ⊤, Option, Some, None, Ok, Err}
use Rattle.std.specs.declared.result.Result.{Result}
use Rattle.weld_tree.specs.TypeTree.{TypeTree}
use Rattle.weld_objects.specs.Objects.{Object, call, type_at}
use Rattle.weld_objects.specs.Additions.{first_unknown}
use Rattle.weld_calls.specs.declared.call.Call.{Call}
use Rattle.weld_calls.specs.CallTypes.{misfit, answer_of}
use Rattle.weld_calls.specs.CallPrograms.{fragment}
use Rattle.weld_lazy.specs.declared.ids.ObjectId.{ObjectId}
use Rattle.weld_lazy.specs.declared.fault.LazyFault.{LazyFault}
use Rattle.weld_lazy.specs.declared.fault.LazyFault.TheVariants as lazy
use Rattle.weld_lazy.specs.declared.fault.LibFault.{LibFault}
use Rattle.weld_lazy.specs.declared.fault.LibFault.TheVariants.{Unknown, Unfit, Memory}

abbrev pub before : Option TypeTree → List TypeTree → List TypeTree
before (Some t) ts = t ∷ ts
before None ts = ts

-- the types of the objects that are there
abbrev pub types_at : List Object → List ℕ → List TypeTree
types_at os [] = []
types_at os (id ∷ ids) = before (type_at os id) (types_at os ids)

-- the graph has one object more: the call, of the type and with the program that the types of its arguments give it
pub record IsAdded (old new : List Object) (c : Call) (ids : List ℕ) (number : ℕ) : Type 0 where
  pub known : first_unknown old ids ≡ None
  pub fits : misfit c (types_at old ids) ≡ None
  pub id : number ≡ length old
  pub added : new ≡ old ++ call (answer_of c (types_at old ids)) ids (fragment c (types_at old ids)) ∷ []

-- the first id that isn't there
pub record IsUnknown (old new : List Object) (ids : List ℕ) (id : ℕ) : Type 0 where
  pub unknown : first_unknown old ids ≡ Some id
  pub unchanged : new ≡ old

-- all ids are there; the first argument that doesn't fit the call with those before it, with its type
pub record IsUnfit (old new : List Object) (c : Call) (ids : List ℕ) (place : ℕ) (found : TypeTree) : Type 0 where
  pub known : first_unknown old ids ≡ None
  pub unfit : misfit c (types_at old ids) ≡ Some (place, found)
  pub unchanged : new ≡ old

-- what the call answers, and the graph after it; want of memory alone has no cause in the graph
abbrev pub Answers : Result ObjectId LibFault → List Object → List Object → Call → List ℕ → Type 0
Answers (Ok id) old new c ids = IsAdded old new c ids id.0
Answers (Err (Unknown id)) old new c ids = IsUnknown old new ids id.0
Answers (Err (Unfit place found)) old new c ids = IsUnfit old new c ids place found
Answers (Err Memory) old new c ids = new ≡ old

-- ---- steps of the code

-- the types are those of the objects, which are all there, or the fault names the first that isn't
abbrev pub TypesAre : Result (List TypeTree) LibFault → List Object → List ℕ → Type 0
TypesAre (Ok ts) os ids = (first_unknown os ids ≡ None) × (ts ≡ types_at os ids)
TypesAre (Err (Unknown id)) os ids = first_unknown os ids ≡ Some id.0
TypesAre (Err (Unfit place found)) os ids = ⊥
TypesAre (Err Memory) os ids = Unit {0}

-- nothing is unfit, or the fault tells the first that is
abbrev pub Unfits : Result ⊤ LibFault → Call → List TypeTree → Type 0
Unfits (Ok x) c ts = misfit c ts ≡ None
Unfits (Err (Unknown id)) c ts = ⊥
Unfits (Err (Unfit place found)) c ts = misfit c ts ≡ Some (place, found)
Unfits (Err Memory) c ts = Unit {0}

-- this type at this place
abbrev pub UnfitIs : LibFault → ℕ → TypeTree → Type 0
UnfitIs (Unknown id) n t = ⊥
UnfitIs (Unfit place found) n t = (place ≡ n) × (found ≡ t)
UnfitIs Memory n t = Unit {0}

-- memory is wanting
abbrev pub IsMemory : LazyFault → Type 0
IsMemory lazy.Memory = Unit {0}
IsMemory _ = ⊥
