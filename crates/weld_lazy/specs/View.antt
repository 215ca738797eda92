-- The code's objects and faults as plain data.
use Rattle.std.specs.Prelude.{◌≡◌, ℕ, List, map, Some}
use Rattle.weld_data.specs.View.{view_val}
use Rattle.weld_tree.specs.declared.binder.Binder.{Binder}
use Rattle.weld_tree.specs.TypeTree.{TypeTree}
use Rattle.weld_objects.specs.Objects as objects
use Rattle.weld_objects.specs.Additions.{CallFault, unknown, count, mismatch, first_unknown, FirstMismatch, IsRefused}
use Rattle.weld_lazy.specs.declared.object.Object.{Object}
use Rattle.weld_lazy.specs.declared.object.Object.TheVariants.{Given, Call}
use Rattle.weld_tree.specs.ExprTree.{ExprTree}
use Rattle.weld_lazy.specs.declared.calls.LetPart.{LetPart}
use Rattle.weld_lazy.specs.declared.ids.ObjectId.{ObjectId}
use Rattle.weld_lazy.specs.declared.fault.LazyFault.{LazyFault}
use Rattle.weld_lazy.specs.declared.fault.LazyFault.TheVariants.{Unknown, Count, Mismatch, Memory}

abbrev pub view_object : Object → objects.Object
view_object (Given t v) = objects.given t (view_val v)
view_object (Call t ids p) = objects.call t ids p

-- the ids as numbers
abbrev pub view_ids : List ObjectId → List ℕ
view_ids ids = map (λ (id : ObjectId). id.0) ids

-- the fault is what the call is refused for; want of memory says nothing
abbrev pub FaultSays : LazyFault → List objects.Object → List ℕ → List Binder → Type 0
FaultSays (Unknown id) os ids bs = IsRefused os ids bs (unknown id.0)
FaultSays (Count wanted given_ids) os ids bs = IsRefused os ids bs (count wanted given_ids)
FaultSays (Mismatch place expected found) os ids bs = IsRefused os ids bs (mismatch place expected found)
FaultSays Memory os ids bs = Unit {0}

-- a wrong type alone
abbrev pub MismatchSays : LazyFault → List objects.Object → List ℕ → List Binder → Type 0
MismatchSays (Unknown id) os ids bs = ⊥
MismatchSays (Count wanted given_ids) os ids bs = ⊥
MismatchSays (Mismatch place expected found) os ids bs = FirstMismatch os ids bs place expected found
MismatchSays Memory os ids bs = Unit {0}

-- these types at this place
abbrev pub MismatchIs : LazyFault → ℕ → TypeTree → TypeTree → Type 0
MismatchIs (Unknown id) n t u = ⊥
MismatchIs (Count wanted given_ids) n t u = ⊥
MismatchIs (Mismatch place expected found) n t u = (place ≡ n) × (expected ≡ t) × (found ≡ u)
MismatchIs Memory n t u = Unit {0}

-- a `let` of a program: its number and its value
abbrev pub view_let : LetPart → ℕ × ExprTree
view_let l = (l.number, l.body.value)

-- an id that isn't in the graph alone
abbrev pub LowerSays : LazyFault → List objects.Object → List ℕ → Type 0
LowerSays (Unknown id) os ids = first_unknown os ids ≡ Some id.0
LowerSays (Count wanted given_ids) os ids = ⊥
LowerSays (Mismatch place expected found) os ids = ⊥
LowerSays Memory os ids = Unit {0}
