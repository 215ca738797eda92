-- Which objects are reached from those that are shown.
use Rattle.std.specs.Prelude.{ℕ, suc, ◌==◌, ◌||◌, Bool, false, if◌then◌else◌, List, [], ◌∷◌, Option, Some, None, slice_get}
use Rattle.weld_tree.specs.Program.{IsOneOf}
use Rattle.weld_objects.specs.Objects.{Object, given, call}

-- the object is a call that is made on that one
abbrev pub IsMadeOn : Option Object → ℕ → Type 0
IsMadeOn None id = ⊥
IsMadeOn (Some (given t v)) id = ⊥
IsMadeOn (Some (call t ids p)) id = IsOneOf ids id

-- the shown objects are reached, and with a call those that it is made on; no others
pub data IsReached (os : List Object) (shown : List ℕ) : ℕ → Type 0 where
  is_shown : (id : ℕ) → IsOneOf shown id → IsReached os shown id
  is_used : (id used : ℕ) → IsReached os shown id → IsMadeOn (slice_get os id) used → IsReached os shown used

-- whether the number is one of these
abbrev pub is_one_of : List ℕ → ℕ → Bool
is_one_of [] s = false
is_one_of (t ∷ ts) s = (s == t) || is_one_of ts s

-- with a call that is marked, those that it is made on
abbrev pub with_used : ℕ → Object → (ℕ → Bool) → ℕ → Bool
with_used id (given t v) marks k = marks k
with_used id (call t ids p) marks k = if marks id then is_one_of ids k || marks k else marks k

-- the last object first, since calls are made on objects before them
abbrev pub reached_from : ℕ → List Object → (ℕ → Bool) → ℕ → Bool
reached_from id [] marks = marks
reached_from id (o ∷ os) marks = with_used id o (reached_from (suc id) os marks)

-- whether the object of that id is reached
abbrev pub reached : List Object → List ℕ → ℕ → Bool
reached os shown = reached_from 0 os (is_one_of shown)
