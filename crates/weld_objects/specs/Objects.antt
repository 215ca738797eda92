-- Objects that wait: values, and calls of programs on objects before them.
use Rattle.std.specs.Prelude.{◌≡◌, ℕ, suc, ◌==◌, if◌then◌else◌, List, [], ◌∷◌, map, Option, Some, None, option_map, slice_get, ◌<◌}
use Rattle.weld_data.specs.Value.{Value}
use Rattle.weld_tree.specs.declared.binder.Binder.{Binder}
use Rattle.weld_tree.specs.TypeTree.{TypeTree}
use Rattle.weld_tree.specs.Types.{IsWellFormed, IsBuilderFree}
use Rattle.weld_tree.specs.Program.{ProgramTree, IsProgram}
use Rattle.weld_tree.specs.HasValue.{HasValue}
use Rattle.weld_builders.specs.Outcome.{Outcome, done, stuck, and_then, map_out}
use Rattle.weld_meaning.specs.Typing.{ProgramHas}
use Rattle.weld_meaning.specs.Accepted.{IsAccepted}
use Rattle.weld_meaning.specs.Meaning.{meaning}

-- a value of a type, or a call: its type, the ids of the objects that it is made on, and its program, which has a parameter
-- for each of them. Objects stand in a list, and an object's id is its place there, from 0
pub data Object : Type 0 where
  given : TypeTree → Value → Object
  call : TypeTree → List ℕ → ProgramTree → Object

abbrev pub type_of : Object → TypeTree
type_of (given t v) = t
type_of (call t ids p) = t

-- the type of the object of that id, if it is there
abbrev pub type_at : List Object → ℕ → Option TypeTree
type_at os id = option_map type_of (slice_get os id)

-- what was known of ids, and one more
abbrev pub with_one : {A : Type 0} → ℕ → A → (ℕ → A) → ℕ → A
with_one id x known k = if k == id then x else known k

-- ---- what objects come to

-- all of these, if each of them is done; else the first that isn't
abbrev pub all_done : {A : Type 0} → List (Outcome A) → Outcome (List A)
all_done [] = done []
all_done (o ∷ os) = and_then o (λ x. map_out (λ xs. x ∷ xs) (all_done os))

-- what an object comes to, by what is known of the objects before it: a value itself, a call what its program means on
-- what its objects come to
abbrev pub answer : (ℕ → Outcome Value) → Object → Outcome Value
answer known (given t v) = done v
answer known (call t ids p) = and_then (all_done (map known ids)) (meaning p)

-- one object after another, from that id on
abbrev pub answers : ℕ → List Object → (ℕ → Outcome Value) → ℕ → Outcome Value
answers id [] known = known
answers id (o ∷ os) known = answers (suc id) os (with_one id (answer known o) known)

-- what the object of that id comes to
abbrev pub denote : List Object → ℕ → Outcome Value
denote os = answers 0 os (λ id. stuck)

-- ---- what a list of objects keeps

-- each parameter has the type of the object that it stands for
abbrev pub DepsFit : (ℕ → Option TypeTree) → List ℕ → List Binder → Type 0
DepsFit types [] [] = Unit {0}
DepsFit types [] (b ∷ bs) = ⊥
DepsFit types (id ∷ ids) [] = ⊥
DepsFit types (id ∷ ids) (b ∷ bs) = (types id ≡ b.note) × DepsFit types ids bs

-- a value is of its type, which is well formed and builder-free
pub record IsGiven (t : TypeTree) (v : Value) : Type 0 where
  pub formed : IsWellFormed t
  pub free : IsBuilderFree t
  pub fits : HasValue t v

-- a call's program is one that is accepted and of the call's type, and its parameters are of the types of objects before it
pub record IsCall (types : ℕ → Option TypeTree) (t : TypeTree) (ids : List ℕ) (p : ProgramTree) : Type 0 where
  pub program : IsProgram p.params p.body
  pub accepted : IsAccepted p
  pub typed : ProgramHas p t
  pub fits : DepsFit types ids p.params

abbrev pub IsObject : (ℕ → Option TypeTree) → Object → Type 0
IsObject types (given t v) = IsGiven t v
IsObject types (call t ids p) = IsCall types t ids p

-- from that id on, where the objects before have these types
abbrev pub AreObjectsFrom : ℕ → (ℕ → Option TypeTree) → List Object → Type 0
AreObjectsFrom id types [] = Unit {0}
AreObjectsFrom id types (o ∷ os) = IsObject types o × AreObjectsFrom (suc id) (with_one id (Some (type_of o)) types) os

-- what every graph keeps
abbrev pub AreObjects : List Object → Type 0
AreObjects os = AreObjectsFrom 0 (λ id. None) os

-- each of the ids is before that one
abbrev pub AreBefore : ℕ → List ℕ → Type 0
AreBefore id [] = Unit {0}
AreBefore id (k ∷ ks) = (k < id) × AreBefore id ks
