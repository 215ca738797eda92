-- The steps by which objects are lowered, as what comes in the end.
use Rattle.std.specs.Prelude.{◌≡◌, ℕ, suc, ◌==◌, ◌+◌, Bool, if◌then◌else◌, List, [], ◌∷◌, ◌++◌, length, Option, Some, None, is_some}
use Rattle.weld_tree.specs.declared.binder.Binder.{Binder}
use Rattle.weld_tree.specs.ExprTree.{ExprTree, let_in}
use Rattle.weld_tree.specs.Blank.{blank_at}
use Rattle.weld_meaning.specs.Environment.{Named, look_for}
use Rattle.weld_tree.specs.Program.{bound}
use Rattle.weld_objects.specs.Objects.{Object, given, call}
use Rattle.weld_objects.specs.Lowered.{new_binder, kept_values, params_of, value_numbers}

-- which ids are marked
abbrev pub marks_of : Named Bool → ℕ → Bool
marks_of marks id = is_some (look_for id marks)

-- the numbers, the parameters and the inputs, where these are there of the objects before that id
abbrev pub numbered : (ℕ → Bool) → ℕ → List Object → (ℕ → ℕ) → List Binder → List ℕ → (ℕ → ℕ) × (List Binder × List ℕ)
numbered keep id os numbers params inputs =
    (value_numbers keep id (length inputs) os numbers, (params ++ params_of keep id (length inputs) os, inputs ++ kept_values keep id os))

-- a `let` for each of these numbers with its value, around a body
abbrev pub chained : List (ℕ × ExprTree) → ExprTree → ExprTree
chained [] body = body
chained (l ∷ ls) body = let_in blank_at (new_binder l.0 None) l.1 (chained ls body)

-- what a number becomes where a call's program is placed: the numbers of its objects for its parameters, first ones first
abbrev pub param_number : List Binder → List ℕ → ℕ → Option ℕ → Option ℕ
param_number [] ns s later = later
param_number (b ∷ bs) [] s later = later
param_number (b ∷ bs) (n ∷ ns) s later = if s == b.sym.0 then Some n else param_number bs ns s later

-- and numbers one after another for its binders
abbrev pub binder_number : ℕ → List ℕ → ℕ → Option ℕ
binder_number base [] s = None
binder_number base (t ∷ ts) s = if s == t then Some base else binder_number (suc base) ts s

-- how many binders a `let` for the object brings, where it is a call that is kept
abbrev pub binders_at : (ℕ → Bool) → ℕ → Object → ℕ
binders_at keep id (given t v) = 0
binders_at keep id (call t ids p) = if keep id then suc (length (bound p.body)) else 0

-- for all objects from that id on
abbrev pub binders_from : (ℕ → Bool) → ℕ → List Object → ℕ
binders_from keep id [] = 0
binders_from keep id (o ∷ os) = binders_at keep id o + binders_from keep (suc id) os

-- a call is made on as many objects as its program has parameters
abbrev pub HasCount : Object → Type 0
HasCount (given t v) = Unit {0}
HasCount (call t ids p) = length p.params ≡ length ids

abbrev pub HaveCounts : List Object → Type 0
HaveCounts [] = Unit {0}
HaveCounts (o ∷ os) = HasCount o × HaveCounts os
