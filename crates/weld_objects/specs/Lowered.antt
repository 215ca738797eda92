-- The one program that objects are lowered to.
use Rattle.std.specs.Prelude.{ℕ, suc, ◌+◌, ◌<◌, ◌==◌, Bool, if◌then◌else◌, List, [], ◌∷◌, map, length, Option, Some, None}
use Rattle.weld_data.specs.Value.{Value, struct, values}
use Rattle.weld_tree.specs.declared.binder.Binder.{Binder}
use Rattle.weld_tree.specs.TypeTree.{TypeTree, struct as struct_type, pack}
use Rattle.weld_tree.specs.ExprTree.{ExprTree, leaf, many, let_in, name, make_struct, pack_exprs}
use Rattle.weld_tree.specs.Program.{ProgramTree, bound, loops}
use Rattle.weld_tree.specs.Blank.{blank_at, blank_place, distance}
use Rattle.weld_builders.specs.Outcome.{Outcome, and_then, map_out}
use Rattle.weld_meaning.specs.Typing.{noted_type}
use Rattle.weld_objects.specs.Renamed.{renamed}
use Rattle.weld_objects.specs.Objects.{Object, given, call, with_one, type_at, all_done, denote, AreObjects, AreBefore}

-- a binder of the program, which stands in no text
abbrev pub new_binder : ℕ → Option TypeTree → Binder
new_binder n note = record { sym = record { 0 = n }; place = blank_place; note = note; note_place = blank_place }

-- ---- numbers: first the parameters, then each call's `let` and the binders of its program, in the order of the text

-- the ids of the objects that are kept, rising
abbrev pub kept : (ℕ → Bool) → ℕ → List Object → List ℕ
kept keep id [] = []
kept keep id (o ∷ os) = if keep id then id ∷ kept keep (suc id) os else kept keep (suc id) os

-- those of the values among them
abbrev pub kept_values : (ℕ → Bool) → ℕ → List Object → List ℕ
kept_values keep id [] = []
kept_values keep id (given t v ∷ os) = if keep id then id ∷ kept_values keep (suc id) os else kept_values keep (suc id) os
kept_values keep id (call t ids p ∷ os) = kept_values keep (suc id) os

-- the values
abbrev pub inputs_of : (ℕ → Bool) → ℕ → List Object → List Value
inputs_of keep id [] = []
inputs_of keep id (given t v ∷ os) = if keep id then v ∷ inputs_of keep (suc id) os else inputs_of keep (suc id) os
inputs_of keep id (call t ids p ∷ os) = inputs_of keep (suc id) os

-- a parameter for each value, numbered from n on
abbrev pub params_of : (ℕ → Bool) → ℕ → ℕ → List Object → List Binder
params_of keep id n [] = []
params_of keep id n (given t v ∷ os) = if keep id then new_binder n (Some t) ∷ params_of keep (suc id) (suc n) os else params_of keep (suc id) n os
params_of keep id n (call t ids p ∷ os) = params_of keep (suc id) n os

-- which number stands for which id
abbrev pub value_numbers : (ℕ → Bool) → ℕ → ℕ → List Object → (ℕ → ℕ) → ℕ → ℕ
value_numbers keep id n [] numbers = numbers
value_numbers keep id n (given t v ∷ os) numbers = if keep id then value_numbers keep (suc id) (suc n) os (with_one id n numbers) else value_numbers keep (suc id) n os numbers
value_numbers keep id n (call t ids p ∷ os) numbers = value_numbers keep (suc id) n os numbers

-- a parameter becomes the number of the object that it stands for, any other number one from the base on, by how many binders of
-- the call's program stand before it
abbrev pub placed : ℕ → List Binder → List ℕ → List ℕ → ℕ → ℕ
placed base [] ns binders s = base + distance binders s
placed base (b ∷ bs) [] binders s = base + distance binders s
placed base (b ∷ bs) (n ∷ ns) binders s = if s == b.sym.0 then n else placed base bs ns binders s

-- the body of a call's program where it stands in the whole
abbrev pub placed_body : ℕ → List ℕ → ProgramTree → ExprTree
placed_body base ns p = renamed (placed base p.params ns (bound p.body)) p.body

-- ---- the program

-- the struct of what is shown
abbrev pub shown_struct : (ℕ → ℕ) → List ℕ → ExprTree
shown_struct numbers shown = many blank_at make_struct (pack_exprs (map (λ id. leaf blank_at (name (numbers id))) shown))

-- a `let` for each call that is kept, numbered from that one on
abbrev pub lets : (ℕ → Bool) → ℕ → ℕ → (ℕ → ℕ) → List ℕ → List Object → ExprTree
lets keep id next numbers shown [] = shown_struct numbers shown
lets keep id next numbers shown (given t v ∷ os) = lets keep (suc id) next numbers shown os
lets keep id next numbers shown (call t ids p ∷ os) =
    if keep id
    then let_in blank_at (new_binder next None) (placed_body (suc next) (map numbers ids) p) (lets keep (suc id) (suc next + length (bound p.body)) (with_one id next numbers) shown os)
    else lets keep (suc id) next numbers shown os

-- a parameter for each value that is kept, a `let` for each call that is, both in the order of ids, and the struct of what is shown
abbrev pub lowered : (ℕ → Bool) → List Object → List ℕ → ProgramTree
lowered keep os shown =
    record { params = params_of keep 0 0 os; body = lets keep 0 (length (kept_values keep 0 os)) (value_numbers keep 0 0 os (λ id. id)) shown os }

-- how many loops stand in the programs of the calls that are kept
abbrev pub kept_loops : (ℕ → Bool) → ℕ → List Object → ℕ
kept_loops keep id [] = 0
kept_loops keep id (given t v ∷ os) = kept_loops keep (suc id) os
kept_loops keep id (call t ids p ∷ os) = if keep id then loops p.body + kept_loops keep (suc id) os else kept_loops keep (suc id) os

-- how many objects there are, and binders in the programs of calls
abbrev pub names_of : List Object → ℕ
names_of [] = 0
names_of (given t v ∷ os) = 1 + names_of os
names_of (call t ids p ∷ os) = 1 + (length p.params + length (bound p.body)) + names_of os

-- ---- what it means

-- the struct of what the shown objects come to, where each that is kept is done
abbrev pub shown_answer : (ℕ → Bool) → List Object → List ℕ → Outcome Value
shown_answer keep os shown =
    and_then (all_done (map (denote os) (kept keep 0 os))) (λ vs. map_out (λ ws. struct (values ws)) (all_done (map (denote os) shown)))

-- what it is of: the struct of the types of what is shown
abbrev pub shown_type : List Object → List ℕ → TypeTree
shown_type os shown = struct_type (pack (map (λ id. noted_type (type_at os id)) shown))

-- there are objects of all ids that are shown, one at least, and few enough names to number
pub record MayBeLowered (os : List Object) (shown : List ℕ) : Type 0 where
  pub objects : AreObjects os
  pub there : AreBefore (length os) shown
  pub some : 0 < length shown
  pub few : names_of os < 4294967295
