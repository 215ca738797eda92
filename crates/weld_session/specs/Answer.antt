-- What a script answers on the values of its declarations: call by call, by plain lists.
use Rattle.std.specs.Prelude.{◌≡◌, ℕ, suc, ◌+◌, ◌||◌, Bool, if◌then◌else◌, List, [], ◌∷◌, ◌++◌, map, length, Option, Some, None, slice_get}
use Rattle.weld_data.specs.Value.{Value, number, struct, values}
use Rattle.weld_tree.specs.TypeTree.{TypeTree, struct as struct_type, pack}
use Rattle.weld_tree.specs.Program.{ProgramTree, IsProgram, IsOneOf, loops}
use Rattle.weld_builders.specs.Outcome.{Outcome, done, stuck, and_then, map_out}
use Rattle.weld_meaning.specs.Typing.{ProgramHas}
use Rattle.weld_meaning.specs.Accepted.{IsAccepted}
use Rattle.weld_meaning.specs.Meaning.{ArgumentsFit, meaning}
use Rattle.weld_objects.specs.Objects.{with_one, all_done}
use Rattle.weld_objects.specs.Reached.{is_one_of}
use Rattle.weld_calls.specs.CallPrograms.{loops_of}
use Rattle.weld_calls.specs.CallMeaning.{call_meaning}
use Rattle.weld_script.specs.declared.made.Made.{Made}
use Rattle.weld_script.specs.declared.made.Made.TheVariants as makes
use Rattle.weld_script.specs.Script.{types_at, made_type, made_types}

-- ---- what objects come to

-- the value that is handed over for the next declaration; there always is one
abbrev pub handed : List Value → Outcome Value
handed [] = stuck
handed (v ∷ vs) = done v

-- the values of the declarations behind an object
abbrev pub left_after : Made → List Value → List Value
left_after (makes.Declared d) [] = []
left_after (makes.Declared d) (v ∷ vs) = vs
left_after (makes.Literal k x) vs = vs
left_after (makes.Call c ids) vs = vs

-- what an object comes to, by the types of those before it and by what these come to: a call to what it means on its own
-- objects, or to the fault of one of them
abbrev pub made_value : List TypeTree → (ℕ → Outcome Value) → List Value → Made → Outcome Value
made_value types known inputs (makes.Declared d) = handed inputs
made_value types known inputs (makes.Literal k x) = done (number k x)
made_value types known inputs (makes.Call c ids) = and_then (all_done (map known ids)) (call_meaning c (types_at types ids))

-- one object after another
abbrev pub values_from : List TypeTree → (ℕ → Outcome Value) → List Value → List Made → ℕ → Outcome Value
values_from types known inputs [] = known
values_from types known inputs (m ∷ ms) =
    values_from (types ++ made_type types m ∷ []) (with_one (length types) (made_value types known inputs m) known) (left_after m inputs) ms

-- what the object of that number comes to, where these are the values of the declarations
abbrev pub script_denote : List Made → List Value → ℕ → Outcome Value
script_denote made inputs = values_from [] (λ id. stuck) inputs made

-- ---- which objects are reached

-- the object is a call that is made on that one
abbrev pub IsMadeOn : Option Made → ℕ → Type 0
IsMadeOn None id = ⊥
IsMadeOn (Some (makes.Declared d)) id = ⊥
IsMadeOn (Some (makes.Literal k x)) id = ⊥
IsMadeOn (Some (makes.Call c ids)) id = IsOneOf ids id

-- the shown objects are reached, and with a call those that it is made on; no others
pub data IsReached (made : List Made) (shown : List ℕ) : ℕ → Type 0 where
  is_shown : (id : ℕ) → IsOneOf shown id → IsReached made shown id
  is_used : (id used : ℕ) → IsReached made shown id → IsMadeOn (slice_get made id) used → IsReached made shown used

-- with a call that is marked, those that it is made on
abbrev pub with_used : ℕ → Made → (ℕ → Bool) → ℕ → Bool
with_used id (makes.Declared d) marks k = marks k
with_used id (makes.Literal l x) marks k = marks k
with_used id (makes.Call c ids) marks k = if marks id then is_one_of ids k || marks k else marks k

-- the last object first, since calls are made on objects before them
abbrev pub reached_from : ℕ → List Made → (ℕ → Bool) → ℕ → Bool
reached_from id [] marks = marks
reached_from id (m ∷ ms) marks = with_used id m (reached_from (suc id) ms marks)

-- whether the object of that number is reached
abbrev pub reached : List Made → List ℕ → ℕ → Bool
reached made shown = reached_from 0 made (is_one_of shown)

-- the numbers of those that are kept, rising
abbrev pub kept : (ℕ → Bool) → ℕ → List Made → List ℕ
kept keep id [] = []
kept keep id (m ∷ ms) = if keep id then id ∷ kept keep (suc id) ms else kept keep (suc id) ms

-- ---- the answer

-- the struct of what the shown objects come to, in their order, where each reached object is done; else a fault
abbrev pub script_answer : List Made → List ℕ → List Value → Outcome Value
script_answer made shown inputs =
    and_then (all_done (map (script_denote made inputs) (kept (reached made shown) 0 made)))
    (λ vs. map_out (λ ws. struct (values ws)) (all_done (map (script_denote made inputs) shown)))

-- the struct of the shown objects' types
abbrev pub shown_type : List Made → List ℕ → TypeTree
shown_type made shown = struct_type (pack (types_at (made_types made) shown))

-- the value of a declaration or a literal; a call has none of its own
abbrev pub given_by : Made → List Value → List Value
given_by (makes.Declared d) [] = []
given_by (makes.Declared d) (v ∷ vs) = v ∷ []
given_by (makes.Literal k x) vs = number k x ∷ []
given_by (makes.Call c ids) vs = []

-- the values of the declarations and literals that are kept, in the order in which the script makes them
abbrev pub given_from : (ℕ → Bool) → ℕ → List Value → List Made → List Value
given_from keep id inputs [] = []
given_from keep id inputs (m ∷ ms) = (if keep id then given_by m inputs else []) ++ given_from keep (suc id) (left_after m inputs) ms

-- how many loops the library writes for a call
abbrev pub loops_by : Made → ℕ
loops_by (makes.Declared d) = 0
loops_by (makes.Literal k x) = 0
loops_by (makes.Call c ids) = loops_of c

-- for those that are kept together
abbrev pub loops_from : (ℕ → Bool) → ℕ → List Made → ℕ
loops_from keep id [] = 0
loops_from keep id (m ∷ ms) = (if keep id then loops_by m else 0) + loops_from keep (suc id) ms

-- ---- the one program of a script

-- the program is of the struct of the shown objects' types; its inputs are the values of the reached declarations and literals,
-- and no others; on them it means what the script answers; and it has as many loops as the reached calls together
pub record IsGathered (p : ProgramTree) (given : List Value) (ty : TypeTree) (made : List Made) (shown : List ℕ) (inputs : List Value) : Type 0 where
  pub shows : ty ≡ shown_type made shown
  pub typed : ProgramHas p ty
  pub arguments : ArgumentsFit p.params given
  pub unchanged : given ≡ given_from (reached made shown) 0 inputs made
  pub means : meaning p given ≡ script_answer made shown inputs
  pub loops : loops p.body ≡ loops_from (reached made shown) 0 made

-- there is an accepted program that the script is gathered to
pub record MayBeGathered (made : List Made) (shown : List ℕ) (inputs : List Value) : Type 0 where
  pub program : ProgramTree
  pub given : List Value
  pub is_program : IsProgram program.params program.body
  pub accepted : IsAccepted program
  pub gathered : IsGathered program given (shown_type made shown) made shown inputs
