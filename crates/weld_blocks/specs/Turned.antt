-- The turns of an `iterate` on the rows of a block.
use Rattle.std.specs.Prelude.{◌≡◌, ◌≢◌, ℕ, suc, ◌<◌, ◌/◌, Bool, true, false, if◌then◌else◌, List, [], ◌∷◌, ◌++◌, length, map, get_or, ℤ, pos, Option, Some}
use Rattle.weld_data.specs.declared.kind.Kind.TheVariants as kinds
use Rattle.weld_data.specs.Value.{Value}
use Rattle.weld_tree.specs.ExprTree.{ExprTree}
use Rattle.weld_tree.specs.declared.sym.Sym.{Sym}
use Rattle.weld_builders.specs.Outcome.{done, and_then}
use Rattle.weld_meaning.specs.Environment.{look_for}
use Rattle.weld_meaning.specs.Evaluation.{Env, eval, found, turns, turn_limit}
use Rattle.weld_meaning.specs.Thing.{Thing, plain, field_of, value_field}
use Rattle.weld_acts.specs.Test.{uses}
use Rattle.weld_eval.specs.FrameView.{env_of}
use Rattle.weld_turns.specs.OnRows.{has_name, state_of}
use Rattle.weld_turns.specs.States.{next_of}
use Rattle.weld_turns.specs.Scopes.{is_odd}
use Rattle.weld_turns.specs.declared.code.Named.{Named}
use Rattle.weld_turns.specs.declared.code.Seen.{Seen}
use Rattle.weld_turns.specs.declared.code.Seen.TheVariants.{Number, Fields}
use Rattle.weld_turns.specs.declared.code.Shape.{Shape}
use Rattle.weld_blocks.specs.Numbers.{count_of, number_at, AreGiven}
use Rattle.weld_blocks.specs.declared.numbers.Numbers.{Numbers}
use Rattle.weld_blocks.specs.declared.scope.Scope.{Scope, fold-Scope}
use Rattle.weld_blocks.specs.declared.scope.Scope.TheOpen.{Scope-F}
use Rattle.weld_blocks.specs.declared.turning.State.{State}

-- ---- names

-- what stands outside of the rows
abbrev pub outer_step : Scope-F Env → Env
outer_step (Scope-F.Rows r) = env_of r.now.frame.now
outer_step (Scope-F.Let s b rest) = rest.now
outer_step (Scope-F.Picked places total rest) = rest.now

abbrev pub outer_env : Scope → Env
outer_env = fold-Scope Env outer_step

-- each name that is used and isn't among the new ones is another one, and wasn't among the old ones
abbrev pub IsNoted : ExprTree → ℕ → List Named → List Named → Type 0
IsNoted e s old new = (n : ℕ) → uses e n ≡ true → has_name n new ≡ false → (n ≢ s) × (has_name n old ≡ false)

-- the name of a number of kind i64 was put behind the names, and its numbers behind the columns
pub record IsNumberNoted (s : Sym) (c : Numbers) (old_names new_names : List Named) (old_columns new_columns : List Numbers) : Type 0 where
  pub kind : c.kind ≡ kinds.I64
  pub names : new_names ≡ old_names ++ record { name = s; seen = Number } ∷ []
  pub columns : new_columns ≡ old_columns ++ c ∷ []

-- each name that is used and isn't among the new ones stands on every row for what it stands for outside, and wasn't among the old ones
abbrev pub StandApart : ExprTree → (ℕ → Env) → Env → List Named → List Named → Type 0
StandApart e envs out old new = (n : ℕ) → uses e n ≡ true → has_name n new ≡ false → ((j : ℕ) → look_for n (envs j) ≡ look_for n out) × (has_name n old ≡ false)

-- what was found is a value
abbrev pub IsValue : Option Thing → Type 0
IsValue o = (v : Value) × (o ≡ Some (plain v))

-- so many numbers: where it is taken, of kind i64, and the field of what the name stands for on each row
abbrev pub IsFieldColumn : Bool → ℕ → ℕ → Numbers → (ℕ → Env) → ℕ → Type 0
IsFieldColumn is_taken k s c envs count =
    (count_of c ≡ count) × (is_taken ≡ true → (c.kind ≡ kinds.I64) × ((j : ℕ) → j < count → and_then (found (look_for s (envs j))) (field_of k) ≡ done (plain (number_at c j))))

-- they are those of the fields from one on whose bits are set, and of those before the last of them
abbrev pub AreTaken : ℕ → ℕ → ℕ → List Numbers → (ℕ → Env) → ℕ → Type 0
AreTaken bits k s [] envs count = bits ≡ 0
AreTaken bits k s (c ∷ cs) envs count = (bits ≡ 0 → ⊥) × IsFieldColumn (is_odd bits) k s c envs count × AreTaken (bits / 2) (suc k) s cs envs count

-- such columns were appended
abbrev pub TakesFields : ℕ → ℕ → ℕ → List Numbers → List Numbers → (ℕ → Env) → ℕ → Type 0
TakesFields bits k s old new envs count = (cs : List Numbers) × (new ≡ old ++ cs) × AreTaken bits k s cs envs count

-- the columns are those of what the name is seen as
abbrev pub NameGives : ℕ → Seen → List Numbers → (ℕ → Env) → ℕ → Type 0
NameGives s Number cs envs count = (c : Numbers) × (cs ≡ c ∷ []) × (c.kind ≡ kinds.I64) × AreGiven (λ j v. look_for s (envs j) ≡ Some (plain v)) c count
NameGives s (Fields n bits) cs envs count = (n ≡ length cs) × (bits ≡ 0 → ⊥) × ((j : ℕ) → IsValue (look_for s (envs j))) × AreTaken bits 0 s cs envs count

-- the columns are those of the names, one after another
abbrev pub NamesGive : List Named → List Numbers → (ℕ → Env) → ℕ → Type 0
NamesGive [] cs envs count = cs ≡ []
NamesGive (s ∷ ss) cs envs count = (here rest : List Numbers) × (cs ≡ here ++ rest) × NameGives s.name.0 s.seen here envs count × NamesGive ss rest envs count

-- ---- words

-- the word at a place
abbrev pub word_in : Numbers → ℕ → ℤ
word_in c j = get_or c.items.items j (pos 0)

-- those of each column at a place
abbrev pub words_in : List Numbers → ℕ → List ℤ
words_in cs j = map (λ c. word_in c j) cs

-- ---- states

abbrev pub no_state : State
no_state = record { first = pos 0; second = pos 0 }

-- one of its numbers
abbrev pub part_at : Bool → List State → ℕ → ℤ
part_at is_second ss j = if is_second then (get_or ss j no_state).second else (get_or ss j no_state).first

-- the state at a place
abbrev pub state_at : Shape → List State → ℕ → Value
state_at shape ss j = state_of shape (get_or ss j no_state).first (get_or ss j no_state).second

-- the turns of the body end with these states on so many rows
abbrev pub AreLast : ℕ → ExprTree → (ℕ → Env) → (ℕ → Value) → (ℕ → Value) → ℕ → Type 0
AreLast s e envs from last count = (j : ℕ) → j < count → turns turn_limit (from j) (λ v. next_of s e (envs j) v) ≡ done (last j)

-- the expression comes to these states on so many rows
abbrev pub AreEnds : ExprTree → (ℕ → Env) → Shape → List State → ℕ → Type 0
AreEnds e envs shape ss count = (j : ℕ) → j < count → eval e (envs j) ≡ done (plain (state_at shape ss j))

-- it is the field of that number of the value
abbrev pub IsFieldOf : ℕ → Value → Value → Type 0
IsFieldOf k whole v = value_field k whole ≡ done v
