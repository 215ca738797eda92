-- Numbers of one kind, one for each row of a block.
use Rattle.std.specs.Prelude.{◌≡◌, ℕ, ◌+◌, ◌<◌, ◌≤◌, pos, List, length, get_or, slice_get, Option, Some, None, Bool, if◌then◌else◌}
use Rattle.weld_data.specs.Value.{Value, number}
use Rattle.weld_tree.specs.ExprTree.{ExprTree, leaf, three, name, Three, if_else, select, slice}
use Rattle.weld_builders.specs.Outcome.{done}
use Rattle.weld_meaning.specs.Thing.{plain, value_field}
use Rattle.weld_meaning.specs.Evaluation.{Env, eval, truth_of}
use Rattle.weld_eval.specs.RowLists.{rows_in}
use Rattle.weld_eval.specs.Word.{of_word}
use Rattle.weld_blocks.specs.declared.numbers.Numbers.{Numbers}

-- how many there are
abbrev pub count_of : Numbers → ℕ
count_of c = length c.items.items

-- the number at a place, from 0
abbrev pub number_at : Numbers → ℕ → Value
number_at c j = number c.kind (of_word c.kind (get_or c.items.items j (pos 0)))

abbrev pub AreSame : Numbers → Numbers → Type 0
AreSame c d = (c.kind ≡ d.kind) × (c.items.items ≡ d.items.items)

-- there are so many, and each is what it must be at its place
pub record AreGiven (gives : ℕ → Value → Type 0) (c : Numbers) (count : ℕ) : Type 0 where
  pub long : count_of c ≡ count
  pub each : (j : ℕ) → j < count → gives j (number_at c j)

-- the same of those that were found; there may be none
abbrev pub MayGive : (ℕ → Value → Type 0) → Option Numbers → ℕ → Type 0
MayGive gives (Some c) count = AreGiven gives c count
MayGive gives None count = Unit {0}

-- they are what the expression comes to on so many rows
abbrev pub AreNumbersOf : ExprTree → (ℕ → Env) → Numbers → ℕ → Type 0
AreNumbersOf e envs c count = AreGiven (λ j v. eval e (envs j) ≡ done (plain v)) c count

-- the same of those that were found
abbrev pub MayBeNumbers : ExprTree → (ℕ → Env) → Option Numbers → ℕ → Type 0
MayBeNumbers e envs r count = MayGive (λ j v. eval e (envs j) ≡ done (plain v)) r count

-- they are the elements of the leg of a place, from 0, in so many rows from one on, which are there
pub record LegGives (lists : List (List Value)) (leg from : ℕ) (c : Numbers) (count : ℕ) : Type 0 where
  pub elements : List Value
  pub at : slice_get lists leg ≡ Some elements
  pub within : from + count ≤ length (rows_in lists)
  pub given : AreGiven (λ j v. slice_get elements (from + j) ≡ Some v) c count

-- the same of those that were found
abbrev pub MayGiveLeg : List (List Value) → ℕ → ℕ → Option Numbers → ℕ → Type 0
MayGiveLeg lists leg from (Some c) count = LegGives lists leg from c count
MayGiveLeg lists leg from None count = Unit {0}

-- a value is there, and it is a struct that has this field
pub record HasFieldThere (field : ℕ) (there : Option Value) (v : Value) : Type 0 where
  pub whole : Value
  pub at : there ≡ Some whole
  pub is : value_field field whole ≡ done v

-- it is one of two numbers, as a truth value says
abbrev pub IsChosen : Value → Value → Value → Value → Type 0
IsChosen t v w x = (b : Bool) × (truth_of t ≡ done b) × (x ≡ (if b then v else w))

-- the expression is a use of the name
abbrev pub IsName : ExprTree → ℕ → Type 0
IsName (leaf a l) s = l ≡ name s
IsName _ s = ⊥

-- the form chooses one of two parts
abbrev pub IsChoiceForm : Three → Type 0
IsChoiceForm if_else = Unit {0}
IsChoiceForm select = Unit {0}
IsChoiceForm slice = ⊥

abbrev pub Chooses : ExprTree → Type 0
Chooses (three a o c e f) = IsChoiceForm o
Chooses _ = ⊥
