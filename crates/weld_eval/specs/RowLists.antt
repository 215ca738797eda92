-- The rows of legs, seen as the lists of their elements.
use Rattle.std.specs.Prelude.{◌≡◌, ℕ, ◌<◌, ltb, ◌==◌, Bool, true, false, ◌&&◌, List, [], ◌∷◌, ◌++◌, length, get_or, slice_get, option_to_list, Result, Ok, Err}
use Rattle.weld_data.specs.declared.stop.Stop.{Stop}
use Rattle.weld_data.specs.declared.stop.Stop.TheVariants.{Fault, Memory}
use Rattle.weld_data.specs.Value.{Value, no_values, struct, values}
use Rattle.weld_builders.specs.Outcome.{Outcome, done, fault, stuck}
use Rattle.weld_meaning.specs.Evaluation.{rows_of}

-- what is there, or nothing
abbrev pub or_none : Outcome (List Value) → List Value
or_none (done vs) = vs
or_none fault = []
or_none stuck = []

-- the rows of such legs
abbrev pub rows_in : List (List Value) → List Value
rows_in ls = or_none (rows_of ls)

-- how many rows there are, or a fault
abbrev pub RowsAnswer : Result ℕ Stop → List (List Value) → Type 0
RowsAnswer (Ok n) ls = (rows_of ls ≡ done (rows_in ls)) × (length (rows_in ls) ≡ n)
RowsAnswer (Err Fault) ls = rows_of ls ≡ fault
RowsAnswer (Err Memory) ls = ⊥

-- each leg has so many elements
abbrev pub all_long : ℕ → List (List Value) → Bool
all_long n [] = true
all_long n (l ∷ ls) = (length l == n) && all_long n ls

-- each leg has an element of that number, from 0
abbrev pub AllReach : ℕ → List (List Value) → Type 0
AllReach i [] = Unit {0}
AllReach i (l ∷ ls) = (i < length l) × AllReach i ls

-- the elements of that number
abbrev pub elements_at : ℕ → List (List Value) → List Value
elements_at i [] = []
elements_at i (l ∷ ls) = option_to_list (slice_get l i) ++ elements_at i ls

-- the row of that number, from 0: the element of the one leg, or the struct of the elements of more
abbrev pub row_in : List (List Value) → ℕ → Value
row_in [] i = struct no_values
row_in (l ∷ []) i = get_or l i (struct no_values)
row_in (l ∷ m ∷ ls) i = struct (values (elements_at i (l ∷ m ∷ ls)))

-- whether each leg has an element of that number
abbrev pub all_reach : ℕ → List (List Value) → Bool
all_reach i [] = true
all_reach i (l ∷ ls) = ltb i (length l) && all_reach i ls

-- whether there is a row of that number: there is a leg, and each has such an element
abbrev pub has_row : ℕ → List (List Value) → Bool
has_row i [] = false
has_row i (l ∷ ls) = all_reach i (l ∷ ls)

-- whether there is one leg alone
abbrev pub is_one : List (List Value) → Bool
is_one [] = false
is_one (l ∷ []) = true
is_one (l ∷ m ∷ ls) = false
