-- Plain lists, by which the library calls are told: no loop and no builder.
use Rattle.std.specs.Prelude.{ℕ, suc, Bool, false, not, if◌then◌else◌, ℤ, pos, negsuc, ◌+ℤ◌, ◌*ℤ◌, int_lt, int_le, List, [], ◌∷◌, map, length, filter, leb, Option, Some, None}
use Rattle.std.specs.Int.{int_min, int_max}
use Rattle.std.specs.Ordering.{int_eq}
use Rattle.std.specs.FinMap as finite
use Rattle.weld_data.specs.declared.kind.Kind.{Kind}
use Rattle.weld_data.specs.declared.kind.Kind.TheVariants as kinds
use Rattle.weld_data.specs.declared.op.BinOp.{BinOp}
use Rattle.weld_data.specs.declared.op.BinOp.TheVariants as ops
use Rattle.weld_data.specs.Kind.{least, greatest}
use Rattle.weld_data.specs.Wrapped.{wrapped}
use Rattle.weld_data.specs.Operation.{truth, operation}
use Rattle.weld_data.specs.Lookup.{same_value}
use Rattle.weld_data.specs.Value.{Value, number, list, struct, dict, values, list_of_values}
use Rattle.weld_builders.specs.Outcome.{Outcome, done, fault, and_then, map_out, or_fault}
use Rattle.weld_builders.specs.ValueOrder.{ValueMap}

-- ---- the arguments, read as lists; an argument is of its type, so that no other case is ever asked

-- the elements of a vector
abbrev pub items : Value → List Value
items (list vs) = list_of_values vs
items (number k x) = []
items (struct vs) = []
items (dict es) = []

abbrev pub number_in : Value → ℤ
number_in (number k x) = x
number_in (list vs) = pos 0
number_in (struct vs) = pos 0
number_in (dict es) = pos 0

-- the numbers of a vector of numbers
abbrev pub numbers : Value → List ℤ
numbers v = map number_in (items v)

abbrev pub truth_in : Value → Bool
truth_in v = int_eq (number_in v) (pos 1)

-- the truths of a vector of truth values
abbrev pub truths : Value → List Bool
truths v = map truth_in (items v)

-- ---- the answers

abbrev pub vector : List Value → Value
vector vs = list (values vs)

abbrev pub number_vector : Kind → List ℤ → Value
number_vector k xs = vector (map (number k) xs)

abbrev pub truth_vector : List Bool → Value
truth_vector bs = vector (map (λ (b : Bool). number kinds.Bool (truth b)) bs)

-- ---- lists side by side

-- the elements with the same place; there is a fault where the lengths differ
abbrev pub paired : {A B : Type 0} → List A → List B → Outcome (List (A × B))
paired [] [] = done []
paired [] (y ∷ ys) = fault
paired (x ∷ xs) [] = fault
paired (x ∷ xs) (y ∷ ys) = map_out (λ ps. (x, y) ∷ ps) (paired xs ys)

-- what becomes of each element; there is a fault where one has none
abbrev pub each : {A B : Type 0} → (A → Outcome B) → List A → Outcome (List B)
each f [] = done []
each f (x ∷ xs) = and_then (f x) (λ y. map_out (λ ys. y ∷ ys) (each f xs))

-- the first of each pair whose second is true
abbrev pub marked : {A : Type 0} → List (A × Bool) → List A
marked ps = map (λ p. p.0) (filter (λ p. p.1) ps)

-- the second of each pair whose first is the key
abbrev pub beside : {A : Type 0} → Value → List (Value × A) → List A
beside key ps = map (λ p. p.1) (filter (λ p. same_value p.0 key) ps)

abbrev pub how_many : {A : Type 0} → (A → Bool) → List A → ℕ
how_many test xs = length (filter test xs)

-- ---- numbers of one kind

-- the sum of whole numbers, which isn't wrapped
abbrev pub sum : List ℤ → ℤ
sum [] = pos 0
sum (x ∷ xs) = x +ℤ sum xs

-- the wrapped sum
abbrev pub wrapped_sum : Kind → List ℤ → ℤ
wrapped_sum k xs = wrapped k (sum xs)

-- the least of the numbers; of none the greatest of the kind, and the greatest, of none the least of the kind
abbrev pub least_of : Kind → List ℤ → ℤ
least_of k [] = greatest k
least_of k (x ∷ xs) = int_min x (least_of k xs)

abbrev pub greatest_of : Kind → List ℤ → ℤ
greatest_of k [] = least k
greatest_of k (x ∷ xs) = int_max x (greatest_of k xs)

-- the wrapped sum of the products of the elements with the same place
abbrev pub dot : Kind → List ℤ → List ℤ → Outcome ℤ
dot k xs ys = map_out (λ ps. wrapped_sum k (map (λ (p : ℤ × ℤ). p.0 *ℤ p.1) ps)) (paired xs ys)

-- the operator on the elements with the same place; there is a fault at a zero divisor
abbrev pub elementwise : BinOp → Kind → List ℤ → List ℤ → Outcome (List ℤ)
elementwise op k xs ys = and_then (paired xs ys) (each (λ (p : ℤ × ℤ). or_fault (operation op k p.0 p.1)))

-- at each place the first of two numbers where the mark is true, else the second
abbrev pub chosen : List Bool → List ℤ → List ℤ → Outcome (List ℤ)
chosen ms xs ys = map_out (map (λ (p : Bool × (ℤ × ℤ)). if p.0 then p.1.0 else p.1.1)) (and_then (paired xs ys) (paired ms))

-- whether the comparison holds
abbrev pub compared : BinOp → ℤ → ℤ → Bool
compared ops.Eq x y = int_eq x y
compared ops.Ne x y = not (int_eq x y)
compared ops.Lt x y = int_lt x y
compared ops.Le x y = int_le x y
compared ops.Gt x y = int_lt y x
compared ops.Ge x y = int_le y x
compared _ x y = false

-- ---- places

-- whether so long a list has the place, from 0
abbrev pub is_place : ℕ → ℤ → Bool
is_place n (pos i) = leb (suc i) n
is_place n (negsuc i) = false

-- the first number is for that place, and so on: each and how often its place is among the others, wrapped
abbrev pub tallied : ℕ → List ℤ → List ℤ → List ℤ
tallied place [] places = []
tallied place (x ∷ xs) places = wrapped kinds.I64 (x +ℤ pos (how_many (int_eq (pos place)) places)) ∷ tallied (suc place) xs places

-- ---- keys

-- each of the keys with what belongs to it
abbrev pub by_keys : {A : Type 0} → (Value → A) → List Value → ValueMap A
by_keys at [] = finite.empty
by_keys at (key ∷ keys) = finite.insert (by_keys at keys) key (at key)

-- each of the keys with what the rule makes of the values beside it
abbrev pub grouped : {A B : Type 0} → (List A → B) → List (Value × A) → ValueMap B
grouped rule ps = by_keys (λ key. rule (beside key ps)) (map (λ p. p.0) ps)

-- what the rule makes of some values, and nothing of none
abbrev pub of_some : {A B : Type 0} → (List A → B) → List A → Option B
of_some rule [] = None
of_some rule (x ∷ xs) = Some (rule (x ∷ xs))
