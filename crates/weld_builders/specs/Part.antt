-- The five builders as plain data, and what is done with them. A part carries its operator and
-- kind, so that none of this needs types.
use Rattle.std.specs.Prelude.{ℕ, zero, suc, ℤ, pos, negsuc, Option, Some, None, List, [], ◌∷◌, ◌++◌, map, length, slice_get}
use Rattle.std.specs.List.{slice_set}
use Rattle.std.specs.FinMap as finite
use Rattle.weld_data.specs.declared.kind.Kind.{Kind}
use Rattle.weld_data.specs.declared.op.MergeOp.{MergeOp}
use Rattle.weld_data.specs.Operation.{combination, start_of}
use Rattle.weld_data.specs.Value.{Value, number, list, struct, dict, Values, no_values, and_value, values, entries}
use Rattle.weld_builders.specs.Outcome.{Outcome, done, fault, stuck, and_then, map_out, or_fault}
use Rattle.weld_builders.specs.ValueOrder.{ValueMap}

-- a number of a kind for each field of a struct
abbrev pub Totals : Type 0
Totals = List (Kind × ℤ)

-- the items of a list; one number; a number for each field; numbers by places; numbers by keys; lists by keys
pub data Part : Type 0 where
  list_part : List Value → Part
  total_part : MergeOp → Kind → ℤ → Part
  totals_part : MergeOp → Totals → Part
  cells_part : MergeOp → Kind → List ℤ → Part
  keyed_part : MergeOp → Kind → ValueMap ℤ → Part
  groups_part : ValueMap (List Value) → Part

-- ---- shapes: all of a part but what was merged into it; of cells also how many there are

pub data Shape : Type 0 where
  list_shape : Shape
  total_shape : MergeOp → Kind → Shape
  totals_shape : MergeOp → List Kind → Shape
  cells_shape : MergeOp → Kind → ℕ → Shape
  keyed_shape : MergeOp → Kind → Shape
  groups_shape : Shape

abbrev pub kinds_of : Totals → List Kind
kinds_of [] = []
kinds_of (x ∷ xs) = x.0 ∷ kinds_of xs

abbrev pub shape_of : Part → Shape
shape_of (list_part vs) = list_shape
shape_of (total_part op k x) = total_shape op k
shape_of (totals_part op xs) = totals_shape op (kinds_of xs)
shape_of (cells_part op k xs) = cells_shape op k (length xs)
shape_of (keyed_part op k m) = keyed_shape op k
shape_of (groups_part m) = groups_shape

-- so many of one thing
abbrev pub repeated : {X : Type 0} → X → ℕ → List X
repeated x zero = []
repeated x (suc n) = x ∷ repeated x n

-- the neutral number of each kind
abbrev pub neutral_totals : MergeOp → List Kind → Totals
neutral_totals op [] = []
neutral_totals op (k ∷ ks) = (k, start_of op k) ∷ neutral_totals op ks

-- the part of a shape that has nothing merged: empty, or the neutral number of the operator
abbrev pub start_part : Shape → Part
start_part list_shape = list_part []
start_part (total_shape op k) = total_part op k (start_of op k)
start_part (totals_shape op ks) = totals_part op (neutral_totals op ks)
start_part (cells_shape op k n) = cells_part op k (repeated (start_of op k) n)
start_part (keyed_shape op k) = keyed_part op k finite.empty
start_part groups_shape = groups_part finite.empty

-- the part of the same shape that has nothing merged
abbrev pub bare : Part → Part
bare p = start_part (shape_of p)

-- ---- what a value is as an item

abbrev pub as_number : Value → Outcome ℤ
as_number (number k x) = done x
as_number (list vs) = stuck
as_number (struct vs) = stuck
as_number (dict es) = stuck

abbrev pub as_numbers : Values → Outcome (List ℤ)
as_numbers no_values = done []
as_numbers (and_value v vs) = and_then (as_number v) (λ x. map_out (λ xs. x ∷ xs) (as_numbers vs))

-- the numbers of a list
abbrev pub as_number_list : Value → Outcome (List ℤ)
as_number_list (number k x) = stuck
as_number_list (list vs) = as_numbers vs
as_number_list (struct vs) = stuck
as_number_list (dict es) = stuck

-- the numbers of a struct's fields
abbrev pub as_fields : Value → Outcome (List ℤ)
as_fields (number k x) = stuck
as_fields (list vs) = stuck
as_fields (struct vs) = as_numbers vs
as_fields (dict es) = stuck

-- the two fields of a struct
abbrev pub as_pair_of : Values → Outcome (Value × Value)
as_pair_of no_values = stuck
as_pair_of (and_value a no_values) = stuck
as_pair_of (and_value a (and_value b no_values)) = done (a, b)
as_pair_of (and_value a (and_value b (and_value c vs))) = stuck

abbrev pub as_pair : Value → Outcome (Value × Value)
as_pair (number k x) = stuck
as_pair (list vs) = stuck
as_pair (struct vs) = as_pair_of vs
as_pair (dict es) = stuck

-- ---- the starting builder

-- the builders, before they start
pub data BuilderForm : Type 0 where
  list_builder : BuilderForm
  total_builder : MergeOp → Kind → BuilderForm
  totals_builder : MergeOp → List Kind → BuilderForm
  cells_builder : MergeOp → Kind → BuilderForm
  keyed_builder : MergeOp → Kind → BuilderForm
  groups_builder : BuilderForm

-- numbers with their kinds, one for each
abbrev pub with_kinds : List Kind → List ℤ → Outcome Totals
with_kinds [] [] = done []
with_kinds [] (x ∷ xs) = stuck
with_kinds (k ∷ ks) [] = stuck
with_kinds (k ∷ ks) (x ∷ xs) = map_out (λ rest. (k, x) ∷ rest) (with_kinds ks xs)

-- a total may be given a number or a struct of numbers, and cells are given theirs
abbrev pub start : BuilderForm → Option Value → Outcome Part
start list_builder None = done (start_part list_shape)
start (total_builder op k) None = done (start_part (total_shape op k))
start (total_builder op k) (Some v) = map_out (total_part op k) (as_number v)
start (totals_builder op ks) None = done (start_part (totals_shape op ks))
start (totals_builder op ks) (Some v) = map_out (totals_part op) (and_then (as_fields v) (with_kinds ks))
start (cells_builder op k) (Some v) = map_out (cells_part op k) (as_number_list v)
start (keyed_builder op k) None = done (start_part (keyed_shape op k))
start groups_builder None = done (start_part groups_shape)
start _ _ = stuck

-- ---- merging an item

-- a number after what may be there
abbrev pub combined : MergeOp → Kind → Option ℤ → ℤ → ℤ
combined op k None y = y
combined op k (Some x) y = combination op k x y

-- a list after what may be there
abbrev pub appended : {X : Type 0} → Option (List X) → List X → List X
appended None ys = ys
appended (Some xs) ys = xs ++ ys

-- what a key has after one more: `f` says what becomes of what may be there and the new
abbrev pub merge_key : {X : Type 0} → (Option X → X → X) → ValueMap X → Value → X → ValueMap X
merge_key f m key x = finite.insert m key (f (finite.get m key) x)

-- a number merged into the cell at an index; there is a fault where that is outside
abbrev pub merge_cell : MergeOp → Kind → List ℤ → ℤ → ℤ → Outcome (List ℤ)
merge_cell op k xs (pos i) y = map_out (λ x. slice_set xs i (combination op k x y)) (or_fault (slice_get xs i))
merge_cell op k xs (negsuc i) y = fault

-- numbers combined field by field
abbrev pub merge_totals : MergeOp → Totals → List ℤ → Outcome Totals
merge_totals op [] [] = done []
merge_totals op [] (y ∷ ys) = stuck
merge_totals op (x ∷ xs) [] = stuck
merge_totals op (x ∷ xs) (y ∷ ys) = map_out (λ rest. (x.0, combination op x.0 x.1 y) ∷ rest) (merge_totals op xs ys)

-- an item merged: a value, a number, a struct of numbers, a number at an index, a number at a key, or a value at a key
abbrev pub merge_part : Part → Value → Outcome Part
merge_part (list_part vs) v = done (list_part (vs ++ v ∷ []))
merge_part (total_part op k x) v = map_out (λ y. total_part op k (combination op k x y)) (as_number v)
merge_part (totals_part op xs) v = and_then (as_fields v) (λ ys. map_out (totals_part op) (merge_totals op xs ys))
merge_part (cells_part op k xs) v =
    and_then (as_pair v) (λ e. and_then (as_number e.0) (λ i. and_then (as_number e.1) (λ y. map_out (cells_part op k) (merge_cell op k xs i y))))
merge_part (keyed_part op k m) v =
    and_then (as_pair v) (λ e. map_out (λ y. keyed_part op k (merge_key (combined op k) m e.0 y)) (as_number e.1))
merge_part (groups_part m) v =
    map_out (λ (e : Value × Value). groups_part (merge_key appended m e.0 (e.1 ∷ []))) (as_pair v)

-- ---- the join

abbrev pub items_of : Part → List Value
items_of (list_part vs) = vs
items_of (total_part op k x) = []
items_of (totals_part op xs) = []
items_of (cells_part op k xs) = []
items_of (keyed_part op k m) = []
items_of (groups_part m) = []

abbrev pub total_of : Part → Option ℤ
total_of (list_part vs) = None
total_of (total_part op k x) = Some x
total_of (totals_part op xs) = None
total_of (cells_part op k xs) = None
total_of (keyed_part op k m) = None
total_of (groups_part m) = None

abbrev pub totals_of : Part → Totals
totals_of (list_part vs) = []
totals_of (total_part op k x) = []
totals_of (totals_part op xs) = xs
totals_of (cells_part op k xs) = []
totals_of (keyed_part op k m) = []
totals_of (groups_part m) = []

abbrev pub cells_of : Part → List ℤ
cells_of (list_part vs) = []
cells_of (total_part op k x) = []
cells_of (totals_part op xs) = []
cells_of (cells_part op k xs) = xs
cells_of (keyed_part op k m) = []
cells_of (groups_part m) = []

abbrev pub numbers_of : Part → ValueMap ℤ
numbers_of (list_part vs) = finite.empty
numbers_of (total_part op k x) = finite.empty
numbers_of (totals_part op xs) = finite.empty
numbers_of (cells_part op k xs) = finite.empty
numbers_of (keyed_part op k m) = m
numbers_of (groups_part m) = finite.empty

abbrev pub groups_of : Part → ValueMap (List Value)
groups_of (list_part vs) = finite.empty
groups_of (total_part op k x) = finite.empty
groups_of (totals_part op xs) = finite.empty
groups_of (cells_part op k xs) = finite.empty
groups_of (keyed_part op k m) = finite.empty
groups_of (groups_part m) = m

-- cell by cell; as many as the later ones
abbrev pub join_cells : MergeOp → Kind → List ℤ → List ℤ → List ℤ
join_cells op k xs [] = []
join_cells op k [] (y ∷ ys) = y ∷ ys
join_cells op k (x ∷ xs) (y ∷ ys) = combination op k x y ∷ join_cells op k xs ys

-- field by field; as many, and of the kinds, as the later ones
abbrev pub join_totals : MergeOp → Totals → Totals → Totals
join_totals op xs [] = []
join_totals op [] (y ∷ ys) = y ∷ ys
join_totals op (x ∷ xs) (y ∷ ys) = (y.0, combination op y.0 x.1 y.1) ∷ join_totals op xs ys

-- each later entry after what the start has at its key, and the start's other keys
abbrev pub join_entries : {X : Type 0} → (Option X → X → X) → ValueMap X → List (Value × X) → ValueMap X
join_entries f s [] = s
join_entries f s (e ∷ es) = finite.insert (join_entries f s es) e.0 (f (finite.get s e.0) e.1)

abbrev pub join_maps : {X : Type 0} → (Option X → X → X) → ValueMap X → ValueMap X → ValueMap X
join_maps f s m = join_entries f s (finite.entries m)

-- the join of a start and a later part: operator and kind are the later part's, and a start of another shape adds nothing
abbrev pub after_part : Part → Part → Part
after_part s (list_part vs) = list_part (items_of s ++ vs)
after_part s (total_part op k x) = total_part op k (combined op k (total_of s) x)
after_part s (totals_part op xs) = totals_part op (join_totals op (totals_of s) xs)
after_part s (cells_part op k xs) = cells_part op k (join_cells op k (cells_of s) xs)
after_part s (keyed_part op k m) = keyed_part op k (join_maps (combined op k) (numbers_of s) m)
after_part s (groups_part m) = groups_part (join_maps appended (groups_of s) m)

-- ---- the result

-- entries by rising keys, as a dictionary
abbrev pub dictionary : {X : Type 0} → (X → Value) → ValueMap X → Value
dictionary f m = dict (entries (map (λ (e : Value × _). (e.0, f e.1)) (finite.entries m)))

abbrev pub result_of : Part → Value
result_of (list_part vs) = list (values vs)
result_of (total_part op k x) = number k x
result_of (totals_part op xs) = struct (values (map (λ (x : Kind × ℤ). number x.0 x.1) xs))
result_of (cells_part op k xs) = list (values (map (number k) xs))
result_of (keyed_part op k m) = dictionary (number k) m
result_of (groups_part m) = dictionary (λ vs. list (values vs)) m
