-- Builders that start from values: a total from a number, cells from a vector of numbers.
use Rattle.std.proofs.Common.{◌≡◌, ℕ, zero, suc, ℤ, pos, ◌+◌, ◌≤◌, List, [], ◌∷◌, length, Some, slice_get, slice_set, map, IfSome, refl, ap, sym, subst, ◌∙◌, arith}
use Rattle.weld_data.specs.declared.kind.Kind.{Kind}
use Rattle.weld_data.specs.declared.kind.Kind.TheVariants as kinds
use Rattle.weld_data.specs.declared.num.Num.{Num}
use Rattle.weld_data.specs.declared.op.MergeOp.{MergeOp}
use Rattle.weld_data.specs.Kind.{InRange, IsInteger}
use Rattle.weld_data.specs.Operation.{start_of, combination}
use Rattle.weld_data.specs.Order.{IsNumber}
use Rattle.weld_data.specs.Value.{Value, number, list, struct, dict, Values, no_values, and_value, values, list_of_values, list_of_values-values}
use Rattle.weld_data.proofs.Operations.{combination-start_left}
use Rattle.weld_tree.specs.TypeTree.{TypeTree, TypeTrees, no_types, more_types, scalar, vec, struct as tuple, dict as mapping, build, list as list_of, total, keyed, cells, groups}
use Rattle.weld_tree.specs.Types.{IsIntegerType, AreIntegerTypes, IsMergerType}
use Rattle.weld_tree.specs.ExprTree.{started}
use Rattle.weld_tree.specs.HasValue.{HasValue, HaveValues, AllAre}
use Rattle.weld_builders.specs.Outcome.{done, and_then, map_out, or_fault}
use Rattle.weld_builders.specs.Part.{Part, Totals, totals_part, totals_builder, kinds_of, with_kinds, start, cells_part, start_part, cells_shape, repeated, as_number_list, as_numbers, merge_cell, merge_part}
use Rattle.weld_pieces.specs.Totals.{totals_in, number_in as number_of_total, AreIntegers}
use Rattle.weld_built.specs.Fields.{AreSomeNumbers}
use Rattle.weld_built.specs.Logged.{IsItemOf}
use Rattle.weld_meaning.proofs.Good.{free_value_type}
use Rattle.weld_meaning.proofs.WellFormed.{merger_free}
use Rattle.weld_meaning.specs.Thing.{Thing, plain, building}
use Rattle.weld_meaning.specs.ThingType.{HasThing}
use Rattle.weld_meaning.specs.Evaluation.{one_thing, kinds_in, started_builder}
use Rattle.weld_eval.specs.Fits.{IsIntegerNumber}
use Rattle.weld_eval.specs.Takes.{OneTakes, IsPlain, IsScalar}
use Rattle.weld_eval_forms.specs.Legs.{elements_of_value}
use Rattle.weld_eval_forms.specs.Starts.{number_in, numbers_in, totals_among, AreIntegerNumbers, MayStartTotal, total_from_value, filled, pair_value}
use Rattle.weld_eval_forms.proofs.Shapes.{plain_of_type, value_has}

-- ---- which builders start from a value

pub list_starts : (t : TypeTree) (x : Thing) → OneTakes (started (list_of t)) x → ⊥
list_starts t x h = h.rule.1

pub keyed_starts : (k v : TypeTree) (op : MergeOp) (x : Thing) → OneTakes (started (keyed k v op)) x → ⊥
keyed_starts k v op x h = h.rule.1

pub groups_starts : (k v : TypeTree) (x : Thing) → OneTakes (started (groups k v)) x → ⊥
groups_starts k v x h = h.rule.1

-- ---- totals

merger_plain : (t : TypeTree) (x : Thing) → IsMergerType t → HasThing x t → IsPlain x
merger_plain t x w h = plain_of_type t x (free_value_type t (merger_free t w)) h

integer_number : (t : TypeTree) (v : Value) → IsIntegerType t → HasValue t v → IsIntegerNumber v
integer_number (scalar k) v w h = (k, w, h)
integer_number (vec t) v w h = absurd w
integer_number (tuple ts) v w h = absurd w
integer_number (mapping k m) v w h = absurd w
integer_number (build b) v w h = absurd w

integers_are : (ts : TypeTrees) (vs : Values) → AreIntegerTypes ts → HaveValues ts vs → AreIntegerNumbers vs
integers_are no_types no_values w h = tt
integers_are no_types (and_value v vs) w h = absurd h
integers_are (more_types t ts) no_values w h = absurd h
integers_are (more_types t ts) (and_value v vs) w h = (integer_number t v w.0 h.0, integers_are ts vs w.1 h.1)

may_start : (t : TypeTree) (v : Value) → IsMergerType t → HasValue t v → MayStartTotal v
may_start (scalar k) (number m x) w h = integer_number (scalar k) (number m x) w h
may_start (scalar k) (list vs) w h = absurd h
may_start (scalar k) (struct vs) w h = absurd h
may_start (scalar k) (dict es) w h = absurd h
may_start (vec t) v w h = absurd w
may_start (tuple ts) (number m x) w h = absurd h
may_start (tuple ts) (list vs) w h = absurd h
may_start (tuple ts) (struct vs) w h = integers_are ts vs w.1 h
may_start (tuple ts) (dict es) w h = absurd h
may_start (mapping k m) v w h = absurd w
may_start (build b) v w h = absurd w

pub total_plain : (t : TypeTree) (op : MergeOp) (x : Thing) → OneTakes (started (total t op)) x → IsPlain x
total_plain t op x h = merger_plain t x h.rule.0 (subst (HasThing x) h.rule.1 h.has)

pub total_number : (t : TypeTree) (op : MergeOp) (x : Thing) (v : Value) → OneTakes (started (total t op)) x → x ≡ plain v → MayStartTotal v
total_number t op x v h e = may_start t v h.rule.0 (value_has t x v (subst (HasThing x) h.rule.1 h.has) e)

-- a struct of numbers
kinds_done : (ts : TypeTrees) (vs : Values) → AreIntegerTypes ts → HaveValues ts vs → kinds_in ts ≡ done (kinds_of (totals_among vs))
kinds_done no_types no_values w h = refl
kinds_done no_types (and_value v vs) w h = absurd h
kinds_done (more_types t ts) no_values w h = absurd h
kinds_done (more_types (scalar k) ts) (and_value (number m x) vs) w h =
    ap (map_out (λ ks. k ∷ ks)) (kinds_done ts vs w.1 h.1) ∙ ap (λ j. done (j ∷ kinds_of (totals_among vs))) (sym h.0.0)
kinds_done (more_types (scalar k) ts) (and_value (list ws) vs) w h = absurd h.0
kinds_done (more_types (scalar k) ts) (and_value (struct ws) vs) w h = absurd h.0
kinds_done (more_types (scalar k) ts) (and_value (dict es) vs) w h = absurd h.0
kinds_done (more_types (vec t) ts) (and_value v vs) w h = absurd w.0
kinds_done (more_types (tuple us) ts) (and_value v vs) w h = absurd w.0
kinds_done (more_types (mapping s t) ts) (and_value v vs) w h = absurd w.0
kinds_done (more_types (build b) ts) (and_value v vs) w h = absurd w.0

numbers_done : (ts : TypeTrees) (vs : Values) → AreIntegerTypes ts → HaveValues ts vs → as_numbers vs ≡ done (map (λ (t : Kind × ℤ). t.1) (totals_among vs))
numbers_done no_types no_values w h = refl
numbers_done no_types (and_value v vs) w h = absurd h
numbers_done (more_types t ts) no_values w h = absurd h
numbers_done (more_types (scalar k) ts) (and_value (number m x) vs) w h = ap (map_out (λ xs. x ∷ xs)) (numbers_done ts vs w.1 h.1)
numbers_done (more_types (scalar k) ts) (and_value (list ws) vs) w h = absurd h.0
numbers_done (more_types (scalar k) ts) (and_value (struct ws) vs) w h = absurd h.0
numbers_done (more_types (scalar k) ts) (and_value (dict es) vs) w h = absurd h.0
numbers_done (more_types (vec t) ts) (and_value v vs) w h = absurd w.0
numbers_done (more_types (tuple us) ts) (and_value v vs) w h = absurd w.0
numbers_done (more_types (mapping s t) ts) (and_value v vs) w h = absurd w.0
numbers_done (more_types (build b) ts) (and_value v vs) w h = absurd w.0

with_done : (xs : Totals) → with_kinds (kinds_of xs) (map (λ (t : Kind × ℤ). t.1) xs) ≡ done xs
with_done [] = refl
with_done (x ∷ xs) = ap (map_out (λ rest. x ∷ rest)) (with_done xs)

fields_start : (ts : TypeTrees) (op : MergeOp) (vs : Values) → AreIntegerTypes ts → HaveValues ts vs → started_builder (total (tuple ts) op) (Some (struct vs)) ≡ done (building (totals_part op (totals_among vs)))
fields_start ts op vs w h =
    ap (λ o. and_then (map_out (totals_builder op) o) (λ f. map_out building (start f (Some (struct vs))))) (kinds_done ts vs w h)
    ∙ ap (λ o. map_out building (map_out (totals_part op) (and_then o (with_kinds (kinds_of (totals_among vs)))))) (numbers_done ts vs w h)
    ∙ ap (λ o. map_out building (map_out (totals_part op) o)) (with_done (totals_among vs))

total_of : (t : TypeTree) (op : MergeOp) (v : Value) → IsMergerType t → HasValue t v → started_builder (total t op) (Some v) ≡ done (building (total_from_value op v))
total_of (scalar k) op (number m x) w h = ap (λ j. done (building (total_from_value op (number j x)))) (sym h.0)
total_of (scalar k) op (list vs) w h = absurd h
total_of (scalar k) op (struct vs) w h = absurd h
total_of (scalar k) op (dict es) w h = absurd h
total_of (vec t) op v w h = absurd w
total_of (tuple ts) op (number m x) w h = absurd h
total_of (tuple ts) op (list vs) w h = absurd h
total_of (tuple ts) op (struct vs) w h = fields_start ts op vs w.1 h
total_of (tuple ts) op (dict es) w h = absurd h
total_of (mapping k m) op v w h = absurd w
total_of (build b) op v w h = absurd w

pub total_starts : (t : TypeTree) (op : MergeOp) (x : Thing) (v : Value) → OneTakes (started (total t op)) x → x ≡ plain v → one_thing (started (total t op)) x ≡ done (building (total_from_value op v))
total_starts t op x v h e =
    ap (one_thing (started (total t op))) e ∙ total_of t op v h.rule.0 (value_has t x v (subst (HasThing x) h.rule.1 h.has) e)

pub integer_of : (k : Kind) (x : ℤ) → IsIntegerNumber (number k x) → IsInteger k
integer_of k x h = subst IsInteger (sym h.2.0) h.1

-- ---- the numbers of a struct in the code

all_kinds : (vs : List Value) → AreIntegerNumbers (values vs) → AreSomeNumbers vs
all_kinds [] h = ([], tt)
all_kinds (number k x ∷ vs) h = let r = all_kinds vs h.1 in (k ∷ r.0, ((refl, subst (λ j. InRange j x) (sym h.0.2.0) h.0.2.1), r.1))
all_kinds (list ws ∷ vs) h = absurd h.0.2
all_kinds (struct ws ∷ vs) h = absurd h.0.2
all_kinds (dict es ∷ vs) h = absurd h.0.2

pub some_numbers : (v : Value) (vs : List Value) → MayStartTotal v → v ≡ struct (values vs) → AreSomeNumbers vs
some_numbers v vs h e = all_kinds vs (subst MayStartTotal e h)

integers_in : (ts : Totals) → AreIntegerNumbers (values (map number_of_total ts)) → AreIntegers (kinds_of ts)
integers_in [] h = tt
integers_in (t ∷ ts) h = (subst IsInteger (sym h.0.2.0) h.0.1, integers_in ts h.1)

pub integers_there : (v : Value) (vs : List Value) (ns : List Num) → MayStartTotal v → v ≡ struct (values vs) → map number_of_total (totals_in ns) ≡ vs → AreIntegers (kinds_of (totals_in ns))
integers_there v vs ns h e g = integers_in (totals_in ns) (subst (λ ws. AreIntegerNumbers (values ws)) (sym g) (subst MayStartTotal e h))

among_all : (ts : Totals) → totals_among (values (map number_of_total ts)) ≡ ts
among_all [] = refl
among_all (t ∷ ts) = ap (λ us. t ∷ us) (among_all ts)

pub totals_from : (op : MergeOp) (v : Value) (vs : List Value) (ns : List Num) (p : Part) → v ≡ struct (values vs) → map number_of_total (totals_in ns) ≡ vs → p ≡ totals_part op (totals_in ns) → p ≡ total_from_value op v
totals_from op v vs ns p e g is =
    is ∙ ap (totals_part op) (sym (among_all (totals_in ns))) ∙ ap (λ ws. totals_part op (totals_among (values ws))) g ∙ ap (total_from_value op) (sym e)

-- ---- cells

integer_scalar : (t : TypeTree) → IsIntegerType t → IsScalar t
integer_scalar (scalar k) w = tt
integer_scalar (vec t) w = absurd w
integer_scalar (tuple ts) w = absurd w
integer_scalar (mapping k m) w = absurd w
integer_scalar (build b) w = absurd w

pub cells_scalar : (t : TypeTree) (op : MergeOp) (x : Thing) → OneTakes (started (cells t op)) x → IsScalar t
cells_scalar t op x h = integer_scalar t h.rule.0

pub cells_plain : (t : TypeTree) (op : MergeOp) (x : Thing) → OneTakes (started (cells t op)) x → IsPlain x
cells_plain t op x h = plain_of_type (vec t) x tt (subst (HasThing x) h.rule.1 h.has)

pub cells_integer : (t : TypeTree) (op : MergeOp) (x : Thing) (k : Kind) → OneTakes (started (cells t op)) x → t ≡ scalar k → IsInteger k
cells_integer t op x k h e = subst IsIntegerType e h.rule.0

pub cells_numbers : (t : TypeTree) (op : MergeOp) (x : Thing) (v : Value) (k : Kind) → OneTakes (started (cells t op)) x → t ≡ scalar k → x ≡ plain v → HasValue (vec (scalar k)) v
cells_numbers t op x v k h s e = subst (λ u. HasValue (vec u) v) s (value_has (vec t) x v (subst (HasThing x) h.rule.1 h.has) e)

pub all_numbers : (k : Kind) (cs : List Value) → HasValue (vec (scalar k)) (list (values cs)) → AllAre (HasValue (scalar k)) (values cs)
all_numbers k cs h = h

as_numbers_are : (k : Kind) (vs : Values) → AllAre (HasValue (scalar k)) vs → as_numbers vs ≡ done (numbers_in (list_of_values vs))
as_numbers_are k no_values h = refl
as_numbers_are k (and_value (number m x) vs) h = ap (map_out (λ xs. x ∷ xs)) (as_numbers_are k vs h.1)
as_numbers_are k (and_value (list ws) vs) h = absurd h.0
as_numbers_are k (and_value (struct ws) vs) h = absurd h.0
as_numbers_are k (and_value (dict es) vs) h = absurd h.0

number_list : (k : Kind) (v : Value) → HasValue (vec (scalar k)) v → as_number_list v ≡ done (numbers_in (elements_of_value v))
number_list k (number m x) h = absurd h
number_list k (list vs) h = as_numbers_are k vs h
number_list k (struct vs) h = absurd h
number_list k (dict es) h = absurd h

pub cells_start : (t : TypeTree) (op : MergeOp) (x : Thing) (v : Value) (k : Kind) → OneTakes (started (cells t op)) x → t ≡ scalar k → x ≡ plain v
    → one_thing (started (cells t op)) x ≡ done (building (cells_part op k (numbers_in (elements_of_value v))))
cells_start t op x v k h s e =
    ap (λ u. one_thing (started (cells u op)) x) s ∙ ap (one_thing (started (cells (scalar k) op))) e
    ∙ ap (λ o. map_out building (map_out (cells_part op k) o)) (number_list k v (cells_numbers t op x v k h s e))

pub relisted : (op : MergeOp) (k : Kind) (cs : List Value) (v : Value) (p : Part) → v ≡ list (values cs) → p ≡ cells_part op k (numbers_in cs) → p ≡ cells_part op k (numbers_in (elements_of_value v))
relisted op k cs v p l e = e ∙ ap (λ ds. cells_part op k (numbers_in ds)) (sym (list_of_values-values cs)) ∙ ap (λ w. cells_part op k (numbers_in (elements_of_value w))) (sym l)

-- ---- cells that are filled one after another

pub none_filled : (op : MergeOp) (k : Kind) (cs : List Value) (n : ℕ) (p : Part) → n ≡ length cs → p ≡ start_part (cells_shape op k n) → p ≡ cells_part op k (filled op k (numbers_in cs) 0)
none_filled op k cs n p e is = is ∙ ap (λ m. cells_part op k (repeated (start_of op k) m)) e ∙ ap (cells_part op k) (by cs)
  where
    by : (ds : List Value) → repeated (start_of op k) (length ds) ≡ filled op k (numbers_in ds) 0
    by [] = refl
    by (d ∷ ds) = ap (λ l. start_of op k ∷ l) (by ds)

pub all_filled : (op : MergeOp) (k : Kind) (cs : List Value) (n : ℕ) (p : Part) → length cs ≤ n → p ≡ cells_part op k (filled op k (numbers_in cs) n) → p ≡ cells_part op k (numbers_in cs)
all_filled op k cs n p le is = is ∙ ap (cells_part op k) (by cs n le)
  where
    by : (ds : List Value) (m : ℕ) → length ds ≤ m → filled op k (numbers_in ds) m ≡ numbers_in ds
    by [] m l = refl
    by (d ∷ ds) zero l = absurd (omega arith)
    by (d ∷ ds) (suc m) l = ap (λ r. number_in d ∷ r) (by ds m (omega arith))

pub a_number : (k : Kind) (cs : List Value) (i : ℕ) → AllAre (HasValue (scalar k)) (values cs) → IfSome (slice_get cs i) IsNumber
a_number k [] i h = tt
a_number k (number m x ∷ cs) zero h = tt
a_number k (list vs ∷ cs) zero h = absurd h.0
a_number k (struct vs ∷ cs) zero h = absurd h.0
a_number k (dict es ∷ cs) zero h = absurd h.0
a_number k (c ∷ cs) (suc i) h = a_number k cs i h.1

number_of_kind_at : (k m : Kind) (y : ℤ) (cs : List Value) (i : ℕ) → AllAre (HasValue (scalar k)) (values cs) → slice_get cs i ≡ Some (number m y) → HasValue (scalar k) (number m y)
number_of_kind_at k m y [] i h e = let no : ⊥ = cc in absurd no
number_of_kind_at k m y (c ∷ cs) zero h e = let same : c ≡ number m y = cc in subst (HasValue (scalar k)) same h.0
number_of_kind_at k m y (c ∷ cs) (suc i) h e = number_of_kind_at k m y cs i h.1 e

numbers_get : (cs : List Value) (i : ℕ) (m : Kind) (y : ℤ) → slice_get cs i ≡ Some (number m y) → slice_get (numbers_in cs) i ≡ Some y
numbers_get [] i m y e = let no : ⊥ = cc in absurd no
numbers_get (c ∷ cs) zero m y e = let same : c ≡ number m y = cc in ap (λ v. Some (number_in v)) same
numbers_get (c ∷ cs) (suc i) m y e = numbers_get cs i m y e

filled_get : (op : MergeOp) (k : Kind) (xs : List ℤ) (i : ℕ) (y : ℤ) → slice_get xs i ≡ Some y → slice_get (filled op k xs i) i ≡ Some (start_of op k)
filled_get op k [] i y e = let no : ⊥ = cc in absurd no
filled_get op k (x ∷ xs) zero y e = refl
filled_get op k (x ∷ xs) (suc i) y e = filled_get op k xs i y e

filled_set : (op : MergeOp) (k : Kind) (xs : List ℤ) (i : ℕ) (y : ℤ) → slice_get xs i ≡ Some y → slice_set (filled op k xs i) i y ≡ filled op k xs (suc i)
filled_set op k [] i y e = let no : ⊥ = cc in absurd no
filled_set op k (x ∷ xs) zero y e = let same : x ≡ y = cc in ap (λ z. z ∷ filled op k xs 0) (sym same)
filled_set op k (x ∷ xs) (suc i) y e = ap (λ l. x ∷ l) (filled_set op k xs i y e)

cell_merges : (op : MergeOp) (k : Kind) (xs : List ℤ) (i : ℕ) (y : ℤ) → slice_get xs i ≡ Some y → InRange k y → merge_cell op k (filled op k xs i) (pos i) y ≡ done (filled op k xs (suc i))
cell_merges op k xs i y e r =
    ap (λ o. map_out (λ x. slice_set (filled op k xs i) i (combination op k x y)) (or_fault o)) (filled_get op k xs i y e)
    ∙ ap (λ z. done (slice_set (filled op k xs i) i z)) (combination-start_left op k y r)
    ∙ ap done (filled_set op k xs i y e)

pub cell_taken : (op : MergeOp) (k m j : Kind) (cs : List Value) (i : ℕ) (x y : ℤ) (p : Part) (v : Value) → AllAre (HasValue (scalar k)) (values cs) → slice_get cs i ≡ Some (number m y)
    → p ≡ cells_part op k (filled op k (numbers_in cs) i) → v ≡ pair_value j x m y → j ≡ kinds.I64 → x ≡ pos i → InRange j x → IsItemOf p v
cell_taken op k m j cs i x y p v h e is item kind at r =
    subst (λ q. IsItemOf q v) (sym is) (subst (IsItemOf (cells_part op k (filled op k (numbers_in cs) i))) (sym item) ((kind, subst (λ l. InRange l x) kind r), number_of_kind_at k m y cs i h e))

done_same : (p q : Part) → done p ≡ done q → p ≡ q
done_same p q e = cc

pub cell_filled : (op : MergeOp) (k m j : Kind) (cs : List Value) (i : ℕ) (x y : ℤ) (p q : Part) (v : Value) → AllAre (HasValue (scalar k)) (values cs) → slice_get cs i ≡ Some (number m y)
    → p ≡ cells_part op k (filled op k (numbers_in cs) i) → v ≡ pair_value j x m y → x ≡ pos i → merge_part p v ≡ done q → q ≡ cells_part op k (filled op k (numbers_in cs) (i + 1))
cell_filled op k m j cs i x y p q v h e is item at merged =
    let next : suc i ≡ i + 1 = omega arith in
    done_same q (cells_part op k (filled op k (numbers_in cs) (i + 1)))
    (sym merged ∙ ap (λ a. merge_part a v) is ∙ ap (merge_part (cells_part op k (filled op k (numbers_in cs) i))) (item ∙ ap (λ z. pair_value j z m y) at)
    ∙ ap (map_out (cells_part op k)) (cell_merges op k (numbers_in cs) i y (numbers_get cs i m y e) (number_of_kind_at k m y cs i h e).1)
    ∙ ap (λ n. done (cells_part op k (filled op k (numbers_in cs) n))) next)
