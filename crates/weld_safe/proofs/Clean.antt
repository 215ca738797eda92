-- Outcomes that are no fault.
use Rattle.std.proofs.Common.{◌≡◌, ℕ, zero, suc, ℤ, Bool, true, false, List, ◌∷◌, [], Option, Some, None, option_map, if◌then◌else◌, refl}
use Rattle.weld_data.specs.declared.kind.Kind.{Kind}
use Rattle.weld_data.specs.declared.kind.Kind.TheVariants as kinds
use Rattle.weld_data.specs.declared.op.BinOp.{BinOp}
use Rattle.weld_data.specs.declared.op.MergeOp.{MergeOp}
use Rattle.weld_data.specs.declared.op.BinOp.TheVariants as op
use Rattle.weld_data.specs.Operation.{operation, answer_kind, combination}
use Rattle.weld_data.specs.Lookup.{same_kind}
use Rattle.weld_data.specs.Value.{Value, number, list, struct, dict, Values, no_values, and_value}
use Rattle.weld_tree.specs.TypeTree.{TypeTree, BuildTree, TypeTrees, no_types, more_types, scalar, vec, struct as tuple, dict as mapping, build, list as list_type, total, keyed, cells, groups}
use Rattle.weld_tree.specs.ExprTree.{Leaf, int, truth, chars, name, fresh, One, neg, not as not_of, cast, len, field, finish, started, binary, and, or, key_exists, Three, if_else, select, slice, Many, make_vec, make_struct}
use Rattle.weld_builders.specs.Outcome.{Outcome, done, fault, stuck, and_then, map_out, or_fault}
use Rattle.weld_builders.specs.Part.{Part, Totals, list_part, total_part, totals_part, as_fields, merge_totals, with_kinds, cells_part, keyed_part, groups_part, BuilderForm, list_builder, total_builder, totals_builder, cells_builder, keyed_builder, groups_builder, start, merge_part, merge_key, combined, appended, as_number, as_numbers, as_number_list, as_pair, as_pair_of}
use Rattle.weld_meaning.specs.Environment.{look_for}
use Rattle.weld_meaning.specs.Thing.{Thing, plain, building, several, Things, no_things, more_things, as_value, as_values, thing_at, value_at, value_field, field_of}
use Rattle.weld_meaning.specs.ThingType.{HasThing, HasPart}
use Rattle.weld_meaning.specs.Evaluation.{Env, truth_of, elements_of, negated, contrary, cast_to, length_of, operated, has_key, value_out, on_value, on_values, chosen, kind_of, kinds_in, builder_form, started_builder, merged, finished, found, leaf_thing, one_thing, two_thing, three_thing, many_thing, selected}
use Rattle.weld_safe.specs.Safe.{OperatorIsSafe, BuilderIsSafe, ThreeIsSafe}

-- it isn't a fault
abbrev pub IsNoFault : {A : Type 0} → Outcome A → Type 0
IsNoFault (done x) = Unit {0}
IsNoFault fault = ⊥
IsNoFault stuck = Unit {0}

pub then_clean : {A B : Type 0} (o : Outcome A) (f : A → Outcome B) → IsNoFault o → ((x : A) → o ≡ done x → IsNoFault (f x)) → IsNoFault (and_then o f)
then_clean (done x) f h k = k x refl
then_clean fault f h k = h
then_clean stuck f h k = tt

pub map_clean : {A B : Type 0} (f : A → B) (o : Outcome A) → IsNoFault o → IsNoFault (map_out f o)
map_clean f (done x) h = tt
map_clean f fault h = h
map_clean f stuck h = tt

-- ---- values

as_value_clean : (t : Thing) → IsNoFault (as_value t)
as_value_clean (plain v) = tt
as_value_clean (building p) = tt
as_value_clean (several ts) = tt

as_values_clean : (ts : Things) → IsNoFault (as_values ts)
as_values_clean no_things = tt
as_values_clean (more_things t ts) = then_clean (as_value t) _ (as_value_clean t) (λ v e. map_clean (and_value v) (as_values ts) (as_values_clean ts))

pub value_out_clean : (o : Outcome Thing) → IsNoFault o → IsNoFault (value_out o)
value_out_clean o h = then_clean o as_value h (λ t e. as_value_clean t)

truth_clean : (v : Value) → IsNoFault (truth_of v)
truth_clean (number kinds.Bool x) = tt
truth_clean (number kinds.I8 x) = tt
truth_clean (number kinds.I16 x) = tt
truth_clean (number kinds.I32 x) = tt
truth_clean (number kinds.I64 x) = tt
truth_clean (number kinds.U8 x) = tt
truth_clean (number kinds.U16 x) = tt
truth_clean (number kinds.U32 x) = tt
truth_clean (number kinds.U64 x) = tt
truth_clean (list vs) = tt
truth_clean (struct vs) = tt
truth_clean (dict es) = tt

pub elements_clean : (v : Value) → IsNoFault (elements_of v)
elements_clean (number k x) = tt
elements_clean (list vs) = tt
elements_clean (struct vs) = tt
elements_clean (dict es) = tt

number_clean : (v : Value) → IsNoFault (as_number v)
number_clean (number k x) = tt
number_clean (list vs) = tt
number_clean (struct vs) = tt
number_clean (dict es) = tt

numbers_clean : (vs : Values) → IsNoFault (as_numbers vs)
numbers_clean no_values = tt
numbers_clean (and_value v vs) = then_clean (as_number v) _ (number_clean v) (λ x e. map_clean (λ xs. x ∷ xs) (as_numbers vs) (numbers_clean vs))

number_list_clean : (v : Value) → IsNoFault (as_number_list v)
number_list_clean (number k x) = tt
number_list_clean (list vs) = numbers_clean vs
number_list_clean (struct vs) = tt
number_list_clean (dict es) = tt

pair_of_clean : (vs : Values) → IsNoFault (as_pair_of vs)
pair_of_clean no_values = tt
pair_of_clean (and_value a no_values) = tt
pair_of_clean (and_value a (and_value b no_values)) = tt
pair_of_clean (and_value a (and_value b (and_value c vs))) = tt

pair_clean : (v : Value) → IsNoFault (as_pair v)
pair_clean (number k x) = tt
pair_clean (list vs) = tt
pair_clean (struct vs) = pair_of_clean vs
pair_clean (dict es) = tt

negated_clean : (v : Value) → IsNoFault (negated v)
negated_clean (number k x) = tt
negated_clean (list vs) = tt
negated_clean (struct vs) = tt
negated_clean (dict es) = tt

has_key_clean : (v w : Value) → IsNoFault (has_key v w)
has_key_clean (number k x) w = tt
has_key_clean (list vs) w = tt
has_key_clean (struct vs) w = tt
has_key_clean (dict es) w = tt

value_at_clean : (n : ℕ) (vs : Values) → IsNoFault (value_at n vs)
value_at_clean n no_values = tt
value_at_clean zero (and_value v vs) = tt
value_at_clean (suc n) (and_value v vs) = value_at_clean n vs

value_field_clean : (n : ℕ) (v : Value) → IsNoFault (value_field n v)
value_field_clean n (number k x) = tt
value_field_clean n (list vs) = tt
value_field_clean n (struct vs) = value_at_clean n vs
value_field_clean n (dict es) = tt

-- ---- operators

-- but for `/` and `%` there is a number
operation_clean : (o : BinOp) (k : Kind) (x y : ℤ) → OperatorIsSafe o → IsNoFault (or_fault (option_map (number (answer_kind o k)) (operation o k x y)))
operation_clean op.Add k x y h = tt
operation_clean op.Sub k x y h = tt
operation_clean op.Mul k x y h = tt
operation_clean op.Div k x y h = absurd h
operation_clean op.Rem k x y h = absurd h
operation_clean op.Eq k x y h = tt
operation_clean op.Ne k x y h = tt
operation_clean op.Lt k x y h = tt
operation_clean op.Le k x y h = tt
operation_clean op.Gt k x y h = tt
operation_clean op.Ge k x y h = tt

one_of : {A : Type 0} (b : Bool) (o p : Outcome A) → IsNoFault o → IsNoFault p → IsNoFault (if b then o else p)
one_of true o p h k = h
one_of false o p h k = k

operated_clean : (o : BinOp) (v w : Value) → OperatorIsSafe o → IsNoFault (operated o v w)
operated_clean o (number k x) (number m y) h = one_of (same_kind k m) _ stuck (operation_clean o k x y h) tt
operated_clean o (number k x) (list ws) h = tt
operated_clean o (number k x) (struct ws) h = tt
operated_clean o (number k x) (dict ws) h = tt
operated_clean o (list vs) w h = tt
operated_clean o (struct vs) w h = tt
operated_clean o (dict es) w h = tt

-- ---- the one door

on_value_clean : (f : Value → Outcome Value) (t : Thing) → ((v : Value) → IsNoFault (f v)) → IsNoFault (on_value f t)
on_value_clean f t h = map_clean plain (and_then (as_value t) f) (then_clean (as_value t) f (as_value_clean t) (λ v e. h v))

on_values_clean : (f : Value → Value → Outcome Value) (t : Thing) (o : Outcome Thing) → IsNoFault o → ((v w : Value) → IsNoFault (f v w)) → IsNoFault (on_values f t o)
on_values_clean f t o k h =
    map_clean plain (and_then (as_value t) (λ v. and_then (value_out o) (f v)))
    (then_clean (as_value t) (λ v. and_then (value_out o) (f v)) (as_value_clean t) (λ v e. then_clean (value_out o) (f v) (value_out_clean o k) (λ w q. h v w)))

chosen_clean : {A : Type 0} (t : Thing) (o p : Outcome A) → IsNoFault o → IsNoFault p → IsNoFault (chosen t o p)
chosen_clean t o p h k =
    then_clean (as_value t) (λ v. and_then (truth_of v) (λ c. if c then o else p)) (as_value_clean t)
    (λ v e. then_clean (truth_of v) (λ c. if c then o else p) (truth_clean v) (λ c q. one_of c o p h k))

selected_clean : (c v w : Value) → IsNoFault (selected c v w)
selected_clean c v w = map_clean (λ (b : Bool). if b then v else w) (truth_of c) (truth_clean c)

-- ---- builders

kind_clean : (t : TypeTree) → IsNoFault (kind_of t)
kind_clean (scalar k) = tt
kind_clean (vec t) = tt
kind_clean (tuple ts) = tt
kind_clean (mapping k v) = tt
kind_clean (build b) = tt

kinds_in_clean : (ts : TypeTrees) → IsNoFault (kinds_in ts)
kinds_in_clean no_types = tt
kinds_in_clean (more_types t ts) =
    then_clean (kind_of t) _ (kind_clean t) (λ k e. map_clean (λ ks. k ∷ ks) (kinds_in ts) (kinds_in_clean ts))

form_clean : (b : BuildTree) → IsNoFault (builder_form b)
form_clean (list_type t) = tt
form_clean (total (scalar k) o) = tt
form_clean (total (vec t) o) = tt
form_clean (total (tuple ts) o) = map_clean (totals_builder o) (kinds_in ts) (kinds_in_clean ts)
form_clean (total (mapping k v) o) = tt
form_clean (total (build b) o) = tt
form_clean (keyed k v o) = map_clean (keyed_builder o) (kind_of v) (kind_clean v)
form_clean (cells t o) = map_clean (cells_builder o) (kind_of t) (kind_clean t)
form_clean (groups k v) = tt

fields_clean : (v : Value) → IsNoFault (as_fields v)
fields_clean (number k x) = tt
fields_clean (list vs) = tt
fields_clean (struct vs) = numbers_clean vs
fields_clean (dict es) = tt

kinds_clean : (ks : List Kind) (xs : List ℤ) → IsNoFault (with_kinds ks xs)
kinds_clean [] [] = tt
kinds_clean [] (x ∷ xs) = tt
kinds_clean (k ∷ ks) [] = tt
kinds_clean (k ∷ ks) (x ∷ xs) = map_clean _ (with_kinds ks xs) (kinds_clean ks xs)

totals_clean : (o : MergeOp) (xs : Totals) (ys : List ℤ) → IsNoFault (merge_totals o xs ys)
totals_clean o [] [] = tt
totals_clean o [] (y ∷ ys) = tt
totals_clean o (x ∷ xs) [] = tt
totals_clean o (x ∷ xs) (y ∷ ys) = map_clean _ (merge_totals o xs ys) (totals_clean o xs ys)

start_clean : (f : BuilderForm) (v : Option Value) → IsNoFault (start f v)
start_clean list_builder None = tt
start_clean list_builder (Some v) = tt
start_clean (total_builder o k) None = tt
start_clean (total_builder o k) (Some v) = map_clean (total_part o k) (as_number v) (number_clean v)
start_clean (totals_builder o ks) None = tt
start_clean (totals_builder o ks) (Some v) = map_clean (totals_part o) (and_then (as_fields v) (with_kinds ks)) (then_clean (as_fields v) (with_kinds ks) (fields_clean v) (λ xs e. kinds_clean ks xs))
start_clean (cells_builder o k) None = tt
start_clean (cells_builder o k) (Some v) = map_clean (cells_part o k) (as_number_list v) (number_list_clean v)
start_clean (keyed_builder o k) None = tt
start_clean (keyed_builder o k) (Some v) = tt
start_clean groups_builder None = tt
start_clean groups_builder (Some v) = tt

started_clean : (b : BuildTree) (v : Option Value) → IsNoFault (started_builder b v)
started_clean b v = then_clean (builder_form b) (λ f. map_out building (start f v)) (form_clean b) (λ f e. map_clean building (start f v) (start_clean f v))

-- a merge into anything but cells
merge_clean : (p : Part) (b : BuildTree) (v : Value) → HasPart p b → BuilderIsSafe b → IsNoFault (merge_part p v)
merge_clean (list_part vs) b v h s = tt
merge_clean (total_part o k x) b v h s = map_clean (λ y. total_part o k (combination o k x y)) (as_number v) (number_clean v)
merge_clean (totals_part o xs) b v h s = then_clean (as_fields v) _ (fields_clean v) (λ ys e. map_clean (totals_part o) (merge_totals o xs ys) (totals_clean o xs ys))
merge_clean (cells_part o k xs) (list_type t) v h s = absurd h
merge_clean (cells_part o k xs) (total t op) v h s = absurd h
merge_clean (cells_part o k xs) (keyed m t op) v h s = absurd h
merge_clean (cells_part o k xs) (cells t op) v h s = absurd s
merge_clean (cells_part o k xs) (groups m t) v h s = absurd h
merge_clean (keyed_part o k m) b v h s =
    then_clean (as_pair v) (λ (e : Value × Value). map_out (λ y. keyed_part o k (merge_key (combined o k) m e.0 y)) (as_number e.1)) (pair_clean v)
    (λ e q. map_clean (λ y. keyed_part o k (merge_key (combined o k) m e.0 y)) (as_number e.1) (number_clean e.1))
merge_clean (groups_part m) b v h s = map_clean (λ (e : Value × Value). groups_part (merge_key appended m e.0 (e.1 ∷ []))) (as_pair v) (pair_clean v)

pub merged_clean : (b : BuildTree) (t : Thing) (o : Outcome Thing) → HasThing t (build b) → BuilderIsSafe b → IsNoFault o → IsNoFault (merged t o)
merged_clean b (plain v) o h s k = tt
merged_clean b (building p) o h s k =
    then_clean (value_out o) (λ v. map_out building (merge_part p v)) (value_out_clean o k) (λ v e. map_clean building (merge_part p v) (merge_clean p b v h.1 s))
merged_clean b (several ts) o h s k = tt

finished_clean : (t : Thing) → IsNoFault (finished t)
finished_clean (plain v) = tt
finished_clean (building p) = tt
finished_clean (several ts) = tt

thing_at_clean : (n : ℕ) (ts : Things) → IsNoFault (thing_at n ts)
thing_at_clean n no_things = tt
thing_at_clean zero (more_things t ts) = tt
thing_at_clean (suc n) (more_things t ts) = thing_at_clean n ts

field_clean : (n : ℕ) (t : Thing) → IsNoFault (field_of n t)
field_clean n (plain v) = map_clean plain (value_field n v) (value_field_clean n v)
field_clean n (building p) = tt
field_clean n (several ts) = thing_at_clean n ts

-- ---- forms

found_clean : (o : Option Thing) → IsNoFault (found o)
found_clean (Some t) = tt
found_clean None = tt

pub leaf_clean : (l : Leaf) (env : Env) → IsNoFault (leaf_thing l env)
leaf_clean (int k x) env = tt
leaf_clean (truth b) env = tt
leaf_clean (chars bs) env = tt
leaf_clean (name s) env = found_clean (look_for s env)
leaf_clean (fresh b) env = started_clean b None

pub one_clean : (o : One) (t : Thing) → IsNoFault (one_thing o t)
one_clean neg t = on_value_clean negated t negated_clean
one_clean not_of t = on_value_clean contrary t (λ v. map_clean _ (truth_of v) (truth_clean v))
one_clean (cast k) t = on_value_clean (cast_to k) t (λ v. map_clean _ (as_number v) (number_clean v))
one_clean len t = on_value_clean length_of t (λ v. map_clean _ (elements_of v) (elements_clean v))
one_clean (field n) t = field_clean n t
one_clean finish t = finished_clean t
one_clean (started b) t = then_clean (as_value t) (λ v. started_builder b (Some v)) (as_value_clean t) (λ v e. started_clean b (Some v))

pub binary_clean : (o : BinOp) (t : Thing) (p : Outcome Thing) → OperatorIsSafe o → IsNoFault p → IsNoFault (two_thing (binary o) t p)
binary_clean o t p s h = on_values_clean (operated o) t p h (λ v w. operated_clean o v w s)

pub and_clean : (t : Thing) (p : Outcome Thing) → IsNoFault p → IsNoFault (two_thing and t p)
and_clean t p h = map_clean plain _ (chosen_clean t (value_out p) _ (value_out_clean p h) tt)

pub or_clean : (t : Thing) (p : Outcome Thing) → IsNoFault p → IsNoFault (two_thing or t p)
or_clean t p h = map_clean plain _ (chosen_clean t _ (value_out p) tt (value_out_clean p h))

pub key_clean : (t : Thing) (p : Outcome Thing) → IsNoFault p → IsNoFault (two_thing key_exists t p)
key_clean t p h = on_values_clean has_key t p h has_key_clean

pub three_clean : (o : Three) (t : Thing) (p q : Outcome Thing) → ThreeIsSafe o → IsNoFault p → IsNoFault q → IsNoFault (three_thing o t p q)
three_clean if_else t p q s h k = chosen_clean t p q h k
three_clean select t p q s h k =
    map_clean plain (and_then (as_value t) (λ v. and_then (value_out p) (λ w. and_then (value_out q) (selected v w))))
    (then_clean (as_value t) (λ v. and_then (value_out p) (λ w. and_then (value_out q) (selected v w))) (as_value_clean t)
    (λ v e. then_clean (value_out p) (λ w. and_then (value_out q) (selected v w)) (value_out_clean p h)
    (λ w e. then_clean (value_out q) (selected v w) (value_out_clean q k) (λ u e. selected_clean v w u))))
three_clean slice t p q s h k = absurd s

pub many_clean : (o : Many) (ts : Things) → IsNoFault (many_thing o ts)
many_clean make_vec ts = map_clean _ (as_values ts) (as_values_clean ts)
many_clean make_struct ts = tt
