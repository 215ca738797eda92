-- Evaluation of expressions, one element after another (wrapping, faults and the limit on turns).
use Rattle.std.specs.Prelude.{ℕ, zero, suc, ◌+◌, ◌-◌, ◌/◌, ◌%◌, ◌==◌, leb, Bool, true, false, not, ◌&&◌, if◌then◌else◌, ℤ, pos, negsuc, neg_ℤ, List, [], ◌∷◌, ◌++◌, map, take, drop, length, slice_get, Option, Some, None, is_some, option_map, option_to_list}
use Rattle.std.specs.Ordering.{int_eq}
use Rattle.weld_data.specs.declared.kind.Kind.{Kind}
use Rattle.weld_data.specs.declared.kind.Kind.TheVariants as kinds
use Rattle.weld_data.specs.declared.op.BinOp.{BinOp}
use Rattle.weld_data.specs.declared.op.MergeOp.{MergeOp}
use Rattle.weld_data.specs.Wrapped.{wrapped}
use Rattle.weld_data.specs.Operation.{truth, operation, answer_kind}
use Rattle.weld_data.specs.Lookup.{same_kind, value_of_key}
use Rattle.weld_data.specs.Value.{Value, number, list, struct, dict, Values, no_values, and_value, values, list_of_values, list_of_entries}
use Rattle.weld_tree.specs.declared.binder.Binder.{Binder}
use Rattle.weld_tree.specs.TypeTree.{TypeTree, BuildTree, TypeTrees, no_types, more_types, scalar, vec, struct as tuple, dict as mapping, build, list as list_builder_type, total, keyed, cells, groups}
use Rattle.weld_tree.specs.ExprTree.{ExprTree, leaf, one, two, three, many, let_in, loop, iterate, ExprTrees, no_exprs, more_exprs, LegTree, whole, strided, LegTrees, no_legs, more_legs, Leaf, int, truth as truth_leaf, chars, name, fresh, One, neg, not as not_of, cast, len, field, finish, started, Two, binary, and, or, look_up, key_exists, merge, Three, if_else, select, slice, Many, make_vec, make_struct}
use Rattle.weld_builders.specs.Outcome.{Outcome, done, fault, stuck, and_then, map_out, or_fault}
use Rattle.weld_builders.specs.Part.{BuilderForm, list_builder, total_builder, totals_builder, cells_builder, keyed_builder, groups_builder, start, merge_part, result_of, as_number}
use Rattle.weld_meaning.specs.Environment.{Named, look_for}
use Rattle.weld_meaning.specs.Thing.{Thing, plain, building, several, Things, no_things, more_things, as_value, as_values, struct_of, value_field, field_of}

-- ---- values

abbrev pub truth_value : Bool → Value
truth_value b = number kinds.Bool (truth b)

abbrev pub whole_number : ℕ → Value
whole_number n = number kinds.I64 (wrapped kinds.I64 (pos n))

abbrev pub truth_of : Value → Outcome Bool
truth_of (number kinds.Bool x) = done (int_eq x (pos 1))
truth_of (number kinds.I8 x) = stuck
truth_of (number kinds.I16 x) = stuck
truth_of (number kinds.I32 x) = stuck
truth_of (number kinds.I64 x) = stuck
truth_of (number kinds.U8 x) = stuck
truth_of (number kinds.U16 x) = stuck
truth_of (number kinds.U32 x) = stuck
truth_of (number kinds.U64 x) = stuck
truth_of (list vs) = stuck
truth_of (struct vs) = stuck
truth_of (dict es) = stuck

-- the elements of a vector
abbrev pub elements_of : Value → Outcome (List Value)
elements_of (number k x) = stuck
elements_of (list vs) = done (list_of_values vs)
elements_of (struct vs) = stuck
elements_of (dict es) = stuck

-- a byte of a string is an i8
abbrev pub byte_value : ℕ → Value
byte_value b = number kinds.I8 (wrapped kinds.I8 (pos b))

abbrev pub negated : Value → Outcome Value
negated (number k x) = done (number k (wrapped k (neg_ℤ x)))
negated (list vs) = stuck
negated (struct vs) = stuck
negated (dict es) = stuck

abbrev pub contrary : Value → Outcome Value
contrary v = map_out (λ b. truth_value (not b)) (truth_of v)

-- false is 0 and true is 1
abbrev pub cast_to : Kind → Value → Outcome Value
cast_to k v = map_out (λ x. number k (wrapped k x)) (as_number v)

abbrev pub length_of : Value → Outcome Value
length_of v = map_out (λ (vs : List Value). whole_number (length vs)) (elements_of v)

-- two numbers of one kind under an operator; a zero divisor faults
abbrev pub operated : BinOp → Value → Value → Outcome Value
operated op (number k x) (number m y) = if same_kind k m then or_fault (option_map (number (answer_kind op k)) (operation op k x y)) else stuck
operated op (number k x) _ = stuck
operated op _ w = stuck

-- the element of that number, from 0; there is a fault outside
abbrev pub element_at : List Value → ℤ → Outcome Value
element_at vs (pos i) = or_fault (slice_get vs i)
element_at vs (negsuc i) = fault

-- an element of a vector, or the value of a key; a missing one faults
abbrev pub looked_up : Value → Value → Outcome Value
looked_up (number k x) w = stuck
looked_up (list vs) w = and_then (as_number w) (element_at (list_of_values vs))
looked_up (struct vs) w = stuck
looked_up (dict es) w = or_fault (value_of_key (list_of_entries es) w)

abbrev pub has_key : Value → Value → Outcome Value
has_key (number k x) w = stuck
has_key (list vs) w = stuck
has_key (struct vs) w = stuck
has_key (dict es) w = done (truth_value (is_some (value_of_key (list_of_entries es) w)))

-- so many elements from a place on, where they are all there; else there is a fault
abbrev pub part_of : List Value → ℤ → ℤ → Outcome (List Value)
part_of vs (pos i) (pos n) = if leb (i + n) (length vs) then done (take n (drop i vs)) else fault
part_of vs (pos i) (negsuc n) = fault
part_of vs (negsuc i) n = fault

abbrev pub sliced : Value → Value → Value → Outcome Value
sliced v i n = and_then (elements_of v) (λ vs. and_then (as_number i) (λ x. and_then (as_number n) (λ y. map_out (λ ws. list (values ws)) (part_of vs x y))))

-- the elements at a place and at so many more, by a stride
abbrev pub picked : List Value → ℕ → ℕ → ℕ → List Value
picked vs place stride zero = []
picked vs place stride (suc more) = option_to_list (slice_get vs place) ++ picked vs (place + stride) stride more

-- the elements from a start below an end by a stride; there is a fault where the start isn't between 0 and the
-- end, the end isn't within the vector, the stride isn't at least 1, or it doesn't divide the way
abbrev pub strided_part : List Value → ℤ → ℤ → ℤ → Outcome (List Value)
strided_part vs (pos s) (pos e) (pos (suc d)) =
    if leb s e && leb e (length vs) && ((e - s) % suc d == 0) then done (picked vs s (suc d) ((e - s) / suc d)) else fault
strided_part vs (pos s) (pos e) _ = fault
strided_part vs (pos s) _ d = fault
strided_part vs _ e d = fault

abbrev pub strided_of : Value → Value → Value → Value → Outcome (List Value)
strided_of v s e d =
    and_then (elements_of v) (λ vs. and_then (as_number s) (λ x. and_then (as_number e) (λ y. and_then (as_number d) (λ z. strided_part vs x y z))))

-- ---- the one door to values

abbrev pub value_out : Outcome Thing → Outcome Value
value_out o = and_then o as_value

abbrev pub on_value : (Value → Outcome Value) → Thing → Outcome Thing
on_value f t = map_out plain (and_then (as_value t) f)

abbrev pub on_values : (Value → Value → Outcome Value) → Thing → Outcome Thing → Outcome Thing
on_values f t o = map_out plain (and_then (as_value t) (λ v. and_then (value_out o) (f v)))

abbrev pub on_three : (Value → Value → Value → Outcome Value) → Thing → Outcome Thing → Outcome Thing → Outcome Thing
on_three f t o p = map_out plain (and_then (as_value t) (λ v. and_then (value_out o) (λ w. and_then (value_out p) (f v w))))

-- one of two, as a truth value says; only what is chosen counts
abbrev pub chosen : {A : Type 0} → Thing → Outcome A → Outcome A → Outcome A
chosen t o p = and_then (as_value t) (λ v. and_then (truth_of v) (λ c. if c then o else p))

-- ---- builders

abbrev pub kind_of : TypeTree → Outcome Kind
kind_of (scalar k) = done k
kind_of (vec t) = stuck
kind_of (tuple ts) = stuck
kind_of (mapping k v) = stuck
kind_of (build b) = stuck

abbrev pub kinds_in : TypeTrees → Outcome (List Kind)
kinds_in no_types = done []
kinds_in (more_types t ts) = and_then (kind_of t) (λ k. map_out (λ ks. k ∷ ks) (kinds_in ts))

-- a merger of numbers of a kind, or of structs of numbers
abbrev pub total_form : MergeOp → TypeTree → Outcome BuilderForm
total_form op (scalar k) = done (total_builder op k)
total_form op (vec t) = stuck
total_form op (tuple ts) = map_out (totals_builder op) (kinds_in ts)
total_form op (mapping k v) = stuck
total_form op (build b) = stuck

abbrev pub builder_form : BuildTree → Outcome BuilderForm
builder_form (list_builder_type t) = done list_builder
builder_form (total t op) = total_form op t
builder_form (keyed k v op) = map_out (keyed_builder op) (kind_of v)
builder_form (cells t op) = map_out (cells_builder op) (kind_of t)
builder_form (groups k v) = done groups_builder

-- the builder of the type, from a starting value if there is one
abbrev pub started_builder : BuildTree → Option Value → Outcome Thing
started_builder b v = and_then (builder_form b) (λ f. map_out building (start f v))

abbrev pub merged : Thing → Outcome Thing → Outcome Thing
merged (plain v) o = stuck
merged (building p) o = and_then (value_out o) (λ v. map_out building (merge_part p v))
merged (several ts) o = stuck

abbrev pub finished : Thing → Outcome Thing
finished (plain v) = stuck
finished (building p) = done (plain (result_of p))
finished (several ts) = stuck

-- ---- rows and loops

-- a row's number, from 0, and the row
abbrev pub Row : Type 0
Row = ℕ × Value

-- rows with one field for each leg; there is a fault where the legs aren't of one length
abbrev pub join_rows : List Value → List Values → Outcome (List Values)
join_rows [] [] = done []
join_rows [] (r ∷ rs) = fault
join_rows (v ∷ vs) [] = fault
join_rows (v ∷ vs) (r ∷ rs) = map_out (λ t. and_value v r ∷ t) (join_rows vs rs)

abbrev pub zipped : List (List Value) → Outcome (List Values)
zipped [] = stuck
zipped (l ∷ []) = done (map (λ v. and_value v no_values) l)
zipped (l ∷ m ∷ ls) = and_then (zipped (m ∷ ls)) (join_rows l)

-- what a loop runs over: the elements of its one leg, or the structs of the elements with one number
abbrev pub rows_of : List (List Value) → Outcome (List Value)
rows_of [] = stuck
rows_of (l ∷ []) = done l
rows_of (l ∷ m ∷ ls) = map_out (map struct) (zipped (l ∷ m ∷ ls))

abbrev pub number_from : ℕ → List Value → List Row
number_from n [] = []
number_from n (v ∷ vs) = (n, v) ∷ number_from (suc n) vs

-- a loop hands the builder through its body, one row after another
abbrev pub run : List Row → Thing → (Row → Thing → Outcome Thing) → Outcome Thing
run [] s f = done s
run (r ∷ rs) s f = and_then (f r s) (λ t. run rs t f)

-- ---- turns

-- the next state and whether to go on
abbrev pub next_turn : Value → (Value → Outcome Value) → Outcome Value
next_turn v go = and_then (value_field 0 v) (λ state. and_then (value_field 1 v) (λ flag. and_then (truth_of flag) (λ more. if more then go state else done state)))

-- so many turns are left: the last state, or a fault where one more is wanted
abbrev pub turns : ℕ → Value → (Value → Outcome Value) → Outcome Value
turns zero v f = fault
turns (suc left) v f = and_then (f v) (λ w. next_turn w (λ state. turns left state f))

-- how many turns an `iterate` may take
unfoldable pub turn_limit : ℕ
turn_limit = 1000000

-- ---- evaluation

abbrev pub Env : Type 0
Env = Named Thing

-- what a name stands for
abbrev pub found : Option Thing → Outcome Thing
found (Some t) = done t
found None = stuck

abbrev pub leaf_thing : Leaf → Env → Outcome Thing
leaf_thing (int k x) env = done (plain (number k x))
leaf_thing (truth_leaf b) env = done (plain (truth_value b))
leaf_thing (chars bs) env = done (plain (list (values (map byte_value bs))))
leaf_thing (name s) env = found (look_for s env)
leaf_thing (fresh b) env = started_builder b None

abbrev pub one_thing : One → Thing → Outcome Thing
one_thing neg t = on_value negated t
one_thing not_of t = on_value contrary t
one_thing (cast k) t = on_value (cast_to k) t
one_thing len t = on_value length_of t
one_thing (field n) t = field_of n t
one_thing finish t = finished t
one_thing (started b) t = and_then (as_value t) (λ v. started_builder b (Some v))

-- `&&` and `||` evaluate their right side only where it decides
abbrev pub two_thing : Two → Thing → Outcome Thing → Outcome Thing
two_thing (binary op) t o = on_values (operated op) t o
two_thing and t o = map_out plain (chosen t (value_out o) (done (truth_value false)))
two_thing or t o = map_out plain (chosen t (done (truth_value true)) (value_out o))
two_thing look_up t o = on_values looked_up t o
two_thing key_exists t o = on_values has_key t o
two_thing merge t o = merged t o

-- the second of three values, or the third
abbrev pub selected : Value → Value → Value → Outcome Value
selected c v w = map_out (λ (b : Bool). if b then v else w) (truth_of c)

-- `if` evaluates only the arm that its condition chooses, `select` both
abbrev pub three_thing : Three → Thing → Outcome Thing → Outcome Thing → Outcome Thing
three_thing if_else t o p = chosen t o p
three_thing select t o p = on_three selected t o p
three_thing slice t o p = on_three sliced t o p

abbrev pub many_thing : Many → Things → Outcome Thing
many_thing make_vec ts = map_out (λ vs. plain (list vs)) (as_values ts)
many_thing make_struct ts = done (struct_of ts)

-- the names of a loop's body: the row is seen first, then its number, then the builder
abbrev pub with_row : {A : Type 0} → Binder → Binder → Binder → A → A → A → Named A → Named A
with_row b n x builder count row env = (x.sym.0, row) ∷ (n.sym.0, count) ∷ (b.sym.0, builder) ∷ env

abbrev mutual
  -- what the expression comes to where its names stand for these things
  pub eval : ExprTree → Env → Outcome Thing
  eval (leaf a l) env = leaf_thing l env
  eval (one a o e) env = and_then (eval e env) (one_thing o)
  eval (two a o e f) env = and_then (eval e env) (λ t. two_thing o t (eval f env))
  eval (three a o e f g) env = and_then (eval e env) (λ t. three_thing o t (eval f env) (eval g env))
  eval (many a o es) env = and_then (eval_all es env) (many_thing o)
  eval (let_in a b e f) env = and_then (eval e env) (λ t. eval f ((b.sym.0, t) ∷ env))
  eval (loop a ls e b n x f) env =
      and_then (eval_legs ls env) (λ legs. and_then (rows_of legs) (λ rows. and_then (eval e env) (λ s.
      run (number_from 0 rows) s (λ r t. eval f (with_row b n x t (plain (whole_number r.0)) (plain r.1) env)))))
  eval (iterate a e b f) env =
      and_then (value_out (eval e env)) (λ v. map_out plain (turns turn_limit v (λ w. value_out (eval f ((b.sym.0, plain w) ∷ env)))))

  pub eval_all : ExprTrees → Env → Outcome Things
  eval_all no_exprs env = done no_things
  eval_all (more_exprs e es) env = and_then (eval e env) (λ t. map_out (more_things t) (eval_all es env))

  -- the elements that the leg runs over
  pub eval_leg : LegTree → Env → Outcome (List Value)
  eval_leg (whole e) env = and_then (value_out (eval e env)) elements_of
  eval_leg (strided e f g h) env =
      and_then (value_out (eval e env)) (λ v. and_then (value_out (eval f env)) (λ s. and_then (value_out (eval g env)) (λ end. and_then (value_out (eval h env)) (λ d. strided_of v s end d))))

  pub eval_legs : LegTrees → Env → Outcome (List (List Value))
  eval_legs no_legs env = done []
  eval_legs (more_legs l ls) env = and_then (eval_leg l env) (λ vs. map_out (λ rest. vs ∷ rest) (eval_legs ls env))
