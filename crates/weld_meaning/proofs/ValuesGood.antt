-- What is done with values of fitting types isn't stuck, and gives a value of the type.
use Rattle.std.proofs.Common.{◌≡◌, ℕ, zero, suc, ◌+◌, ◌-◌, ◌/◌, ◌%◌, ◌==◌, leb, ℤ, pos, negsuc, neg_ℤ, ◌≤ℤ◌, unsigned_abs, Bool, true, false, ◌&&◌, if◌then◌else◌, List, [], ◌∷◌, ◌++◌, map, take, drop, length, slice_get, Some, None, option_map, option_to_list, refl, sym, subst, arith, int_rem}
use Rattle.std.specs.Ordering.{int_eq}
use Rattle.std.proofs.Math.Nat.{mod-le}
use Rattle.std.proofs.lemmas.Int.{ints}
use Rattle.weld_data.specs.declared.kind.Kind.{Kind}
use Rattle.weld_data.specs.declared.kind.Kind.TheVariants as kinds
use Rattle.weld_data.specs.declared.op.BinOp.{BinOp}
use Rattle.weld_data.specs.declared.op.BinOp.TheVariants.{Add, Sub, Mul, Div, Rem, Eq, Ne, Lt, Le, Gt, Ge}
use Rattle.weld_data.specs.Kind.{InRange, least, greatest}
use Rattle.weld_data.specs.Wrapped.{wrapped}
use Rattle.weld_data.specs.Operation.{operation, answer_kind}
use Rattle.weld_data.specs.Lookup.{same_kind, same_value, value_of_key}
use Rattle.weld_data.specs.Value.{Value, number, list, struct, dict, Values, no_values, and_value, values, list_of_values, values-list_of_values, Entries, no_entries, and_entry, list_of_entries}
use Rattle.weld_data.proofs.Wrapping.{IsWrapped-wrapped}
use Rattle.weld_tree.specs.TypeTree.{TypeTree, TypeTrees, scalar, vec, struct as tuple, dict as mapping, no_types, more_types}
use Rattle.weld_tree.specs.HasValue.{HasValue, HaveValues, AllAre, AllEntriesAre}
use Rattle.weld_builders.specs.Outcome.{Outcome, done, fault, stuck, or_fault}
use Rattle.weld_builders.specs.Part.{as_number}
use Rattle.weld_meaning.specs.Thing.{value_at, value_field}
use Rattle.weld_meaning.specs.Typing.{truth_type, place_type, IsField, RowHas}
use Rattle.weld_meaning.specs.Evaluation.{truth_value, whole_number, truth_of, elements_of, negated, contrary, cast_to, length_of, operated, element_at, looked_up, has_key, part_of, sliced, picked, strided_part, strided_of, selected, join_rows, zipped, rows_of, next_turn, turns}
use Rattle.weld_meaning.proofs.Good.{Good, good, good_fault, then_good, map_good, by_number, by_list, by_struct}

-- ---- numbers

pub least_below : (k : Kind) → least k ≤ℤ pos 0
least_below kinds.Bool = omega (arith, ints)
least_below kinds.I8 = omega (arith, ints)
least_below kinds.I16 = omega (arith, ints)
least_below kinds.I32 = omega (arith, ints)
least_below kinds.I64 = omega (arith, ints)
least_below kinds.U8 = omega (arith, ints)
least_below kinds.U16 = omega (arith, ints)
least_below kinds.U32 = omega (arith, ints)
least_below kinds.U64 = omega (arith, ints)

pub greatest_above : (k : Kind) → pos 0 ≤ℤ greatest k
greatest_above kinds.Bool = omega (arith, ints)
greatest_above kinds.I8 = omega (arith, ints)
greatest_above kinds.I16 = omega (arith, ints)
greatest_above kinds.I32 = omega (arith, ints)
greatest_above kinds.I64 = omega (arith, ints)
greatest_above kinds.U8 = omega (arith, ints)
greatest_above kinds.U16 = omega (arith, ints)
greatest_above kinds.U32 = omega (arith, ints)
greatest_above kinds.U64 = omega (arith, ints)

rem_in_range : (k : Kind) (x y : ℤ) → InRange k x → InRange k (int_rem x y)
rem_in_range k (pos a) y r = record {
  low = omega (arith, ints, least_below k);
  high = omega (arith, ints, r.high, mod-le a (unsigned_abs y));
}
rem_in_range k (negsuc a) y r = record {
  low = omega (arith, ints, r.low, mod-le (suc a) (unsigned_abs y));
  high = omega (arith, ints, greatest_above k);
}

pub wrapped_has : (k : Kind) (x : ℤ) → HasValue (scalar k) (number k (wrapped k x))
wrapped_has k x = (refl, (IsWrapped-wrapped k x).in_range)

pub truth_has : (b : Bool) → HasValue truth_type (truth_value b)
truth_has false = (refl, record { low = omega (arith, ints); high = omega (arith, ints) })
truth_has true = (refl, record { low = omega (arith, ints); high = omega (arith, ints) })

pub whole_number_has : (n : ℕ) → HasValue place_type (whole_number n)
whole_number_has n = wrapped_has kinds.I64 (pos n)

pub truth_of_good : (v : Value) → HasValue truth_type v → Good (λ b. Unit {0}) (truth_of v)
truth_of_good v h = by_number (λ w. Good (λ b. Unit {0}) (truth_of w)) kinds.Bool v h (λ x r. good tt)

pub as_number_good : (k : Kind) (v : Value) → HasValue (scalar k) v → Good (InRange k) (as_number v)
as_number_good k v h = by_number (λ w. Good (InRange k) (as_number w)) k v h (λ x r. good r)

pub negated_good : (k : Kind) (v : Value) → HasValue (scalar k) v → Good (HasValue (scalar k)) (negated v)
negated_good k v h = by_number (λ w. Good (HasValue (scalar k)) (negated w)) k v h (λ x r. good (wrapped_has k (neg_ℤ x)))

pub contrary_good : (v : Value) → HasValue truth_type v → Good (HasValue truth_type) (contrary v)
contrary_good v h = map_good _ (truth_of_good v h) (λ b u. truth_has _)

pub cast_good : (k m : Kind) (v : Value) → HasValue (scalar m) v → Good (HasValue (scalar k)) (cast_to k v)
cast_good k m v h = map_good _ (as_number_good m v h) (λ x r. wrapped_has k x)

same_kind_refl : (k : Kind) → same_kind k k ≡ true
same_kind_refl kinds.Bool = refl
same_kind_refl kinds.I8 = refl
same_kind_refl kinds.I16 = refl
same_kind_refl kinds.I32 = refl
same_kind_refl kinds.I64 = refl
same_kind_refl kinds.U8 = refl
same_kind_refl kinds.U16 = refl
same_kind_refl kinds.U32 = refl
same_kind_refl kinds.U64 = refl

-- unless the divisor is zero
unless_good : (k : Kind) (b : Bool) (z : ℤ) → InRange k z → Good (HasValue (scalar k)) (or_fault (option_map (number k) (if b then None else Some z)))
unless_good k true z r = good_fault
unless_good k false z r = good (refl, r)

operation_good : (op : BinOp) (k : Kind) (x y : ℤ) → InRange k x → Good (HasValue (scalar (answer_kind op k))) (or_fault (option_map (number (answer_kind op k)) (operation op k x y)))
operation_good Add k x y r = good (wrapped_has k _)
operation_good Sub k x y r = good (wrapped_has k _)
operation_good Mul k x y r = good (wrapped_has k _)
operation_good Div k x y r = unless_good k (int_eq y (pos 0)) _ (wrapped_has k _).1
operation_good Rem k x y r = unless_good k (int_eq y (pos 0)) _ (rem_in_range k x y r)
operation_good Eq k x y r = good (truth_has _)
operation_good Ne k x y r = good (truth_has _)
operation_good Lt k x y r = good (truth_has _)
operation_good Le k x y r = good (truth_has _)
operation_good Gt k x y r = good (truth_has _)
operation_good Ge k x y r = good (truth_has _)

pub operated_good : (op : BinOp) (k : Kind) (v w : Value) → HasValue (scalar k) v → HasValue (scalar k) w → Good (HasValue (scalar (answer_kind op k))) (operated op v w)
operated_good op k v w h g =
    by_number (λ a. Good (HasValue (scalar (answer_kind op k))) (operated op a w)) k v h
    (λ x r. by_number (λ b. Good (HasValue (scalar (answer_kind op k))) (operated op (number k x) b)) k w g
    (λ y s. subst (λ b. Good (HasValue (scalar (answer_kind op k))) (if b then or_fault (option_map (number (answer_kind op k)) (operation op k x y)) else stuck)) (sym (same_kind_refl k)) (operation_good op k x y r)))

-- ---- vectors

pub all_listed : (P : Value → Type 0) (vs : Values) → AllAre P vs → AllAre P (values (list_of_values vs))
all_listed P vs h = subst (AllAre P) (sym (values-list_of_values vs)) h

pub all_append : (P : Value → Type 0) (xs ys : List Value) → AllAre P (values xs) → AllAre P (values ys) → AllAre P (values (xs ++ ys))
all_append P [] ys h g = g
all_append P (x ∷ xs) ys h g = (h.0, all_append P xs ys h.1 g)

all_drop : (P : Value → Type 0) (n : ℕ) (xs : List Value) → AllAre P (values xs) → AllAre P (values (drop n xs))
all_drop P zero xs h = h
all_drop P (suc n) [] h = tt
all_drop P (suc n) (x ∷ xs) h = all_drop P n xs h.1

all_take : (P : Value → Type 0) (n : ℕ) (xs : List Value) → AllAre P (values xs) → AllAre P (values (take n xs))
all_take P zero xs h = tt
all_take P (suc n) [] h = tt
all_take P (suc n) (x ∷ xs) h = (h.0, all_take P n xs h.1)

get_good : (P : Value → Type 0) (xs : List Value) (i : ℕ) → AllAre P (values xs) → Good P (or_fault (slice_get xs i))
get_good P [] i h = good_fault
get_good P (x ∷ xs) zero h = good h.0
get_good P (x ∷ xs) (suc i) h = get_good P xs i h.1

element_at_good : (P : Value → Type 0) (xs : List Value) (i : ℤ) → AllAre P (values xs) → Good P (element_at xs i)
element_at_good P xs (pos i) h = get_good P xs i h
element_at_good P xs (negsuc i) h = good_fault

pub elements_good : (t : TypeTree) (v : Value) → HasValue (vec t) v → Good (λ vs. AllAre (HasValue t) (values vs)) (elements_of v)
elements_good t v h =
    by_list (λ w. Good (λ vs. AllAre (HasValue t) (values vs)) (elements_of w)) (HasValue t) v h (λ vs all. good (all_listed (HasValue t) vs all))

pub length_good : (t : TypeTree) (v : Value) → HasValue (vec t) v → Good (HasValue place_type) (length_of v)
length_good t v h = map_good _ (elements_good t v h) (λ vs all. whole_number_has (length vs))

pub look_up_good : (t : TypeTree) (v w : Value) → HasValue (vec t) v → HasValue place_type w → Good (HasValue t) (looked_up v w)
look_up_good t v w h g =
    by_list (λ x. Good (HasValue t) (looked_up x w)) (HasValue t) v h
    (λ vs all. then_good (element_at (list_of_values vs)) (as_number_good kinds.I64 w g) (λ i r. element_at_good (HasValue t) (list_of_values vs) i (all_listed (HasValue t) vs all)))

key_good : (P Q : Value → Type 0) (es : Entries) (key : Value) → AllEntriesAre P Q es → Good Q (or_fault (value_of_key (list_of_entries es) key))
key_good P Q no_entries key h = good_fault
key_good P Q (and_entry k v es) key h = by (same_value k key) (key_good P Q es key h.2)
  where
    by : (b : Bool) → Good Q (or_fault (value_of_key (list_of_entries es) key)) → Good Q (or_fault (if b then Some v else value_of_key (list_of_entries es) key))
    by true rest = good h.1
    by false rest = rest

pub look_key_good : (s t : TypeTree) (v w : Value) → HasValue (mapping s t) v → Good (HasValue t) (looked_up v w)
look_key_good s t (number k x) w h = absurd h
look_key_good s t (list vs) w h = absurd h
look_key_good s t (struct vs) w h = absurd h
look_key_good s t (dict es) w h = key_good (HasValue s) (HasValue t) es w h.0

pub has_key_good : (s t : TypeTree) (v w : Value) → HasValue (mapping s t) v → Good (HasValue truth_type) (has_key v w)
has_key_good s t (number k x) w h = absurd h
has_key_good s t (list vs) w h = absurd h
has_key_good s t (struct vs) w h = absurd h
has_key_good s t (dict es) w h = good (truth_has _)

part_good : (P : Value → Type 0) (xs : List Value) (i n : ℤ) → AllAre P (values xs) → Good (λ ys. AllAre P (values ys)) (part_of xs i n)
part_good P xs (pos i) (pos n) h = by (leb (i + n) (length xs))
  where
    by : (b : Bool) → Good (λ ys. AllAre P (values ys)) (if b then done (take n (drop i xs)) else fault)
    by true = good (all_take P n (drop i xs) (all_drop P i xs h))
    by false = good_fault
part_good P xs (pos i) (negsuc n) h = good_fault
part_good P xs (negsuc i) n h = good_fault

pub slice_good : (t : TypeTree) (v i n : Value) → HasValue (vec t) v → HasValue place_type i → HasValue place_type n → Good (HasValue (vec t)) (sliced v i n)
slice_good t v i n h a b =
    then_good _ (elements_good t v h) (λ vs all. then_good _ (as_number_good kinds.I64 i a) (λ x p. then_good _ (as_number_good kinds.I64 n b) (λ y q.
    map_good (λ ws. list (values ws)) (part_good (HasValue t) vs x y all) (λ ws every. every))))

all_option : (P : Value → Type 0) (xs : List Value) (i : ℕ) → AllAre P (values xs) → AllAre P (values (option_to_list (slice_get xs i)))
all_option P [] i h = tt
all_option P (x ∷ xs) zero h = (h.0, tt)
all_option P (x ∷ xs) (suc i) h = all_option P xs i h.1

all_picked : (P : Value → Type 0) (xs : List Value) (place stride n : ℕ) → AllAre P (values xs) → AllAre P (values (picked xs place stride n))
all_picked P xs place stride zero h = tt
all_picked P xs place stride (suc n) h =
    all_append P (option_to_list (slice_get xs place)) (picked xs (place + stride) stride n) (all_option P xs place h) (all_picked P xs (place + stride) stride n h)

strided_part_good : (P : Value → Type 0) (xs : List Value) (s e d : ℤ) → AllAre P (values xs) → Good (λ ys. AllAre P (values ys)) (strided_part xs s e d)
strided_part_good P xs (pos s) (pos e) (pos zero) h = good_fault
strided_part_good P xs (pos s) (pos e) (pos (suc d)) h = by (leb s e && leb e (length xs) && ((e - s) % suc d == 0))
  where
    by : (b : Bool) → Good (λ ys. AllAre P (values ys)) (if b then done (picked xs s (suc d) ((e - s) / suc d)) else fault)
    by true = good (all_picked P xs s (suc d) ((e - s) / suc d) h)
    by false = good_fault
strided_part_good P xs (pos s) (pos e) (negsuc d) h = good_fault
strided_part_good P xs (pos s) (negsuc e) d h = good_fault
strided_part_good P xs (negsuc s) e d h = good_fault

pub strided_good : (t : TypeTree) (v s e d : Value) → HasValue (vec t) v → HasValue place_type s → HasValue place_type e → HasValue place_type d → Good (λ vs. AllAre (HasValue t) (values vs)) (strided_of v s e d)
strided_good t v s e d h a b c =
    then_good _ (elements_good t v h) (λ vs all. then_good _ (as_number_good kinds.I64 s a) (λ x p. then_good _ (as_number_good kinds.I64 e b) (λ y q. then_good _ (as_number_good kinds.I64 d c) (λ z r.
    strided_part_good (HasValue t) vs x y z all))))

-- ---- choices and structs

pub selected_good : (t : TypeTree) (c v w : Value) → HasValue truth_type c → HasValue t v → HasValue t w → Good (HasValue t) (selected c v w)
selected_good t c v w h a b = map_good _ (truth_of_good c h) (λ x u. by x)
  where
    by : (x : Bool) → HasValue t (if x then v else w)
    by true = a
    by false = b

value_at_good : (n : ℕ) (us : TypeTrees) (t : TypeTree) (vs : Values) → IsField n us t → HaveValues us vs → Good (HasValue t) (value_at n vs)
value_at_good zero no_types t vs f h = absurd f
value_at_good (suc n) no_types t vs f h = absurd f
value_at_good zero (more_types u us) t no_values f h = absurd h
value_at_good zero (more_types u us) t (and_value v vs) f h = good (subst (λ s. HasValue s v) (sym f) h.0)
value_at_good (suc n) (more_types u us) t no_values f h = absurd h
value_at_good (suc n) (more_types u us) t (and_value v vs) f h = value_at_good n us t vs f h.1

pub value_field_good : (n : ℕ) (us : TypeTrees) (t : TypeTree) (v : Value) → IsField n us t → HasValue (tuple us) v → Good (HasValue t) (value_field n v)
value_field_good n us t v f h = by_struct (λ w. Good (HasValue t) (value_field n w)) (HaveValues us) v h (λ vs all. value_at_good n us t vs f all)

-- ---- rows

-- each list has the elements of a leg
abbrev pub LegsFit : TypeTrees → List (List Value) → Type 0
LegsFit no_types [] = Unit {0}
LegsFit no_types (l ∷ ls) = ⊥
LegsFit (more_types u us) [] = ⊥
LegsFit (more_types u us) (l ∷ ls) = AllAre (HasValue u) (values l) × LegsFit us ls

-- each has the fields of a row
abbrev AllRows : TypeTrees → List Values → Type 0
AllRows us [] = Unit {0}
AllRows us (r ∷ rs) = HaveValues us r × AllRows us rs

join_rows_good : (u : TypeTree) (us : TypeTrees) (xs : List Value) (rs : List Values) → AllAre (HasValue u) (values xs) → AllRows us rs → Good (AllRows (more_types u us)) (join_rows xs rs)
join_rows_good u us [] [] h g = good tt
join_rows_good u us [] (r ∷ rs) h g = good_fault
join_rows_good u us (x ∷ xs) [] h g = good_fault
join_rows_good u us (x ∷ xs) (r ∷ rs) h g = map_good _ (join_rows_good u us xs rs h.1 g.1) (λ ts all. ((h.0, g.0), all))

single_rows : (u : TypeTree) (xs : List Value) → AllAre (HasValue u) (values xs) → AllRows (more_types u no_types) (map (λ v. and_value v no_values) xs)
single_rows u [] h = tt
single_rows u (x ∷ xs) h = ((h.0, tt), single_rows u xs h.1)

zipped_good : (u : TypeTree) (us : TypeTrees) (l : List Value) (ls : List (List Value)) → AllAre (HasValue u) (values l) → LegsFit us ls → Good (AllRows (more_types u us)) (zipped (l ∷ ls))
zipped_good u no_types l [] h g = good (single_rows u l h)
zipped_good u no_types l (m ∷ ls) h g = absurd g
zipped_good u (more_types v us) l [] h g = absurd g
zipped_good u (more_types v us) l (m ∷ ls) h g =
    then_good (join_rows l) (zipped_good v us m ls g.0 g.1) (λ rs all. join_rows_good u (more_types v us) l rs h all)

struct_rows : (us : TypeTrees) (rs : List Values) → AllRows us rs → AllAre (HasValue (tuple us)) (values (map struct rs))
struct_rows us [] h = tt
struct_rows us (r ∷ rs) h = (h.0, struct_rows us rs h.1)

pub rows_good : (us : TypeTrees) (r : TypeTree) (ls : List (List Value)) → RowHas us r → LegsFit us ls → Good (λ vs. AllAre (HasValue r) (values vs)) (rows_of ls)
rows_good no_types r ls f h = absurd f
rows_good (more_types u no_types) r [] f h = absurd h
rows_good (more_types u no_types) r (l ∷ []) f h = good (subst (λ s. AllAre (HasValue s) (values l)) (sym f) h.0)
rows_good (more_types u no_types) r (l ∷ m ∷ ls) f h = absurd h.1
rows_good (more_types u (more_types v us)) r [] f h = absurd h
rows_good (more_types u (more_types v us)) r (l ∷ []) f h = absurd h.1
rows_good (more_types u (more_types v us)) r (l ∷ m ∷ ls) f h =
    map_good (map struct) (zipped_good u (more_types v us) l (m ∷ ls) h.0 h.1)
    (λ rs all. subst (λ s. AllAre (HasValue s) (values (map struct rs))) (sym f) (struct_rows (more_types u (more_types v us)) rs all))

-- ---- turns

-- the state and the flag of a turn
abbrev pub turn_type : TypeTree → TypeTree
turn_type t = tuple (more_types t (more_types truth_type no_types))

next_turn_good : (t : TypeTree) (w : Value) (go : Value → Outcome Value) → HasValue (turn_type t) w → ((v : Value) → HasValue t v → Good (HasValue t) (go v)) → Good (HasValue t) (next_turn w go)
next_turn_good t w go h k =
    then_good _ (value_field_good 0 (more_types t (more_types truth_type no_types)) t w refl h) (λ state p.
    then_good _ (value_field_good 1 (more_types t (more_types truth_type no_types)) truth_type w refl h) (λ flag q.
    then_good _ (truth_of_good flag q) (λ more u. by state p more)))
  where
    by : (state : Value) → HasValue t state → (more : Bool) → Good (HasValue t) (if more then go state else done state)
    by state p true = k state p
    by state p false = good p

pub turns_good : (t : TypeTree) (f : Value → Outcome Value) → ((v : Value) → HasValue t v → Good (HasValue (turn_type t)) (f v)) → (n : ℕ) (v : Value) → HasValue t v → Good (HasValue t) (turns n v f)
turns_good t f k zero v h = good_fault
turns_good t f k (suc n) v h = then_good _ (k v h) (λ w g. next_turn_good t w (λ state. turns n state f) g (λ u p. turns_good t f k n u p))
