-- The text of structs of numbers that stand in a list.
use Rattle.std.proofs.Common.{◌≡◌, sym, ◌∙◌, ℕ, zero, suc, ◌+◌, ◌<◌, ◌≤◌, List, [], ◌∷◌, ◌++◌, length, drop, get_or, Some, refl, ap, subst, arith, add-one, codes, ℤ, append_assoc, append-nil, false, ◌==◌}
use Rattle.std.specs.List.{slice_get}
use Rattle.std.proofs.lemmas.Bool.{false≢true}
use Rattle.std.proofs.lemmas.List.{drop_all}
use Rattle.weld_data.specs.declared.kind.Kind.{Kind}
use Rattle.weld_data.specs.Structs.{HasAtMost, HasStructAt, HasThere, value_there}
use Rattle.weld_data.specs.Value.{Value, Values, number, list, struct, dict, values, list_of_values, values-list_of_values}
use Rattle.weld_tree.specs.TypeTree.{TypeTree, TypeTrees, scalar, vec, struct as struct_of, dict as dict_of, build, pack}
use Rattle.weld_tree.specs.HasValue.{HasValue, HaveValues, AllAre}
use Rattle.weld_write_value.specs.Showing.{IsI8, led, shown_list, shown_number, shown_elements, show, show_fields}
use Rattle.weld_write_value.proofs.Texts.{appended, bracketed, field_typed, field_written, have_length, number_shown, some_is, none_is}

-- the fields, where the value is a struct
abbrev pub fields_of_struct : Value → List Value
fields_of_struct (number k x) = []
fields_of_struct (list vs) = []
fields_of_struct (struct vs) = list_of_values vs
fields_of_struct (dict es) = []

there_is : (v w : Value) (i : ℕ) → HasThere i w v → slice_get (fields_of_struct v) i ≡ Some w
there_is (number k x) w i h = absurd h
there_is (list vs) w i h = absurd h
there_is (struct vs) w i h = h
there_is (dict es) w i h = absurd h

most_is : (v : Value) (i : ℕ) → HasAtMost i v → length (fields_of_struct v) ≤ i
most_is (number k x) i h = absurd h
most_is (list vs) i h = absurd h
most_is (struct vs) i h = h
most_is (dict es) i h = absurd h

have_fields : (ts : List TypeTree) (v : Value) → HasValue (struct_of (pack ts)) v → HaveValues (pack ts) (values (fields_of_struct v))
have_fields ts (number k x) h = absurd h
have_fields ts (list vs) h = absurd h
have_fields ts (struct vs) h = subst (HaveValues (pack ts)) (sym (values-list_of_values vs)) h
have_fields ts (dict es) h = absurd h

same_there : (ts : List TypeTree) (i : ℕ) (d e : TypeTree) → i < length ts → get_or ts i d ≡ get_or ts i e
same_there [] i d e l = absurd (omega (arith, l))
same_there (t ∷ ts) zero d e l = refl
same_there (t ∷ ts) (suc i) d e l = same_there ts i d e (omega (arith, l))

-- a number more is written
pub number_more : (ts : List TypeTree) (v : Value) (i lead : ℕ) (k : Kind) (x : ℤ) (out pushed written whole : List ℕ) → i < length ts → HasValue (struct_of (pack ts)) v → HasThere i (number k x) v → pushed ≡ out ++ lead ∷ [] → written ≡ pushed ++ shown_number k x → out ++ show_fields (pack (drop i ts)) lead (values (drop i (fields_of_struct v))) ≡ whole → written ++ show_fields (pack (drop (i + 1) ts)) 44 (values (drop (i + 1) (fields_of_struct v))) ≡ whole
number_more ts v i lead k x out pushed written whole l h there p w so =
    let vs = fields_of_struct v in
    let t : TypeTree = get_or ts i (struct_of (pack [])) in
    let it : t ≡ get_or ts i t = same_there ts i (struct_of (pack [])) t l in
    let have = have_fields ts v h in
    let long = have_length ts vs have in
    let iv = there_is v (number k x) i there in
    let typed = field_typed ts vs i t (number k x) l long it iv have in
    field_written ts vs i lead t (number k x) out pushed written whole l long it iv p (w ∙ ap (λ (y : List ℕ). pushed ++ y) (sym (number_shown t (number k x) typed tt))) so

-- each field is there
pub none_more : (ts : List TypeTree) (v : Value) (i : ℕ) → i < length ts → HasValue (struct_of (pack ts)) v → HasAtMost i v → ⊥
none_more ts v i l h most =
    let long = have_length ts (fields_of_struct v) (have_fields ts v h) in
    let less = most_is v i most in
    omega (arith, l, long, less)

-- all fields are written
pub fields_end : (ts : List TypeTree) (v : Value) (i lead : ℕ) (out before written : List ℕ) → length ts ≤ i → HasValue (struct_of (pack ts)) v → out ++ show_fields (pack (drop i ts)) lead (values (drop i (fields_of_struct v))) ≡ before ++ show_fields (pack ts) 123 (values (fields_of_struct v)) → written ≡ out ++ 125 ∷ [] → written ≡ before ++ show (struct_of (pack ts)) v
fields_end ts v i lead out before written over h so w =
    let all = show_fields (pack ts) 123 (values (fields_of_struct v)) in
    let out-is : out ≡ before ++ all = sym (append-nil out) ∙ ap (λ (us : List TypeTree). out ++ show_fields (pack us) lead (values (drop i (fields_of_struct v)))) (sym (drop_all i ts over)) ∙ so in
    w ∙ ap (λ (x : List ℕ). x ++ 125 ∷ []) out-is ∙ append_assoc before all (125 ∷ []) ∙ ap (λ (x : List ℕ). before ++ x) (whole v h)
  where
    whole : (v : Value) → HasValue (struct_of (pack ts)) v → show_fields (pack ts) 123 (values (fields_of_struct v)) ++ 125 ∷ [] ≡ show (struct_of (pack ts)) v
    whole (number k x) h = absurd h
    whole (list vs) h = absurd h
    whole (struct vs) h = ap (λ (us : Values). show_fields (pack ts) 123 us ++ 125 ∷ []) (values-list_of_values vs)
    whole (dict es) h = absurd h

-- what stands there is of a type of structs alone
pub row_typed : (t : TypeTree) (vs : List Value) (place : ℕ) → HasStructAt vs place → HasValue t (value_there (slice_get vs place)) → (ts : TypeTrees) × (t ≡ struct_of ts)
row_typed t vs place h typed = by t (subst (HasValue t) (ap value_there h.at) typed)
  where
    by : (t : TypeTree) → HasValue t (struct h.fields) → (ts : TypeTrees) × (t ≡ struct_of ts)
    by (scalar k) g = absurd g
    by (vec u) g = absurd g
    by (struct_of ts) g = (ts, refl)
    by (dict_of k u) g = absurd g
    by (build b) g = absurd g

-- ---- the list

led_step : (f : Value → List ℕ) (vs : List Value) (i lead : ℕ) (v : Value) → slice_get vs i ≡ Some v → led lead f (drop i vs) ≡ (lead ∷ f v) ++ led 44 f (drop (suc i) vs)
led_step f [] i lead v s = absurd (none_is v s)
led_step f (x ∷ vs) zero lead v s = ap (λ (y : Value). (lead ∷ f y) ++ led 44 f vs) (some_is x v s)
led_step f (x ∷ vs) (suc i) lead v s = led_step f vs i lead v s

pub value_more : (f : Value → List ℕ) (vs : List Value) (i lead : ℕ) (v : Value) (out pushed written whole : List ℕ) → slice_get vs i ≡ Some v → pushed ≡ out ++ lead ∷ [] → written ≡ pushed ++ f v → out ++ led lead f (drop i vs) ≡ whole → written ++ led 44 f (drop (i + 1) vs) ≡ whole
value_more f vs i lead v out pushed written whole s p w so =
    let rest = led 44 f (drop (i + 1) vs) in
    ap (λ (x : List ℕ). x ++ rest) (w ∙ ap (λ (x : List ℕ). x ++ f v) p)
    ∙ appended out lead (f v) rest
    ∙ ap (λ (x : List ℕ). out ++ x) (sym (led_step f vs i lead v s ∙ ap (λ (k : ℕ). (lead ∷ f v) ++ led 44 f (drop k vs)) (sym (add-one i))))
    ∙ so

some_values : (vs : List Value) (f : Value → List ℕ) → (length vs == 0) ≡ false → shown_list f vs ≡ led 91 f vs ++ codes "]"
some_values [] f h = absurd (false≢true (sym h))
some_values (v ∷ vs) f h = refl

pub values_end : (f : Value → List ℕ) (vs : List Value) (i lead : ℕ) (out before written : List ℕ) → length vs ≤ i → (length vs == 0) ≡ false → out ++ led lead f (drop i vs) ≡ before ++ led 91 f vs → written ≡ out ++ 93 ∷ [] → written ≡ before ++ shown_list f vs
values_end f vs i lead out before written over some so w =
    let out-is : out ≡ before ++ led 91 f vs = sym (append-nil out) ∙ ap (λ (us : List Value). out ++ led lead f us) (sym (drop_all i vs over)) ∙ so in
    w ∙ ap (λ (x : List ℕ). x ++ 93 ∷ []) out-is ∙ append_assoc before (led 91 f vs) (93 ∷ []) ∙ ap (λ (x : List ℕ). before ++ x) (sym (some_values vs f some))

-- the value there is of the type of all
pub typed_there : (t : TypeTree) (vs : List Value) (i : ℕ) (v : Value) → slice_get vs i ≡ Some v → AllAre (HasValue t) (values vs) → HasValue t v
typed_there t [] i v s h = absurd (none_is v s)
typed_there t (x ∷ vs) zero v s h = subst (HasValue t) (some_is x v s) h.0
typed_there t (x ∷ vs) (suc i) v s h = typed_there t vs i v s h.1

-- a list of structs isn't one of numbers of kind i8
pub structs_shown : (t : TypeTree) (vs : List Value) → (IsI8 t → ⊥) → shown_list (show t) vs ≡ shown_elements t (show t) vs
structs_shown t vs n = sym (bracketed t (show t) vs n)
