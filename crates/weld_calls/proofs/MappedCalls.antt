-- Calls whose answer has an element for each row.
use Rattle.std.proofs.Common.{false, ◌≡◌, ℤ, ◌*ℤ◌, Bool, true, cond, List, [], ◌∷◌, map, map-id, Option, Some, None, option_map, ap, sym, refl, ◌∙◌}
use Rattle.weld_data.specs.declared.kind.Kind.{Kind}
use Rattle.weld_data.specs.declared.kind.Kind.TheVariants as kinds
use Rattle.weld_data.specs.declared.op.BinOp.{BinOp}
use Rattle.weld_data.specs.declared.op.BinOp.TheVariants as ops
use Rattle.weld_data.specs.Wrapped.{wrapped}
use Rattle.weld_data.specs.Operation.{operation, answer_kind}
use Rattle.weld_data.specs.Lookup.{same_kind}
use Rattle.weld_data.specs.Value.{Value, number, list, struct, dict}
use Rattle.weld_tree.specs.TypeTree.{TypeTree, scalar, vec}
use Rattle.weld_tree.specs.HasValue.{HasValue}
use Rattle.weld_builders.specs.Outcome.{Outcome, done, fault, stuck, and_then, map_out, or_fault}
use Rattle.weld_meaning.specs.Thing.{plain}
use Rattle.weld_meaning.specs.Evaluation.{Env, truth_value, elements_of, operated, looked_up, element_at, selected, eval}
use Rattle.weld_calls.specs.CallTypes.{IsComparison, IsArithmetic, truth_type, place_type}
use Rattle.weld_calls.specs.declared.call.Call.TheVariants.{Where, Take}
use Rattle.weld_calls.specs.CallPrograms.{zipped, against, across, between, use_of, field_of, selected as selected_tree, body_of}
use Rattle.weld_tree.specs.ExprTree.{two, look_up}
use Rattle.weld_tree.specs.Blank.{blank_at}
use Rattle.weld_calls.specs.Lists.{items, number_in, numbers, truths, vector, number_vector, truth_vector, paired, each, elementwise, compared}
use Rattle.weld_calls.specs.CallMeaning.{where_meaning}
use Rattle.weld_calls.proofs.Outcomes.{map_out-same, map_out-map_out, map_out-and_then, and_then-same, value_of_plain}
use Rattle.weld_calls.proofs.Eaches.{each_done, each_out, map-map}
use Rattle.weld_calls.proofs.Arguments.{items_are, number_is, numbers_are, truths_are, truth_read}
use Rattle.weld_calls.proofs.Legs.{pair_row, triple_row, one_leg, two_legs, three_legs}
use Rattle.weld_calls.proofs.Shapes.{item_step, mapped_is}

-- ---- arguments by their numbers

abbrev pub one_argument : Value → Env
one_argument v = (0, plain v) ∷ []

abbrev pub two_arguments : Value → Value → Env
two_arguments v w = (0, plain v) ∷ (1, plain w) ∷ []

abbrev pub three_arguments : Value → Value → Value → Env
three_arguments u v w = (0, plain u) ∷ (1, plain v) ∷ (2, plain w) ∷ []

abbrev pub itself : Value → Value
itself v = v

pub themselves : (t : TypeTree) (v : Value) → HasValue (vec t) v → elements_of v ≡ done (map itself (items v))
themselves t v h = items_are t v h ∙ ap done (sym (map-id (items v)))

-- ---- the elements

-- numbers of one kind
pub numbers_mapped : {A : Type 0} (k : Kind) (f : A → Outcome ℤ) (rows : Outcome (List A)) → and_then rows (λ ys. map_out vector (each (λ y. map_out (number k) (f y)) ys)) ≡ map_out (number_vector k) (and_then rows (each f))
numbers_mapped k f rows =
    and_then-same rows _ _ (λ ys. ap (map_out vector) (each_out f (number k) ys) ∙ map_out-map_out (map (number k)) vector (each f ys))
    ∙ sym (map_out-and_then rows (each f) (number_vector k))

-- elements that are all there
pub all_mapped : {A : Type 0} (f : A → Value) (rows : Outcome (List A)) → and_then rows (λ ys. map_out vector (each (λ y. done (f y)) ys)) ≡ map_out (λ ys. vector (map f ys)) rows
all_mapped f (done ys) = ap (map_out vector) (each_done f ys)
all_mapped f fault = refl
all_mapped f stuck = refl

same_kind_itself : (k : Kind) → same_kind k k ≡ true
same_kind_itself kinds.Bool = refl
same_kind_itself kinds.I8 = refl
same_kind_itself kinds.I16 = refl
same_kind_itself kinds.I32 = refl
same_kind_itself kinds.I64 = refl
same_kind_itself kinds.U8 = refl
same_kind_itself kinds.U16 = refl
same_kind_itself kinds.U32 = refl
same_kind_itself kinds.U64 = refl

or_fault-option_map : {A B : Type 0} (f : A → B) (o : Option A) → or_fault (option_map f o) ≡ map_out f (or_fault o)
or_fault-option_map f (Some x) = refl
or_fault-option_map f None = refl

pub operated_is : (op : BinOp) (k : Kind) (x y : ℤ) → operated op (number k x) (number k y) ≡ map_out (number (answer_kind op k)) (or_fault (operation op k x y))
operated_is op k x y =
    ap (λ b. cond b (or_fault (option_map (number (answer_kind op k)) (operation op k x y))) stuck) (same_kind_itself k)
    ∙ or_fault-option_map (number (answer_kind op k)) (operation op k x y)

arithmetic_kind : (op : BinOp) (k : Kind) → IsArithmetic op → answer_kind op k ≡ k
arithmetic_kind ops.Add k h = refl
arithmetic_kind ops.Sub k h = refl
arithmetic_kind ops.Mul k h = refl
arithmetic_kind ops.Div k h = refl
arithmetic_kind ops.Rem k h = refl
arithmetic_kind ops.Eq k h = absurd h
arithmetic_kind ops.Ne k h = absurd h
arithmetic_kind ops.Lt k h = absurd h
arithmetic_kind ops.Le k h = absurd h
arithmetic_kind ops.Gt k h = absurd h
arithmetic_kind ops.Ge k h = absurd h

compared_is : (op : BinOp) (k : Kind) (x y : ℤ) → IsComparison op → map_out (number (answer_kind op k)) (or_fault (operation op k x y)) ≡ done (truth_value (compared op x y))
compared_is ops.Add k x y h = absurd h
compared_is ops.Sub k x y h = absurd h
compared_is ops.Mul k x y h = absurd h
compared_is ops.Div k x y h = absurd h
compared_is ops.Rem k x y h = absurd h
compared_is ops.Eq k x y h = refl
compared_is ops.Ne k x y h = refl
compared_is ops.Lt k x y h = refl
compared_is ops.Le k x y h = refl
compared_is ops.Gt k x y h = refl
compared_is ops.Ge k x y h = refl

-- ---- operators

pub zipped_is : (op : BinOp) (k : Kind) (v w : Value) → IsArithmetic op → HasValue (vec (scalar k)) v → HasValue (vec (scalar k)) w → eval (zipped op (scalar k)) (two_arguments v w) ≡ map_out plain (map_out (number_vector k) (elementwise op k (numbers v) (numbers w)))
zipped_is op k v w a h g =
    mapped_is (0 ∷ 1 ∷ []) (scalar k) 2 (across op 4) (two_arguments v w) (paired (numbers v) (numbers w)) (pair_row (number k) (number k)) (λ p. map_out (number (answer_kind op k)) (or_fault (operation op k p.0 p.1)))
    (two_legs (two_arguments v w) 0 1 (record { value = v; found = refl; elements = numbers_are k v h }) (record { value = w; found = refl; elements = numbers_are k w g }))
    (λ q i p. item_step _ _ q (value_of_plain (operated op (number k p.0) (number k p.1)) ∙ operated_is op k p.0 p.1))
    ∙ ap (map_out plain) (numbers_mapped (answer_kind op k) (λ p. or_fault (operation op k p.0 p.1)) (paired (numbers v) (numbers w)) ∙ ap (λ m. map_out (number_vector m) (elementwise op k (numbers v) (numbers w))) (arithmetic_kind op k a))

against_is : (op : BinOp) (k : Kind) (t : TypeTree) (v s : Value) (g : ℤ → Value) → HasValue (vec (scalar k)) v → HasValue (scalar k) s → ((x : ℤ) → map_out (number (answer_kind op k)) (or_fault (operation op k x (number_in s))) ≡ done (g x)) → eval (against op t) (two_arguments v s) ≡ done (plain (vector (map g (numbers v))))
against_is op k t v s g h n same =
    mapped_is (0 ∷ []) t 2 (between op (use_of 4) (use_of 1)) (two_arguments v s) (done (numbers v)) (number k) (λ x. done (g x))
    (one_leg (two_arguments v s) 0 (record { value = v; found = refl; elements = numbers_are k v h }))
    (λ q i x. item_step _ _ q (value_of_plain (operated op (number k x) s) ∙ ap (operated op (number k x)) (number_is k s n) ∙ operated_is op k x (number_in s) ∙ same x))
    ∙ ap (map_out plain) (all_mapped g (done (numbers v)))

pub scale_is : (k : Kind) (v s : Value) → HasValue (vec (scalar k)) v → HasValue (scalar k) s → eval (against ops.Mul (scalar k)) (two_arguments v s) ≡ done (plain (number_vector k (map (λ x. wrapped k (x *ℤ number_in s)) (numbers v))))
scale_is k v s h n =
    against_is ops.Mul k (scalar k) v s (λ x. number k (wrapped k (x *ℤ number_in s))) h n (λ x. refl)
    ∙ ap (λ vs. done (plain (vector vs))) (sym (map-map (λ x. wrapped k (x *ℤ number_in s)) (number k) (numbers v)))

pub compare_is : (op : BinOp) (k : Kind) (v s : Value) → IsComparison op → HasValue (vec (scalar k)) v → HasValue (scalar k) s → eval (against op truth_type) (two_arguments v s) ≡ done (plain (truth_vector (map (λ x. compared op x (number_in s)) (numbers v))))
compare_is op k v s c h n =
    against_is op k truth_type v s (λ x. truth_value (compared op x (number_in s))) h n (λ x. compared_is op k x (number_in s) c)
    ∙ ap (λ vs. done (plain (vector vs))) (sym (map-map (λ x. compared op x (number_in s)) truth_value (numbers v)))

-- ---- elements chosen and looked up

selected_is : (b : Bool) (v w : Value) → selected (truth_value b) v w ≡ done (cond b v w)
selected_is b v w = ap (λ c. done (cond c v w)) (truth_read b)

chosen_number : (k : Kind) (b : Bool) (x y : ℤ) → cond b (number k x) (number k y) ≡ number k (cond b x y)
chosen_number k true x y = refl
chosen_number k false x y = refl

pub where_is : (k : Kind) (m v w : Value) → HasValue (vec truth_type) m → HasValue (vec (scalar k)) v → HasValue (vec (scalar k)) w → eval (body_of Where (vec truth_type ∷ vec (scalar k) ∷ vec (scalar k) ∷ [])) (three_arguments m v w) ≡ map_out plain (where_meaning k m v w)
where_is k m v w h g f =
    let rows = and_then (paired (numbers v) (numbers w)) (paired (truths m)) in
    mapped_is (0 ∷ 1 ∷ 2 ∷ []) (scalar k) 3 (selected_tree (field_of 0 (use_of 5)) (field_of 1 (use_of 5)) (field_of 2 (use_of 5))) (three_arguments m v w) rows (triple_row truth_value (number k) (number k)) (λ p. done (number k (cond p.0 p.1.0 p.1.1)))
    (three_legs (three_arguments m v w) 0 1 2 (record { value = m; found = refl; elements = truths_are m h }) (record { value = v; found = refl; elements = numbers_are k v g }) (record { value = w; found = refl; elements = numbers_are k w f }))
    (λ q i p. item_step _ _ q (value_of_plain (selected (truth_value p.0) (number k p.1.0) (number k p.1.1)) ∙ selected_is p.0 (number k p.1.0) (number k p.1.1) ∙ ap done (chosen_number k p.0 p.1.0 p.1.1)))
    ∙ ap (map_out plain) (all_mapped (λ (p : Bool × (ℤ × ℤ)). number k (cond p.0 p.1.0 p.1.1)) rows
    ∙ map_out-same rows _ _ (λ ps. ap vector (sym (map-map (λ (p : Bool × (ℤ × ℤ)). cond p.0 p.1.0 p.1.1) (number k) ps)))
    ∙ sym (map_out-map_out (map (λ (p : Bool × (ℤ × ℤ)). cond p.0 p.1.0 p.1.1)) (number_vector k) rows))

looked_up_is : (t : TypeTree) (v : Value) (i : ℤ) → HasValue (vec t) v → looked_up v (number kinds.I64 i) ≡ element_at (items v) i
looked_up_is t (number k x) i h = absurd h
looked_up_is t (list vs) i h = refl
looked_up_is t (struct vs) i h = absurd h
looked_up_is t (dict es) i h = absurd h

pub take_is : (t : TypeTree) (v p : Value) → HasValue (vec t) v → HasValue (vec place_type) p → eval (body_of Take (vec t ∷ vec place_type ∷ [])) (two_arguments v p) ≡ map_out plain (map_out vector (each (element_at (items v)) (numbers p)))
take_is t v p h g =
    mapped_is (1 ∷ []) t 2 (two blank_at look_up (use_of 0) (use_of 4)) (two_arguments v p) (done (numbers p)) (number kinds.I64) (element_at (items v))
    (one_leg (two_arguments v p) 1 (record { value = p; found = refl; elements = numbers_are kinds.I64 p g }))
    (λ q i x. item_step _ _ q (value_of_plain (looked_up v (number kinds.I64 x)) ∙ looked_up_is t v x h))
