-- Legs and their rows.
use Rattle.std.proofs.Common.{◌≡◌, ℕ, zero, suc, ◌<◌, ◌≤◌, ◌+◌, ◌==◌, ◌≢◌, Bool, true, false, ◌&&◌, List, [], ◌∷◌, ◌++◌, drop, length, get_or, slice_get, Some, option_to_list, Ok, refl, ap, sym, subst, ◌∙◌, arith}
use Rattle.std.proofs.lemmas.Bool.{eq-eqb, eqb-true}
use Rattle.std.proofs.lemmas.List.{drop_more}
use Rattle.weld_data.specs.Value.{Value, struct, values, list_of_values, list_of_values-values}
use Rattle.weld_builders.specs.Outcome.{Outcome, done, fault}
use Rattle.weld_meaning.specs.Evaluation.{rows_of}
use Rattle.weld_eval.specs.declared.thing.Held.{Held}
use Rattle.weld_eval.specs.ThingView.{held_of}
use Rattle.weld_eval.proofs.RowLists.{even_rows, uneven_rows, reach, row_there}
use Rattle.weld_eval_forms.specs.Legs.{elements_in, leg_lists, IsVector, AreVectors, rows_in, RowsAnswer, all_long, AllReach, elements_at}

-- ---- one leg

pub listed : (o : Outcome (List Value)) (cs : List Value) → o ≡ done cs → o ≡ done (list_of_values (values cs))
listed o cs e = e ∙ ap done (sym (list_of_values-values cs))

pub listed_length : (cs : List Value) → length (list_of_values (values cs)) ≡ length cs
listed_length cs = ap length (list_of_values-values cs)

pub listed_at : (cs : List Value) (i : ℕ) (v : Value) → slice_get cs i ≡ Some v → slice_get (list_of_values (values cs)) i ≡ Some v
listed_at cs i v e = ap (λ (l : List Value). slice_get l i) (list_of_values-values cs) ∙ e

pub vector_at : (hs : List Held) (i : ℕ) (h : Held) → AreVectors hs → i < length hs → h ≡ get_or hs i h → IsVector (held_of h)
vector_at [] i h v lt e = absurd (omega arith)
vector_at (g ∷ hs) zero h v lt e = subst (λ k. IsVector (held_of k)) (sym e) v.0
vector_at (g ∷ hs) (suc i) h v lt e = vector_at hs i h v.1 (omega arith) e

-- ---- legs of one length

lists_more : (hs : List Held) (i : ℕ) (h : Held) → i < length hs → h ≡ get_or hs i h → leg_lists (drop i hs) ≡ elements_in h ∷ leg_lists (drop (i + 1) hs)
lists_more hs i h lt e = ap leg_lists (drop_more hs i h lt) ∙ ap (λ k. elements_in k ∷ leg_lists (drop (i + 1) hs)) (sym e)

pub long_one : (n : ℕ) (hs : List Held) (i : ℕ) (h : Held) → i < length hs → h ≡ get_or hs i h → length (elements_in h) ≡ n → all_long n (leg_lists (drop i hs)) ≡ all_long n (leg_lists (drop (i + 1) hs))
long_one n hs i h lt e is = ap (all_long n) (lists_more hs i h lt e) ∙ ap (λ b. b && all_long n (leg_lists (drop (i + 1) hs))) (eq-eqb (length (elements_in h)) n is)

pub other_length : (n : ℕ) (hs : List Held) (i : ℕ) (h : Held) → i < length hs → h ≡ get_or hs i h → length (elements_in h) ≢ n → all_long n (leg_lists (drop i hs)) ≡ false
other_length n hs i h lt e differs = ap (all_long n) (lists_more hs i h lt e) ∙ ap (λ b. b && all_long n (leg_lists (drop (i + 1) hs))) (by (length (elements_in h) == n) refl)
  where
    by : (t : Bool) → (length (elements_in h) == n) ≡ t → (length (elements_in h) == n) ≡ false
    by true q = absurd (differs (eqb-true (length (elements_in h)) n q))
    by false q = q

pub none_left : (n : ℕ) (hs : List Held) (i : ℕ) → length hs ≤ i → all_long n (leg_lists (drop i hs)) ≡ true
none_left n [] zero le = refl
none_left n [] (suc i) le = refl
none_left n (h ∷ hs) zero le = absurd (omega arith)
none_left n (h ∷ hs) (suc i) le = none_left n hs i (omega arith)

-- ---- how many rows there are

all_of_first : (n : ℕ) (l : List Value) (ls : List (List Value)) (b : Bool) → length l ≡ n → all_long n (l ∷ ls) ≡ b → all_long n ls ≡ b
all_of_first n l ls b e a = sym (ap (λ t. t && all_long n ls) (eq-eqb (length l) n e)) ∙ a

pub counted : (n : ℕ) (hs : List Held) (h : Held) → 0 < length hs → h ≡ get_or hs 0 h → n ≡ length (elements_in h) → all_long n (leg_lists hs) ≡ true → RowsAnswer (Ok n) (leg_lists hs)
counted n [] h lt e k a = absurd (omega arith)
counted n (g ∷ hs) h lt e k a =
    let same : length (elements_in g) ≡ n = sym (k ∙ ap (λ x. length (elements_in x)) e) in
    even_rows n (elements_in g) (leg_lists hs) same (all_of_first n (elements_in g) (leg_lists hs) true same a)

pub uncounted : (n : ℕ) (hs : List Held) (h : Held) → 0 < length hs → h ≡ get_or hs 0 h → n ≡ length (elements_in h) → all_long n (leg_lists hs) ≡ false → rows_of (leg_lists hs) ≡ fault
uncounted n [] h lt e k a = absurd (omega arith)
uncounted n (g ∷ hs) h lt e k a =
    let same : length (elements_in g) ≡ n = sym (k ∙ ap (λ x. length (elements_in x)) e) in
    uneven_rows n (elements_in g) (leg_lists hs) same (all_of_first n (elements_in g) (leg_lists hs) false same a)

-- ---- the row of a number

pub one_leg_reaches : (hs : List Held) (h : Held) (i : ℕ) → length hs ≡ 1 → h ≡ get_or hs 0 h → i < length (rows_in (leg_lists hs)) → i < length (elements_in h)
one_leg_reaches [] h i one e lt = absurd (omega arith)
one_leg_reaches (g ∷ []) h i one e lt = subst (λ k. i < length (elements_in k)) (sym e) lt
one_leg_reaches (g ∷ f ∷ hs) h i one e lt = absurd (omega arith)

pub one_leg_row : (hs : List Held) (h : Held) (i : ℕ) (v : Value) → length hs ≡ 1 → h ≡ get_or hs 0 h → slice_get (elements_in h) i ≡ Some v → slice_get (rows_in (leg_lists hs)) i ≡ Some v
one_leg_row [] h i v one e is = absurd (omega arith)
one_leg_row (g ∷ []) h i v one e is = ap (λ k. slice_get (elements_in k) i) (sym e) ∙ is
one_leg_row (g ∷ f ∷ hs) h i v one e is = absurd (omega arith)

pub legs_reach : (hs : List Held) (i : ℕ) → i < length (rows_in (leg_lists hs)) → AllReach i (leg_lists hs)
legs_reach hs i lt = reach (leg_lists hs) i lt

pub more_legs_row : (hs : List Held) (i : ℕ) → length hs ≢ 1 → i < length (rows_in (leg_lists hs)) → slice_get (rows_in (leg_lists hs)) i ≡ Some (struct (values (elements_at i (leg_lists hs))))
more_legs_row [] i more lt = absurd (omega arith)
more_legs_row (g ∷ []) i more lt = absurd (more refl)
more_legs_row (g ∷ f ∷ hs) i more lt = row_there (elements_in g) (elements_in f) (leg_lists hs) i lt

-- the fields of a row, one after another

pub field_within : (hs : List Held) (i k : ℕ) (h : Held) → AllReach i (leg_lists hs) → k < length hs → h ≡ get_or hs k h → i < length (elements_in h)
field_within [] i k h r lt e = absurd (omega arith)
field_within (g ∷ hs) i zero h r lt e = subst (λ x. i < length (elements_in x)) (sym e) r.0
field_within (g ∷ hs) i (suc k) h r lt e = field_within hs i k h r.1 (omega arith) e

assoc : (xs : List Value) (v : Value) (ys : List Value) → (xs ++ v ∷ []) ++ ys ≡ xs ++ v ∷ ys
assoc [] v ys = refl
assoc (x ∷ xs) v ys = ap (λ l. x ∷ l) (assoc xs v ys)

pub one_field_more : (hs : List Held) (i k : ℕ) (h : Held) (v : Value) (old all : List Value) → k < length hs → h ≡ get_or hs k h → slice_get (elements_in h) i ≡ Some v → old ++ elements_at i (leg_lists (drop k hs)) ≡ all → (old ++ v ∷ []) ++ elements_at i (leg_lists (drop (k + 1) hs)) ≡ all
one_field_more hs i k h v old all lt e is same =
    let front : elements_at i (leg_lists (drop k hs)) ≡ v ∷ elements_at i (leg_lists (drop (k + 1) hs)) =
    ap (elements_at i) (lists_more hs k h lt e) ∙ ap (λ o. option_to_list o ++ elements_at i (leg_lists (drop (k + 1) hs))) is in
    assoc old v (elements_at i (leg_lists (drop (k + 1) hs))) ∙ ap (λ l. old ++ l) (sym front) ∙ same

nothing_more : (hs : List Held) (i k : ℕ) → length hs ≤ k → elements_at i (leg_lists (drop k hs)) ≡ []
nothing_more [] i zero le = refl
nothing_more [] i (suc k) le = refl
nothing_more (h ∷ hs) i zero le = absurd (omega arith)
nothing_more (h ∷ hs) i (suc k) le = nothing_more hs i k (omega arith)

append_none : (xs : List Value) → xs ++ [] ≡ xs
append_none [] = refl
append_none (x ∷ xs) = ap (λ l. x ∷ l) (append_none xs)

pub no_field_more : (hs : List Held) (i k : ℕ) (old all : List Value) → length hs ≤ k → old ++ elements_at i (leg_lists (drop k hs)) ≡ all → old ≡ all
no_field_more hs i k old all le same = sym (ap (λ l. old ++ l) (nothing_more hs i k le) ∙ append_none old) ∙ same
