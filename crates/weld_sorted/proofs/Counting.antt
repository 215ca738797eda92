-- Equal keys of a list that was put in another order.
use Rattle.std.proofs.Common.{◌≡◌, ℕ, zero, suc, ◌+◌, ◌<◌, ◌≤◌, List, [], ◌∷◌, slice_get, Option, Some, None, IfSome, IfNone, Bool, true, false, ap, sym, refl, ◌∙◌, arith, ◌⊎◌, inl, inr}
use Rattle.std.specs.List.{sum_by}
use Rattle.std.specs.List.Sorted.{IsPermutation}
use Rattle.std.proofs.lemmas.List.Sorted.{All-permutation, sum_by-IsPermutation}
use Rattle.std.proofs.lemmas.List.Sums.{sum_by-cons}
use Rattle.weld_data.specs.Value.{Value}
use Rattle.weld_data.specs.Order.{HasKeyType}
use Rattle.weld_data.specs.Lookup.{same_value}
use Rattle.weld_data.proofs.Lookups.{Decides-same_value}
use Rattle.weld_sorted.specs.Repeats.{HaveOneKey, HaveOneKeyType}

abbrev Pairing : Type 0
Pairing = Value × Value

abbrev truth_value : Bool → ℕ
truth_value true = 1
truth_value false = 0

-- 1 where the entry has the key, and else 0
abbrev has_key : Value → Pairing → ℕ
has_key key e = truth_value (same_value e.0 key)

-- how many entries have the key
abbrev count : Value → List Pairing → ℕ
count key es = sum_by (has_key key) es

counted_by : (key : Value) (e : Pairing) (b : Bool) → same_value e.0 key ≡ b → has_key key e ≡ truth_value b
counted_by key e b h = ap truth_value h

counted : (key : Value) (e : Pairing) → e.0 ≡ key → has_key key e ≡ 1
counted key e h = counted_by key e true ((Decides-same_value e.0 key).1 h)

-- an entry has the key, or it doesn't count
by_key : (key : Value) (e : Pairing) → (e.0 ≡ key) ⊎ (has_key key e ≡ 0)
by_key key e = by (same_value e.0 key) refl
  where
    by : (b : Bool) → same_value e.0 key ≡ b → (e.0 ≡ key) ⊎ (has_key key e ≡ 0)
    by true h = inl ((Decides-same_value e.0 key).0 h)
    by false h = inr (counted_by key e false h)

at_least_one : (key : Value) (es : List Pairing) (i : ℕ) (e : Pairing) → slice_get es i ≡ Some e → e.0 ≡ key → 1 ≤ count key es
at_least_one key [] i e s h = absurd (cc)
at_least_one key (x ∷ xs) zero e s h =
    let same : x ≡ e = cc in
    let one : has_key key x ≡ 1 = counted key x (ap (λ (y : Pairing). y.0) same ∙ h) in
    let sum : count key (x ∷ xs) ≡ has_key key x + count key xs = sum_by-cons (has_key key) x xs in
    omega (arith, one, sum)
at_least_one key (x ∷ xs) (suc i) e s h =
    let more = at_least_one key xs i e s h in
    let sum : count key (x ∷ xs) ≡ has_key key x + count key xs = sum_by-cons (has_key key) x xs in
    omega (arith, more, sum)

at_least_two : (key : Value) (es : List Pairing) (i j : ℕ) (e f : Pairing) → i < j → slice_get es i ≡ Some e → slice_get es j ≡ Some f → e.0 ≡ key → f.0 ≡ key → 2 ≤ count key es
at_least_two key [] i j e f l s t h k = absurd (cc)
at_least_two key (x ∷ xs) i zero e f l s t h k = absurd (omega arith)
at_least_two key (x ∷ xs) zero (suc j) e f l s t h k =
    let same : x ≡ e = cc in
    let one : has_key key x ≡ 1 = counted key x (ap (λ (y : Pairing). y.0) same ∙ h) in
    let more = at_least_one key xs j f t k in
    let sum : count key (x ∷ xs) ≡ has_key key x + count key xs = sum_by-cons (has_key key) x xs in
    omega (arith, one, more, sum)
at_least_two key (x ∷ xs) (suc i) (suc j) e f l s t h k =
    let more = at_least_two key xs i j e f (omega arith) s t h k in
    let sum : count key (x ∷ xs) ≡ has_key key x + count key xs = sum_by-cons (has_key key) x xs in
    omega (arith, more, sum)

abbrev One : Value → List Pairing → Type 0
One key es = (i : ℕ) × (e : Pairing) × (slice_get es i ≡ Some e) × (e.0 ≡ key)

one_found_by : (key : Value) (x : Pairing) (xs : List Pairing) → (1 ≤ count key xs → One key xs) → 1 ≤ count key (x ∷ xs) → (x.0 ≡ key) ⊎ (has_key key x ≡ 0) → One key (x ∷ xs)
one_found_by key x xs again h (inl e) = (0, x, refl, e)
one_found_by key x xs again h (inr n) =
    let sum : count key (x ∷ xs) ≡ has_key key x + count key xs = sum_by-cons (has_key key) x xs in
    let f = again (omega (arith, n, sum, h)) in
    (suc f.0, f.1, f.2, f.3)

one_found : (key : Value) (es : List Pairing) → 1 ≤ count key es → (i : ℕ) × (e : Pairing) × (slice_get es i ≡ Some e) × (e.0 ≡ key)
one_found key [] h = absurd (omega arith)
one_found key (x ∷ xs) h = one_found_by key x xs (one_found key xs) h (by_key key x)

two_found_by : (key : Value) (x : Pairing) (xs : List Pairing) → (2 ≤ count key xs → HaveOneKey xs) → 2 ≤ count key (x ∷ xs) → (x.0 ≡ key) ⊎ (has_key key x ≡ 0) → HaveOneKey (x ∷ xs)
two_found_by key x xs again h (inl e) =
    let sum : count key (x ∷ xs) ≡ has_key key x + count key xs = sum_by-cons (has_key key) x xs in
    let one : has_key key x ≡ 1 = counted key x e in
    let f = one_found key xs (omega (arith, one, sum, h)) in
    (0, suc f.0, x, f.1, omega arith, refl, f.2, e ∙ sym f.3)
two_found_by key x xs again h (inr n) =
    let sum : count key (x ∷ xs) ≡ has_key key x + count key xs = sum_by-cons (has_key key) x xs in
    let (i, j, e, f, l, s, t, k) = again (omega (arith, n, sum, h)) in
    (suc i, suc j, e, f, omega (arith, l), s, t, k)

two_found : (key : Value) (es : List Pairing) → 2 ≤ count key es → HaveOneKey es
two_found key [] h = absurd (omega arith)
two_found key (x ∷ xs) h = two_found_by key x xs (two_found key xs) h (by_key key x)

pub repeats_before : (es fs : List Pairing) → IsPermutation es fs → HaveOneKey fs → HaveOneKey es
repeats_before es fs p (i, j, e, f, l, s, t, k) =
    let two = at_least_two e.0 fs i j e f l s t refl (sym k) in
    let same : count e.0 fs ≡ count e.0 es = sum_by-IsPermutation (has_key e.0) es fs p in
    two_found e.0 es (omega (arith, two, same))

pub one_type_after : (es fs : List Pairing) → IsPermutation es fs → HaveOneKeyType es → HaveOneKeyType fs
one_type_after es fs p t = (t.0, All-permutation (λ (e : Pairing). HasKeyType t.0 e.0) es fs p t.1)

pub none_then : {A : Type 0} {P Q : Type 0} (o : Option A) → IfNone o P → (P → Q) → IfNone o Q
none_then None h f = f h
none_then (Some x) h f = h

pub some_then : {A : Type 0} {P Q : A → Type 0} (o : Option A) → IfSome o P → ((x : A) → P x → Q x) → IfSome o Q
some_then None h f = h
some_then (Some x) h f = f x h
