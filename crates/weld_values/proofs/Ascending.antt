-- Entries by rising keys: entries have at most one such order, and have one unless two keys are equal.
use Rattle.std.proofs.Common.{◌≡◌, ◌⊎◌, inl, inr, sym, ◌∙◌, ℕ, zero, suc, ◌<◌, List, [], ◌∷◌, length, get_or, slice_get, Some, refl, ap, subst, subst₂, All, arith}
use Rattle.std.proofs.lemmas.List.Elements.{All-cons, All-nil, All-head, All-tail}
use Rattle.std.proofs.lemmas.List.Sorted.{All-permutation, IsPermutation-refl, IsPermutation-sym, IsPermutation-trans, IsPermutation-cons, IsPermutation-swap}
use Rattle.std.proofs.lemmas.Option.{slice_get_within, get_or_from_slice_get}
use Rattle.std.specs.List.Sorted.{IsPermutation}
use Rattle.weld_data.specs.Value.{Value}
use Rattle.weld_data.specs.Order.{KeyLess, SameKeyType, KeyType, HasKeyType, Rises}
use Rattle.weld_data.proofs.Keys.{KeyLess_irrefl, KeyLess_trans, KeyLess_total, key_types_agree, key_of_type}
use Rattle.weld_sorted.specs.Repeats.{HaveOneKey, HaveOneKeyType}

abbrev pub Pairing : Type 0
Pairing = Value × Value

-- the entry comes before each of these
abbrev IsBelow : Pairing → List Pairing → Type 0
IsBelow e es = All (λ (x : Pairing). KeyLess e.0 x.0) es

-- each entry comes before those after it
abbrev Ascends : List Pairing → Type 0
Ascends [] = Unit {0}
Ascends (e ∷ es) = IsBelow e es × Ascends es

-- the entry is one of these
abbrev Among : Pairing → List Pairing → Type 0
Among x [] = ⊥
Among x (y ∷ ys) = (x ≡ y) ⊎ Among x ys

rises_ascends : (es : List Pairing) → Rises es → Ascends es
rises_ascends [] r = tt
rises_ascends (e ∷ es) r = (λ k d l. (r.rise 0 (suc k) d (omega arith) (omega arith)).less, rises_ascends es (record { keys = λ k d l. r.keys (suc k) d (omega arith); rise = λ i j d l m. r.rise (suc i) (suc j) d (omega arith) (omega arith) }))

-- ---- what is among entries

below_among : (e x : Pairing) (es : List Pairing) → IsBelow e es → Among x es → KeyLess e.0 x.0
below_among e x [] b a = absurd a
below_among e x (y ∷ ys) b (inl s) = subst (λ (z : Pairing). KeyLess e.0 z.0) (sym s) (All-head (λ (z : Pairing). KeyLess e.0 z.0) y ys b)
below_among e x (y ∷ ys) b (inr a) = below_among e x ys (All-tail (λ (z : Pairing). KeyLess e.0 z.0) y ys b) a

all_among : (xs es : List Pairing) → ((x : Pairing) → Among x xs → Among x es) → All (λ (x : Pairing). Among x es) xs
all_among [] es h = All-nil (λ (x : Pairing). Among x es)
all_among (y ∷ ys) es h = All-cons (λ (x : Pairing). Among x es) y ys (h y (inl refl)) (all_among ys es (λ x a. h x (inr a)))

among_all : (P : Pairing → Type 0) (x : Pairing) (es : List Pairing) → All P es → Among x es → P x
among_all P x [] h a = absurd a
among_all P x (y ∷ ys) h (inl s) = subst P (sym s) (All-head P y ys h)
among_all P x (y ∷ ys) h (inr a) = among_all P x ys (All-tail P y ys h) a

-- the other order has no further entries
among_moved : (es fs : List Pairing) → IsPermutation es fs → (x : Pairing) → Among x fs → Among x es
among_moved es fs p x a = among_all (λ (y : Pairing). Among y es) x fs (All-permutation (λ (y : Pairing). Among y es) es fs p (all_among es es (λ y b. b))) a

-- ---- one order at most

abbrev Within : List Pairing → List Pairing → Type 0
Within es fs = (x : Pairing) → Among x es → Among x fs

heads_same : (e f : Pairing) (es fs : List Pairing) → IsBelow e es → IsBelow f fs → Among e (f ∷ fs) → Among f (e ∷ es) → e ≡ f
heads_same e f es fs b c (inl s) k = s
heads_same e f es fs b c (inr h) (inl s) = sym s
heads_same e f es fs b c (inr h) (inr k) = absurd (KeyLess_irrefl e.0 (KeyLess_trans e.0 f.0 e.0 (below_among e f es b k) (below_among f e fs c h)))

tail_within_by : (e f x : Pairing) (es fs : List Pairing) → IsBelow e es → e ≡ f → Among x es → Among x (f ∷ fs) → Among x fs
tail_within_by e f x es fs b s a (inr h) = h
tail_within_by e f x es fs b s a (inl t) = absurd (KeyLess_irrefl e.0 (subst (λ (y : Pairing). KeyLess e.0 y.0) (t ∙ sym s) (below_among e x es b a)))

tail_within : (e f : Pairing) (es fs : List Pairing) → IsBelow e es → e ≡ f → Within (e ∷ es) (f ∷ fs) → Within es fs
tail_within e f es fs b s w x a = tail_within_by e f x es fs b s a (w x (inr a))

same_order : (es fs : List Pairing) → Ascends es → Ascends fs → Within es fs → Within fs es → es ≡ fs
same_order [] [] a b v w = refl
same_order [] (f ∷ fs) a b v w = absurd (w f (inl refl))
same_order (e ∷ es) [] a b v w = absurd (v e (inl refl))
same_order (e ∷ es) (f ∷ fs) a b v w =
    let s = heads_same e f es fs a.0 b.0 (v e (inl refl)) (w f (inl refl)) in
    ap (λ (x : Pairing). x ∷ es) s ∙ ap (λ (xs : List Pairing). f ∷ xs) (same_order es fs a.1 b.1 (tail_within e f es fs a.0 s v) (tail_within f e fs es b.0 (sym s) w))

pub one_order : (es fs gs : List Pairing) → IsPermutation es fs → Rises fs → IsPermutation es gs → Rises gs → fs ≡ gs
one_order es fs gs p r q s =
    let there = IsPermutation-trans fs es gs (IsPermutation-sym es fs p) q in
    same_order fs gs (rises_ascends fs r) (rises_ascends gs s) (among_moved gs fs (IsPermutation-sym fs gs there)) (among_moved fs gs there)

-- rising keys are not equal
pub rising_apart : (es : List Pairing) → Rises es → HaveOneKey es → ⊥
rising_apart es r (i, j, e, f, l, s, u, same) =
    let first : get_or es i e ≡ e = get_or_from_slice_get es i e e s in
    let second : get_or es j e ≡ f = get_or_from_slice_get es j f e u in
    let less : KeyLess (get_or es i e).0 (get_or es j e).0 = (r.rise i j e l (slice_get_within es j f u)).less in
    KeyLess_irrefl f.0 (subst (λ (x : Value). KeyLess x f.0) same (subst₂ (λ (x y : Pairing). KeyLess x.0 y.0) first second less))

-- ---- one order at least

-- an entry of the key is there
abbrev HasKey : Value → List Pairing → Type 0
HasKey key es = (i : ℕ) × (x : Pairing) × (slice_get es i ≡ Some x) × (x.0 ≡ key)

find_key : (key : Value) (es : List Pairing) (x : Pairing) → Among x es → x.0 ≡ key → HasKey key es
find_key key [] x a e = absurd a
find_key key (y ∷ ys) x (inl s) e = (0, y, refl, ap (λ (z : Pairing). z.0) (sym s) ∙ e)
find_key key (y ∷ ys) x (inr a) e = let h = find_key key ys x a e in (suc h.0, h.1, h.2, h.3)

-- entries whose keys rise, in place of these
abbrev Ordered : List Pairing → Type 0
Ordered es = (fs : List Pairing) × IsPermutation es fs × Ascends fs

abbrev KeyAmong : Value → List Pairing → Type 0
KeyAmong key es = (x : Pairing) × Among x es × (x.0 ≡ key)

put_first : (e g : Pairing) (gs : List Pairing) → KeyLess e.0 g.0 → IsBelow g gs → IsBelow e (g ∷ gs)
put_first e g gs l b = All-cons (λ (x : Pairing). KeyLess e.0 x.0) g gs l (λ k d h. KeyLess_trans e.0 g.0 (get_or gs k d).0 l (b k d h))

put_later : (e g : Pairing) (gs : List Pairing) → KeyLess g.0 e.0 → IsBelow g gs → Ordered (e ∷ gs) → Ordered (e ∷ g ∷ gs)
put_later e g gs l b (hs, p, a) = (
  g ∷ hs,
  IsPermutation-trans (e ∷ g ∷ gs) (g ∷ e ∷ gs) (g ∷ hs) (IsPermutation-swap (e ∷ g ∷ gs) (g ∷ e ∷ gs) 0 1 (omega arith) (omega arith) refl) (IsPermutation-cons g (e ∷ gs) hs p),
  (All-permutation (λ (x : Pairing). KeyLess g.0 x.0) (e ∷ gs) hs p (All-cons (λ (x : Pairing). KeyLess g.0 x.0) e gs l b), a),
)

put_in : (e : Pairing) (gs : List Pairing) → All (λ (x : Pairing). SameKeyType e.0 x.0) gs → Ascends gs → Ordered (e ∷ gs) ⊎ KeyAmong e.0 gs
put_in e [] t a = inl (e ∷ [], IsPermutation-refl (e ∷ []), (All-nil (λ (x : Pairing). KeyLess e.0 x.0), tt))
put_in e (g ∷ gs) t a = by (KeyLess_total e.0 g.0 (All-head (λ (x : Pairing). SameKeyType e.0 x.0) g gs t)) (put_in e gs (All-tail (λ (x : Pairing). SameKeyType e.0 x.0) g gs t) a.1)
  where
    by : KeyLess e.0 g.0 ⊎ ((e.0 ≡ g.0) ⊎ KeyLess g.0 e.0) → Ordered (e ∷ gs) ⊎ KeyAmong e.0 gs → Ordered (e ∷ g ∷ gs) ⊎ KeyAmong e.0 (g ∷ gs)
    by (inl l) o = inl (e ∷ g ∷ gs, IsPermutation-refl (e ∷ g ∷ gs), (put_first e g gs l a.0, a))
    by (inr (inl s)) o = inr (g, inl refl, sym s)
    by (inr (inr l)) (inl o) = inl (put_later e g gs l a.0 o)
    by (inr (inr l)) (inr (x, m, s)) = inr (x, inr m, s)

order_by : (e : Pairing) (es fs : List Pairing) → IsPermutation es fs → Ordered (e ∷ fs) ⊎ KeyAmong e.0 fs → Ordered (e ∷ es) ⊎ HaveOneKey (e ∷ es)
order_by e es fs p (inl (gs, q, a)) = inl (gs, IsPermutation-trans (e ∷ es) (e ∷ fs) gs (IsPermutation-cons e es fs p) q, a)
order_by e es fs p (inr (x, m, s)) =
    let h = find_key e.0 es x (among_moved es fs p x m) s in
    inr (0, suc h.0, e, h.1, omega arith, refl, h.2, sym h.3)

typed_alike : (t : KeyType) (e : Pairing) (fs : List Pairing) → HasKeyType t e.0 → All (λ (x : Pairing). HasKeyType t x.0) fs → All (λ (x : Pairing). SameKeyType e.0 x.0) fs
typed_alike t e fs h all k d l = key_types_agree t e.0 (get_or fs k d).0 h (all k d l)

order_or : (t : KeyType) (es : List Pairing) → All (λ (x : Pairing). HasKeyType t x.0) es → Ordered es ⊎ HaveOneKey es
order_or t [] h = inl ([], IsPermutation-refl [], tt)
order_or t (e ∷ es) h = by (order_or t es (All-tail (λ (x : Pairing). HasKeyType t x.0) e es h))
  where
    by : Ordered es ⊎ HaveOneKey es → Ordered (e ∷ es) ⊎ HaveOneKey (e ∷ es)
    by (inr (i, j, x, y, l, s, u, same)) = inr (suc i, suc j, x, y, omega (arith, l), s, u, same)
    by (inl (fs, p, a)) =
        let typed = All-permutation (λ (x : Pairing). HasKeyType t x.0) es fs p (All-tail (λ (x : Pairing). HasKeyType t x.0) e es h) in
        order_by e es fs p (put_in e fs (typed_alike t e fs (All-head (λ (x : Pairing). HasKeyType t x.0) e es h) typed) a)

ascends_at : (es : List Pairing) (i j : ℕ) (d : Pairing) → Ascends es → i < j → j < length es → KeyLess (get_or es i d).0 (get_or es j d).0
ascends_at [] i j d a l h = absurd (omega arith)
ascends_at (e ∷ es) i zero d a l h = absurd (omega arith)
ascends_at (e ∷ es) zero (suc j) d a l h = a.0 j d (omega arith)
ascends_at (e ∷ es) (suc i) (suc j) d a l h = ascends_at es i j d a.1 (omega arith) (omega arith)

ascends_rises : (t : KeyType) (es : List Pairing) → All (λ (x : Pairing). HasKeyType t x.0) es → Ascends es → Rises es
ascends_rises t es h a = record {
  keys = λ k d l. key_of_type t (get_or es k d).0 (h k d l);
  rise = λ i j d l m. record { same_type = key_types_agree t (get_or es i d).0 (get_or es j d).0 (h i d (omega (arith, l, m))) (h j d m); less = ascends_at es i j d a l m };
}

-- of entries whose keys are of one type there is an order by rising keys, or two keys are equal
pub an_order : (es : List Pairing) → HaveOneKeyType es → ((fs : List Pairing) × IsPermutation es fs × Rises fs) ⊎ HaveOneKey es
an_order es t = by (order_or t.0 es t.1)
  where
    by : Ordered es ⊎ HaveOneKey es → ((fs : List Pairing) × IsPermutation es fs × Rises fs) ⊎ HaveOneKey es
    by (inr h) = inr h
    by (inl (fs, p, a)) = inl (fs, p, ascends_rises t.0 fs (All-permutation (λ (x : Pairing). HasKeyType t.0 x.0) es fs p t.1) a)
