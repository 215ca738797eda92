-- Entries whose keys fall, taken from the last to the first.
use Rattle.std.proofs.Common.{◌≡◌, ℕ, suc, ◌+◌, ◌-◌, ◌<◌, ◌≤◌, List, [], ◌∷◌, ◌++◌, length, drop, reverse, get_or, slice_get, Some, All, Ordering, Less, Equal, Greater, ap, sym, subst, subst₂, refl, ◌∙◌, arith, ◌⊎◌, inl, inr, eq-or-lt_of_le, add-one}
use Rattle.std.proofs.lemmas.Bool.{false≢true}
use Rattle.std.proofs.lemmas.Option.{slice_get-get_or, get_or_from_slice_get}
use Rattle.std.proofs.lemmas.List.{length-reverse, get_or-reverse, get_or-drop, length-drop, length-append, append_assoc, reverse-append, reverse-reverse}
use Rattle.std.proofs.Math.Seq.{get_or-append_seam}
use Rattle.std.specs.Ordering.{is_lt}
use Rattle.std.specs.List.Sorted.{IsSorted}
use Rattle.weld_data.specs.Value.{Value}
use Rattle.weld_data.specs.Order.{KeyLess, KeyStands, HasKeyType, SameKeyType, IsKeyFor, Rises, CanFollow}
use Rattle.weld_data.proofs.Keys.{KeyLess_irrefl, KeyLess_trans, key_types_agree, key_of_type}
use Rattle.weld_builders.specs.ValueOrder.{value_cmp}
use Rattle.weld_builders.proofs.Steps.{keys_stand}
use Rattle.weld_sorted.specs.EntryOrder.{entry_cmp}
use Rattle.weld_sorted.specs.Repeats.{HaveOneKey, HaveOneKeyType, IsLast, LastStands}

abbrev Pairing : Type 0
Pairing = Value × Value

-- ---- the last of rising keys decides

all_less : (es : List Pairing) (key : Value) (e : Pairing) → 0 < length es → slice_get es (length es - 1) ≡ Some e → Rises es → KeyLess e.0 key → All (λ (x : Pairing). KeyLess x.0 key) es
all_less es key e h s r l k d w = by (eq-or-lt_of_le (let b : k ≤ length es - 1 = omega arith in b))
  where
    at_end : get_or es (length es - 1) d ≡ e
    at_end = get_or_from_slice_get es (length es - 1) e d s

    by : (k ≡ length es - 1) ⊎ (k < length es - 1) → KeyLess (get_or es k d).0 key
    by (inl q) = subst (λ (x : Pairing). KeyLess x.0 key) (sym (ap (λ (i : ℕ). get_or es i d) q ∙ at_end)) l
    by (inr q) = KeyLess_trans (get_or es k d).0 e.0 key (subst (λ (x : Pairing). KeyLess (get_or es k d).0 x.0) at_end (r.rise k (length es - 1) d q (omega arith)).less) l

pub last_stands : (es : List Pairing) (key : Value) (e : Pairing) (o : Ordering) → 0 < length es → slice_get es (length es - 1) ≡ Some e → Rises es → KeyStands o e.0 key → LastStands o es key
last_stands es key e Less h s r l = all_less es key e h s r l
last_stands es key e Equal h s r l = (e, h, s, l)
last_stands es key e Greater h s r l = (e.0, (e, h, s, refl), l)

pub no_entry_stands : (es : List Pairing) (key : Value) → length es ≡ 0 → LastStands Less es key
no_entry_stands es key h = λ k d w. absurd (omega arith)

-- ---- the last of those that were taken is the next one of the list

pub last_is : (es : List Pairing) (n : ℕ) (k : Value) (d : Pairing) → IsLast (reverse (drop n es)) k → (n < length es) × ((get_or es n d).0 ≡ k)
last_is es n k d (e, h, s, q) =
    let ls = drop n es in
    let len : length (reverse ls) ≡ length ls = length-reverse ls in
    let some : 0 < length ls = omega (arith, len, h) in
    let rest : length ls ≡ length es - n = length-drop n es in
    let here : get_or (reverse ls) (length ls - 1) d ≡ e = get_or_from_slice_get (reverse ls) (length ls - 1) e d (subst (λ (i : ℕ). slice_get (reverse ls) (i - 1) ≡ Some e) len s) in
    let first : length ls - 1 - (length ls - 1) ≡ 0 = omega arith in
    let there : get_or (reverse ls) (length ls - 1) d ≡ get_or ls (length ls - 1 - (length ls - 1)) d = get_or-reverse ls (length ls - 1) d (omega (arith, some)) in
    let front : get_or ls 0 d ≡ get_or es (n + 0) d = get_or-drop n es 0 d in
    let plain : n + 0 ≡ n = omega arith in
    let all : get_or es n d ≡ e = sym (ap (λ (i : ℕ). get_or es i d) plain) ∙ sym front ∙ sym (ap (λ (i : ℕ). get_or ls i d) first) ∙ sym there ∙ here in
    (omega (arith, some, rest), ap (λ (x : Pairing). x.0) all ∙ q)

-- ---- falling keys

less_cmp : (x y : Value) → SameKeyType x y → KeyLess x y → value_cmp x y ≡ Less
less_cmp x y s l = by (value_cmp x y) (keys_stand x y s) refl
  where
    by : (o : Ordering) → KeyStands o x y → value_cmp x y ≡ o → value_cmp x y ≡ Less
    by Less h e = e
    by Equal h e = absurd (KeyLess_irrefl y (subst (λ (z : Value). KeyLess z y) h l))
    by Greater h e = absurd (KeyLess_irrefl x (KeyLess_trans x y x l h))

never_less : (es : List Pairing) (m : ℕ) (d : Pairing) → IsSorted entry_cmp es → HaveOneKeyType es → m + 1 < length es → KeyLess (get_or es m d).0 (get_or es (m + 1) d).0 → ⊥
never_less es m d f t h l =
    let same = key_types_agree t.0 (get_or es m d).0 (get_or es (m + 1) d).0 (t.1 m d (omega arith)) (t.1 (m + 1) d h) in
    let less = less_cmp (get_or es m d).0 (get_or es (m + 1) d).0 same l in
    false≢true (sym (f m d (omega arith) h) ∙ ap is_lt less)

-- the next key is not less than the last one that was taken
pub not_greater : (es done : List Pairing) (m : ℕ) (x : Pairing) → IsSorted entry_cmp es → HaveOneKeyType es → m < length es → x ≡ get_or es m x → done ≡ reverse (drop (m + 1) es) → LastStands Greater done x.0 → ⊥
not_greater es done m x f t h e p (k, i, l) =
    let (w, q) = last_is es (m + 1) k x (subst (λ (ds : List Pairing). IsLast ds k) p i) in
    never_less es m x f t w (subst₂ (λ (a b : Value). KeyLess a b) (ap (λ (y : Pairing). y.0) e) (sym q) l)

-- where it equals it, two entries have one key
pub one_key : (es done : List Pairing) (m : ℕ) (x : Pairing) → m < length es → x ≡ get_or es m x → done ≡ reverse (drop (m + 1) es) → LastStands Equal done x.0 → HaveOneKey es
one_key es done m x h e p i =
    let (w, q) = last_is es (m + 1) x.0 x (subst (λ (ds : List Pairing). IsLast ds x.0) p i) in
    (m, m + 1, get_or es m x, get_or es (m + 1) x, omega arith, slice_get-get_or es m x h, slice_get-get_or es (m + 1) x w, sym (ap (λ (y : Pairing). y.0) e) ∙ sym q)

-- ---- key types

taken_typed : (es : List Pairing) (n : ℕ) (t : HaveOneKeyType es) → All (λ (e : Pairing). HasKeyType t.0 e.0) (reverse (drop n es))
taken_typed es n t k d h =
    let ls = drop n es in
    let len : length (reverse ls) ≡ length ls = length-reverse ls in
    let within : k < length ls = omega (arith, len, h) in
    let rest : length ls ≡ length es - n = length-drop n es in
    let place : n + (length ls - 1 - k) < length es = omega (arith, rest, within) in
    subst (λ (x : Pairing). HasKeyType t.0 x.0) (sym (get_or-reverse ls k d within ∙ get_or-drop n es (length ls - 1 - k) d)) (t.1 (n + (length ls - 1 - k)) d place)

pub taken_fit : (es done : List Pairing) (m : ℕ) (x : Pairing) → HaveOneKeyType es → m < length es → x ≡ get_or es m x → done ≡ reverse (drop (m + 1) es) → IsKeyFor done x.0
taken_fit es done m x t h e p = λ k d w.
    key_types_agree t.0 (get_or done k d).0 x.0
    (subst (λ (ds : List Pairing). All (λ (y : Pairing). HasKeyType t.0 y.0) ds) (sym p) (taken_typed es (m + 1) t) k d w)
    (subst (λ (y : Pairing). HasKeyType t.0 y.0) (sym e) (t.1 m x h))

pub follows : (es done : List Pairing) (m : ℕ) (x : Pairing) → HaveOneKeyType es → m < length es → x ≡ get_or es m x → done ≡ reverse (drop (m + 1) es) → LastStands Less done x.0 → CanFollow done x.0
follows es done m x t h e p l = record {
  is_key = key_of_type t.0 x.0 (subst (λ (y : Pairing). HasKeyType t.0 y.0) (sym e) (t.1 m x h));
  follows = λ k d w. record { same_type = taken_fit es done m x t h e p k d w; less = l k d w };
}

-- ---- one is taken

skipped : (rest : List Pairing) (x : Pairing) (more : List Pairing) → drop (suc (length rest)) (rest ++ x ∷ more) ≡ more
skipped [] x more = refl
skipped (y ∷ ys) x more = skipped ys x more

-- x is the last that was left, and stands before those that were taken
pub record IsNext (es rest done : List Pairing) (x : Pairing) : Type 0 where
  pub within : length rest < length es
  pub is : x ≡ get_or es (length rest) x
  pub taken : done ≡ reverse (drop (length rest + 1) es)

pub whole : (es left rest done : List Pairing) (x : Pairing) → es ≡ left ++ reverse done → left ≡ rest ++ x ∷ [] → es ≡ rest ++ x ∷ reverse done
whole es left rest done x e l = e ∙ ap (λ (ls : List Pairing). ls ++ reverse done) l ∙ append_assoc rest (x ∷ []) (reverse done)

pub next : (es left rest done : List Pairing) (x : Pairing) → es ≡ left ++ reverse done → left ≡ rest ++ x ∷ [] → IsNext es rest done x
next es left rest done x e l =
    let w = whole es left rest done x e l in
    let len : length es ≡ length rest + length (x ∷ reverse done) = ap length w ∙ length-append rest (x ∷ reverse done) in
    record {
      within = omega (arith, len);
      is = sym (ap (λ (ls : List Pairing). get_or ls (length rest) x) w ∙ get_or-append_seam rest x (reverse done) x);
      taken = sym (ap (λ (ls : List Pairing). reverse (drop (length rest + 1) ls)) w ∙ ap (λ (n : ℕ). reverse (drop n (rest ++ x ∷ reverse done))) (add-one (length rest)) ∙ ap reverse (skipped rest x (reverse done)) ∙ reverse-reverse done);
    }

pub taken_more : (es left rest done : List Pairing) (x : Pairing) → es ≡ left ++ reverse done → left ≡ rest ++ x ∷ [] → es ≡ rest ++ reverse (done ++ x ∷ [])
taken_more es left rest done x e l = whole es left rest done x e l ∙ ap (λ (ls : List Pairing). rest ++ ls) (sym (reverse-append done (x ∷ [])))

pub all_taken : (es left done : List Pairing) → es ≡ left ++ reverse done → length left ≡ 0 → done ≡ reverse es
all_taken es [] done e h = sym (ap reverse e ∙ reverse-reverse done)
all_taken es (x ∷ xs) done e h = absurd (omega arith)
