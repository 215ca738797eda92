-- Patterns and types, place by place.
use Rattle.std.proofs.Common.{◌≡◌, ℕ, zero, suc, ◌+◌, ◌<◌, ◌≤◌, Bool, true, false, List, [], ◌∷◌, length, drop, get_or, Option, Some, None, slice_get, if◌then◌else◌, refl, sym, ap, subst, ◌∙◌, arith}
use Rattle.weld_data.specs.declared.kind.Kind.{Kind}
use Rattle.weld_tree.specs.TypeTree.{TypeTree, struct, pack}
use Rattle.weld_calls.specs.declared.pattern.Pattern.{Pattern}
use Rattle.weld_calls.specs.CallTypes.{is_wanted, k_after, nth_type, unless_some, no_column, misfit_from}
use Rattle.weld_calls.specs.declared.call.Call.TheVariants.{Column}

patterns_at : (ps : List Pattern) (i : ℕ) (p : Pattern) → slice_get ps i ≡ Some p → drop i ps ≡ p ∷ drop (suc i) ps
patterns_at [] i p e = absurd (let no : None ≡ Some p = e in cc)
patterns_at (q ∷ ps) zero p e = let f : Some q ≡ Some p = e in let g : q ≡ p = cc in ap (λ x. x ∷ ps) g
patterns_at (q ∷ ps) (suc i) p e = patterns_at ps i p e

patterns_end : (ps : List Pattern) (i : ℕ) → slice_get ps i ≡ None → drop i ps ≡ []
patterns_end [] zero e = refl
patterns_end [] (suc i) e = refl
patterns_end (q ∷ ps) zero e = absurd (let no : Some q ≡ None = e in cc)
patterns_end (q ∷ ps) (suc i) e = patterns_end ps i e

-- past the row nothing is refused
pub none_past : (k : Option Kind) (n i : ℕ) (ps : List Pattern) (ts : List TypeTree) → slice_get ps i ≡ None → misfit_from k n (drop i ps) ts ≡ None
none_past k n i ps ts e = ap (λ qs. misfit_from k n qs ts) (patterns_end ps i e)

by_test : (b : Bool) (r : Option (ℕ × TypeTree)) (x : ℕ × TypeTree) (c : Bool) → b ≡ c → (if b then r else Some x) ≡ (if c then r else Some x)
by_test b r x c e = ap (λ a. if a then r else Some x) e

-- a type that isn't as wanted
pub refused_here : (k : Option Kind) (n i : ℕ) (p : Pattern) (ps : List Pattern) (t : TypeTree) (ts : List TypeTree) → slice_get ps i ≡ Some p → is_wanted k p t ≡ false
    → misfit_from k n (drop i ps) (t ∷ ts) ≡ Some (n, t)
refused_here k n i p ps t ts e h =
    ap (λ qs. misfit_from k n qs (t ∷ ts)) (patterns_at ps i p e) ∙ by_test (is_wanted k p t) (misfit_from (k_after k p t) (suc n) (drop (suc i) ps) ts) (n, t) false h

-- one that is
pub wanted_here : (k : Option Kind) (n i : ℕ) (p : Pattern) (ps : List Pattern) (t : TypeTree) (ts : List TypeTree) → slice_get ps i ≡ Some p → is_wanted k p t ≡ true
    → misfit_from k n (drop i ps) (t ∷ ts) ≡ misfit_from (k_after k p t) (suc n) (drop (suc i) ps) ts
wanted_here k n i p ps t ts e h =
    ap (λ qs. misfit_from k n qs (t ∷ ts)) (patterns_at ps i p e) ∙ by_test (is_wanted k p t) (misfit_from (k_after k p t) (suc n) (drop (suc i) ps) ts) (n, t) true h

no_types_left : (k : Option Kind) (n : ℕ) (ps : List Pattern) → misfit_from k n ps [] ≡ None
no_types_left k n [] = refl
no_types_left k n (p ∷ ps) = refl

pub at_end : (k : Option Kind) (n : ℕ) (ps : List Pattern) (ts : List TypeTree) → ts ≡ [] → misfit_from k n ps ts ≡ None
at_end k n ps ts e = ap (misfit_from k n ps) e ∙ no_types_left k n ps

-- ---- in a loop over the types

type_at : (ts : List TypeTree) (i : ℕ) (t : TypeTree) → i < length ts → t ≡ get_or ts i t → drop i ts ≡ t ∷ drop (suc i) ts
type_at ts i t h e = drop_at ts i t h ∙ ap (λ x. x ∷ drop (suc i) ts) (sym e)
  where
    drop_at : (xs : List TypeTree) (j : ℕ) (d : TypeTree) → j < length xs → drop j xs ≡ get_or xs j d ∷ drop (suc j) xs
    drop_at [] j d h = absurd (omega (arith, h))
    drop_at (x ∷ xs) zero d h = refl
    drop_at (x ∷ xs) (suc j) d h = drop_at xs j d (omega (arith, h))

pub refuse_at : (k : Option Kind) (place i : ℕ) (p : Pattern) (ps : List Pattern) (t : TypeTree) (ts : List TypeTree) (whole : Option (ℕ × TypeTree))
    → i < length ts → t ≡ get_or ts i t → slice_get ps place ≡ Some p → is_wanted k p t ≡ false
    → misfit_from k (suc place) (drop place ps) (drop i ts) ≡ whole → Some (place + 1, t) ≡ whole
refuse_at k place i p ps t ts whole h e there unlike left =
    let n : place + 1 ≡ suc place = omega arith in
    (λ j. Some (n j, t)) ∙ sym (refused_here k (suc place) place p ps t (drop (suc i) ts) there unlike)
    ∙ sym (ap (misfit_from k (suc place) (drop place ps)) (type_at ts i t h e)) ∙ left

pub go_on_at : (k m : Option Kind) (place i : ℕ) (p : Pattern) (ps : List Pattern) (t : TypeTree) (ts : List TypeTree) (whole : Option (ℕ × TypeTree))
    → i < length ts → t ≡ get_or ts i t → slice_get ps place ≡ Some p → is_wanted k p t ≡ true → m ≡ k_after k p t
    → misfit_from k (suc place) (drop place ps) (drop i ts) ≡ whole → misfit_from m (suc (place + 1)) (drop (place + 1) ps) (drop (i + 1) ts) ≡ whole
go_on_at k m place i p ps t ts whole h e there alike known left =
    let n : place + 1 ≡ suc place = omega arith in
    let l : i + 1 ≡ suc i = omega arith in
    (λ j. misfit_from (known j) (suc (n j)) (drop (n j) ps) (drop (l j) ts)) ∙ sym (wanted_here k (suc place) place p ps t (drop (suc i) ts) there alike)
    ∙ sym (ap (misfit_from k (suc place) (drop place ps)) (type_at ts i t h e)) ∙ left

-- ---- columns

column_at : (n : ℕ) (ts : List TypeTree) → n < length ts → (t : TypeTree) × (nth_type n (pack ts) ≡ Some t)
column_at n [] h = absurd (omega (arith, h))
column_at zero (t ∷ ts) h = (t, refl)
column_at (suc n) (t ∷ ts) h = column_at n ts (omega (arith, h))

column_past : (n : ℕ) (ts : List TypeTree) → length ts ≤ n → nth_type n (pack ts) ≡ None
column_past n [] h = refl
column_past zero (t ∷ ts) h = absurd (omega (arith, h))
column_past (suc n) (t ∷ ts) h = column_past n ts (omega (arith, h))

pub column_there : (n : ℕ) (ts : List TypeTree) (x : ℕ × TypeTree) → n < length ts → unless_some (nth_type n (pack ts)) x ≡ None
column_there n ts x h = ap (λ o. unless_some o x) (column_at n ts h).1

pub column_missing : (n : ℕ) (ts : List TypeTree) (x : ℕ × TypeTree) → length ts ≤ n → unless_some (nth_type n (pack ts)) x ≡ Some x
column_missing n ts x h = ap (λ o. unless_some o x) (column_past n ts h)

-- the struct that a type is
pub struct_at : (n : ℕ) (t : TypeTree) (ts us : List TypeTree) (o : Option (ℕ × TypeTree)) → struct (pack ts) ≡ t
    → unless_some (nth_type n (pack ts)) (2, struct (pack ts)) ≡ o → o ≡ no_column (Column n) (t ∷ us)
struct_at n t ts us o e h = subst (λ x. o ≡ no_column (Column n) (x ∷ us)) e (sym h)
