-- Structs of two numbers, which are given side by side.
use Rattle.std.proofs.Common.{◌≡◌, sym, ◌∙◌, ℕ, zero, suc, ◌+◌, ◌<◌, ℤ, List, [], ◌∷◌, ◌++◌, length, drop, zip, slice_index_or, refl, ap, subst, arith, add-one, append_assoc, Result, Ok, Err, OnOk}
use Rattle.weld_builders.specs.Range.{AllInRange}
use Rattle.weld_data.specs.declared.kind.Kind.{Kind}
use Rattle.weld_data.specs.Kind.{IsNarrow}
use Rattle.weld_data.specs.Structs.{structs_in, AreStructs, AreKeptStructs}
use Rattle.weld_data.specs.Value.{Value, number}
use Rattle.weld_built.specs.Pair.{pair, number_pairs}
use Rattle.weld_built.specs.Rows.{interleaved}

pub pairs_stand : (k m : Kind) (xs ys : List ℤ) → IsNarrow k → IsNarrow m → AllInRange k xs → AllInRange m ys → length xs ≡ length ys → AreStructs (length xs) (k ∷ m ∷ []) (interleaved xs ys)
pairs_stand k m [] [] a b h g e = refl
pairs_stand k m [] (y ∷ ys) a b h g e = refl
pairs_stand k m (x ∷ xs) [] a b h g e = absurd (omega (arith, e))
pairs_stand k m (x ∷ xs) (y ∷ ys) a b h g e = ((a, h.0, (b, g.0, tt)), pairs_stand k m xs ys a b h.1 g.1 (omega (arith, e)))

pub pairs_kept : (k m : Kind) (ks : List Kind) (xs ys ws : List ℤ) → IsNarrow k → IsNarrow m → AllInRange k xs → AllInRange m ys → length xs ≡ length ys → ks ≡ k ∷ m ∷ [] → ws ≡ interleaved xs ys → AreKeptStructs (length xs) ks ws
pairs_kept k m ks xs ys ws a b h g e p q =
    subst (λ (is : List Kind). AreKeptStructs (length xs) is ws) (sym p)
    (subst (λ (us : List ℤ). AreKeptStructs (length xs) (k ∷ m ∷ []) us) (sym q) (record { some = omega arith; structs = pairs_stand k m xs ys a b h g e }))

pub pairs_are : (k m : Kind) (xs ys : List ℤ) → length xs ≡ length ys → structs_in (length xs) (k ∷ m ∷ []) (interleaved xs ys) ≡ number_pairs k m (zip xs ys)
pairs_are k m [] [] e = refl
pairs_are k m [] (y ∷ ys) e = absurd (omega (arith, e))
pairs_are k m (x ∷ xs) [] e = absurd (omega (arith, e))
pairs_are k m (x ∷ xs) (y ∷ ys) e = ap (λ vs. pair (number k x) (number m y) ∷ vs) (pairs_are k m xs ys (omega (arith, e)))

drop_interleaved : (xs ys : List ℤ) (i : ℕ) (d e : ℤ) → i < length xs → length xs ≡ length ys → interleaved (drop i xs) (drop i ys) ≡ slice_index_or xs i d ∷ slice_index_or ys i e ∷ interleaved (drop (suc i) xs) (drop (suc i) ys)
drop_interleaved [] ys i d e l s = absurd (omega (arith, l))
drop_interleaved (x ∷ xs) [] i d e l s = absurd (omega (arith, s))
drop_interleaved (x ∷ xs) (y ∷ ys) zero d e l s = refl
drop_interleaved (x ∷ xs) (y ∷ ys) (suc i) d e l s = drop_interleaved xs ys i d e (omega (arith, l)) (omega (arith, s))

-- two numbers more
pub two_more : (xs ys : List ℤ) (i : ℕ) (d e x y : ℤ) (out one two whole : List ℤ) → i < length xs → length xs ≡ length ys → x ≡ slice_index_or xs i d → y ≡ slice_index_or ys i e → one ≡ out ++ x ∷ [] → two ≡ one ++ y ∷ [] → out ++ interleaved (drop i xs) (drop i ys) ≡ whole → two ++ interleaved (drop (i + 1) xs) (drop (i + 1) ys) ≡ whole
two_more xs ys i d e x y out one two whole l s p q a b so =
    let rest = interleaved (drop (i + 1) xs) (drop (i + 1) ys) in
    ap (λ zs. zs ++ rest) (b ∙ ap (λ zs. zs ++ y ∷ []) a)
    ∙ append_assoc (out ++ x ∷ []) (y ∷ []) rest
    ∙ append_assoc out (x ∷ []) (y ∷ rest)
    ∙ ap (λ (z : ℤ). out ++ z ∷ y ∷ rest) p
    ∙ ap (λ (z : ℤ). out ++ slice_index_or xs i d ∷ z ∷ rest) q
    ∙ ap (λ (n : ℕ). out ++ slice_index_or xs i d ∷ slice_index_or ys i e ∷ interleaved (drop n xs) (drop n ys)) (add-one i)
    ∙ ap (λ zs. out ++ zs) (sym (drop_interleaved xs ys i d e l s))
    ∙ so

pub appended_as : {T E : Type 0} (r : Result T E) (new old more same : List Value) → more ≡ same → OnOk r (new ≡ old ++ more) → OnOk r (new ≡ old ++ same)
appended_as (Ok x) new old more same e h = h ∙ ap (λ vs. old ++ vs) e
appended_as (Err x) new old more same e h = h
