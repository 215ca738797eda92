-- A loop that writes each element of a list: the elements that are written and those that are left.
use Rattle.std.proofs.Common.{◌≡◌, ◌≢◌, ◌∙◌, sym, subst, ◌<◌, ◌≤◌, ◌+◌, ℕ, zero, suc, List, [], ◌∷◌, length, get_or, set, arith, below_more, get_or-set_other, get_or-set_same}
use Rattle.std.proofs.lemmas.List.{get_or_default}
use Rattle.std.specs.List.{All, AllZip}

pub zip_more : {A : Type 0} (R : A → A → Type 0) (old cols : List A) (i : ℕ) (item new : A) → i < length cols → length cols ≡ length old
    → ((k : ℕ) (d : A) → k < i → R (get_or old k d) (get_or cols k d))
    → ((k : ℕ) (d : A) → i ≤ k → get_or cols k d ≡ get_or old k d)
    → R (get_or cols i item) new
    → (k : ℕ) (d : A) → k < i + 1 → R (get_or old k d) (get_or (set cols i new) k d)
zip_more R old cols i item new there same read left grown k d =
    below_more (λ (j : ℕ). R (get_or old j d) (get_or (set cols i new) j d)) i
    (λ j h. let ne : j ≢ i = omega arith in subst (R (get_or old j d)) (sym (get_or-set_other cols i j new d ne)) (read j d h))
    (let here : get_or old i d ≡ get_or cols i item = sym (left i d (omega arith)) ∙ get_or_default cols i d item there in
    let now : get_or (set cols i new) i d ≡ new = get_or-set_same cols i new d there in
    subst (λ x. R x (get_or (set cols i new) i d)) (sym here) (subst (R (get_or cols i item)) (sym now) grown))
    k

pub left_more : {A : Type 0} (old cols : List A) (i : ℕ) (new : A)
    → ((k : ℕ) (d : A) → i ≤ k → get_or cols k d ≡ get_or old k d)
    → (k : ℕ) (d : A) → i + 1 ≤ k → get_or (set cols i new) k d ≡ get_or old k d
left_more old cols i new left k d h =
    let ne : k ≢ i = omega arith in get_or-set_other cols i k new d ne ∙ left k d (omega arith)

pub zipped : {A : Type 0} (R : A → A → Type 0) (xs ys : List A) → length ys ≡ length xs
    → ((k : ℕ) (d : A) → k < length xs → R (get_or xs k d) (get_or ys k d)) → AllZip R xs ys
zipped R [] [] e h = tt
zipped R [] (y ∷ ys) e h = absurd (omega (arith, e))
zipped R (x ∷ xs) [] e h = absurd (omega (arith, e))
zipped R (x ∷ xs) (y ∷ ys) e h = (h 0 x (omega arith), zipped R xs ys (omega (arith, e)) (λ k d l. h (suc k) d (omega (arith, l))))

pub zip_same : {A : Type 0} (R : A → A → Type 0) → ((x : A) → R x x) → (xs : List A) → AllZip R xs xs
zip_same R f [] = tt
zip_same R f (x ∷ xs) = (f x, zip_same R f xs)

pub zip_then : {A : Type 0} (R S T : A → A → Type 0) → ((x y z : A) → R x y → S y z → T x z) → (xs ys zs : List A)
    → AllZip R xs ys → AllZip S ys zs → AllZip T xs zs
zip_then R S T f [] [] [] r s = tt
zip_then R S T f [] [] (z ∷ zs) r s = s
zip_then R S T f [] (y ∷ ys) zs r s = absurd r
zip_then R S T f (x ∷ xs) [] zs r s = absurd r
zip_then R S T f (x ∷ xs) (y ∷ ys) [] r s = s
zip_then R S T f (x ∷ xs) (y ∷ ys) (z ∷ zs) r s = (f x y z r.0 s.0, zip_then R S T f xs ys zs r.1 s.1)

-- what holds of each of the first ones holds of each of the others, where it is carried over
pub zip_all : {A : Type 0} (R : A → A → Type 0) (P : A → Type 0) → ((x y : A) → R x y → P x → P y) → (xs ys : List A)
    → AllZip R xs ys → All P xs → All P ys
zip_all R P f [] [] r p k d h = absurd (omega (arith, h))
zip_all R P f [] (y ∷ ys) r p k d h = absurd r
zip_all R P f (x ∷ xs) [] r p k d h = absurd r
zip_all R P f (x ∷ xs) (y ∷ ys) r p zero d h = f x y r.0 (p 0 x (omega arith))
zip_all R P f (x ∷ xs) (y ∷ ys) r p (suc k) d h =
    zip_all R P f xs ys r.1 (λ j e l. p (suc j) e (omega (arith, l))) k d (omega (arith, h))
