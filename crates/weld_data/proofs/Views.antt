-- What a loop over the code's list learns of the list that it stands for.
use Rattle.std.proofs.Common.{◌≡◌, ℕ, ◌+◌, ◌<◌, zero, suc, List, [], ◌∷◌, ◌++◌, map, length, take, slice_get, slice_index_or, Some, ap, sym, subst, add-one, ◌∙◌, arith}
use Rattle.std.proofs.lemmas.List.{length-map}

-- an element of the code's list, seen in the list that it stands for
pub view_at : {A B : Type 0} (view : A → B) (items : List A) (vs : List B) (i : ℕ) (v : A) → map view items ≡ vs → i < length items → v ≡ slice_index_or items i v → slice_get vs i ≡ Some (view v)
view_at {A} {B} view items vs i v e h p = subst (λ ws. slice_get ws i ≡ Some (view v)) e (go items i h p)
  where
    go : (items : List A) (i : ℕ) → i < length items → v ≡ slice_index_or items i v → slice_get (map view items) i ≡ Some (view v)
    go [] i h p = absurd (omega arith)
    go (w ∷ items) zero h p = ap (λ u. Some (view u)) (sym p)
    go (w ∷ items) (suc i) h p = go items i (omega arith) p

pub view_within : {A B : Type 0} (view : A → B) (items : List A) (vs : List B) → map view items ≡ vs → length vs ≡ length items
view_within view items vs e = sym (ap length e) ∙ length-map items view

pub take-get : {A : Type 0} (xs : List A) (i : ℕ) (x : A) → slice_get xs i ≡ Some x → take (i + 1) xs ≡ take i xs ++ x ∷ []
take-get [] i x p = cc
take-get (y ∷ xs) zero x p = let e : y ≡ x = cc in ap (λ w. w ∷ []) e
take-get (y ∷ xs) (suc i) x p = let h = take-get xs i x p in rw add-one (ap (λ w. y ∷ w) (rw add-one at h))

-- one more element of a list of values
pub take-view : {A B : Type 0} (view : A → B) (items : List A) (vs : List B) (i : ℕ) (v : A) → map view items ≡ vs → i < length items → v ≡ slice_index_or items i v → take (i + 1) vs ≡ take i vs ++ view v ∷ []
take-view view items vs i v e h p = take-get vs i (view v) (view_at view items vs i v e h p)
