-- Numbers as words, place by place.
use Rattle.std.proofs.Common.{◌≡◌, ◌⊎◌, inl, inr, ℕ, ◌+◌, ◌<◌, ◌≤◌, ℤ, pos, List, length, set, get_or, map, sym, ap, ◌∙◌, arith}
use Rattle.std.proofs.lemmas.List.{get_or-set_same, get_or-set_other, get_or-map, length-map, ext_get_or}
use Rattle.std.proofs.lemmas.Bool.{cases_lt}
use Rattle.weld_lanes.specs.Answers.{at}

-- one more word is written
pub one_written : {T : Type 0} (f : T → ℤ) (xs : List T) (zs : List ℤ) (i : ℕ) (x : T) (v : ℤ) → i < length xs → i < length zs → x ≡ get_or xs i x → v ≡ f x → ((j : ℕ) → j < i → at zs j ≡ at (map f xs) j) → (j : ℕ) → j < i + 1 → at (set zs i v) j ≡ at (map f xs) j
one_written f xs zs i x v there here read is before j less = by (cases_lt j i)
  where
    by : (j < i) ⊎ (i ≤ j) → at (set zs i v) j ≡ at (map f xs) j
    by (inl low) = get_or-set_other zs i j v (pos 0) (omega arith) ∙ before j low
    by (inr high) =
        let same : j ≡ i = omega arith in
        ap (λ (k : ℕ). at (set zs i v) k) same
        ∙ get_or-set_same zs i v (pos 0) here
        ∙ is ∙ ap f read ∙ sym (get_or-map f xs i x (pos 0) there)
        ∙ ap (λ (k : ℕ). at (map f xs) k) (sym same)

pub all_written : {T : Type 0} (f : T → ℤ) (xs : List T) (zs : List ℤ) (i : ℕ) → length xs ≡ length zs → length xs ≤ i → ((j : ℕ) → j < i → at zs j ≡ at (map f xs) j) → zs ≡ map f xs
all_written f xs zs i long done each =
    let e : length (map f xs) ≡ length xs = length-map xs f in
    ext_get_or (pos 0) zs (map f xs) (sym long ∙ sym e) (λ j less. each j (omega (arith, long, done)))
