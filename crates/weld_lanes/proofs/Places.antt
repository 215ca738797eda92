-- Numbers place by place.
use Rattle.std.proofs.Common.{◌≡◌, ◌⊎◌, inl, inr, ℕ, ◌+◌, ◌<◌, ◌≤◌, ℤ, pos, List, length, set, get_or, map, sym, ap, subst, ◌∙◌, arith}
use Rattle.std.proofs.lemmas.List.{get_or-map, get_or-set_same, get_or-set_other, map-set, length-map}
use Rattle.std.proofs.lemmas.Bool.{cases_lt}
use Rattle.weld_lanes.specs.Answers.{at}

-- an element that was read, as a number
pub read : {T : Type 0} (f : T → ℤ) (xs : List T) (i : ℕ) (v : T) → i < length xs → v ≡ get_or xs i v → f v ≡ at (map f xs) i
read f xs i v less e = ap f e ∙ sym (get_or-map f xs i v (pos 0) less)

-- what was so far, and is of one more
pub written : {T : Type 0} (f : T → ℤ) (P : ℕ → ℤ → Type 0) (zs : List T) (i : ℕ) (v : T) → i < length zs → P i (f v) → ((j : ℕ) → j < i → P j (at (map f zs) j)) → (j : ℕ) → j < i + 1 → P j (at (map f (set zs i v)) j)
written {T} f P zs i v less here before j small = by (cases_lt j i)
  where
    there : length (map f zs) ≡ length zs
    there = length-map zs f

    by : (j < i) ⊎ (i ≤ j) → P j (at (map f (set zs i v)) j)
    by (inl lower) = subst (P j) (sym (ap (λ (ws : List ℤ). at ws j) (map-set f zs i v) ∙ get_or-set_other (map f zs) i j (f v) (pos 0) (omega arith))) (before j lower)
    by (inr upper) =
        let same : j ≡ i = omega arith in
        subst (λ (k : ℕ). P k (at (map f (set zs i v)) k)) (sym same)
        (subst (P i) (sym (ap (λ (ws : List ℤ). at ws i) (map-set f zs i v) ∙ get_or-set_same (map f zs) i (f v) (pos 0) (omega (arith, there)))) here)
