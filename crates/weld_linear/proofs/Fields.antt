-- The field of a number in a list of origins.
use Rattle.std.proofs.Common.{◌≡◌, refl, subst, ℕ, zero, suc, ◌<◌, ◌≤◌, List, [], ◌∷◌, length, Option, Some, None, MatchOption, slice_index_or, Bor, arith}
use Rattle.std.specs.Slice.{IsItemAt}
use Rattle.weld_meaning.specs.Origin.{Origin, value, origin_at}
use Rattle.weld_linear.specs.Sources.{pack_origins}

none_at : (os : List Origin) (n : ℕ) → length os ≤ n → origin_at n (pack_origins os) ≡ value
none_at [] zero h = refl
none_at [] (suc n) h = refl
none_at (o ∷ os) zero h = let no : ⊥ = omega (arith, h) in absurd no
none_at (o ∷ os) (suc n) h = none_at os n (omega (arith, h))

some_at : (os : List Origin) (n : ℕ) (o : Origin) → n < length os → o ≡ slice_index_or os n o → o ≡ origin_at n (pack_origins os)
some_at [] zero o h e = let no : ⊥ = omega (arith, h) in absurd no
some_at [] (suc n) o h e = let no : ⊥ = omega (arith, h) in absurd no
some_at (u ∷ os) zero o h e = e
some_at (u ∷ os) (suc n) o h e = some_at os n o (omega (arith, h)) e

pub nth_by : (os xs : List Origin) (n : ℕ) (r : Option (Bor Origin)) → xs ≡ os → IsItemAt xs n r
    → MatchOption r (origin_at n (pack_origins os) ≡ value) (λ o. o.now ≡ origin_at n (pack_origins os))
nth_by os xs n None same h = none_at os n (subst (λ (ys : List Origin). length ys ≤ n) same h.3)
nth_by os xs n (Some x) same h =
    some_at os n x.now (subst (λ (ys : List Origin). n < length ys) same h.3.0) (subst (λ (ys : List Origin). x.now ≡ slice_index_or ys n x.now) same h.1)
