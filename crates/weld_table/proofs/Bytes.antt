-- Bytes as numbers.
use Rattle.std.proofs.Common.{◌≡◌, ◌∙◌, sym, ap, refl, ℕ, ◌<◌, ℤ, pos, List, [], ◌∷◌, map, get_or, suc, arith}
use Rattle.std.proofs.lemmas.Int.{ints}
use Rattle.weld_data.proofs.Wrapping.{wrapped-in_range}
use Rattle.weld_data.specs.declared.kind.Kind.TheVariants as kinds
use Rattle.weld_data.specs.Wrapped.{wrapped}
use Rattle.weld_data.specs.Value.{Value, number}

signed_values : (bytes : List ℕ) → map (number kinds.I8) (map (λ (b : ℕ). wrapped kinds.I8 (pos b)) bytes) ≡ map (λ (b : ℕ). number kinds.I8 (wrapped kinds.I8 (pos b))) bytes
signed_values [] = refl
signed_values (b ∷ bytes) = ap (λ (vs : List Value). number kinds.I8 (wrapped kinds.I8 (pos b)) ∷ vs) (signed_values bytes)

pub signed_are : (bytes : List ℕ) (items : List ℤ) → items ≡ map (λ (b : ℕ). wrapped kinds.I8 (pos b)) bytes
    → map (number kinds.I8) items ≡ map (λ (b : ℕ). number kinds.I8 (wrapped kinds.I8 (pos b))) bytes
signed_are bytes items e = ap (map (number kinds.I8)) e ∙ signed_values bytes

-- a byte is a number of kind u8 as it stands
plain_byte : (b : ℕ) → b < 256 → wrapped kinds.U8 (pos b) ≡ pos b
plain_byte b h = wrapped-in_range kinds.U8 (pos b) (record { low = omega (arith, ints); high = omega (arith, ints, h) })

pub plain_are : (bytes : List ℕ) → ((i : ℕ) → get_or bytes i 0 < 256)
    → map (λ (n : ℕ). number kinds.U8 (pos n)) bytes ≡ map (λ (b : ℕ). number kinds.U8 (wrapped kinds.U8 (pos b))) bytes
plain_are [] h = refl
plain_are (b ∷ bytes) h =
    ap (λ (x : ℤ). number kinds.U8 x ∷ map (λ (n : ℕ). number kinds.U8 (pos n)) bytes) (sym (plain_byte b (h 0)))
    ∙ ap (λ (vs : List Value). number kinds.U8 (wrapped kinds.U8 (pos b)) ∷ vs) (plain_are bytes (λ i. h (suc i)))
