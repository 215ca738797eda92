-- Bytes as numbers of kind i8.
use Rattle.std.proofs.Common.{◌≡◌, ℕ, ◌+◌, ◌<◌, ℤ, pos, List, [], ◌∷◌, ◌++◌, map, take, length, get_or, refl, ap, sym, ◌∙◌, Fits, FitsSigned, w8, to_z, of_z, mod-eq_of_lt}
use Rattle.std.specs.Int.{cast_signed, int_wrap}
use Rattle.std.proofs.lemmas.Int.{to_z-of_z}
use Rattle.std.proofs.lemmas.List.{map_more}
use Rattle.weld_data.specs.declared.kind.Kind.TheVariants as kinds
use Rattle.weld_data.specs.Value.{number}
use Rattle.weld_data.specs.Wrapped.{wrapped}
use Rattle.weld_meaning.specs.Evaluation.{byte_value}

byte_wraps : (m : ℕ) → m < 256 → wrapped kinds.I8 (pos m) ≡ cast_signed w8 m
unfolding int_wrap
byte_wraps m h = ap (cast_signed w8) (mod-eq_of_lt h)

map_snoc : {X Y : Type 0} (f : X → Y) (xs : List X) (x : X) → map f (xs ++ x ∷ []) ≡ map f xs ++ f x ∷ []
map_snoc f [] x = refl
map_snoc f (y ∷ xs) x = ap (λ l. f y ∷ l) (map_snoc f xs x)

-- one byte more, taken as an i8
pub bytes_more : (xs : List ℕ) (ys new : List ℤ) (i : ℕ) (z : ℤ) → map (number kinds.I8) ys ≡ map byte_value (take i xs) → i < length xs → new ≡ ys ++ to_z w8 (of_z w8 z) ∷ []
    → Fits w8 (get_or xs i 0) → FitsSigned w8 z → z ≡ cast_signed w8 (get_or xs i 0) → map (number kinds.I8) new ≡ map byte_value (take (i + 1) xs)
bytes_more xs ys new i z h l n small f e =
    let value : to_z w8 (of_z w8 z) ≡ wrapped kinds.I8 (pos (get_or xs i 0)) = to_z-of_z w8 z f ∙ e ∙ sym (byte_wraps (get_or xs i 0) small.fits) in
    ap (map (number kinds.I8)) n
    ∙ map_snoc (number kinds.I8) ys (to_z w8 (of_z w8 z))
    ∙ ap (λ l. l ++ number kinds.I8 (to_z w8 (of_z w8 z)) ∷ []) h
    ∙ ap (λ x. map byte_value (take i xs) ++ number kinds.I8 x ∷ []) value
    ∙ sym (map_more byte_value xs i 0 l)
