-- The words of lists, number by number.
use Rattle.std.proofs.Common.{◌≡◌, ℕ, zero, suc, ◌+◌, ℤ, Some, List, [], ◌∷◌, drop, slice_get, ap, sym, ◌∙◌}
use native.Mathlib.Numerals.{unary_clauses}
use Rattle.weld_data.specs.Value.{Value, values}
use Rattle.weld_pieces.specs.KeyHash.{mixed_value, mixed_values}

behind : (vs : List Value) (i : ℕ) (v : Value) (word next final : ℤ) → slice_get vs i ≡ Some v → next ≡ mixed_value word v → mixed_values word (values (drop i vs)) ≡ final → mixed_values next (values (drop (suc i) vs)) ≡ final
behind [] i v word next final p e h = cc
behind (w ∷ vs) zero v word next final p e h =
    let is : w ≡ v = cc in ap (λ n. mixed_values n (values vs)) (e ∙ ap (mixed_value word) (sym is)) ∙ h
behind (w ∷ vs) (suc i) v word next final p e h = behind vs i v word next final p e h

-- the item at a place is mixed in before those behind it
pub next_mixed : (vs : List Value) (i : ℕ) (v : Value) (word next final : ℤ) → slice_get vs i ≡ Some v → next ≡ mixed_value word v → mixed_values word (values (drop i vs)) ≡ final → mixed_values next (values (drop (i + 1) vs)) ≡ final
next_mixed vs i v word next final p e h = simp unary_clauses (behind vs i v word next final p e h)
