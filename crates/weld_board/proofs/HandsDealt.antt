-- Dealt hands, joined, are the tiles.
use Rattle.std.proofs.Common.{◌≡◌, ℕ, zero, suc, ◌+◌, ◌-◌, ◌*◌, ◌/◌, ◌<◌, ◌≤◌, List, [], ◌∷◌, ◌++◌, length, take, refl, ap, sym, ◌∙◌, append_assoc, append-nil, add-one, arith}
use Rattle.std.proofs.Math.Nat.{div-mul-le_self, mul-div_cancel_left, zero-div, div-le_of_le-mul, mul-le-mul_right}
use Rattle.std.proofs.Math.Seq.{take-add, take-length}
use Rattle.std.proofs.lemmas.List.{length-append}
use Rattle.std.proofs.lemmas.Nat.{le-div}
use Rattle.weld_board.specs.Dealing.{start, hand, hands_below, joined}

-- ---- where hands begin

pub start_rises : (n w k : ℕ) → 0 < w → start n w k ≤ start n w (k + 1)
start_rises n w k some =
    let down : k * n / w * w ≤ k * n = div-mul-le_self (k * n) w in
    let up : k * n ≤ (k + 1) * n = mul-le-mul_right n (omega arith) in
    le-div (k * n / w) ((k + 1) * n) w some (omega arith)

pub start_first : (n w : ℕ) → start n w 0 ≡ 0
start_first n w = let none : 0 * n ≡ 0 = omega arith in ap (λ m. m / w) none ∙ zero-div w

pub start_last : (n w : ℕ) → 0 < w → start n w w ≡ n
start_last n w some = mul-div_cancel_left n some

pub start_within : (n w k : ℕ) → k ≤ w → start n w k ≤ n
start_within n w k low = div-le_of_le-mul w (mul-le-mul_right n low)

-- ---- hands joined

module _ {A : Type 0} where
  pub joined-append : (xss yss : List (List A)) → joined (xss ++ yss) ≡ joined xss ++ joined yss
  joined-append [] yss = refl
  joined-append (xs ∷ xss) yss = ap (λ l. xs ++ l) (joined-append xss yss) ∙ sym (append_assoc xs (joined xss) (joined yss))

  pub length_hands : (tiles : List A) (w k : ℕ) → length (hands_below tiles w k) ≡ k
  length_hands tiles w zero = refl
  length_hands tiles w (suc k) =
      let rest = length_hands tiles w k in
      let both = length-append (hands_below tiles w k) (hand tiles w k ∷ []) in
      omega arith

  -- the hands below k are the tiles before hand k
  hands_joined : (tiles : List A) (w : ℕ) → 0 < w → (k : ℕ) → joined (hands_below tiles w k) ≡ take (start (length tiles) w k) tiles
  hands_joined tiles w some zero = ap (λ m. take m tiles) (sym (start_first (length tiles) w))
  hands_joined tiles w some (suc k) =
      let n : ℕ = length tiles in
      let from : ℕ = start n w k in
      let to : ℕ = start n w (k + 1) in
      let rises : from ≤ to = start_rises n w k some in
      let whole : from + (to - from) ≡ to = omega arith in
      let next : to ≡ start n w (suc k) = ap (start n w) (add-one k) in
      joined-append (hands_below tiles w k) (hand tiles w k ∷ [])
      ∙ ap (λ l. l ++ (hand tiles w k ++ [])) (hands_joined tiles w some k)
      ∙ ap (λ l. take from tiles ++ l) (append-nil (hand tiles w k))
      ∙ sym (take-add from (to - from) tiles)
      ∙ ap (λ m. take m tiles) (whole ∙ next)

  pub hands_are_tiles : (tiles : List A) (w : ℕ) → 0 < w → joined (hands_below tiles w w) ≡ tiles
  hands_are_tiles tiles w some = hands_joined tiles w some w ∙ ap (λ m. take m tiles) (start_last (length tiles) w some) ∙ take-length tiles
