-- What is left in hands.
use Rattle.std.proofs.Common.{◌≡◌, ℕ, zero, suc, ◌+◌, ◌-◌, ◌<◌, ◌≤◌, List, [], ◌∷◌, length, get_or, set, take, drop, refl, ap, sym, ◌∙◌, length-append, arith}
use Rattle.std.proofs.lemmas.List.{get_or-drop, get_or-take, drop_more, length-drop, length-take-le, get_or-append_right}
use Rattle.std.proofs.Math.ListN.{drop_of_length-le, get_or-append}
use mathlib.Core.Logic.{dite}
use native.Mathlib.Decide.{ℕ_discrete}
use Rattle.weld_board.specs.Dealing.{start, size, hand}
use Rattle.weld_board.proofs.HandsDealt.{start_within, start_rises}
use Rattle.weld_board.specs.declared.dealt.Dealt.{Dealt}
use Rattle.weld_board.specs.Draws.{first_of, size_of}
use Rattle.weld_board.specs.Sitting.{numbers}
use Rattle.weld_board.specs.Events.{hand_left, hands_left}

-- ---- the numbers below a number

pub length_numbers : (n : ℕ) → length (numbers n) ≡ n
length_numbers zero = refl
length_numbers (suc n) = let rest = length_numbers n in let both = length-append (numbers n) (n ∷ []) in omega arith

pub numbers_at : (n i : ℕ) → i < n → get_or (numbers n) i 0 ≡ i
numbers_at zero i low = absurd (omega arith)
numbers_at (suc n) i low = dite (ℕ_discrete i n)
    (λ e.
    let none : i - n ≡ 0 = omega arith in
    get_or-append_right (numbers n) (n ∷ []) n i 0 (length_numbers n) (omega arith) ∙ ap (λ m. get_or (n ∷ []) m 0) none ∙ sym e)
    (λ e. let all = length_numbers n in get_or-append (numbers n) (n ∷ []) 0 i (omega arith) ∙ numbers_at n i (omega arith))

-- ---- a hand

module _ (d : Dealt) (k : ℕ) (low : k < d.workers) where
  hand_is : hand (numbers d.tiles) d.workers k ≡ take (size_of d k) (drop (first_of d k) (numbers d.tiles))
  hand_is = ap (λ n. take (size n d.workers k) (drop (start n d.workers k) (numbers d.tiles))) (length_numbers d.tiles)

  ends : first_of d k + size_of d k ≤ d.tiles
  ends =
      let within : start d.tiles d.workers (k + 1) ≤ d.tiles = start_within d.tiles d.workers (k + 1) (omega arith) in
      let rises : start d.tiles d.workers k ≤ start d.tiles d.workers (k + 1) = start_rises d.tiles d.workers k (omega arith) in
      omega arith

  length_hand : length (hand (numbers d.tiles) d.workers k) ≡ size_of d k
  length_hand =
      let all = length_numbers d.tiles in
      let rest = length-drop (first_of d k) (numbers d.tiles) in
      let end = ends in
      ap length hand_is ∙ length-take-le (size_of d k) (drop (first_of d k) (numbers d.tiles)) (omega arith)

  hand_at : (n : ℕ) → n < size_of d k → get_or (hand (numbers d.tiles) d.workers k) n 0 ≡ first_of d k + n
  hand_at n few =
      let end = ends in
      ap (λ l. get_or l n 0) hand_is ∙ get_or-take (size_of d k) (drop (first_of d k) (numbers d.tiles)) n 0 few
      ∙ get_or-drop (first_of d k) (numbers d.tiles) n 0 ∙ numbers_at d.tiles (first_of d k + n) (omega arith)

  -- the tile at the place of the next draw is the first one left
  pub left_early : (n : ℕ) → n < size_of d k → hand_left d k n ≡ (first_of d k + n) ∷ hand_left d k (n + 1)
  left_early n few =
      let all = length_hand in
      drop_more (hand (numbers d.tiles) d.workers k) n 0 (omega arith) ∙ ap (λ t. t ∷ hand_left d k (n + 1)) (hand_at n few)

  -- a draw at or past the hand's size finds none left
  pub left_late : (n : ℕ) → size_of d k ≤ n → hand_left d k n ≡ []
  left_late n many = let all = length_hand in drop_of_length-le (hand (numbers d.tiles) d.workers k) (omega arith)

-- ---- all hands

pub length_left : (d : Dealt) (j : ℕ) (words : List ℕ) → length (hands_left d j words) ≡ length words
length_left d j [] = refl
length_left d j (w ∷ words) = let rest = length_left d (j + 1) words in omega arith

pub left_at : (d : Dealt) (j i : ℕ) (words : List ℕ) → i < length words → get_or (hands_left d j words) i [] ≡ hand_left d (j + i) (get_or words i 0)
left_at d j i [] low = absurd (omega arith)
left_at d j zero (w ∷ words) low = let none : j ≡ j + 0 = omega arith in ap (λ m. hand_left d m w) none
left_at d j (suc i) (w ∷ words) low = let next : j + 1 + i ≡ j + suc i = omega arith in left_at d (j + 1) i words (omega arith) ∙ ap (λ m. hand_left d m (get_or words i 0)) next

pub left_set : (d : Dealt) (j i n : ℕ) (words : List ℕ) → hands_left d j (set words i n) ≡ set (hands_left d j words) i (hand_left d (j + i) n)
left_set d j i n [] = refl
left_set d j zero n (w ∷ words) = let none : j ≡ j + 0 = omega arith in ap (λ m. hand_left d m n ∷ hands_left d (j + 1) words) none
left_set d j (suc i) n (w ∷ words) = let next : j + 1 + i ≡ j + suc i = omega arith in ap (λ l. hand_left d j w ∷ l) (left_set d (j + 1) i n words ∙ ap (λ m. set (hands_left d (j + 1) words) i (hand_left d m n)) next)
