-- Seats that have found every hand empty have taken every tile, each once.
use Rattle.std.proofs.Common.{◌≡◌, ℕ, zero, suc, ◌+◌, ◌<◌, ◌≤◌, Bool, true, false, cond, eqb, ltb, List, [], ◌∷◌, ◌++◌, map, length, get_or, All, IsPermutation, refl, ap, sym, ◌∙◌, subst, arith}
use Rattle.std.proofs.lemmas.Bool.{lt-ltb, eq-eqb, ne_eqb}
use Rattle.std.proofs.lemmas.Bool.Decides.{nat_tests}
use Rattle.std.proofs.lemmas.List.Elements.{All-head, All-tail}
use Rattle.std.proofs.lemmas.List.Sorted.{IsPermutation-refl, IsPermutation-trans, IsPermutation-cons, IsPermutation-middle, IsPermutation-sym}
use mathlib.Core.Logic.{dite}
use native.Mathlib.Decide.{dec_lt, ℕ_discrete}
use Rattle.weld_board.specs.Dealing.{joined}
use Rattle.weld_board.proofs.HandsDealt.{start_rises, start_first, start_last, start_within}
use Rattle.weld_board.specs.declared.dealt.Dealt.{Dealt}
use Rattle.weld_board.specs.declared.share.Share.{Share}
use Rattle.weld_board.specs.declared.board.Board.{Board}
use Rattle.weld_board.specs.declared.seat.Seat.{Seat}
use Rattle.weld_board.specs.Weights.{weigh, weigh_below, weigh_words}
use Rattle.weld_board.specs.Draws.{first_of, size_of, tiles_drawn, late, late_at, weigh_draws, weigh_view}
use Rattle.weld_board.specs.Rule.{Each, IsAll, IsBounded}
use Rattle.weld_board.specs.Sitting.{Sits, IsEmptied, AreOnHands, draws_of, taken, shares_of, numbers}
use Rattle.weld_board.proofs.Weighing.{weigh-append, weigh_ones, below_same, below_ones}
use Rattle.weld_board.proofs.Stepping.{late_elsewhere, late_early}

-- ---- numbers that weigh the same are the same numbers

found : (x : ℕ) (ys : List ℕ) → 0 < weigh (λ y. cond (eqb y x) 1 0) ys → (front : List ℕ) × (back : List ℕ) × (ys ≡ front ++ x ∷ back)
found x [] some = absurd (omega arith)
found x (y ∷ ys) some = dite (ℕ_discrete y x)
    (λ e. ([], ys, ap (λ z. z ∷ ys) e))
    (λ n.
    let here : cond {A = ℕ} (eqb y x) 1 0 ≡ 0 = ap (λ b. cond {A = ℕ} b 1 0) (ne_eqb y x n) in
    let rest = found x ys (omega arith) in
    (y ∷ rest.0, rest.1, ap (λ l. y ∷ l) rest.2))

pub same_weights : (xs ys : List ℕ) → ((g : ℕ → ℕ) → weigh g xs ≡ weigh g ys) → IsPermutation xs ys
same_weights [] [] same = IsPermutation-refl []
same_weights [] (y ∷ ys) same = let one = same (λ k. 1) in absurd (omega arith)
same_weights (x ∷ xs) ys same =
    let here : cond {A = ℕ} (eqb x x) 1 0 ≡ 1 = ap (λ b. cond {A = ℕ} b 1 0) (eq-eqb x x refl) in
    let one = same (λ y. cond (eqb y x) 1 0) in
    let at = found x ys (omega arith) in
    let front : List ℕ = at.0 in
    let back : List ℕ = at.1 in
    let rest : IsPermutation xs (front ++ back) = same_weights xs (front ++ back) (λ g.
    let all = same g in
    let parts : weigh g ys ≡ weigh g (front ++ x ∷ back) = ap (weigh g) at.2 in
    let with = weigh-append g front (x ∷ back) in
    let without = weigh-append g front back in
    omega arith) in
    subst (IsPermutation (x ∷ xs)) (sym at.2)
    (IsPermutation-trans (x ∷ xs) (x ∷ (front ++ back)) (front ++ x ∷ back) (IsPermutation-cons x xs (front ++ back) rest) (IsPermutation-sym (front ++ x ∷ back) (x ∷ (front ++ back)) (IsPermutation-middle front x back)))

pub numbers_weigh : (g : ℕ → ℕ) (n : ℕ) → weigh g (numbers n) ≡ weigh_below g n
numbers_weigh g zero = refl
numbers_weigh g (suc n) = let rest = numbers_weigh g n in let both = weigh-append g (numbers n) (n ∷ []) in omega arith

-- ---- sums over hands

below_cut : (h : ℕ → ℕ) (n w : ℕ) → n ≤ w → weigh_below (λ p. cond (ltb p n) (h p) 0) w ≡ weigh_below h n
below_cut h n zero low = let none : n ≡ 0 = omega arith in ap (weigh_below h) (sym none)
below_cut h n (suc w) low = dite (ℕ_discrete n (suc w))
    (λ e. subst (λ m. weigh_below (λ p. cond (ltb p m) (h p) 0) (suc w) ≡ weigh_below h m) (sym e) (all_below (suc w) (suc w) (omega arith)))
    (λ ne.
    let rest = below_cut h n w (omega arith) in
    let past : cond (ltb w n) (h w) 0 ≡ 0 = grind (arith, nat_tests) in
    omega arith) where
      all_below : (m k : ℕ) → k ≤ m → weigh_below (λ p. cond (ltb p m) (h p) 0) k ≡ weigh_below h k
      all_below m zero le = refl
      all_below m (suc k) le =
          let rest = all_below m k (omega arith) in
          let here : cond (ltb k m) (h k) 0 ≡ h k = ap (λ b. cond b (h k) 0) (lt-ltb k m (omega arith)) in
          omega arith

below_rises : (h : ℕ → ℕ) (a b : ℕ) → a ≤ b → weigh_below h a ≤ weigh_below h b
below_rises h a zero le = let none : a ≡ 0 = omega arith in omega (arith, ap (weigh_below h) none)
below_rises h a (suc b) le = dite (ℕ_discrete a (suc b))
    (λ e. omega (arith, ap (weigh_below h) e))
    (λ n. let rest = below_rises h a b (omega arith) in omega arith)

below_part : (h : ℕ → ℕ) (n w : ℕ) → weigh_below (λ p. cond (ltb p n) (h p) 0) w ≤ weigh_below h n
below_part h n zero = omega arith
below_part h n (suc w) = dite (dec_lt w n)
    (λ l.
    let rest = below_same_part h n (suc w) (omega arith) in
    let more = below_rises h (suc w) n (omega arith) in
    omega arith)
    (λ g.
    let rest = below_part h n w in
    let past : cond {A = ℕ} (ltb w n) (h w) 0 ≡ 0 = grind (arith, nat_tests) in
    omega arith) where
      below_same_part : (h : ℕ → ℕ) (m k : ℕ) → k ≤ m → weigh_below (λ p. cond (ltb p m) (h p) 0) k ≡ weigh_below h k
      below_same_part h m zero le = refl
      below_same_part h m (suc k) le =
          let rest = below_same_part h m k (omega arith) in
          let here : cond {A = ℕ} (ltb k m) (h k) 0 ≡ h k = ap (λ b. cond {A = ℕ} b (h k) 0) (lt-ltb k m (omega arith)) in
          omega arith

below_more : (g : ℕ → ℕ) (a b : ℕ) → weigh_below g a + weigh_below (λ p. g (a + p)) b ≡ weigh_below g (a + b)
below_more g a zero = let none : a + 0 ≡ a = omega arith in omega (arith, ap (weigh_below g) none)
below_more g a (suc b) =
    let rest = below_more g a b in
    let next : weigh_below g (a + suc b) ≡ weigh_below g (a + b) + g (a + b) = (let e : a + suc b ≡ suc (a + b) = omega arith in ap (weigh_below g) e) in
    omega arith

module _ (d : Dealt) (g : ℕ → ℕ) where
  -- what the tile at a place of a hand weighs; other places and hands weigh nothing
  tile_weight : ℕ → ℕ → ℕ
  tile_weight hand place = cond (ltb hand d.workers) (cond (ltb place (size_of d hand)) (g (first_of d hand + place)) 0) 0

  draws_weigh : (draws : List (ℕ × ℕ)) → AreOnHands d.workers draws → weigh g (tiles_drawn d draws) ≡ weigh_draws tile_weight draws
  unfolding tile_weight
  draws_weigh [] on = refl
  draws_weigh (x ∷ xs) on =
      let rest = draws_weigh xs on.1 in
      let both = weigh-append g (cond (ltb x.1 (size_of d x.0)) ((first_of d x.0 + x.1) ∷ []) []) (tiles_drawn d xs) in
      let hand : cond (ltb x.0 d.workers) (cond (ltb x.1 (size_of d x.0)) (g (first_of d x.0 + x.1)) 0) 0 ≡ cond (ltb x.1 (size_of d x.0)) (g (first_of d x.0 + x.1)) 0
      = ap (λ b. cond b (cond (ltb x.1 (size_of d x.0)) (g (first_of d x.0 + x.1)) 0) 0) (lt-ltb x.0 d.workers on.0) in
      let one : weigh g (cond (ltb x.1 (size_of d x.0)) ((first_of d x.0 + x.1) ∷ []) []) ≡ cond (ltb x.1 (size_of d x.0)) (g (first_of d x.0 + x.1)) 0
      = by_case (ltb x.1 (size_of d x.0)) (first_of d x.0 + x.1) in
      omega arith where
        by_case : (b : Bool) (t : ℕ) → weigh g (cond b (t ∷ []) []) ≡ cond b (g t) 0
        by_case true t = omega arith
        by_case false t = refl

  view_weighs : (v : List Share) → Each (λ (x : Share). AreOnHands d.workers x.draws) v → weigh g (joined (map (λ (x : Share). tiles_drawn d x.draws) v)) ≡ weigh_view tile_weight v
  view_weighs [] on = refl
  view_weighs (x ∷ v) on =
      let rest = view_weighs v on.1 in
      let here = draws_weigh x.draws on.0 in
      let both = weigh-append g (tiles_drawn d x.draws) (joined (map (λ (y : Share). tiles_drawn d y.draws) v)) in
      omega arith

  no_hand : (k w : ℕ) → d.workers ≤ k → weigh_below (tile_weight k) w ≡ 0
  unfolding tile_weight
  no_hand k zero high = refl
  no_hand k (suc w) high =
      let rest = no_hand k w high in
      let here : cond (ltb k d.workers) (cond (ltb w (size_of d k)) (g (first_of d k + w)) 0) 0 ≡ 0 = grind (arith, nat_tests) in
      omega arith

  no_hands : (k : ℕ) (ws : List ℕ) → d.workers ≤ k → weigh_words tile_weight k ws ≡ 0
  no_hands k [] high = refl
  no_hands k (w ∷ ws) high = let here = no_hand k w high in let rest = no_hands (k + 1) ws (omega arith) in omega arith

  hand_weighs : (k w : ℕ) → k < d.workers → size_of d k ≤ w → weigh_below (tile_weight k) w ≡ weigh_below (λ p. g (first_of d k + p)) (size_of d k)
  unfolding tile_weight
  hand_weighs k w low all =
      below_same (λ p. cond (ltb k d.workers) (cond (ltb p (size_of d k)) (g (first_of d k + p)) 0) 0) (λ p. cond (ltb p (size_of d k)) (g (first_of d k + p)) 0)
      (λ p. ap (λ b. cond b (cond (ltb p (size_of d k)) (g (first_of d k + p)) 0) 0) (lt-ltb k d.workers low)) w
      ∙ below_cut (λ p. g (first_of d k + p)) (size_of d k) w all

  hand_part : (k w : ℕ) → k < d.workers → weigh_below (tile_weight k) w ≤ weigh_below (λ p. g (first_of d k + p)) (size_of d k)
  unfolding tile_weight
  hand_part k w low =
      let same : weigh_below (tile_weight k) w ≡ weigh_below (λ p. cond (ltb p (size_of d k)) (g (first_of d k + p)) 0) w =
      below_same (λ p. cond (ltb k d.workers) (cond (ltb p (size_of d k)) (g (first_of d k + p)) 0) 0) (λ p. cond (ltb p (size_of d k)) (g (first_of d k + p)) 0)
      (λ p. ap (λ b. cond b (cond (ltb p (size_of d k)) (g (first_of d k + p)) 0) 0) (lt-ltb k d.workers low)) w in
      let part = below_part (λ p. g (first_of d k + p)) (size_of d k) w in
      omega arith

  -- where each hand's tiles are all drawn, the places below the words are the tiles
  words_end : (k : ℕ) (ws : List ℕ) → 0 < d.workers → k ≡ d.workers → weigh_words tile_weight k ws + weigh_below g (first_of d k) ≡ weigh_below g d.tiles
  words_end k ws some e =
      let none = no_hands k ws (omega arith) in
      let end : weigh_below g (first_of d k) ≡ weigh_below g d.tiles = ap (weigh_below g) (ap (first_of d) e ∙ start_last d.tiles d.workers some) in
      omega arith

  words_whole : (k : ℕ) (ws : List ℕ) → 0 < d.workers → k ≤ d.workers → ((i : ℕ) → k + i < d.workers → (i < length ws) × (size_of d (k + i) ≤ get_or ws i 0)) → weigh_words tile_weight k ws + weigh_below g (first_of d k) ≡ weigh_below g d.tiles
  words_whole k [] some le all = dite (ℕ_discrete k d.workers)
      (λ e. words_end k [] some e)
      (λ n. let here = (all 0 (omega arith)).0 in absurd (omega arith))
  words_whole k (w ∷ ws) some le all = dite (ℕ_discrete k d.workers)
      (λ e. words_end k (w ∷ ws) some e)
      (λ n.
      let low : k < d.workers = omega arith in
      let first : size_of d k ≤ w = subst (λ m. size_of d m ≤ w) (let e : k + 0 ≡ k = omega arith in e) (all 0 (omega arith)).1 in
      let here = hand_weighs k w low first in
      let rest = words_whole (k + 1) ws some (omega arith) (λ i h.
      let next = all (suc i) (omega arith) in
      let long = next.0 in
      ((omega arith), subst (λ m. size_of d m ≤ get_or ws i 0) (let e : k + suc i ≡ k + 1 + i = omega arith in e) next.1)) in
      let both = below_more g (first_of d k) (size_of d k) in
      let rises : first_of d k ≤ first_of d (k + 1) = start_rises d.tiles d.workers k some in
      let whole : first_of d k + size_of d k ≡ first_of d (k + 1) = omega arith in
      let same : weigh_below g (first_of d k + size_of d k) ≡ weigh_below g (first_of d (k + 1)) = ap (weigh_below g) whole in
      omega arith)

  -- no more is below words than the tiles
  words_part : (k : ℕ) (ws : List ℕ) → 0 < d.workers → k ≤ d.workers → weigh_words tile_weight k ws + weigh_below g (first_of d k) ≤ weigh_below g d.tiles
  words_part k [] some le =
      let low = below_rises g (first_of d k) d.tiles (start_within d.tiles d.workers k le) in
      omega arith
  words_part k (w ∷ ws) some le = dite (ℕ_discrete k d.workers)
      (λ e. let whole = words_end k (w ∷ ws) some e in omega arith)
      (λ n.
      let low : k < d.workers = omega arith in
      let here = hand_part k w low in
      let rest = words_part (k + 1) ws some (omega arith) in
      let both = below_more g (first_of d k) (size_of d k) in
      let rises : first_of d k ≤ first_of d (k + 1) = start_rises d.tiles d.workers k some in
      let whole : first_of d k + size_of d k ≡ first_of d (k + 1) = omega arith in
      let same : weigh_below g (first_of d k + size_of d k) ≡ weigh_below g (first_of d (k + 1)) = ap (weigh_below g) whole in
      omega arith)
  -- ---- a late place shows that the word is past the hand

late_word : (d : Dealt) (k j w : ℕ) → 0 < weigh_below (late_at d k j) w → (j ≡ k) × (size_of d k < w)
late_word d k j zero some = absurd (omega arith)
late_word d k j (suc w) some = dite (ℕ_discrete j k)
    (λ e. (
      e,
      dite (dec_lt (size_of d k) (suc w)) (λ l. l) (λ n.
          let here : late_at d k j w ≡ 0 = subst (λ m. late_at d k m w ≡ 0) (sym e) (late_early d k w (omega arith)) in
          let rest = (late_word d k j w (omega arith)).1 in
          omega arith),
    ))
    (λ n.
    let here = late_elsewhere d k j w n in
    absurd (n (late_word d k j w (omega arith)).0))

late_words : (d : Dealt) (k j : ℕ) (ws : List ℕ) → 0 < weigh_words (late_at d k) j ws → (i : ℕ) × (j + i ≡ k) × (i < length ws) × (size_of d k ≤ get_or ws i 0)
late_words d k j [] some = absurd (omega arith)
late_words d k j (w ∷ ws) some = dite (dec_lt 0 (weigh_below (late_at d k j) w))
    (λ here. let at = late_word d k j w here in let e = at.0 in let high = at.1 in (0, (omega arith), (omega arith), (omega arith)))
    (λ n.
    let rest = late_words d k (j + 1) ws (omega arith) in
    let i : ℕ = rest.0 in
    let e = rest.1 in
    let low = rest.2 in
    (suc i, (omega arith), (omega arith), rest.3))

pub all_once : (d : Dealt) (v : List Share) → 0 < d.workers → IsAll v → Each (λ (x : Share). AreOnHands d.workers x.draws) v → ((k : ℕ) → k < d.workers → 0 < weigh_view (late_at d k) v)
    → IsPermutation (joined (map (λ (x : Share). tiles_drawn d x.draws) v)) (numbers d.tiles)
all_once d v some all on late =
    let ws : List ℕ = all.0 in
    same_weights (joined (map (λ (x : Share). tiles_drawn d x.draws) v)) (numbers d.tiles) (λ g.
    let drawn = view_weighs d g v on in
    let places = all.1 (tile_weight d g) in
    let whole = words_whole d g 0 ws some (omega arith) (λ i h.
    let low : i < d.workers = omega arith in
    let some_late = late i low in
    let same = all.1 (late_at d i) in
    let at = late_words d i 0 ws (omega arith) in
    let e : at.0 ≡ i = (let f = at.1 in omega arith) in
    (subst (λ m. m < length ws) e at.2, subst (λ m. size_of d m ≤ get_or ws i 0) (let f : i ≡ 0 + i = omega arith in f) (subst (λ m. size_of d i ≤ get_or ws m 0) e at.3))) in
    let start : weigh_below g (first_of d 0) ≡ 0 = ap (weigh_below g) (start_first d.tiles d.workers) in
    let count = numbers_weigh g d.tiles in
    omega arith)

-- no seat takes more tiles than were dealt
pub few_drawn : (d : Dealt) (x : Share) → 0 < d.workers → IsBounded (x ∷ []) → AreOnHands d.workers x.draws → length (tiles_drawn d x.draws) ≤ d.tiles
few_drawn d x some bound on =
    let one : ℕ → ℕ = λ t. 1 in
    let ws : List ℕ = bound.0 in
    let drawn = draws_weigh d one x.draws on in
    let places : weigh_view (tile_weight d one) (x ∷ []) ≤ weigh_words (tile_weight d one) 0 ws = bound.1 (tile_weight d one) in
    let part = words_part d one 0 ws some (omega arith) in
    let count = weigh_ones (tiles_drawn d x.draws) in
    let all = below_ones d.tiles in
    omega arith

-- ---- the same of seats

pub lists_are : (b : Board) (ss : List Seat) → All (Sits b) ss → map (λ (x : Share). tiles_drawn b.dealt x.draws) (shares_of ss) ≡ map taken ss
lists_are b [] all = refl
lists_are b (s ∷ ss) all =
    let sits : Sits b s = All-head (Sits b) s ss all in
    λ i. tiles_drawn (sym sits.dealt i) (draws_of s) ∷ lists_are b ss (All-tail (Sits b) s ss all) i

pub on_hands : (b : Board) (ss : List Seat) → All (Sits b) ss → Each (λ (x : Share). AreOnHands b.dealt.workers x.draws) (shares_of ss)
on_hands b [] all = tt
on_hands b (s ∷ ss) all = let sits : Sits b s = All-head (Sits b) s ss all in (sits.on_hands, on_hands b ss (All-tail (Sits b) s ss all))

pub some_late : (b : Board) (ss : List Seat) → 0 < length ss → All (Sits b) ss → All IsEmptied ss → (k : ℕ) → k < b.dealt.workers → 0 < weigh_view (late_at b.dealt k) (shares_of ss)
some_late b [] some all empty k low = absurd (omega arith)
some_late b (s ∷ ss) some all empty k low =
    let sits : Sits b s = All-head (Sits b) s ss all in
    let emptied : IsEmptied s = All-head IsEmptied s ss empty in
    let here : 0 < late s.dealt k (draws_of s) = emptied k (subst (λ (d : Dealt). k < d.workers) (sym sits.dealt) low) in
    let same : 0 < late b.dealt k (draws_of s) = subst (λ (d : Dealt). 0 < late d k (draws_of s)) sits.dealt here in
    omega arith

pub length_shares : (ss : List Seat) → length (shares_of ss) ≡ length ss
length_shares [] = refl
length_shares (s ∷ ss) = let rest = length_shares ss in omega arith
