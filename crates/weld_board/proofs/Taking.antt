-- A seat's draws, and the tiles that it takes by them.
use Rattle.std.proofs.Common.{◌≡◌, ◌≢◌, ℕ, ◌+◌, ◌-◌, ◌*◌, ◌%◌, ◌<◌, ◌≤◌, false, cond, ltb, List, [], ◌∷◌, ◌++◌, length, get_or, refl, ap, sym, ◌∙◌, subst, append-nil, append_assoc, arith}
use Rattle.std.proofs.lemmas.Bool.{lt-ltb}
use Rattle.std.proofs.lemmas.Bool.Decides.{nat_tests}
use Rattle.std.proofs.lemmas.Nat.{mod-mul-add}
use Rattle.std.proofs.Math.Nat.{mod-eq_of_lt}
use mathlib.Core.Logic.{dite}
use native.Mathlib.Decide.{dec_le, ℕ_discrete}
use Rattle.atomic_table.specs.declared.shared.Seat.{Seat as Place}
use Rattle.atomic_table.proofs.Lists.{one_turn}
use Rattle.weld_tiles.specs.declared.tile.Tile.{Tile}
use Rattle.weld_board.proofs.HandsDealt.{start_within}
use Rattle.weld_board.specs.declared.dealt.Dealt.{Dealt}
use Rattle.weld_board.specs.declared.share.Share.{Share}
use Rattle.weld_board.specs.declared.board.Board.{Board}
use Rattle.weld_board.specs.declared.seat.Seat.{Seat}
use Rattle.weld_board.specs.Draws.{first_of, size_of, tiles_drawn, late, late_at, drawn}
use Rattle.weld_board.specs.Rule.{IsBounded}
use Rattle.weld_board.specs.Sitting.{Sits, TakesTile, IsEmptied, AreOnHands, draws_in, draws_of, taken, hand_after, board_tiles}
use Rattle.weld_board.proofs.Weighing.{weigh-append}
use Rattle.weld_board.proofs.Stepping.{late_elsewhere, late_early, late_late}
use Rattle.weld_board.proofs.Totals.{few_drawn}

-- ---- hands around

pub same_hand : (number w i j : ℕ) → i < w → j < w → (number + i) % w ≡ (number + j) % w → i ≡ j
same_hand number w i j a b e = dite (dec_le i j)
    (λ le. let same = one_turn (number + i) (number + j) w (omega arith) (omega arith) e in omega arith)
    (λ n. let same = one_turn (number + j) (number + i) w (omega arith) (omega arith) (sym e) in omega arith)

-- each hand comes after the seat's own
comes : (number w k : ℕ) → number < w → k < w → (i : ℕ) × (i < w) × ((number + i) % w ≡ k)
comes number w k low h = dite (dec_le number k)
    (λ le. (k - number, (omega arith), (let e : number + (k - number) ≡ k = omega arith in ap (λ m. m % w) e ∙ mod-eq_of_lt h)))
    (λ n. ((k + w) - number, (omega arith), (let e : number + ((k + w) - number) ≡ 1 * w + k = omega arith in ap (λ m. m % w) e ∙ mod-mul-add 1 w k h)))

-- ---- one draw more

late_more : (d : Dealt) (j k n : ℕ) (draws : List (ℕ × ℕ)) → late d j (draws ++ (k, n) ∷ []) ≡ late d j draws + late_at d j k n
late_more d j k n draws = let both = weigh-append (λ (x : ℕ × ℕ). late_at d j x.0 x.1) draws ((k, n) ∷ []) in omega arith

on_hands_more : (w : ℕ) (draws : List (ℕ × ℕ)) (k n : ℕ) → k < w → AreOnHands w draws → AreOnHands w (draws ++ (k, n) ∷ [])
on_hands_more w [] k n low on = (low, tt)
on_hands_more w (x ∷ xs) k n low on = (on.0, on_hands_more w xs k n low on.1)

pub tiles_more : (d : Dealt) (draws more : List (ℕ × ℕ)) → tiles_drawn d (draws ++ more) ≡ tiles_drawn d draws ++ tiles_drawn d more
tiles_more d [] more = refl
tiles_more d (x ∷ xs) more = ap (λ l. cond (ltb x.1 (size_of d x.0)) ((first_of d x.0 + x.1) ∷ []) [] ++ l) (tiles_more d xs more)
    ∙ sym (append_assoc (cond (ltb x.1 (size_of d x.0)) ((first_of d x.0 + x.1) ∷ []) []) (tiles_drawn d xs) (tiles_drawn d more))

pub tile_early : (d : Dealt) (k n : ℕ) → n < size_of d k → tiles_drawn d ((k, n) ∷ []) ≡ (first_of d k + n) ∷ []
tile_early d k n low = ap (λ b. cond {A = List ℕ} b ((first_of d k + n) ∷ []) [] ++ []) (lt-ltb n (size_of d k) low)

pub tile_late : (d : Dealt) (k n : ℕ) → size_of d k ≤ n → tiles_drawn d ((k, n) ∷ []) ≡ []
tile_late d k n high = let no : ltb n (size_of d k) ≡ false = grind (arith, nat_tests) in ap (λ b. cond {A = List ℕ} b ((first_of d k + n) ∷ []) [] ++ []) no

-- a place of a hand is a tile's
place_within : (d : Dealt) (k n : ℕ) → k < d.workers → n < size_of d k → first_of d k + n < d.tiles
place_within d k n low h =
    let end = start_within d.tiles d.workers (k + 1) (omega arith) in
    omega arith

module _ (b : Board) (s : Seat) (p : Place ℕ (List Share)) (k n : ℕ) (sits : Sits b s) (more : s.passed < b.dealt.workers) (is : k ≡ hand_after s s.passed) (low : k < b.dealt.workers)
    (table : p.table_id ≡ s.place.table_id) (me : p.me ≡ (drawn s.place.me.0 k n, s.place.me.1)) (bound : IsBounded p.me.0) where
  all_draws : List (ℕ × ℕ)
  all_draws = draws_of s ++ (k, n) ∷ []

  me_is : p.me ≡ (record { seat = s.number; draws = draws_of s ++ (k, n) ∷ [] } ∷ [], [])
  me_is = me ∙ ap (λ m. (drawn m.0 k n, m.1)) sits.share

  draws_are : draws_in p.me.0 ≡ draws_of s ++ (k, n) ∷ []
  draws_are = ap (λ m. draws_in m.0) me_is

  -- another hand is as it was
  late_other : (i : ℕ) → i < b.dealt.workers → i ≢ s.passed → late s.dealt (hand_after s i) (draws_in p.me.0) ≡ late s.dealt (hand_after s i) (draws_of s)
  late_other i h other =
      let apart : k ≢ hand_after s i = λ e.
      let i_low : i < s.dealt.workers = subst (λ (d : Dealt). i < d.workers) (sym sits.dealt) h in
      let p_low : s.passed < s.dealt.workers = subst (λ (d : Dealt). s.passed < d.workers) (sym sits.dealt) more in
      other (same_hand s.number s.dealt.workers i s.passed i_low p_low (sym (sym is ∙ e))) in
      let count = late_more s.dealt (hand_after s i) k n (draws_of s) in
      let none = late_elsewhere s.dealt (hand_after s i) k n apart in
      ap (late s.dealt (hand_after s i)) draws_are ∙ (omega arith)

  late_here : late s.dealt (hand_after s s.passed) (draws_in p.me.0) ≡ late_at s.dealt k k n
  late_here =
      let count = late_more s.dealt k k n (draws_of s) in
      let before : late s.dealt k (draws_of s) ≡ 0 = ap (λ j. late s.dealt j (draws_of s)) is ∙ sits.ahead s.passed (omega arith) more in
      ap (λ j. late s.dealt j (draws_in p.me.0)) (sym is) ∙ ap (late s.dealt k) draws_are ∙ (omega arith)

  on : AreOnHands b.dealt.workers (draws_of s ++ (k, n) ∷ [])
  on = on_hands_more b.dealt.workers (draws_of s) k n low sits.on_hands

  few : length (tiles_drawn s.dealt (draws_in p.me.0)) ≤ b.dealt.tiles
  few =
      let x : Share = record { seat = s.number; draws = draws_of s ++ (k, n) ∷ [] } in
      let here : length (tiles_drawn b.dealt (draws_of s ++ (k, n) ∷ [])) ≤ b.dealt.tiles = few_drawn b.dealt x (omega arith) (subst (λ m. IsBounded m.0) me_is bound) on in
      subst (λ l. length (tiles_drawn s.dealt l) ≤ b.dealt.tiles) (sym draws_are) (subst (λ (d : Dealt). length (tiles_drawn d (draws_of s ++ (k, n) ∷ [])) ≤ b.dealt.tiles) (sym sits.dealt) here)

  share_is : p.me ≡ (record { seat = s.number; draws = draws_in p.me.0 } ∷ [], [])
  share_is = me_is ∙ ap (λ l. (record { seat = s.number; draws = l } ∷ [], [])) (sym draws_are)

  -- the place is a tile's
  pub sits_early : n < size_of b.dealt k → Sits b (record s { place = p })
  sits_early early =
      let mine : n < size_of s.dealt k = subst (λ (d : Dealt). n < size_of d k) (sym sits.dealt) early in
      record {
        table = table ∙ sits.table;
        dealt = sits.dealt;
        number = sits.number;
        share = share_is;
        passes = sits.passes;
        passed = λ i h. late_other i (omega arith) (λ e. omega arith) ∙ sits.passed i h;
        ahead = λ i h l. dite (ℕ_discrete i s.passed)
            (λ e. ap (λ j. late s.dealt (hand_after s j) (draws_in p.me.0)) e ∙ late_here ∙ late_early s.dealt k n mine)
            (λ ne. late_other i l ne ∙ sits.ahead i h l);
        on_hands = subst (AreOnHands b.dealt.workers) (sym draws_are) on;
        few = few;
      }

  -- the hand is empty
  pub sits_late : size_of b.dealt k ≤ n → Sits b (record s { place = p; passed = s.passed + 1 })
  sits_late high =
      let mine : size_of s.dealt k ≤ n = subst (λ (d : Dealt). size_of d k ≤ n) (sym sits.dealt) high in
      record {
        table = table ∙ sits.table;
        dealt = sits.dealt;
        number = sits.number;
        share = share_is;
        passes = omega arith;
        passed = λ i h. dite (ℕ_discrete i s.passed)
            (λ e. ap (λ j. late s.dealt (hand_after s j) (draws_in p.me.0)) e ∙ late_here ∙ late_late s.dealt k n mine)
            (λ ne. late_other i (omega arith) ne ∙ sits.passed i (omega arith));
        ahead = λ i h l. late_other i l (λ e. omega arith) ∙ sits.ahead i (omega arith) l;
        on_hands = subst (AreOnHands b.dealt.workers) (sym draws_are) on;
        few = few;
      }

  pub taken_late : size_of b.dealt k ≤ n → tiles_drawn s.dealt (draws_in p.me.0) ≡ taken s
  taken_late high =
      let mine : size_of s.dealt k ≤ n = subst (λ (d : Dealt). size_of d k ≤ n) (sym sits.dealt) high in
      ap (tiles_drawn s.dealt) draws_are ∙ tiles_more s.dealt (draws_of s) ((k, n) ∷ []) ∙ ap (λ l. taken s ++ l) (tile_late s.dealt k n mine) ∙ append-nil (taken s)

  pub draws_late : (old : Seat) → (earlier : List (ℕ × ℕ)) × (draws_of s ≡ draws_of old ++ earlier) → (later : List (ℕ × ℕ)) × (draws_in p.me.0 ≡ draws_of old ++ later)
  draws_late old e = (e.0 ++ (k, n) ∷ [], draws_are ∙ ap (λ l. l ++ (k, n) ∷ []) e.1 ∙ append_assoc (draws_of old) e.0 ((k, n) ∷ []))

  pub takes_early : (old : Seat) (t : Tile) → (earlier : List (ℕ × ℕ)) × (draws_of s ≡ draws_of old ++ earlier) → taken s ≡ taken old → n < size_of b.dealt k → t ≡ get_or (board_tiles b) (first_of b.dealt k + n) t → TakesTile b old (record s { place = p }) t
  takes_early old t e same early tile =
      let mine : n < size_of s.dealt k = subst (λ (d : Dealt). n < size_of d k) (sym sits.dealt) early in
      let new : Sits b (record s { place = p }) = sits_early early in
      record {
        after = s.passed;
        place = n;
        earlier = e.0;
        is_hand = more;
        passed = λ i h. let one = new.passed i h in omega arith;
        here = new.ahead s.passed (omega arith) more;
        within = subst (λ j. n < size_of b.dealt j) is early;
        last = draws_are ∙ ap (λ l. l ++ (k, n) ∷ []) e.1 ∙ ap (λ j. (draws_of old ++ e.0) ++ (j, n) ∷ []) is;
        there =
            let within = place_within b.dealt k n low early in
            let all = b.counted in
            subst (λ j. first_of b.dealt j + n < length (board_tiles b)) is (omega arith);
        tile = tile ∙ ap (λ j. get_or (board_tiles b) (first_of b.dealt j + n) t) is;
        list = ap (tiles_drawn s.dealt) draws_are ∙ tiles_more s.dealt (draws_of s) ((k, n) ∷ []) ∙ ap (λ l. l ++ tiles_drawn s.dealt ((k, n) ∷ [])) same
            ∙ ap (λ l. taken old ++ l) (tile_early s.dealt k n mine) ∙ ap (λ (d : Dealt). taken old ++ (first_of d k + n) ∷ []) sits.dealt ∙ ap (λ j. taken old ++ (first_of b.dealt j + n) ∷ []) is;
      }

-- ---- a seat that has passed every hand

pub emptied : (b : Board) (s : Seat) → Sits b s → s.dealt.workers ≤ s.passed → IsEmptied s
emptied b s sits all k low =
    let number : s.number < s.dealt.workers = subst (λ (d : Dealt). s.number < d.workers) (sym sits.dealt) sits.number in
    let at = comes s.number s.dealt.workers k number low in
    let within = at.1 in
    let one : late s.dealt (hand_after s at.0) (draws_of s) ≡ 1 = sits.passed at.0 (omega arith) in
    let same : late s.dealt (hand_after s at.0) (draws_of s) ≡ late s.dealt k (draws_of s) = ap (λ j. late s.dealt j (draws_of s)) at.2 in
    omega arith
