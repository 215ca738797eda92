-- Seats, as they are dealt and as they draw.
use Rattle.std.proofs.Common.{◌≡◌, ℕ, suc, ◌+◌, ◌<◌, List, [], ◌∷◌, ◌++◌, length, ap, sym, ◌∙◌, subst, arith}
use Rattle.weld_board.specs.declared.board.Board.{Board}
use Rattle.weld_board.specs.declared.seat.Seat.{Seat}
use Rattle.weld_board.specs.Draws.{late, fresh, tiles_drawn}
use Rattle.weld_board.specs.Sitting.{Sits, AreFresh, AreOnHands, draws_in, draws_of, taken, hand_after}

-- ---- seats that are dealt

pub fresh_next : (k n m : ℕ) → n ≡ suc m → fresh k n ≡ record { seat = k; draws = [] } ∷ fresh (k + 1) m
fresh_next k n m e = ap (fresh k) e

pub fresh_sits : (b : Board) (s : Seat) → s.place.table_id ≡ b.table.shared.table_id → s.dealt ≡ b.dealt → s.number < b.dealt.workers → s.passed ≡ 0 → s.place.me ≡ (record { seat = s.number; draws = [] } ∷ [], []) → Sits b s
fresh_sits b s table dealt low none me =
    let draws : draws_of s ≡ [] = ap (λ m. draws_in m.0) me in
    record {
      table = table;
      dealt = dealt;
      number = low;
      share = me ∙ ap (λ l. (record { seat = s.number; draws = l } ∷ [], [])) (sym draws);
      passes = omega arith;
      passed = λ i h. absurd (omega arith);
      ahead = λ i h k. ap (late s.dealt (hand_after s i)) draws;
      on_hands = subst (AreOnHands b.dealt.workers) (sym draws) tt;
      few = let count : length (taken s) ≡ 0 = ap (λ l. length (tiles_drawn s.dealt l)) draws in omega arith;
    }

pub fresh_more : (b : Board) (k : ℕ) (ss : List Seat) (s : Seat) (n : ℕ) → n ≡ k + length ss → AreFresh b k ss → Sits b s → s.number ≡ n → draws_of s ≡ [] → AreFresh b k (ss ++ s ∷ [])
fresh_more b k [] s n e are sits is none = (sits, (let same = e in omega arith), none, tt)
fresh_more b k (x ∷ ss) s n e are sits is none = (are.0, are.1, are.2, fresh_more b (k + 1) ss s n (omega arith) are.3 sits is none)
