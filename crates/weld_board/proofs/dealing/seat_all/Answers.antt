use Rattle.std.proofs.Common.{◌≡◌, ◌+◌, ◌-◌, ◌<◌, [], ◌∷◌, ℕ, ap, sym, subst, ◌∙◌, refl, arith}
use Rattle.weld_board.specs.declared.seat.Seat.{Seat}
use Rattle.weld_board.specs.Rule.{others, first_share}
use Rattle.weld_board.specs.Sitting.{AreFresh, draws_in}
use Rattle.weld_board.proofs.Stepping.{split_at}
use Rattle.weld_board.proofs.Seating.{fresh_next, fresh_sits, fresh_more}
use Rattle.weld_board.proofs.dealing.seat_all.Goals as goal

pub split_seat-place-requires : goal.split_seat-place-requires
split_seat-place-requires c =
    let words = c.args.board.now.words in
    let some = c.args.board.now.some_worker in
    (c.loop-number.invariant.table, (omega arith), split_at c.args.board.now.table.shared.key c.loop-number.first.id c.loop-number.first.me.0)

pub loop-number-preserved : goal.loop-number-preserved
loop-number-preserved c =
    let inv = c.loop-number.invariant in
    let n : ℕ = c.loop-number.number in
    let w : ℕ = c.args.board.now.dealt.workers in
    let low : n < w = c.loop-number-test.true in
    let next = fresh_next n (w - n) (w - (n + 1)) (omega arith) in
    let split = c.split_seat-place.ensures in
    let s : Seat = record { place = c.split_seat-place.result; dealt = c.args.board.now.dealt; number = n; passed = 0 } in
    let own : s.place.me ≡ (record { seat = n; draws = [] } ∷ [], []) = split.4 ∙ ap (λ m. (first_share m.0, [])) inv.left ∙ ap (λ l. (first_share l, [])) next in
    let all = inv.all in
    record {
      table = split.0 ∙ inv.table;
      left = split.2 ∙ ap (λ m. (others m.0, m.1)) inv.left ∙ ap (λ l. (others l, [])) next;
      seats = subst (AreFresh c.args.board.now 0) (sym c.push_reserved.ensures.items)
          (fresh_more c.args.board.now 0 c.loop-number.seats.items s n (omega arith) inv.seats (fresh_sits c.args.board.now s (split.3 ∙ inv.table) refl low refl own) refl (ap (λ m. draws_in m.0) own));
      all = grind arith;
      room = c.push_reserved.ensures.capacity ∙ inv.room;
    }
