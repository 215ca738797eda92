use Rattle.std.proofs.Common.{◌≡◌, ◌-◌, [], length, vec_capacity}
use Rattle.weld_board.specs.Draws.{fresh}
use Rattle.weld_board.specs.Sitting.{AreFresh}
use Rattle.weld_board.proofs.dealing.seat_all.Given as goal

abbrev pub invariant-loop-number : goal.invariant-loop-number
invariant-loop-number l = record {
  table : l.first.table_id ≡ l.board.table.shared.table_id;
  left : l.first.me ≡ (fresh l.number (l.board.dealt.workers - l.number), []);
  seats : AreFresh l.board 0 l.seats.items;
  all : length l.seats.items ≡ l.number;
  room : vec_capacity l.seats ≡ l.board.dealt.workers;
}
