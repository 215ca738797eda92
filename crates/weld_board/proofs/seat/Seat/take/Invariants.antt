use Rattle.std.proofs.Common.{◌≡◌, ◌-◌, ℕ, List, ◌++◌}
use Rattle.weld_board.specs.Sitting.{Sits, draws_of, taken}
use Rattle.weld_board.proofs.seat.Seat.take.Given as goal

abbrev pub invariant-draws : goal.invariant-draws
invariant-draws l = record {
  sits : Sits l.board l.self;
  number : l.self.number ≡ l.fn.self.number;
  earlier : (earlier : List (ℕ × ℕ)) × (draws_of l.self ≡ draws_of l.fn.self ++ earlier);
  same : taken l.self ≡ taken l.fn.self;
}

abbrev pub decreases-draws : goal.decreases-draws
decreases-draws l = l.self.dealt.workers - l.self.passed
