use Rattle.std.proofs.Common.{arith}
use Rattle.weld_turns.proofs.Following.{end_lowers}
use Rattle.weld_turns.proofs.lower.lower_end.Goals as goal

pub returns-then-first-room-le-SLOTS : goal.returns-then-first-room-le-SLOTS
returns-then-first-room-le-SLOTS c = end_lowers c.args.shape c.args.first c.args.go (omega (arith, c.if-first-room-le-SLOTS.true, c.room.ensures.exact))
