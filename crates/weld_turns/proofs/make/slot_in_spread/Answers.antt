use Rattle.std.proofs.Common.{refl, sym, arith}
use Rattle.weld_turns.proofs.Making.{spread_slot}
use Rattle.weld_turns.proofs.make.slot_in_spread.Goals as goal

pub returns : goal.returns
returns c = spread_slot _ c.args.spread c.args.number _ refl refl (omega (arith, c.if-place-spread.false)) (sym c.if-not-has_bit.ensures)
