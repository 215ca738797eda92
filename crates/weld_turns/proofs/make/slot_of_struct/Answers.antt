use Rattle.std.proofs.Common.{refl, arith}
use Rattle.weld_turns.proofs.Making.{field_slot}
use Rattle.weld_turns.proofs.make.slot_of_struct.Goals as goal

pub returns : goal.returns
returns c = field_slot _ c.args.number c.args.count c.args.first _ refl refl (omega (arith, c.if-field-count.false))
