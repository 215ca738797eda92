use Rattle.weld_data.proofs.Keys.{number_is_num}
use Rattle.weld_data.proofs.value.Column.number_at.Goals as goal

pub unreachable-requires : goal.unreachable-requires
unreachable-requires c =
    let numbers = rw c.in-Structs.is at c.requires.number in
    let at = c.holds_struct.ensures.at in
    rw at at numbers

pub unreachable-requires-in_default : goal.unreachable-requires-in_default
unreachable-requires-in_default c =
    let numbers = rw c.in-Nest.is at c.requires.number in
    number_is_num c.at.result.now (rw c.at.ensures at numbers) c.in_default.not-Num
