use Rattle.weld_lanes.proofs.Parts.{part_taken}
use Rattle.weld_lanes.proofs.block.part.Goals as goal

pub returns-clause-each : goal.returns-clause-each
returns-clause-each g c = part_taken g.L.Lane.number c.args.column.now c.args.from c.args.count
