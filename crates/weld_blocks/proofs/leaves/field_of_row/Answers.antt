use Rattle.weld_blocks.proofs.LeafLemmas.{field_given, packed_given}
use Rattle.weld_blocks.proofs.leaves.field_of_row.Goals as goal

pub returns-in-And-rest : goal.returns-in-And-rest
returns-in-And-rest c = field_given c.field_of_legs.result c.args.legs.now c.in-And.column c.in-And-rest.field-0 c.in-And.rest c.in-And-rest.field-1 c.args.field c.args.from c.args.count c.in-And.is c.in-And-rest.is c.field_of_legs.ensures

pub returns-in-End-rest : goal.returns-in-End-rest
returns-in-End-rest c = packed_given c.field_of_structs.result c.args.legs.now c.in-And.column c.in-And.rest c.args.field c.args.from c.args.count c.in-And.is c.in-End-rest.is c.field_of_structs.ensures
