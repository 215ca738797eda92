use Rattle.std.proofs.Common.{◌-◌}
use Rattle.weld_blocks.proofs.noting.+take_fields.Given as goal

abbrev pub decreases-take_fields : goal.decreases-take_fields
decreases-take_fields l = 16 - l.field
