use Rattle.std.proofs.Common.{◌-◌}
use Rattle.weld_tiles.proofs.cut.+add_halves.Given as goal

abbrev pub decreases-add_halves : goal.decreases-add_halves
decreases-add_halves l = l.hi - l.lo
