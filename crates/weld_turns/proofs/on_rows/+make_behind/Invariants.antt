use Rattle.std.proofs.Common.{◌-◌, length}
use Rattle.weld_turns.proofs.on_rows.+make_behind.Given as goal

abbrev pub decreases-make_behind : goal.decreases-make_behind
decreases-make_behind l = length l.names.now - l.i
