use Rattle.std.proofs.Common.{◌+◌, ◌-◌, ◌*◌, length}
use Rattle.weld_inputs.proofs.sharing.+halves.Given as goal

abbrev pub decreases-read_shared : goal.decreases-read_shared
decreases-read_shared g l = 4 * length l.claims.now

abbrev pub decreases-read_in_turn : goal.decreases-read_in_turn
decreases-read_in_turn g l = 4 * (length l.front.now + length l.back.now) - 1

abbrev pub decreases-read_halves : goal.decreases-read_halves
decreases-read_halves g l = 4 * (length l.front.now + length l.back.now) - 1

abbrev pub decreases-read_halves-read_front : goal.decreases-read_halves-read_front
decreases-read_halves-read_front g l = 4 * length l.front.now + 1

abbrev pub decreases-read_halves-read_back : goal.decreases-read_halves-read_back
decreases-read_halves-read_back g l = 4 * length l.back.now + 1
