use Rattle.std.proofs.Common.{length}
use Rattle.weld_data.proofs.structs.+put_numbers.Given as goal

abbrev pub decreases-put_numbers : goal.decreases-put_numbers
decreases-put_numbers l = length l.kinds.now
