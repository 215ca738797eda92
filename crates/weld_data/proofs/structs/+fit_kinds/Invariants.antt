use Rattle.std.proofs.Common.{length}
use Rattle.weld_data.proofs.structs.+fit_kinds.Given as goal

abbrev pub decreases-fit_kinds : goal.decreases-fit_kinds
decreases-fit_kinds l = length l.kinds.now
