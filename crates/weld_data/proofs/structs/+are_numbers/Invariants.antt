use Rattle.std.proofs.Common.{length}
use Rattle.weld_data.proofs.structs.+are_numbers.Given as goal

abbrev pub decreases-are_numbers : goal.decreases-are_numbers
decreases-are_numbers l = length l.fields.now
