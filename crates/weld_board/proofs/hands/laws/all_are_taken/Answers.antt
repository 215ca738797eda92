use Rattle.weld_board.proofs.Once.{ends_taken}
use Rattle.weld_board.proofs.hands.laws.all_are_taken.Goals as goal

pub returns : goal.returns
returns c = ends_taken
