use Rattle.weld_board.proofs.Once.{stays_once}
use Rattle.weld_board.proofs.hands.laws.once.Goals as goal

pub returns : goal.returns
returns c = stays_once
