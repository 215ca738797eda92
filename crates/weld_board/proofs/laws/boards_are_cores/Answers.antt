use Rattle.weld_board.proofs.Changes.{boards_follow}
use Rattle.weld_board.proofs.laws.boards_are_cores.Goals as goal

pub returns : goal.returns
returns c = boards_follow
