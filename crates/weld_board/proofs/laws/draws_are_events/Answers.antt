use Rattle.weld_board.proofs.Takings.{draw_takes}
use Rattle.weld_board.proofs.laws.draws_are_events.Goals as goal

pub returns : goal.returns
returns c = draw_takes
