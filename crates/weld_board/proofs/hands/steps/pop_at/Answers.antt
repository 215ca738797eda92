use Rattle.std.proofs.Common.{get_or}
use Rattle.weld_board.proofs.Machines.{popped}
use Rattle.weld_board.proofs.hands.steps.pop_at.Goals as goal

pub returns-clause-left : goal.returns-clause-left
returns-clause-left c t rest is =
    popped c.args.hands.now c.args.at c.index-hands-at.result c.pop-first.new.self (get_or c.args.hands.now c.args.at c.index-hands-at.result).len t rest c.requires
    (get_or c.args.hands.now c.args.at c.index-hands-at.result).ok.0 c.pop-first.ensures.rest is
