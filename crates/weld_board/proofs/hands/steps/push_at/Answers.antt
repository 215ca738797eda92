use Rattle.weld_board.proofs.Machines.{pushed, unpushed}
use Rattle.weld_board.proofs.hands.steps.push_at.Goals as goal

pub returns-in-Ok-clause-ok : goal.returns-in-Ok-clause-ok
returns-in-Ok-clause-ok c = pushed c.args.lists.now c.args.at c.index-lists-at.result c.push.new.self c.args.tile c.requires c.in-Ok.ensures.items

pub returns-in-Err-clause-err : goal.returns-in-Err-clause-err
returns-in-Err-clause-err c = unpushed c.args.lists.now c.args.at c.index-lists-at.result c.push.new.self c.in-Err.ensures.items
