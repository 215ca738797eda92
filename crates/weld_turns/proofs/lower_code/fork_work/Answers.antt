use Rattle.weld_turns.proofs.LowerLemmas.{fork_ok}
use Rattle.weld_turns.proofs.lower_code.fork_work.Goals as goal

pub returns : goal.returns
returns c =
    fork_ok c.bring_place.result c.in-Ok-bring.next c.in-Ok.last c.args.yes c.args.no c.args.op c.args.x.now c.args.y.now c.place_or-left.result c.operand_for-right.result c.slot_of-first.result c.at_hand-second.result
    c.slot_of-first.ensures c.place_or-left.ensures c.operand_for-right.ensures c.in-Ok.ensures c.in-Ok-bring.ensures c.bring_place.ensures
