use Rattle.weld_eval.specs.ThingView.{thing_of}
use Rattle.weld_lane_rows.proofs.OutsideLemmas.{found_in, found_under}
use Rattle.weld_lane_rows.proofs.outside.+number_named.Goals as goal

pub returns-in-Some : goal.returns-in-Some
returns-in-Some t c =
    found_in c.number_in_thing.result c.args.frame.now c.in-Names.names c.in-Names.rest c.args.name.0 (thing_of c.in-Some.x.now) c.in-Names.is c.in-Some.ensures c.number_in_thing.ensures

pub returns-in-None : goal.returns-in-None
returns-in-None t c =
    found_under c.number_named-in-None.result c.args.frame.now c.in-Names.names c.in-Names.rest c.args.name.0 c.in-Names.is c.in-None.ensures c.number_named-in-None.ensures
