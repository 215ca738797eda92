use Rattle.weld_vertical_held.proofs.Joined.{only_of}
use Rattle.weld_vertical_held.proofs.rule.only_producer.Goals as goal

pub returns : goal.returns
returns c =
    only_of c.into_vec-legs.result.items c.pop.new.self.items c.args.legs c.in-Some.leg c.producer_of.result.value c.into_vec-legs.ensures c.in-Some.ensures.items c.requires
    c.producer_of.ensures
