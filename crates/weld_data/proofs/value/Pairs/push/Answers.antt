use Rattle.weld_data.proofs.Rising.{Rises-push}
use Rattle.weld_data.proofs.value.Pairs.push.Goals as goal

pub invariant_of-self-2 : goal.invariant_of-self-2
invariant_of-self-2 c =
    Rises-push c.self.inside.items.items c.args.self.now c.push.new.self.items c.args.pair c.in_ok-push.ensures.items c.self.view_is c.self.invariant c.requires
