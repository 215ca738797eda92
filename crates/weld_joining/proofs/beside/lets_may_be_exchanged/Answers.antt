use Rattle.weld_joining.proofs.Exchanging.{exchanged}
use Rattle.weld_joining.proofs.beside.lets_may_be_exchanged.Goals as goal

pub returns : goal.returns
returns c a p m x y k w rest chain unnamed tidy =
    exchanged a p m x y k w rest chain unnamed tidy (record { total = c.values_are_ordered.ensures.total; alike = c.keys_are_ordered_alike.ensures })
