use Rattle.std.proofs.Common.{rules}
use Rattle.weld_eval.specs.declared.frame.Frame.TheViews.{the_lemmas}
use Rattle.weld_eval.proofs.Below.{is_below}
use Rattle.weld_eval.proofs.frame.+find.Goals as goal

pub find-requires-in-None-thing : goal.find-requires-in-None-thing
find-requires-in-None-thing t c = (search (rules, the_lemmas), is_below _ _ _ _ c.in-Names.is c.in-None-thing.ensures c.requires)
