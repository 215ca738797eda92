use Rattle.weld_eval.specs.ThingView.{held_of}
use Rattle.weld_eval_forms.proofs.TwoShapes.{item_plain}
use Rattle.weld_eval_forms.proofs.twofold.merged.Goals as goal

pub into_value-requires : goal.into_value-requires
into_value-requires c = item_plain (held_of c.args.x) (held_of c.args.y) c.requires
