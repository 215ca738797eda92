use Rattle.weld_eval.specs.ThingView.{held_of}
use Rattle.weld_eval_forms.proofs.ThreeShapes.{condition_plain}
use Rattle.weld_eval_forms.proofs.triple.selected.Goals as goal

pub value_of-requires : goal.value_of-requires
value_of-requires c = condition_plain (held_of c.args.x) (held_of c.args.y) (held_of c.args.z) c.requires
