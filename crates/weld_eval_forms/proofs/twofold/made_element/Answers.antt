use Rattle.weld_eval.specs.ThingView.{thing_of, held_of}
use Rattle.weld_eval_forms.proofs.TwoShapes.{place_plain}
use Rattle.weld_eval_forms.proofs.twofold.made_element.Goals as goal

pub value_of-requires : goal.value_of-requires
value_of-requires c = place_plain (thing_of c.args.x.now) (held_of c.args.y.now) c.requires
