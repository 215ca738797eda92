use Rattle.weld_data.specs.View.{view_val}
use Rattle.weld_meaning.specs.Thing.{plain}
use Rattle.weld_eval.specs.ThingView.{held_of}
use Rattle.weld_eval_forms.proofs.TwoShapes.{place_plain}
use Rattle.weld_eval_forms.proofs.twofold.lent_element.Goals as goal

pub value_of-requires : goal.value_of-requires
value_of-requires c = place_plain (plain (view_val c.args.v.now)) (held_of c.args.y.now) c.requires
