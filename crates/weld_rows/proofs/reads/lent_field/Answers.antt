use Rattle.std.proofs.Common.{refl}
use Rattle.weld_tree.specs.ExprTree.{one}
use Rattle.weld_tree.specs.ExprView.{view_one}
use Rattle.weld_eval.specs.FrameView.{env_of}
use Rattle.weld_eval.specs.SlotView.{slot_thing}
use Rattle.weld_rows.specs.Nodes.{anywhere}
use Rattle.weld_rows.proofs.ReadLemmas.{field_takes}
use Rattle.weld_rows.proofs.reads.lent_field.Goals as goal

pub lent_in_slot-requires : goal.lent_in_slot-requires
lent_in_slot-requires c =
    field_takes anywhere (view_one c.args.form.now) c.in-Some.field c.in-Some-name_of.name.0 c.args.part.now (env_of c.args.frame.now) (one anywhere (view_one c.args.form.now) c.args.part.now) (slot_thing c.read.result) refl c.in-Some.ensures c.in-Some-name_of.ensures c.requires c.read.ensures
