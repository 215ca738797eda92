use Rattle.std.proofs.Common.{subst}
use Rattle.weld_data.specs.View.{view_val}
use Rattle.weld_eval.specs.Answers.{Answers}
use Rattle.weld_eager.proofs.Taking.{part_is}
use Rattle.weld_eager.proofs.places.slice.Goals as goal

pub returns : goal.returns
returns c = subst (Answers view_val c.part_of.result) (part_is (view_val c.args.v.now) (view_val c.args.start.now) (view_val c.args.count.now) c.requires.vector c.requires.start c.requires.count) c.part_of.ensures
