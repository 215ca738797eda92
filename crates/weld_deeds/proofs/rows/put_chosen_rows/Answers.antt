use Rattle.std.proofs.Common.{ap, refl}
use Rattle.weld_eval.specs.ThingView.{thing_of}
use Rattle.weld_deeds.proofs.RowLemmas.{chosen_done}
use Rattle.weld_deeds.proofs.rows.put_chosen_rows.Goals as goal

pub returns-in-Built : goal.returns-in-Built
returns-in-Built c =
    chosen_done c.merge_chosen.result c.args.truths.now c.args.columns.now.items c.deref.result.now c.args.count (thing_of c.args.builder.now) _ c.in-Built.built c.merge_chosen.new.built c.deref.ensures.value c.requires (ap thing_of c.in-Built.is) refl c.merge_chosen.ensures
