use Rattle.std.proofs.Common.{ap}
use Rattle.weld_eval.specs.ThingView.{thing_of, things_of}
use Rattle.weld_deeds.proofs.Doing.{fields_done}
use Rattle.weld_deeds.proofs.deed.+doing.Goals as goal

pub do_deed-returns-in-Several : goal.do_deed-returns-in-Several
do_deed-returns-in-Several t c = fields_done c.do_deeds.result c.args.deed.now c.in-Fields.deeds c.args.place (thing_of c.args.builder.now) (things_of c.in-Several.fields) (things_of c.do_deeds.new.fields) c.in-Fields.is (ap thing_of c.in-Several.is) c.do_deeds.ensures
