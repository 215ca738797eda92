use Rattle.std.proofs.Common.{ap}
use Rattle.weld_eval.specs.ThingView.{thing_of, things_of}
use Rattle.weld_deeds.proofs.FieldLemmas.{struct_ready, struct_done}
use Rattle.weld_deeds.proofs.through.do_struct.Goals as goal

pub do_fields-requires-clause-fits : goal.do_fields-requires-clause-fits
do_fields-requires-clause-fits c =
    struct_ready c.args.deed.now c.args.deeds.now c.args.count (thing_of c.args.builder.now) (things_of c.in-Several.fields) c.requires.fields (ap thing_of c.in-Several.is) (c.are_calm.ensures c.if-are_calm.true) c.requires.fits

pub returns-in-Several : goal.returns-in-Several
returns-in-Several c =
    struct_done c.do_fields.result c.args.deed.now c.args.deeds.now c.args.count (thing_of c.args.builder.now) (things_of c.in-Several.fields) (things_of c.do_fields.new.fields) c.requires.fields (ap thing_of c.in-Several.is) (c.are_calm.ensures c.if-are_calm.true)
    c.requires.fits c.do_fields.ensures
