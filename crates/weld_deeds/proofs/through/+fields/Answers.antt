use Rattle.std.proofs.Common.{ap, subst, arith}
use Rattle.weld_eval.specs.ThingView.{thing_of, things_of}
use Rattle.weld_deeds.specs.Calm.{IsCalm, AreCalm}
use Rattle.weld_deeds.proofs.FieldLemmas.{fewer, fewer_within, fewer_fields, first_calm, first_ready, others_ready, none_left, first_stopped, others_done, struct_ready, struct_done}
use Rattle.weld_deeds.proofs.through.+fields.Goals as goal

pub do_fields-do_calm-requires : goal.do_fields-do_calm-requires
do_fields-do_calm-requires t c = (
  omega (arith, fewer_within c.args.deeds.now _ _ c.in-And.deed.value c.deref.result.now c.in-And.rest.value c.in-And.is c.deref.ensures),
  (
    c.requires.some,
    (
      first_calm c.args.deeds.now _ _ c.in-And.deed.value c.deref.result.now c.in-And.rest.value c.in-And.is c.deref.ensures c.requires.calm,
      first_ready c.args.deeds.now _ _ c.in-And.deed.value c.deref.result.now c.in-And.rest.value c.args.count (things_of c.args.fields.now) (thing_of c.in-And-fields.first.value) (thing_of c.deref_mut.result.now) (things_of c.in-And-fields.more.value)
          c.in-And.is (ap things_of c.in-And-fields.is) c.deref.ensures (ap thing_of c.deref_mut.ensures.value) c.requires.calm c.requires.fits,
    ),
  ),
)

pub do_fields-do_fields-requires : goal.do_fields-do_fields-requires
do_fields-do_fields-requires t c =
    let rest = others_ready c.args.deeds.now _ _ c.in-And.deed.value c.in-And.rest.value c.deref-in-Ok.result.now c.args.count (things_of c.args.fields.now) (thing_of c.in-And-fields.first.value) (things_of c.in-And-fields.more.value) (things_of c.deref_mut-in-Ok.result.now)
    c.in-And.is (ap things_of c.in-And-fields.is) c.deref-in-Ok.ensures (ap things_of c.deref_mut-in-Ok.ensures.value) c.requires.calm c.requires.fits in
    (omega (arith, fewer c.args.deeds.now _ _ c.in-And.deed.value c.in-And.rest.value c.deref-in-Ok.result.now c.in-And.is c.deref-in-Ok.ensures), (c.requires.some, rest))

pub do_fields-returns-in-End : goal.do_fields-returns-in-End
do_fields-returns-in-End t c = none_left c.args.deeds.now c.args.count (things_of c.args.fields.now) c.in-End.is c.requires.some c.requires.fits

pub do_fields-returns-in-Ok : goal.do_fields-returns-in-Ok
do_fields-returns-in-Ok t c =
    others_done c.do_fields.result c.args.deeds.now _ _ c.in-And.deed.value c.deref.result.now c.in-And.rest.value c.deref-in-Ok.result.now c.args.count (things_of c.args.fields.now) (thing_of c.in-And-fields.first.value) (thing_of c.deref_mut.result.now) (thing_of c.do_calm.new.builder)
    (things_of c.in-And-fields.more.value) (things_of c.deref_mut-in-Ok.result.now) (things_of c.do_fields.new.fields) c.in-And.is (ap things_of c.in-And-fields.is) c.deref.ensures (ap thing_of c.deref_mut.ensures.value) c.deref-in-Ok.ensures (ap things_of c.deref_mut-in-Ok.ensures.value)
    c.requires.calm c.requires.fits c.in-Ok.ensures c.do_fields.ensures

pub do_fields-returns-in-Err : goal.do_fields-returns-in-Err
do_fields-returns-in-Err t c =
    first_stopped (Unit {0}) (Unit {0}) c.in-Err.stop c.args.deeds.now _ _ c.in-And.deed.value c.deref.result.now c.in-And.rest.value c.args.count (things_of c.args.fields.now) (thing_of c.in-And-fields.first.value) (thing_of c.deref_mut.result.now) (thing_of c.do_calm.new.builder)
    (things_of c.in-And-fields.more.value) _ c.in-And.is (ap things_of c.in-And-fields.is) c.deref.ensures (ap thing_of c.deref_mut.ensures.value) c.requires.calm c.requires.fits c.in-Err.ensures

pub do_calm-do_fields-requires : goal.do_calm-do_fields-requires
do_calm-do_fields-requires t c =
    let calm : AreCalm c.in-Fields.deeds = subst IsCalm c.in-Fields.is c.requires.calm in (
      omega (arith, fewer_fields c.args.deed.now c.in-Fields.deeds c.in-Fields.is),
      (
        c.requires.some,
        (
          calm,
          struct_ready c.args.deed.now c.in-Fields.deeds c.args.count (thing_of c.args.builder.now) (things_of c.in-Several.fields) c.in-Fields.is (ap thing_of c.in-Several.is) calm c.requires.fits,
        ),
      ),
    )

pub do_calm-returns-in-Several : goal.do_calm-returns-in-Several
do_calm-returns-in-Several t c =
    struct_done c.do_fields.result c.args.deed.now c.in-Fields.deeds c.args.count (thing_of c.args.builder.now) (things_of c.in-Several.fields) (things_of c.do_fields.new.fields) c.in-Fields.is (ap thing_of c.in-Several.is)
    (subst IsCalm c.in-Fields.is c.requires.calm) c.requires.fits c.do_fields.ensures
