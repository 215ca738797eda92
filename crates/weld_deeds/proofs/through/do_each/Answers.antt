use Rattle.std.proofs.Common.{Err, sym, ◌∙◌}
use Rattle.weld_eval.specs.ThingView.{thing_of}
use Rattle.weld_deeds.specs.Deeds.{DeedFits, do_of}
use Rattle.weld_deeds.proofs.DeedForms.{acts_as}
use Rattle.weld_deeds.proofs.ThroughLemmas.{come_fits, come_next, come_stops}
use Rattle.weld_deeds.proofs.through.do_each.Goals as goal

pub at-requires : goal.at-requires
at-requires g c =
    c.requires.each.can c.loop-place.place (thing_of c.loop-place.builder)
    (come_fits (do_of c.args.deed.now) (DeedFits c.args.deed.now) c.args.count (thing_of c.args.builder.now) c.loop-place.place (thing_of c.loop-place.builder) c.loop-place-test.true c.loop-place.invariant)

pub returns-in-Err : goal.returns-in-Err
returns-in-Err g c =
    come_stops (Unit {0}) (Unit {0}) c.in-Err.stop (do_of c.args.deed.now) (DeedFits c.args.deed.now) c.args.count (thing_of c.args.builder.now) c.loop-place.place (thing_of c.loop-place.builder)
    (thing_of c.at.new.builder) (thing_of c.at.new.builder) c.loop-place-test.true c.loop-place.invariant
    (acts_as {T = Unit {0}} (Err c.in-Err.stop) _ _ (thing_of c.at.new.builder) (c.requires.each.same c.loop-place.place (thing_of c.loop-place.builder)) c.in-Err.ensures)

pub loop-place-preserved : goal.loop-place-preserved
loop-place-preserved g c =
    come_next (do_of c.args.deed.now) (DeedFits c.args.deed.now) c.args.count (thing_of c.args.builder.now) c.loop-place.place (thing_of c.loop-place.builder) (thing_of c.at.new.builder) c.loop-place-test.true c.loop-place.invariant
    (sym (c.requires.each.same c.loop-place.place (thing_of c.loop-place.builder)) ∙ c.in-Ok.ensures)
