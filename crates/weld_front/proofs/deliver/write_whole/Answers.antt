use Rattle.std.proofs.Common.{arith, length, List, ℕ, take, ap, length-drop, subst}
use Rattle.std.specs.Io.KnownBytes.{Appends}
use Rattle.weld_front.proofs.Sinks.{appends_more, rest_whole}
use Rattle.weld_front.proofs.deliver.write_whole.Goals as goal

pub loop-taken-preserved : goal.loop-taken-preserved
loop-taken-preserved g c =
    let held = g.K.Sink.held in
    let text = c.args.text.now in
    let taken = c.loop-taken.taken in
    let whole = rest_whole text taken in
    let wrote = subst (λ (t : List ℕ). Appends (held c.loop-taken.output) (held c.write.new.self) (take c.in-Ok.count t)) whole c.in-Ok.ensures.bytes in
    record {
      within = omega (arith, c.in-Ok.ensures.fits, ap length whole, length-drop taken text, c.loop-taken.invariant.within);
      appended = appends_more (held c.args.output.now) (held c.loop-taken.output) (held c.write.new.self) text taken c.in-Ok.count c.loop-taken.invariant.appended wrote;
      settled = cc;
      never_falls = omega (arith, c.in-Ok.ensures.never_falls, c.loop-taken.invariant.never_falls);
    }
