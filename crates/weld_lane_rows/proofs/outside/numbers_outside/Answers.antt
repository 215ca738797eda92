use Rattle.std.proofs.Common.{rules}
use Rattle.weld_eval.specs.FrameView.{env_of}
use Rattle.weld_lane_rows.proofs.OutsideLemmas.{one_more, all_stand}
use Rattle.weld_lane_rows.proofs.outside.numbers_outside.Goals as goal

pub loop-place-preserved : goal.loop-place-preserved
loop-place-preserved g c = record {
  long = search rules;
  each = one_more g.L.Lane.number c.args.names.now g.L.Lane.kind c.args.syms.now c.loop-place.numbers.items c.push.new.self.items (env_of c.args.frame.now) c.loop-place.place c.in-Some.x c.name_at.result
      c.loop-place.invariant.long c.in_ok-push-in-Some.ensures.items c.name_at.ensures c.in-Some.ensures.outside c.in-Some.ensures.number c.loop-place.invariant.each;
}

pub returns : goal.returns
returns g c = all_stand g.L.Lane.number c.args.names.now g.L.Lane.kind c.args.syms.now c.loop-place.numbers.items (env_of c.args.frame.now) c.loop-place.place c.loop-place-test.false c.loop-place.invariant.each
