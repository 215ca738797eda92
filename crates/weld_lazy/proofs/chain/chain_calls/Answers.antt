use Rattle.std.proofs.Common.{◌≡◌, ◌+◌, ℕ, List, map, ◌∙◌, refl}
use Rattle.weld_objects.specs.Numbering.{number_in}
use Rattle.weld_objects.specs.Lowered.{lets}
use Rattle.weld_lazy.specs.View.{view_object}
use Rattle.weld_lazy.specs.Lowering.{marks_of}
use Rattle.weld_lazy.proofs.Chaining.{count_at, room_at, binders_next, lets_next}
use Rattle.weld_lazy.proofs.chain.chain_calls.Goals as goal

pub pass-requires-clause-count : goal.pass-requires-clause-count
pass-requires-clause-count c =
    count_at c.args.objects.now c.loop-id.id c.index-objects-id.result c.index-objects-id.result c.loop-id-test.true c.index-objects-id.is c.requires.counts

pub pass-requires-clause-room : goal.pass-requires-clause-room
pass-requires-clause-room c =
    room_at (marks_of c.args.marks.now) c.args.objects.now c.loop-id.id c.loop-id.chain.next c.args.first c.index-objects-id.result c.index-objects-id.result c.loop-id-test.true c.index-objects-id.is c.loop-id.invariant.count c.requires.room

pub loop-id-preserved : goal.loop-id-preserved
loop-id-preserved c = record {
  count = binders_next (marks_of c.args.marks.now) c.args.objects.now c.loop-id.id (c.loop-id.id + 1) c.loop-id.chain.next c.pass.new.self.next c.index-objects-id.result c.index-objects-id.result c.loop-id-test.true c.index-objects-id.is refl c.in_ok-pass.ensures.next
      ∙ c.loop-id.invariant.count;
  left = lets_next (marks_of c.args.marks.now) c.args.objects.now c.loop-id.id (c.loop-id.id + 1) c.loop-id.chain.next c.pass.new.self.next c.index-objects-id.result c.index-objects-id.result (number_in c.loop-id.chain.numbers) (number_in c.pass.new.self.numbers) c.loop-id.chain.lets c.pass.new.self.lets
      (λ shown. lets (marks_of c.args.marks.now) 0 c.args.first (number_in c.args.numbers) shown (map view_object c.args.objects.now)) c.loop-id-test.true c.index-objects-id.is refl c.loop-id.invariant.left c.in_ok-pass.ensures.passed;
}
