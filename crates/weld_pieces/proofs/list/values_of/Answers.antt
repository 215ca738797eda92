use Rattle.weld_pieces.proofs.ListLemmas.{taken_more}
use Rattle.weld_pieces.proofs.list.values_of.Goals as goal

pub loop-place-preserved : goal.loop-place-preserved
loop-place-preserved c = (
  taken_more c.args.items.now c.loop-place.place c.loop-place.values.items c.push.new.self.items c.in_ok-copy_at.field-0 c.in_ok-push.ensures.items c.loop-place.invariant.0 c.in_ok-copy_at.ensures,
  c.loop-place.invariant.1,
)
