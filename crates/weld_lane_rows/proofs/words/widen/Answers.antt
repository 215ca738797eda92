use Rattle.std.proofs.Common.{sym, ◌∙◌}
use Rattle.weld_lane_rows.proofs.NumberLists.{all_written}
use Rattle.weld_lane_rows.proofs.words.widen.Goals as goal

pub returns : goal.returns
returns g c = all_written g.L.Lane.number c.args.numbers.now c.loop-place.room c.loop-place.place (c.requires ∙ sym c.loop-place.auto.room) c.loop-place-test.false c.loop-place.invariant
