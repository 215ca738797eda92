use Rattle.std.proofs.Common.{◌∙◌}
use Rattle.weld_handing.proofs.Noted.{type_changed, type_kept}
use Rattle.weld_handing.proofs.noting.+noting.Goals as goal
use Rattle.weld_handing.proofs.noting.+noting.Goals.{hand_each-then-i-sources+in_ok-hand_type, hand_each-else-i-sources}

pub hand_each-loop-i-preserved : goal.hand_each-loop-i-preserved
hand_each-loop-i-preserved t c =
    elim c.if-i-sources.branch [
      | hand_each-then-i-sources+in_ok-hand_type w ↦
          w.types-is
          ∙ type_changed c.args.ty.now c.loop-i.i c.args.sources.now c.loop-i.types c.args.types.now w.index-sources-i.result w.hand_type.new.noted c.index-types-i.result
          c.loop-i.invariant c.loop-i-test.true w.if-i-sources.true w.index-sources-i.is w.in_ok-hand_type.ensures
      | hand_each-else-i-sources w ↦
          w.types-is
          ∙ type_kept c.args.ty.now c.loop-i.i c.args.sources.now c.loop-i.types c.args.types.now c.index-types-i.result c.loop-i.invariant w.if-i-sources.false
    ]
