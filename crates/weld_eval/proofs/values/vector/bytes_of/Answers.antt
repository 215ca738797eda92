use Rattle.weld_eval.proofs.ByteLemmas.{bytes_more}
use Rattle.weld_eval.proofs.values.vector.bytes_of.Goals as goal

pub loop-byte-preserved : goal.loop-byte-preserved
loop-byte-preserved c =
    bytes_more c.as_slice-byte-items.result.now c.loop-byte.items c.push.new.self c.loop-byte.byte-index c.cast_signed.result c.loop-byte.invariant c.loop-byte-test.true
    c.in_ok-push.ensures.ok (c.type_inv.byte-items c.loop-byte.byte-index) (record { sfits = c.cast_signed.type_inv }) c.cast_signed.ensures
