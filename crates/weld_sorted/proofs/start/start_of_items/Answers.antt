use Rattle.std.proofs.Common.{◌<◌, ◌^◌, drop, arith}
use Rattle.weld_sorted.proofs.Starting.{fits, digit_low}
use Rattle.weld_sorted.proofs.start.start_of_items.Goals as goal

pub loop-place-init : goal.loop-place-init
loop-place-init c = ((16, omega arith, λ start h. h), omega arith)

pub overflow_mul-start : goal.overflow_mul-start
overflow_mul-start c =
    let low : c.loop-place.start < 256 ^ 15 = fits c.loop-place.place c.loop-place.start (omega arith) c.loop-place.invariant.1 in
    omega (arith, low)

pub overflow_add-start : goal.overflow_add-start
overflow_add-start c =
    let low : c.loop-place.start < 256 ^ 15 = fits c.loop-place.place c.loop-place.start (omega arith) c.loop-place.invariant.1 in
    let digit : c.digit_at.result < 256 = digit_low (drop c.loop-place.place c.args.items.now) c.digit_at.result c.digit_at.ensures in
    omega (arith, low, digit)
