use Rattle.std.proofs.Common.{take, drop, ap, ◌∙◌, arith}
use Rattle.weld_tokens.proofs.Reading.{SoFar-next}
use Rattle.weld_tokens.proofs.read.read_tokens.Goals as goal

pub loop-rest-preserved : goal.loop-rest-preserved
loop-rest-preserved c =
    let rest = c.loop-rest.rest.now in
    let cut = c.split_at in
    let word = c.split_at-in-loop-rest in
    let here = c.place_after-here.ensures in
    let there = c.place_after-place.ensures in
    SoFar-next c.args.text.now c.loop-rest.tokens _ c.loop-rest.place rest cut.result.0.now cut.result.1.now
    c.place_after-here.result c.in-Some.count c.in-Some.class c.in-Ok.token word.result.0.now word.result.1.now c.place_after-place.result
    c.loop-rest.invariant (cut.ensures.front ∙ ap (λ n. take n rest) c.gap_len.ensures.value) (cut.ensures.back ∙ ap (λ n. drop n rest) c.gap_len.ensures.value) c.place_after-here.ensures.value c.in-Some.ensures.some
    c.in-Ok.ensures.0 c.in-Ok.ensures.1 c.in-Ok.ensures.2 word.ensures.front word.ensures.back c.place_after-place.ensures.value
    c.in-Ok-push.ensures.ok
    (omega (arith, c.loop-rest.invariant.line, here.line, there.line, cut.ensures.front_len, cut.ensures.back_len, word.ensures.front_len, word.ensures.back_len))
    (omega (arith, c.loop-rest.invariant.column, here.column, there.column, cut.ensures.front_len, cut.ensures.back_len, word.ensures.front_len, word.ensures.back_len))
    c.place_after-place.ensures.first
