use Rattle.std.proofs.Common.{rules, ◌≡◌, ◌<◌, length, subst, arith}
use Rattle.weld_data.specs.declared.kind.Kind.TheVariants as kinds
use Rattle.weld_eager.proofs.Words.{bits_in_range, read_in_range}
use Rattle.weld_eager.proofs.Tallying.{tallied_more, tallied_all}
use Rattle.weld_eager.proofs.histogram.tally.Goals as goal

pub combine-requires-clause-left : goal.combine-requires-clause-left
combine-requires-clause-left c =
    let n : c.len.result ≡ length c.loop-x.cells.items = search rules in
    let within : c.in-Some.place < length c.loop-x.cells.items = subst (λ m. c.in-Some.place < m) n c.in-Some.ensures.1 in
    bits_in_range kinds.I64 c.index.result.now (read_in_range kinds.I64 c.loop-x.cells.items c.in-Some.place c.index.result.now c.loop-x.invariant.1 within c.index.ensures)

pub loop-x-preserved : goal.loop-x-preserved
loop-x-preserved c =
    let n : c.len.result ≡ length c.loop-x.cells.items = search rules in
    tallied_more c.args.starts.items c.args.places.now c.loop-x.x-index c.loop-x.cells.items c.index.result.now c.combine.result c.in-Some.place c.len.result
    c.requires.places (omega arith) c.loop-x.invariant.1 c.combine.ensures.in_range c.in-Some.ensures n c.index.ensures c.combine.ensures.value c.loop-x.invariant.0

pub returns-clause-answer : goal.returns-clause-answer
returns-clause-answer c =
    tallied_all c.args.starts.items c.args.places.now c.loop-x.x-index c.loop-x.cells.items c.requires.starts (omega (arith, c.loop-x-test.false)) c.loop-x.invariant.0
