use Rattle.std.proofs.Common.{arith}
use Rattle.weld_pieces.proofs.TotalLemmas.{integer_at, neutral_step, neutral_integers}
use Rattle.weld_pieces.proofs.totals.neutral_numbers.Goals as goal

pub neutral_number-requires : goal.neutral_number-requires
neutral_number-requires c = integer_at c.args.totals.now c.loop-i.i c.index-totals-i.result c.requires (omega arith)

pub loop-i-preserved : goal.loop-i-preserved
loop-i-preserved c =
    neutral_step c.args.op c.args.totals.now c.loop-i.numbers.items c.push.new.self.items c.loop-i.i c.index-totals-i.result c.neutral_number.result
    (omega arith) c.neutral_number.ensures.kind c.neutral_number.ensures.value c.in_ok-push.ensures.items c.loop-i.invariant

pub returns-clause-integers : goal.returns-clause-integers
returns-clause-integers c = neutral_integers c.args.op c.args.totals.now c.loop-i.numbers.items c.loop-i.i (omega arith) c.requires c.loop-i.invariant
