use Rattle.std.proofs.Common.{arith}
use Rattle.weld_pieces.proofs.TotalLemmas.{none_yet, later_there, integer_later, same_kind_there, combine_step, all_done, integers_stay}
use Rattle.weld_pieces.proofs.totals.add_numbers.Goals as goal

pub loop-i-init : goal.loop-i-init
loop-i-init c = none_yet c.args.op c.args.totals.now c.args.later.now

pub bounds-later-i : goal.bounds-later-i
bounds-later-i c = later_there c.args.totals.now c.args.later.now c.loop-i.i c.requires.kinds (omega arith)

pub combined-requires-clause-integer : goal.combined-requires-clause-integer
combined-requires-clause-integer c =
    integer_later c.args.totals.now c.args.later.now c.loop-i.i c.index-later-i.result c.requires.integers c.requires.kinds
    (later_there c.args.totals.now c.args.later.now c.loop-i.i c.requires.kinds (omega arith)) c.index-later-i.is

pub combined-requires-clause-kind : goal.combined-requires-clause-kind
combined-requires-clause-kind c =
    same_kind_there c.args.op c.args.totals.now c.loop-i.totals c.args.later.now c.loop-i.i c.index-totals-i.result c.index-later-i.result c.requires.kinds
    (later_there c.args.totals.now c.args.later.now c.loop-i.i c.requires.kinds (omega arith)) c.loop-i.invariant c.index-totals-i.is c.index-later-i.is

pub loop-i-preserved : goal.loop-i-preserved
loop-i-preserved c =
    combine_step c.args.op c.args.totals.now c.loop-i.totals c.args.later.now c.loop-i.i c.index-totals-i.result c.index-later-i.result c.combined.result
    (omega arith) c.requires.kinds c.loop-i.invariant c.index-totals-i.is c.index-later-i.is c.combined.ensures.kind c.combined.ensures.value

pub returns-clause-totals : goal.returns-clause-totals
returns-clause-totals c = all_done c.args.op c.args.totals.now c.loop-i.totals c.args.later.now c.loop-i.i c.requires.kinds (omega arith) c.loop-i.invariant

pub returns-clause-integers : goal.returns-clause-integers
returns-clause-integers c = integers_stay c.args.op c.args.totals.now c.loop-i.totals c.args.later.now c.loop-i.i c.requires.integers c.requires.kinds c.loop-i.invariant
