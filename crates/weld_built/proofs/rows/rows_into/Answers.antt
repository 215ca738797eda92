use Rattle.std.proofs.Common.{ap, refl}
use Rattle.weld_built.specs.State.{part_of_state}
use Rattle.weld_built.proofs.ManyLemmas.{totals_rows}
use Rattle.weld_built.proofs.rows.rows_into.Goals as goal

pub returns-in-Totals-clause-answer : goal.returns-in-Totals-clause-answer
returns-in-Totals-clause-answer c =
    totals_rows (part_of_state c.args.state.now) c.in-Totals.totals c.merge_rows.new.self c.args.count c.args.kinds.now c.args.numbers.now _ (ap part_of_state c.in-Totals.is) (c.if-not-has_kinds.ensures refl) c.requires.structs.structs refl
    c.merge_rows.ensures.op c.merge_rows.ensures.totals
