use Rattle.std.proofs.Common.{◌≡◌, ◌∙◌, ap, ◌≤◌, length, arith, refl}
use Rattle.weld_table.specs.declared.column.TableColumn.{TableColumn}
use Rattle.weld_table.specs.declared.verdict.Verdict.TheVariants.{Fine, Range, Syntax}
use Rattle.weld_table.specs.Cells.{worse, worst_of}
use Rattle.weld_table.proofs.Finishing.{worst_more, worst_all}
use Rattle.weld_table.proofs.table.judge.Goals as goal

pub loop-column-preserved : goal.loop-column-preserved
loop-column-preserved c =
    worst_more c.args.columns.now c.loop-column.column-index c.loop-column.verdict c.and-verdict.result c.column-item.result c.loop-column-test.true
    (c.and-verdict.ensures ∙ ap (λ (x : TableColumn). worse c.loop-column.verdict x.verdict) c.column-item.is) c.loop-column.invariant

pub returns-in-Fine : goal.returns-in-Fine
returns-in-Fine c =
    let end : length c.args.columns.now ≤ c.loop-column.column-index = omega (arith, c.loop-column-test.false) in
    let worst : worst_of Fine c.args.columns.now ≡ Fine = worst_all c.args.columns.now c.loop-column.column-index c.loop-column.verdict end c.loop-column.invariant ∙ c.in-Fine.is in
    rw worst tt

pub returns-in-Range : goal.returns-in-Range
returns-in-Range c =
    let end : length c.args.columns.now ≤ c.loop-column.column-index = omega (arith, c.loop-column-test.false) in
    let worst : worst_of Fine c.args.columns.now ≡ Range = worst_all c.args.columns.now c.loop-column.column-index c.loop-column.verdict end c.loop-column.invariant ∙ c.in-Range.is in
    rw worst refl

pub returns-in-Syntax : goal.returns-in-Syntax
returns-in-Syntax c =
    let end : length c.args.columns.now ≤ c.loop-column.column-index = omega (arith, c.loop-column-test.false) in
    let worst : worst_of Fine c.args.columns.now ≡ Syntax = worst_all c.args.columns.now c.loop-column.column-index c.loop-column.verdict end c.loop-column.invariant ∙ c.in-Syntax.is in
    rw worst refl
