use Rattle.std.proofs.Common.{eqb-true}
use Rattle.weld_blocks.proofs.NoteLemmas.{value_here, value_below, value_of_rows, value_picked}
use Rattle.weld_blocks.proofs.noting.+is_value.Goals as goal

pub returns-then-newest-name : goal.returns-then-newest-name
returns-then-newest-name t c = λ q. value_here c.args.scope.now c.in-Let.newest _ _ c.args.name.0 c.in-Let.is c.if-newest-name.true

pub returns-else-newest-name : goal.returns-else-newest-name
returns-else-newest-name t c = λ q. value_below c.args.scope.now c.in-Let.newest _ _ c.args.name.0 c.in-Let.is c.if-newest-name.false (c.is_value.ensures q)

pub returns-in-Rows : goal.returns-in-Rows
returns-in-Rows t c = λ q. value_of_rows c.args.scope.now _ c.args.name.0 c.in-Rows.is (eqb-true _ _ q)

pub returns-in-Picked : goal.returns-in-Picked
returns-in-Picked t c = λ q. value_picked c.args.scope.now _ _ _ c.args.name.0 c.in-Picked.is (c.is_value-in-Picked.ensures q)
