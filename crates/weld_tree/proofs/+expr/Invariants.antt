-- Letting go goes on with a part of the expression at hand, which is no larger than the whole.
use Rattle.std.specs.Prelude.{◌≤◌}
use Rattle.weld_tree.specs.ExprFalls.{expr_size}
use Rattle.weld_tree.proofs.+expr.Given as goal

abbrev pub invariant-expr::Expr::drop-loop-self : goal.invariant-expr::Expr::drop-loop-self
invariant-expr::Expr::drop-loop-self l = expr_size l.self ≤ expr_size l.fn.self
