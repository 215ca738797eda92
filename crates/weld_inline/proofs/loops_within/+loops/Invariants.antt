use Rattle.std.proofs.Common.{◌≡◌, ◌+◌, ◌*◌, drop}
use Rattle.weld_tree.specs.ExprTree.{pack_exprs}
use Rattle.weld_tree.specs.ExprFalls.{expr_nodes, exprs_nodes}
use Rattle.weld_substitution.specs.Redex.{some_has_loop}
use Rattle.weld_inline.proofs.loops_within.+loops.Given as goal

abbrev pub decreases-has_loop : goal.decreases-has_loop
decreases-has_loop l = 4 * expr_nodes l.e.now

abbrev pub decreases-some_has_loop : goal.decreases-some_has_loop
decreases-some_has_loop l = 4 * exprs_nodes (pack_exprs l.parts.now) + 1

-- in none so far stands a loop, so it is as in the rest
abbrev pub invariant-some_has_loop-loop-part : goal.invariant-some_has_loop-loop-part
invariant-some_has_loop-loop-part l = some_has_loop (pack_exprs l.part-items) ≡ some_has_loop (pack_exprs (drop l.part-index l.part-items))
