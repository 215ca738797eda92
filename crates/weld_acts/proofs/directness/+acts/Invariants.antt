use Rattle.std.proofs.Common.{◌≡◌, ◌+◌, ◌*◌, drop}
use Rattle.weld_tree.specs.ExprTree.{pack_exprs}
use Rattle.weld_tree.specs.ExprFalls.{expr_nodes, exprs_nodes}
use Rattle.weld_acts.specs.PathView.{path_of}
use Rattle.weld_acts.specs.Test.{all_act}
use Rattle.weld_acts.proofs.directness.+acts.Given as goal

abbrev pub decreases-acts : goal.decreases-acts
decreases-acts l = 4 * expr_nodes l.e.now

abbrev pub decreases-acts_own : goal.decreases-acts_own
decreases-acts_own l = 4 * expr_nodes l.body.now + 1

abbrev pub decreases-all_act : goal.decreases-all_act
decreases-all_act l = 4 * exprs_nodes (pack_exprs l.parts.now) + 1

-- all so far act, so it is as the rest do
abbrev pub invariant-all_act-loop-i : goal.invariant-all_act-loop-i
invariant-all_act-loop-i l = all_act (pack_exprs l.parts-2) l.name.0 (path_of l.path) 0 ≡ all_act (pack_exprs (drop l.i l.parts-2)) l.name.0 (path_of l.path) l.i
