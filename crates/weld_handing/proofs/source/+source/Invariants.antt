use Rattle.std.proofs.Common.{◌≡◌, ◌+◌, ◌*◌, drop}
use Rattle.weld_tree.specs.ExprTree.{pack_exprs}
use Rattle.weld_tree.specs.ExprFalls.{expr_nodes, exprs_nodes}
use Rattle.weld_meaning.specs.Origin.{origins}
use Rattle.weld_handing.proofs.Lists.{behind}
use Rattle.weld_handing.proofs.source.+source.Given as goal

-- the measure: four times the nodes, so that a node and its parts differ

abbrev pub decreases-source_of : goal.decreases-source_of
decreases-source_of l = 4 * expr_nodes l.e.now

abbrev pub decreases-source_of_one : goal.decreases-source_of_one
decreases-source_of_one l = 4 * expr_nodes l.part.now + 1

abbrev pub decreases-source_of_two : goal.decreases-source_of_two
decreases-source_of_two l = 4 * expr_nodes l.first.now + 1

abbrev pub decreases-source_of_three : goal.decreases-source_of_three
decreases-source_of_three l = 4 * expr_nodes l.second.now + 1

abbrev pub decreases-source_of_many : goal.decreases-source_of_many
decreases-source_of_many l = 4 * exprs_nodes (pack_exprs l.parts.now) + 2

abbrev pub decreases-sources_of : goal.decreases-sources_of
decreases-sources_of l = 4 * exprs_nodes (pack_exprs l.parts.now) + 1

abbrev pub decreases-source_of_let : goal.decreases-source_of_let
decreases-source_of_let l = 4 * (expr_nodes l.value.now + expr_nodes l.body.now) + 1

-- those so far and what is left make the whole

abbrev pub invariant-sources_of-loop-part : goal.invariant-sources_of-loop-part
invariant-sources_of-loop-part l = origins (pack_exprs l.part-items) l.scope ≡ behind l.sources (origins (pack_exprs (drop l.part-index l.part-items)) l.scope)
