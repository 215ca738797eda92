use Rattle.std.proofs.Common.{sym, ◌∙◌}
use Rattle.weld_lazy.proofs.Additions.{not_some, unknown_here}
use Rattle.weld_lazy.proofs.graph.Graph.first_unknown.Goals as goal

pub returns-then-is_none : goal.returns-then-is_none
returns-then-is_none c =
    sym (c.loop-id.invariant ∙ unknown_here c.args.self.now c.args.ids.now c.loop-id.id-index (record { 0 = 0 }) c.loop-id-test.true (sym c.ty_of.ensures ∙ not_some c.ty_of.result c.if-is_none.ensures))
