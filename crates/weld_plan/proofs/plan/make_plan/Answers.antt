use Rattle.std.proofs.Common.{arith, ap, ◌<◌}
use Rattle.weld_tree.specs.ExprTree.{ExprTree}
use Rattle.weld_tree.specs.Program.{loops}
use Rattle.weld_plan.proofs.Emitting.{few_loops}
use Rattle.weld_plan.proofs.plan.make_plan.Goals as goal

pub add-requires : goal.add-requires
add-requires c =
    let few : loops c.program.inside.body.value < 4294967295 = few_loops (record { params = c.program.inside.params; body = c.program.inside.body.value }) c.program.invariant in
    omega (arith, few, ap (λ (e : ExprTree). loops e) c.deref.ensures)
