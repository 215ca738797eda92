use Rattle.std.proofs.Common.{◌≡◌, ◌<◌, ap, arith}
use Rattle.weld_tree.specs.Program.{ProgramTree, loops}
use Rattle.weld_tree.specs.ExprTree.{ExprTree}
use Rattle.weld_plan.proofs.Emitting.{few_loops}
use Rattle.weld_share.proofs.mapped.no_counts.Goals as goal

pub returns-clause-loops : goal.returns-clause-loops
returns-clause-loops c =
    let few : loops c.program.inside.body.value < 4294967295 = few_loops (record { params = c.program.inside.params; body = c.program.inside.body.value }) c.program.invariant in
    let here : loops c.program.inside.body.value ≡ loops c.args.plan.now.program.now.body = ap (λ (p : ProgramTree). loops p.body) c.program.view_is in
    let there : loops c.deref.result.now ≡ loops c.program.inside.body.value = ap (λ (e : ExprTree). loops e) c.deref.ensures in
    omega arith
