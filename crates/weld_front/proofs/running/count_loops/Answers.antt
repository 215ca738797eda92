use Rattle.std.proofs.Common.{arith, ap, ◌≡◌, ◌∙◌, ◌<◌, ℕ, min}
use Rattle.weld_tree.specs.ExprTree.{ExprTree}
use Rattle.weld_tree.specs.Program.{ProgramTree, loops}
use Rattle.weld_plan.proofs.Emitting.{few_loops}
use Rattle.weld_front.proofs.running.count_loops.Goals as goal

capped : (n m : ℕ) → n ≡ min m 18446744073709551615 → m < 4294967295 → n ≡ m
capped n m e l = omega (arith, e, l)

pub returns : goal.returns
returns c =
    let source : ProgramTree = record { params = c.program.inside.params; body = c.program.inside.body.value } in
    let few : loops source.body < 4294967295 = few_loops source c.program.invariant in
    let counted = ap (λ (e : ExprTree). loops e) c.deref.ensures in
    capped c.loops.result (loops source.body) (c.loops.ensures ∙ ap (λ (n : ℕ). min n 18446744073709551615) counted) few
    ∙ ap (λ (q : ProgramTree). loops q.body) c.program.view_is
