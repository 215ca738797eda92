use Rattle.std.proofs.Common.{ap, ◌∙◌}
use Rattle.weld_data.specs.View.{view_val}
use Rattle.weld_tree.specs.Program.{ProgramTree, loops}
use Rattle.weld_front.proofs.AnswerLemmas.{concluded_so}
use Rattle.weld_front.proofs.running.run_on.Goals as goal

pub returns-in-Ok : goal.returns-in-Ok
returns-in-Ok g c =
    concluded_so c.args.asked.options c.args.program c.args.ty.now c.args.arguments (view_val c.in-Ok.value) c.in-Ok.note c.count_loops-loops.result c.done.result
    (c.count_loops-loops.ensures ∙ ap (λ (q : ProgramTree). loops q.body) c.program.ensures.same)
    c.in-Ok.ensures.value c.in-Ok.ensures.note c.done.ensures.status c.done.ensures.text
