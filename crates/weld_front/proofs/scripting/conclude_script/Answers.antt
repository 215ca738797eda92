use Rattle.std.proofs.Common.{ap, ◌∙◌}
use Rattle.weld_data.specs.View.{view_val}
use Rattle.weld_tree.specs.Program.{ProgramTree, loops}
use Rattle.weld_front.proofs.ScriptLemmas.{script_concluded}
use Rattle.weld_front.proofs.scripting.conclude_script.Goals as goal

pub returns-in-Ok : goal.returns-in-Ok
returns-in-Ok g c =
    let made = c.in_ok-program.field-0 in
    script_concluded c.args.asked.options c.args.script.now c.args.inputs made.program made.inputs made.ty (view_val c.in-Ok.value) c.in-Ok.note c.count_loops-loops.result c.done.result
    c.in_ok-program.ensures (c.count_loops-loops.ensures ∙ ap (λ (q : ProgramTree). loops q.body) c.program.ensures.same)
    c.in-Ok.ensures.value c.in-Ok.ensures.note c.done.ensures.status c.done.ensures.text
