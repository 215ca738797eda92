use Rattle.std.proofs.Common.{◌≡◌, sym, ap, ◌∙◌, subst}
use Rattle.weld_tree.specs.ExprTree.{ExprTree}
use Rattle.weld_tree.specs.Program.{ProgramTree}
use Rattle.weld_meaning.specs.Accepted.{IsAccepted}
use Rattle.weld_meaning.specs.Evaluation.{Env, eval}
use Rattle.weld_meaning.specs.Meaning.{ArgumentsFit, with_arguments}
use Rattle.weld_eval.specs.Fit.{IsFit}
use Rattle.weld_eval.specs.FrameView.{env_of}
use Rattle.weld_eval.specs.ThingView.{held_of}
use Rattle.weld_eval_plain.proofs.Programs.{program_fits, program_gives}
use Rattle.weld_rows.proofs.Direct.{plainly_runs}
use Rattle.weld_rows.proofs.plain.eval_plain.Goals as goal

pub value-requires : goal.value-requires
value-requires c =
    let p : ProgramTree = record { params = c.program.inside.params; body = c.program.inside.body.value } in
    plainly_runs c.deref.result.now (env_of c.parameters-frame.result)
    (subst (λ (g : Env). IsFit c.deref.result.now g) (sym c.parameters-frame.ensures)
    (subst (λ (e : ExprTree). IsFit e (with_arguments c.program.inside.params c.args.arguments.now)) (sym c.deref.ensures)
    (program_fits p c.args.arguments.now (subst (λ (q : ProgramTree). IsAccepted q) (sym c.program.view_is) c.requires.accepted)
    (subst (λ (q : ProgramTree). ArgumentsFit q.params c.args.arguments.now) (sym c.program.view_is) c.requires.fit))))

pub into_value-requires : goal.into_value-requires
into_value-requires c =
    let p : ProgramTree = record { params = c.program.inside.params; body = c.program.inside.body.value } in
    let env : env_of c.parameters-frame.result ≡ with_arguments c.program.inside.params c.args.arguments.now = c.parameters-frame.ensures in
    let q : eval c.deref.result.now (env_of c.parameters-frame.result) ≡ eval c.program.inside.body.value (with_arguments c.program.inside.params c.args.arguments.now) =
    ap (λ (g : Env). eval c.deref.result.now g) env ∙ ap (λ (e : ExprTree). eval e (with_arguments c.program.inside.params c.args.arguments.now)) c.deref.ensures in
    program_gives p c.args.arguments.now (held_of c.in-Ok.x) (subst (λ (q : ProgramTree). IsAccepted q) (sym c.program.view_is) c.requires.accepted)
    (subst (λ (q : ProgramTree). ArgumentsFit q.params c.args.arguments.now) (sym c.program.view_is) c.requires.fit)
    (sym q ∙ c.in-Ok.ensures)
