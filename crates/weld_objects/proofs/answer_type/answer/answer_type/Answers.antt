use Rattle.std.proofs.Common.{◌≡◌, ◌∙◌, ap, sym}
use Rattle.weld_tree.specs.Program.{ProgramTree}
use Rattle.weld_objects.proofs.Answers.{program_answer}
use Rattle.weld_objects.proofs.answer_type.answer.answer_type.Goals as goal

pub returns : goal.returns
returns c =
    let is : c.args.p.now ≡ record { params = c.program.inside.params; body = c.program.inside.body.value } = sym c.program-program.ensures.same ∙ sym c.program.view_is in
    program_answer c.args.p.now c.deref.result.now c.as_slice.result.now _ c.under_params.result c.program-program.ensures.accepted
    (c.deref.ensures ∙ sym (ap (λ (p : ProgramTree). p.body) is)) (c.as_slice.ensures ∙ sym (ap (λ (p : ProgramTree). p.params) is)) c.empty.ensures c.under_params.ensures
