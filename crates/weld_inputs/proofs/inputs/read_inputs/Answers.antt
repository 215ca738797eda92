use Rattle.std.proofs.Common.{◌≡◌, List, ap, ◌∙◌, sym, subst}
use Rattle.std.proofs.lemmas.Result.{IfOk-weaker}
use Rattle.weld_script.specs.declared.made.Made.{Made}
use Rattle.weld_script.specs.Script.{PlainScript, AreInputs, declared_of}
use Rattle.weld_inputs.specs.Inputs.{BlocksGive}
use Rattle.weld_inputs.proofs.Blocks.{data_give}
use Rattle.weld_inputs.proofs.inputs.read_inputs.Goals as goal

pub returns-clause-typed : goal.returns-clause-typed
returns-clause-typed g c =
    let made : c.script.inside.made ≡ c.args.script.now.made = (let v = ap (λ (s : PlainScript). s.made) c.script.view_is in cc) in
    IfOk-weaker c.read_blocks.result (BlocksGive (declared_of c.as_slice.result.now) c.args.job.now.blocks) (AreInputs (declared_of c.args.script.now.made))
    (λ vs h. c.inputs_have_their_types.ensures (declared_of c.args.script.now.made) c.args.job.now vs (c.scripts_declare.ensures c.args.script.now.made c.keeps_its_rules.ensures.objects)
    (data_give c.args.job.now.stray (declared_of c.args.script.now.made) c.args.job.now.blocks vs (sym c.has_stray.ensures ∙ c.if-has_stray.false)
    (subst (λ (ms : List Made). BlocksGive (declared_of ms) c.args.job.now.blocks vs) (c.as_slice.ensures ∙ made) h)))
    c.read_blocks.ensures.inputs
