use Rattle.std.proofs.Common.{List, sym, subst, ◌∙◌}
use Rattle.std.proofs.lemmas.Result.{IfOk-weaker}
use Rattle.weld_tree.specs.declared.binder.Binder.{Binder}
use Rattle.weld_meaning.specs.Meaning.{ArgumentsFit}
use Rattle.weld_inputs.specs.Arguments.{BlocksGive}
use Rattle.weld_inputs.proofs.ArgumentsBlocks.{data_give}
use Rattle.weld_inputs.proofs.arguments.arguments.read_arguments.Goals as goal

pub returns-clause-typed : goal.returns-clause-typed
returns-clause-typed g c =
    IfOk-weaker c.read_blocks.result (BlocksGive c.as_slice.result.now c.args.job.now.blocks) (ArgumentsFit c.args.params.now)
    (λ vs h. c.arguments_have_their_types.ensures c.args.params.now c.args.job.now vs c.requires.fit
    (data_give c.args.job.now.stray c.args.params.now c.args.job.now.blocks vs (sym c.has_stray.ensures ∙ c.if-has_stray.false)
    (subst (λ (bs : List Binder). BlocksGive bs c.args.job.now.blocks vs) c.as_slice.ensures h)))
    c.read_blocks.ensures.arguments
