use Rattle.std.proofs.Common.{◌∙◌}
use Rattle.weld_eager.proofs.Answering.{all_wrapped}
use Rattle.weld_eager.proofs.calls.scale.Goals as goal

pub vector_of-requires : goal.vector_of-requires
vector_of-requires c = all_wrapped c.args.kind _ _ _ (c.deref-2.ensures.value ∙ c.in_ok-zs.ensures.value)
