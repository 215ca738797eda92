use Rattle.std.proofs.Common.{◌≡◌, drop}
use Rattle.weld_tree.specs.TypeTree.{pack}
use Rattle.weld_calls.specs.CallTypes.{are_vecs}
use Rattle.weld_calls.proofs.pattern.are_all_vectors.Given as goal

abbrev pub invariant-loop-ty : goal.invariant-loop-ty
invariant-loop-ty l = are_vecs (pack l.fields) ≡ are_vecs (pack (drop l.ty-index l.fields))
