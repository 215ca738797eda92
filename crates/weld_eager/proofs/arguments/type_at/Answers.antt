use Rattle.std.proofs.Common.{◌≡◌, List, get_or, subst}
use Rattle.weld_tree.specs.TypeTree.{TypeTree}
use Rattle.weld_eager.proofs.ByNumber.{type_there}
use Rattle.weld_eager.proofs.arguments.type_at.Goals as goal

pub returns : goal.returns
returns c =
    let t = c.index-types-number.result in
    type_there c.args.types.now c.args.number t c.requires (subst (λ (ts : List TypeTree). t ≡ get_or ts c.args.number t) c.as_slice-types.ensures.value c.index-types-number.is)
