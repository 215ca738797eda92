use Rattle.std.proofs.Common.{ap, ◌∙◌}
use Rattle.weld_tree.specs.ExprTree.{pack_legs}
use Rattle.weld_horizontal.proofs.RowLemmas.{removed}
use Rattle.weld_horizontal.proofs.doubles.remove_leg.Goals as goal

pub returns-clause-value : goal.returns-clause-value
returns-clause-value c =
    ap pack_legs c.from_vec.ensures
    ∙ removed c.into_vec-items.result.items c.remove.new.self.items c.args.place c.args.legs.now (c.into_vec-items.ensures ∙ c.replace.ensures.value) c.requires c.remove.ensures.items
