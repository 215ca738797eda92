use Rattle.std.proofs.Common.{ap, sym, ◌∙◌}
use Rattle.weld_groups.specs.Groups.{Groups}
use Rattle.weld_groups.proofs.GroupsLemmas.{none_in}
use Rattle.weld_groups.proofs.groups.GroupsPart.is_empty.Goals as goal

pub returns : goal.returns
returns c =
    record { none = λ t. sym (ap (λ (g : Groups). g.groups) c.self.view_is) ∙ none_in c.self.inside.map (c.is_empty.ensures t) }
