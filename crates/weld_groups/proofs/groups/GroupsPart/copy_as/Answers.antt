use Rattle.std.proofs.Common.{ap, sym, subst, ◌∙◌}
use Rattle.weld_builders.specs.Part.{appended, join_maps}
use Rattle.weld_builders.proofs.Maps.{appended-IsMerging, empty-join_maps}
use Rattle.weld_pieces.specs.Keyed.{CanKeep}
use Rattle.weld_groups.specs.Groups.{Groups, CanKeepEach}
use Rattle.weld_pieces.specs.KeyMapView.{kind_of_keys}
use Rattle.weld_groups.specs.GroupsView.{groups_in, all_lists}
use Rattle.weld_groups.proofs.GroupsLemmas.{narrow_kept, can_keep_each}
use Rattle.weld_groups.proofs.groups.GroupsPart.copy_as.Goals as goal

pub empty-copy-requires : goal.empty-copy-requires
empty-copy-requires c =
    narrow_kept c.args.key (kind_of_keys c.self.inside.map) (subst (CanKeep c.args.key) (sym (ap (λ (g : Groups). g.key) c.self.view_is)) c.requires.key) c.self.invariant.narrow

pub add_map-requires-clause-lists : goal.add_map-requires-clause-lists
add_map-requires-clause-lists c =
    let own = c.self.inside.items in
    let lists = all_lists c.self.inside.map in
    subst (λ items. CanKeepEach items lists) (sym c.empty-copy.ensures.items)
    (can_keep_each c.args.items own lists (subst (CanKeep c.args.items) (sym (ap (λ (g : Groups). g.items) c.self.view_is)) c.requires.items) c.self.invariant.lists)

pub returns-in-Ok-clause-groups : goal.returns-in-Ok-clause-groups
returns-in-Ok-clause-groups c =
    c.in-Ok.ensures.ok
    ∙ ap (λ m. join_maps appended m (groups_in c.self.inside.map)) c.empty-copy.ensures.groups
    ∙ empty-join_maps appended-IsMerging (groups_in c.self.inside.map)
    ∙ ap (λ (g : Groups). g.groups) c.self.view_is
