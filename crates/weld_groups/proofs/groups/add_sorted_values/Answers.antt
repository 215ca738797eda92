use Rattle.std.proofs.Common.{◌≡◌, OnOk, subst}
use Rattle.std.specs.Ordering.{eq_by_cmp}
use Rattle.weld_builders.specs.Part.{appended}
use Rattle.weld_builders.specs.ValueOrder.{value_cmp}
use Rattle.weld_pieces.specs.Keyed.{itself}
use Rattle.weld_pieces.proofs.MapLemmas.{merged_from-by_value, values_same}
use Rattle.weld_groups.specs.Groups.{lists_in}
use Rattle.weld_groups.proofs.ListLemmas.{distinct_lists}
use Rattle.weld_groups.proofs.groups.add_sorted_values.Goals as goal

pub returns-clause-ok : goal.returns-clause-ok
returns-clause-ok c =
    let es = c.args.map.now.entries in
    subst (λ m. OnOk c.add_values.result (c.add_values.new.part.groups ≡ m))
    (merged_from-by_value itself (eq_by_cmp value_cmp) values_same appended c.args.part.now.groups (lists_in es) (distinct_lists (eq_by_cmp value_cmp) es c.len-count.ensures.unique))
    c.add_values.ensures.ok
