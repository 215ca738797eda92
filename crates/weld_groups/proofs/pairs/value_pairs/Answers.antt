use Rattle.std.proofs.Common.{◌≡◌, [], ◌++◌, map, sym, subst}
use Rattle.std.specs.List.Sorted.{IsStrictlySortedBy}
use Rattle.weld_data.specs.View.{view_pair}
use Rattle.weld_data.specs.Order.{Rises}
use Rattle.weld_builders.specs.ValueOrder.{value_cmp}
use Rattle.weld_pieces.specs.Keyed.{itself, shown}
use Rattle.weld_pieces.proofs.PairLemmas.{all_pushed}
use Rattle.weld_groups.specs.Groups.{lists_in, list_value}
use Rattle.weld_groups.proofs.ListLemmas.{keys_of-lists_in}
use Rattle.weld_pieces.proofs.PairLemmas.{values_rise}
use Rattle.weld_groups.proofs.pairs.value_pairs.Goals as goal

pub from_vec-requires : goal.from_vec-requires
from_vec-requires c =
    let none : c.loop-key.key-iterator ≡ [] = c.in-None.ensures.steps.0 in
    let es = c.args.map.entries in
    let whole = subst (λ r. map view_pair c.loop-key.items.items ++ shown itself list_value (lists_in r) ≡ shown itself list_value (lists_in es)) none c.loop-key.invariant.2 in
    subst Rises (sym (all_pushed itself list_value c.loop-key.items.items (lists_in es) whole))
    (values_rise list_value (lists_in es) c.requires.kept c.requires.one_type (subst (IsStrictlySortedBy value_cmp) (sym (keys_of-lists_in es)) c.requires.sorted))
