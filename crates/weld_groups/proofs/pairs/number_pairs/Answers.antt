use Rattle.std.proofs.Common.{◌≡◌, [], ◌++◌, map, int_cmp, sym, subst}
use Rattle.std.specs.List.Sorted.{IsStrictlySortedBy}
use Rattle.weld_data.specs.Value.{number}
use Rattle.weld_data.specs.View.{view_pair}
use Rattle.weld_data.specs.Order.{Rises}
use Rattle.weld_pieces.specs.Keyed.{shown}
use Rattle.weld_pieces.proofs.PairLemmas.{all_pushed}
use Rattle.weld_groups.specs.Groups.{lists_in, list_value}
use Rattle.weld_groups.proofs.ListLemmas.{keys_of-lists_in}
use Rattle.weld_pieces.proofs.PairLemmas.{numbers_rise}
use Rattle.weld_groups.proofs.pairs.number_pairs.Goals as goal

pub from_vec-requires : goal.from_vec-requires
from_vec-requires c =
    let none : c.loop-key.key-iterator ≡ [] = c.in-None.ensures.steps.0 in
    let es = c.args.map.entries in
    let whole = subst (λ r. map view_pair c.loop-key.items.items ++ shown (number c.args.key_kind) list_value (lists_in r) ≡ shown (number c.args.key_kind) list_value (lists_in es)) none c.loop-key.invariant.2 in
    subst Rises (sym (all_pushed (number c.args.key_kind) list_value c.loop-key.items.items (lists_in es) whole))
    (numbers_rise list_value c.args.key_kind (lists_in es) (subst (IsStrictlySortedBy int_cmp) (sym (keys_of-lists_in es)) c.requires.sorted))
