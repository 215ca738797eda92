use Rattle.std.proofs.Common.{◌≡◌, OnOk, subst}
use Rattle.std.specs.Ordering.{int_eq}
use Rattle.weld_data.specs.Value.{number}
use Rattle.weld_builders.specs.Part.{appended}
use Rattle.weld_builders.specs.Range.{AllInRange}
use Rattle.weld_pieces.proofs.MapLemmas.{merged_from-by_value, numbers_same}
use Rattle.weld_pieces.proofs.PairLemmas.{keys_in_range}
use Rattle.weld_groups.specs.Groups.{lists_in}
use Rattle.weld_groups.proofs.ListLemmas.{keys_of-lists_in, distinct_lists}
use Rattle.weld_groups.proofs.groups.add_sorted_numbers.Goals as goal

pub add_numbers-requires-clause-keys : goal.add_numbers-requires-clause-keys
add_numbers-requires-clause-keys c =
    let es = c.args.map.now.entries in
    subst (AllInRange c.args.key_kind) (keys_of-lists_in es) (keys_in_range c.args.key_kind (lists_in es) c.requires.kept)

pub returns-clause-ok : goal.returns-clause-ok
returns-clause-ok c =
    let es = c.args.map.now.entries in
    subst (λ m. OnOk c.add_numbers.result (c.add_numbers.new.part.groups ≡ m))
    (merged_from-by_value (number c.args.key_kind) int_eq (numbers_same c.args.key_kind) appended c.args.part.now.groups (lists_in es) (distinct_lists int_eq es c.len-count.ensures.unique))
    c.add_numbers.ensures.ok
