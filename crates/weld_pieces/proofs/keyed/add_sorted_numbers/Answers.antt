use Rattle.std.proofs.Common.{◌≡◌, OnOk, subst}
use Rattle.std.specs.Ordering.{int_eq}
use Rattle.weld_data.specs.Value.{number}
use Rattle.weld_builders.specs.Part.{combined}
use Rattle.weld_pieces.proofs.MapLemmas.{merged_from-by_value, numbers_same}
use Rattle.weld_pieces.proofs.PairLemmas.{keys_in_range}
use Rattle.weld_pieces.proofs.keyed.add_sorted_numbers.Goals as goal

pub add_numbers-requires-clause-keys : goal.add_numbers-requires-clause-keys
add_numbers-requires-clause-keys c = keys_in_range c.args.key_kind c.args.map.now.entries c.requires.kept

pub returns-clause-ok : goal.returns-clause-ok
returns-clause-ok c =
    subst (λ m. OnOk c.add_numbers.result (c.add_numbers.new.part.numbers ≡ m))
    (merged_from-by_value (number c.args.key_kind) int_eq (numbers_same c.args.key_kind) (combined c.args.part.now.op c.args.part.now.kind) c.args.part.now.numbers c.args.map.now.entries c.len-count.ensures.unique)
    c.add_numbers.ensures.ok
