use Rattle.std.proofs.Common.{◌≡◌, OnOk, subst}
use Rattle.std.specs.Ordering.{eq_by_cmp}
use Rattle.weld_builders.specs.Part.{combined}
use Rattle.weld_builders.specs.ValueOrder.{value_cmp}
use Rattle.weld_pieces.specs.Keyed.{itself}
use Rattle.weld_pieces.proofs.MapLemmas.{merged_from-by_value, values_same}
use Rattle.weld_pieces.proofs.keyed.add_sorted_values.Goals as goal

pub returns-clause-ok : goal.returns-clause-ok
returns-clause-ok c =
    subst (λ m. OnOk c.add_values.result (c.add_values.new.part.numbers ≡ m))
    (merged_from-by_value itself (eq_by_cmp value_cmp) values_same (combined c.args.part.now.op c.args.part.now.kind) c.args.part.now.numbers c.args.map.now.entries c.len-count.ensures.unique)
    c.add_values.ensures.ok
