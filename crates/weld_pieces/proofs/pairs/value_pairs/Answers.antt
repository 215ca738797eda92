use Rattle.std.proofs.Common.{◌≡◌, [], ◌++◌, map, sym, subst}
use Rattle.weld_data.specs.Value.{number}
use Rattle.weld_data.specs.View.{view_pair}
use Rattle.weld_data.specs.Order.{Rises}
use Rattle.weld_pieces.specs.Keyed.{itself, shown}
use Rattle.weld_pieces.proofs.PairLemmas.{values_rise, all_pushed}
use Rattle.weld_pieces.proofs.pairs.value_pairs.Goals as goal

pub from_vec-requires : goal.from_vec-requires
from_vec-requires c =
    let none : c.loop-key.key-iterator ≡ [] = c.in-None.ensures.steps.0 in
    let whole = subst (λ r. map view_pair c.loop-key.items.items ++ shown itself (number c.args.kind) r ≡ shown itself (number c.args.kind) c.args.map.entries) none c.loop-key.invariant.2 in
    subst Rises (sym (all_pushed itself (number c.args.kind) c.loop-key.items.items c.args.map.entries whole))
    (values_rise (number c.args.kind) c.args.map.entries c.requires.kept c.requires.one_type c.requires.sorted)
