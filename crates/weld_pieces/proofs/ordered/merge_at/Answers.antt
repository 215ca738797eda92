use Rattle.std.proofs.Common.{◌≡◌, Some, rules}
use Rattle.std.specs.Map.{lookup}
use Rattle.weld_pieces.proofs.CellLemmas.{wide_bits, wide_bits_in_range}
use Rattle.weld_pieces.proofs.MapLemmas.{found_in_range, inserted_in_range}
use Rattle.weld_pieces.proofs.ordered.merge_at.Goals as goal

pub combine_wide-requires-clause-left : goal.combine_wide-requires-clause-left
combine_wide-requires-clause-left g c =
    let n = c.get-before.result.now in
    let there : Some n ≡ lookup (g.K.PartialEq.eq c.args.key) c.args.map.now.entries = search rules in
    wide_bits_in_range c.args.kind n (found_in_range c.args.kind (g.K.PartialEq.eq c.args.key) c.args.map.now.entries (Some n) c.requires.values there)

pub returns-in-Occupied-clause-values : goal.returns-in-Occupied-clause-values
returns-in-Occupied-clause-values g c =
    let r = c.combine_wide.result in
    inserted_in_range c.args.kind g.K.PartialEq.eq c.args.map.now.entries _ c.args.key (wide_bits r) c.requires.values
    (wide_bits_in_range c.args.kind r c.combine_wide.ensures.in_range) (search rules)

pub returns-in-Vacant-clause-values : goal.returns-in-Vacant-clause-values
returns-in-Vacant-clause-values g c =
    inserted_in_range c.args.kind g.K.PartialEq.eq c.args.map.now.entries _ c.args.key (wide_bits c.args.x)
    c.requires.values (wide_bits_in_range c.args.kind c.args.x c.requires.number) (search rules)
