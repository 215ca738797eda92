use Rattle.std.proofs.Common.{◌≡◌, Some, sym, subst, ap, ◌∙◌}
use Rattle.std.specs.Result.{IfOk}
use Rattle.std.specs.FinMap as finite
use Rattle.weld_data.specs.Value.{number}
use Rattle.weld_data.specs.Kind.{InRange}
use Rattle.weld_pieces.specs.Keyed.{itself, shown, KeysAreKept}
use Rattle.weld_pieces.proofs.MapLemmas.{numbers_moved, values_moved}
use Rattle.weld_pieces.proofs.PairLemmas.{keys_in_range, numbers_shown}
use Rattle.weld_pieces.proofs.pairs.kept_pairs.Goals as goal

pub number_pairs-requires-clause-keys : goal.number_pairs-requires-clause-keys
number_pairs-requires-clause-keys c =
    let same = numbers_moved c.args.key_kind c.args.map.entries _ c.in_ok-sorted.ensures.moved c.in_ok-sorted.ensures.distinct in
    keys_in_range c.args.key_kind _ (subst (KeysAreKept (Some c.args.key_kind)) (sym same) c.requires.keys)

pub number_pairs-requires-clause-values : goal.number_pairs-requires-clause-values
number_pairs-requires-clause-values c = values_moved (InRange c.args.kind) c.args.map.entries _ c.in_ok-sorted.ensures.moved c.requires.values

pub returns : goal.returns
returns c =
    let same = numbers_moved c.args.key_kind c.args.map.entries _ c.in_ok-sorted.ensures.moved c.in_ok-sorted.ensures.distinct in
    subst (λ es. IfOk c.number_pairs.result (λ pairs. pairs ≡ es))
    (numbers_shown (number c.args.kind) c.args.key_kind _ c.in_ok-sorted.ensures.sorted ∙ ap (λ m. shown itself (number c.args.kind) (finite.entries m)) same)
    c.number_pairs.ensures
