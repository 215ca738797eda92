use Rattle.std.proofs.Common.{◌≡◌, None, sym, subst, ap, ◌∙◌}
use Rattle.std.specs.Result.{IfOk}
use Rattle.std.specs.FinMap as finite
use Rattle.weld_data.specs.Value.{number}
use Rattle.weld_data.specs.Kind.{InRange}
use Rattle.weld_pieces.specs.Keyed.{itself, shown, KeysAreKept, HasOneKeyType}
use Rattle.weld_pieces.proofs.MapLemmas.{values_reordered, values_moved}
use Rattle.weld_pieces.proofs.PairLemmas.{values_shown}
use Rattle.weld_pieces.proofs.pairs.plain_pairs.Goals as goal

pub value_pairs-requires-clause-kept : goal.value_pairs-requires-clause-kept
value_pairs-requires-clause-kept c =
    subst (KeysAreKept None) (sym (values_reordered c.args.map.entries _ c.in_ok-sorted.ensures.moved c.in_ok-sorted.ensures.distinct)) c.requires.kept

pub value_pairs-requires-clause-one_type : goal.value_pairs-requires-clause-one_type
value_pairs-requires-clause-one_type c =
    subst HasOneKeyType (sym (values_reordered c.args.map.entries _ c.in_ok-sorted.ensures.moved c.in_ok-sorted.ensures.distinct)) c.requires.one_type

pub value_pairs-requires-clause-values : goal.value_pairs-requires-clause-values
value_pairs-requires-clause-values c = values_moved (InRange c.args.kind) c.args.map.entries _ c.in_ok-sorted.ensures.moved c.requires.values

pub returns : goal.returns
returns c =
    let same = values_reordered c.args.map.entries _ c.in_ok-sorted.ensures.moved c.in_ok-sorted.ensures.distinct in
    subst (λ es. IfOk c.value_pairs.result (λ pairs. pairs ≡ es))
    (values_shown (number c.args.kind) _ c.in_ok-sorted.ensures.sorted ∙ ap (λ m. shown itself (number c.args.kind) (finite.entries m)) same)
    c.value_pairs.ensures
