use Rattle.std.proofs.Common.{◌≡◌, None, sym, subst, ap, ◌∙◌}
use Rattle.std.specs.Result.{IfOk}
use Rattle.std.specs.FinMap as finite
use Rattle.std.specs.List.Sorted.{IsStrictlySortedBy}
use Rattle.weld_builders.specs.ValueOrder.{value_cmp}
use Rattle.weld_pieces.specs.Keyed.{itself, shown, KeysAreKept, HasOneKeyType}
use Rattle.weld_pieces.proofs.PairLemmas.{values_shown}
use Rattle.weld_groups.specs.Groups.{lists_in, list_value}
use Rattle.weld_groups.proofs.ListLemmas.{keys_of-lists_in, values_sorted}
use Rattle.weld_groups.proofs.pairs.plain_pairs.Goals as goal

pub value_pairs-requires-clause-kept : goal.value_pairs-requires-clause-kept
value_pairs-requires-clause-kept c =
    subst (KeysAreKept None) (sym (values_sorted c.args.map.entries _ c.in_ok-sorted.ensures.moved c.in_ok-sorted.ensures.distinct)) c.requires.kept

pub value_pairs-requires-clause-one_type : goal.value_pairs-requires-clause-one_type
value_pairs-requires-clause-one_type c =
    subst HasOneKeyType (sym (values_sorted c.args.map.entries _ c.in_ok-sorted.ensures.moved c.in_ok-sorted.ensures.distinct)) c.requires.one_type

pub returns : goal.returns
returns c =
    let es = c.in_ok-sorted.sorted.entries in
    let same = values_sorted c.args.map.entries es c.in_ok-sorted.ensures.moved c.in_ok-sorted.ensures.distinct in
    subst (λ ds. IfOk c.value_pairs.result (λ pairs. pairs ≡ ds))
    (values_shown list_value (lists_in es) (subst (IsStrictlySortedBy value_cmp) (sym (keys_of-lists_in es)) c.in_ok-sorted.ensures.sorted)
    ∙ ap (λ m. shown itself list_value (finite.entries m)) same)
    c.value_pairs.ensures
