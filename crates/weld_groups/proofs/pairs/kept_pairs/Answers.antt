use Rattle.std.proofs.Common.{◌≡◌, Some, sym, subst, ap, int_cmp, ◌∙◌}
use Rattle.std.specs.Result.{IfOk}
use Rattle.std.specs.FinMap as finite
use Rattle.std.specs.List.Sorted.{IsStrictlySortedBy}
use Rattle.weld_builders.specs.Range.{AllInRange}
use Rattle.weld_pieces.specs.Keyed.{itself, shown, KeysAreKept}
use Rattle.weld_pieces.proofs.PairLemmas.{keys_in_range, numbers_shown}
use Rattle.weld_groups.specs.Groups.{lists_in, list_value}
use Rattle.weld_groups.proofs.ListLemmas.{keys_of-lists_in, numbers_sorted}
use Rattle.weld_groups.proofs.pairs.kept_pairs.Goals as goal

pub number_pairs-requires-clause-keys : goal.number_pairs-requires-clause-keys
number_pairs-requires-clause-keys c =
    let es = c.in_ok-sorted.sorted.entries in
    let same = numbers_sorted c.args.key_kind c.args.map.entries es c.in_ok-sorted.ensures.moved c.in_ok-sorted.ensures.distinct in
    subst (AllInRange c.args.key_kind) (keys_of-lists_in es) (keys_in_range c.args.key_kind (lists_in es) (subst (KeysAreKept (Some c.args.key_kind)) (sym same) c.requires))

pub returns : goal.returns
returns c =
    let es = c.in_ok-sorted.sorted.entries in
    let same = numbers_sorted c.args.key_kind c.args.map.entries es c.in_ok-sorted.ensures.moved c.in_ok-sorted.ensures.distinct in
    subst (λ ds. IfOk c.number_pairs.result (λ pairs. pairs ≡ ds))
    (numbers_shown list_value c.args.key_kind (lists_in es) (subst (IsStrictlySortedBy int_cmp) (sym (keys_of-lists_in es)) c.in_ok-sorted.ensures.sorted)
    ∙ ap (λ m. shown itself list_value (finite.entries m)) same)
    c.number_pairs.ensures
