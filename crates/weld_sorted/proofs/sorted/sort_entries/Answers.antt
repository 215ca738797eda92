use Rattle.std.proofs.Common.{◌≡◌, IfSome, IfNone, List, reverse, sym, subst}
use Rattle.std.specs.List.Sorted.{IsPermutation}
use Rattle.std.proofs.lemmas.Result.{IfOk-weaker}
use Rattle.std.proofs.lemmas.List.Sorted.{IsPermutation-trans, IsPermutation-reverse}
use Rattle.weld_data.specs.Value.{Value}
use Rattle.weld_sorted.specs.Repeats.{HaveOneKey}
use Rattle.weld_sorted.proofs.Counting.{repeats_before, one_type_after, some_then, none_then}
use Rattle.weld_sorted.proofs.sorted.sort_entries.Goals as goal

pub rising-requires-clause-one_type : goal.rising-requires-clause-one_type
rising-requires-clause-one_type c = one_type_after c.args.entries.items c.sort.new.self.items c.in_ok-sort.ensures.permutation c.requires

turned : (es fs ps : List (Value × Value)) → IsPermutation es fs → ps ≡ reverse fs → IsPermutation es ps
turned es fs ps p e = IsPermutation-trans es fs ps p (subst (IsPermutation fs) (sym e) (IsPermutation-reverse fs))

pub returns-clause-sorted : goal.returns-clause-sorted
returns-clause-sorted c =
    IfOk-weaker c.rising.result (λ r. IfSome r (λ pairs. pairs ≡ reverse c.sort.new.self.items)) (λ r. IfSome r (λ pairs. IsPermutation c.args.entries.items pairs))
    (λ r h. some_then r h (λ pairs e. turned c.args.entries.items c.sort.new.self.items pairs c.in_ok-sort.ensures.permutation e)) c.rising.ensures.found

pub returns-clause-repeats : goal.returns-clause-repeats
returns-clause-repeats c =
    IfOk-weaker c.rising.result (λ r. IfNone r (HaveOneKey c.sort.new.self.items)) (λ r. IfNone r (HaveOneKey c.args.entries.items))
    (λ r h. none_then r h (repeats_before c.args.entries.items c.sort.new.self.items c.in_ok-sort.ensures.permutation)) c.rising.ensures.none
