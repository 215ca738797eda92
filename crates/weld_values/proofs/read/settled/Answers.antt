use Rattle.std.proofs.Common.{List, subst, IsPermutation}
use Rattle.weld_data.specs.Value.{Value, dict, entries}
use Rattle.weld_data.specs.Order.{Rises}
use Rattle.weld_sorted.specs.Repeats.{HaveOneKey}
use Rattle.weld_values.specs.declared.flaw.Flaw.{Flaw}
use Rattle.weld_values.specs.Judging.{AreJudged}
use Rattle.weld_values.proofs.Listings.{some_holds, none_holds}
use Rattle.weld_values.proofs.EntryJudgements.{fine_dict, equal_dict}
use Rattle.weld_values.proofs.read.settled.Goals as goal

pub returns-in-Some : goal.returns-in-Some
returns-in-Some c t raws h =
    fine_dict t raws c.args.entries.items c.in-Some.pairs (subst (λ (f : Flaw). AreJudged t f raws c.args.entries.items) c.in-Fine.is h)
    (some_holds (λ (gs : List (Value × Value)). IsPermutation c.args.entries.items gs) c.in_ok-pairs-in-Fine.field-0 c.in-Some.pairs c.in-Some.is c.in_ok-pairs-in-Fine.ensures.sorted)
    (some_holds (λ (gs : List (Value × Value)). Rises gs) c.in_ok-pairs-in-Fine.field-0 c.in-Some.pairs c.in-Some.is c.in_ok-pairs-in-Fine.ensures.rises)

pub returns-in-None : goal.returns-in-None
returns-in-None c t raws h =
    equal_dict t raws c.args.entries.items (dict (entries c.new.result)) (subst (λ (f : Flaw). AreJudged t f raws c.args.entries.items) c.in-Fine.is h)
    (none_holds (HaveOneKey c.args.entries.items) c.in_ok-pairs-in-Fine.field-0 c.in-None.is c.in_ok-pairs-in-Fine.ensures.repeats)
