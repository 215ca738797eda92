use Rattle.weld_predicate.proofs.GuardRule.{guard_rewrites}
use Rattle.weld_predicate.proofs.guarded.guarded_merges_may_always_merge.Goals as goal

pub returns : goal.returns
returns c = guard_rewrites (record { total = c.values_are_ordered.ensures.total; alike = c.keys_are_ordered_alike.ensures })
