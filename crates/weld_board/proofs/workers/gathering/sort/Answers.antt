use Rattle.std.proofs.Common.{rules}
use Rattle.std.proofs.lemmas.List.Sorted.{IsNonDecreasingBy-from_sort_by_key}
use Rattle.weld_board.specs.declared.workers.span.Span.{Span}
use Rattle.weld_board.proofs.Sorting.{sorted_follow}
use Rattle.weld_board.proofs.workers.gathering.sort.Goals as goal

pub returns : goal.returns
returns g c =
    sorted_follow (g.T.Jobs.made c.args.jobs.now) (g.T.Jobs.count c.args.jobs.now) c.args.spans.now.items c.sort_unstable_by_key.new.self.items c.requires.made c.requires.all c.sort_unstable_by_key.ensures.permutation
    (IsNonDecreasingBy-from_sort_by_key (λ (s : Span g.row.P.Denot). s.first) c.sort_unstable_by_key.new.self.items c.sort_unstable_by_key.ensures.sorted (λ a r f k. search rules))
