use Rattle.std.proofs.Common.{ap, ◌∙◌}
use Rattle.weld_data.specs.declared.kind.Kind.{Kind}
use Rattle.weld_data.specs.Value.{number}
use Rattle.weld_data.specs.View.{view_val, view_pair}
use Rattle.weld_blocks.proofs.KeyLemmas.{like_first}
use Rattle.weld_blocks.proofs.dictionaries.are_keys_of.Goals as goal

pub returns-in-Num : goal.returns-in-Num
returns-in-Num c = λ told x.
    like_first c.args.pairs.now (view_pair c.at.result.now) c.args.kind c.in-Num.first.value x c.at.ensures.rises c.at.ensures.entry
    (ap view_val c.in-Num.is ∙ ap (λ (k : Kind). number k c.in-Num.first.value) (c.is_same.ensures told))
