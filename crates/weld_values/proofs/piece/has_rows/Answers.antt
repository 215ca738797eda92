use Rattle.std.proofs.Common.{List, sym, subst, ◌∙◌}
use Rattle.weld_tree.specs.TypeTree.{TypeTree, pack}
use Rattle.weld_values.specs.Judging.{ArePlain}
use Rattle.weld_values.proofs.Carried.{rows_plain}
use Rattle.weld_values.proofs.piece.has_rows.Goals as goal

pub returns : goal.returns
returns c = λ e. subst (λ (ts : List TypeTree). ArePlain (pack ts)) c.as_slice.ensures.value (rows_plain c.as_slice.result.now (sym c.are_rows.ensures ∙ e))
