use Rattle.std.proofs.Common.{ap, sym, ◌∙◌}
use Rattle.weld_data.specs.View.{view_val, view_column}
use Rattle.weld_builders.specs.Outcome.{done}
use Rattle.weld_meaning.specs.Evaluation.{length_of, whole_number}
use Rattle.weld_eval.proofs.VectorLemmas.{length_is}
use Rattle.weld_eval.proofs.values.scalar.length.Goals as goal

pub returns : goal.returns
returns c =
    ap (λ w. length_of (view_val w)) c.in-List.is
    ∙ length_is (view_column c.in-List.column)
    ∙ ap done (ap whole_number (sym c.len.ensures) ∙ sym c.whole_number.ensures)
