use Rattle.std.proofs.Common.{◌+◌, ◌*◌, ◌≤◌, ap, subst, ◌∙◌}
use Rattle.weld_data.specs.View.{view_val, view_column}
use Rattle.weld_meaning.specs.Evaluation.{strided_of}
use Rattle.weld_eval.proofs.VectorLemmas.{stride_there}
use Rattle.weld_eval.proofs.values.vector.strided_part.Goals as goal

pub returns-in-Ok-picked_elements : goal.returns-in-Ok-picked_elements
returns-in-Ok-picked_elements c =
    let h = c.in-Ok.ensures in
    let s = view_val c.args.start.now in
    let e = view_val c.args.end.now in
    let d = view_val c.args.stride.now in
    ap (λ u. strided_of (view_val u) s e d) c.in-List.is
    ∙ stride_there (view_column c.in-List.column) c.in-Ok-picked_elements.part s e d c.in-Ok.start c.in-Ok.stride c.in-Ok.count h.0 h.1 h.2 h.3
    (subst (λ n. c.in-Ok.start + c.in-Ok.count * c.in-Ok.stride ≤ n) c.len.ensures h.4) c.in-Ok-picked_elements.ensures
