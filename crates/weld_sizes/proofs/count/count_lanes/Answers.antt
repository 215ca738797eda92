use Rattle.std.proofs.Common.{ap, ◌∙◌, ℕ, min}
use Rattle.weld_tree.specs.ExprTree.{ExprTree}
use Rattle.weld_tree.specs.Program.{ProgramTree}
use Rattle.weld_sizes.specs.Marks.{set_among}
use Rattle.weld_sizes.specs.Lanes.{has_lane_form, lane_marks}
use Rattle.weld_sizes.proofs.Few.{few_of, capped}
use Rattle.weld_sizes.proofs.count.count_lanes.Goals as goal

pub returns : goal.returns
returns c =
    let program : ProgramTree = record { params = c.p.inside.params; body = c.p.inside.body.value } in
    let counted = ap (λ (e : ExprTree). set_among (lane_marks e)) c.deref.ensures in
    capped c.count.result (set_among (lane_marks program.body)) (c.count.ensures ∙ ap (λ (n : ℕ). min n 18446744073709551615) counted) (few_of has_lane_form program c.p.invariant)
    ∙ ap (λ (q : ProgramTree). set_among (lane_marks q.body)) c.p.view_is
