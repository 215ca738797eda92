use Rattle.std.proofs.Common.{ℕ, ◌<◌, List, length, sym, subst, ◌∙◌, arith, length-drop}
use Rattle.weld_job.specs.Blocks.{is_separator}
use Rattle.weld_job.proofs.Cutting.{Passed-next, slice_from}
use Rattle.weld_job.proofs.lines.text_len.Goals as goal

pub loop-at-preserved : goal.loop-at-preserved
loop-at-preserved c =
    let job = c.args.job.now in
    let at = c.loop-at.at in
    let line = c.line_len-line in
    let rest = slice_from job at in
    Passed-next is_separator job at line.result _ rest c.loop-at.invariant line.ensures.within
    (line.ensures.first (subst (λ (r : List ℕ). 0 < length r) (sym rest) (omega (arith, length-drop at job))))
    (sym c.reads_as.ensures ∙ c.if-reads_as.false)
