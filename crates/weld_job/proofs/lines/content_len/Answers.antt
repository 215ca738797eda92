use Rattle.std.proofs.Common.{◌≡◌, ℕ, ◌<◌, List, length, take, false, sym, subst, arith, length-drop}
use Rattle.weld_job.specs.Blocks.{is_header}
use Rattle.weld_job.proofs.Cutting.{Passed-next, not_header, slice_from}
use Rattle.weld_job.proofs.lines.content_len.Goals as goal

pub loop-at-preserved : goal.loop-at-preserved
loop-at-preserved c =
    let bytes = c.args.bytes.now in
    let at = c.loop-at.at in
    let line = c.line_len-at in
    let rest = slice_from bytes at in
    let there = subst (λ (r : List ℕ). 0 < length r) (sym rest) (omega (arith, length-drop at bytes)) in
    let fails = not_header bytes at line.result (omega arith) c.if-bytes-at-eq37.false (line.ensures.some there) in
    Passed-next is_header bytes at line.result _ rest c.loop-at.invariant line.ensures.within (line.ensures.first there)
    (subst (λ (r : List ℕ). is_header (take line.result r) ≡ false) (sym rest) fails)
