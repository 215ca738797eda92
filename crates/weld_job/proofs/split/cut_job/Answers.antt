use Rattle.std.proofs.Common.{◌+◌}
use Rattle.weld_job.proofs.Cutting.{job_of-places, slice_from}
use Rattle.weld_job.proofs.split.cut_job.Goals as goal

pub returns : goal.returns
returns c =
    let bytes = c.as_slice-bytes.result.now in
    let text = c.text_len-text in
    let line = c.line_len in
    let front = c.content_len-front in
    job_of-places c.args.job.items bytes _ _ text.result line.result front.result c.in_ok-extents.extents.items c.has_stray-stray.result
    c.as_slice-bytes.ensures.value (slice_from bytes text.result) (slice_from bytes (text.result + line.result)) line.ensures.within
    text.ensures.text text.ensures.rest line.ensures.first front.ensures.content front.ensures.rest c.has_stray-stray.ensures c.in_ok-extents.ensures.blocks
