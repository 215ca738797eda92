use Rattle.std.proofs.Common.{◌+◌, ◌<◌, List, length, sym, subst, arith, length-drop}
use Rattle.weld_job.proofs.Cutting.{first_at, slice_from}
use Rattle.weld_job.proofs.split.first_block.Goals as goal

pub returns-clause-first : goal.returns-clause-first
returns-clause-first c =
    let bytes = c.args.bytes.now in
    let at = c.args.at in
    let line = c.line_len-line in
    let content = c.content_len in
    let there = subst (λ (r : List _). 0 < length r) (sym (slice_from bytes at)) (omega (arith, length-drop at bytes, c.requires.within)) in
    first_at bytes _ _ at line.result content.result c.form_of.result (slice_from bytes at) (slice_from bytes (at + line.result))
    c.requires.within c.requires.header (line.ensures.some there) (line.ensures.first there) c.form_of.ensures content.ensures.content content.ensures.rest
