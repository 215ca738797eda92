use Rattle.std.proofs.Common.{◌≡◌, ◌∙◌, ◌<◌, ℕ, ap, map, max, arith, IfOk}
use Rattle.rayon.specs.Lists.{chunks_of}
use Rattle.rayon.proofs.ToStd.{slice-AllZip, chunks_of-concat}
use Rattle.weld_write_value.specs.Showing.{led, shown_scalar}
use Rattle.weld_text_pieces.proofs.Pieces.{collected}
use Rattle.weld_text_pieces.proofs.writing.joining.write_pieces.Goals as goal

pub returns : goal.returns
returns g c =
    let items = c.args.items.now in
    let size = max c.args.size 1 in
    let some : 0 < max c.args.size 1 = omega arith in
    let slice = ap (λ it. it.base.slice.now) c.map.ensures.base ∙ ap (λ it. it.slice.now) c.with_min_len.ensures.base ∙ c.par_chunks.ensures.slice in
    let sized = ap (λ it. it.base.size) c.map.ensures.base ∙ ap (λ it. it.size) c.with_min_len.ensures.base ∙ c.par_chunks.ensures.size in
    let made = c.in_ok-texts.ensures in
    let chain = made.1 in
    let cut = chain.1 ∙ ap (λ (n : ℕ). chunks_of (max n 1) c.map.result.base.base.slice.now) sized ∙ ap (chunks_of size) slice in
    collected _ g.T.Cell.value (λ v. v.items) items (chunks_of size items) made.0 c.in_ok-texts.texts
    (chunks_of-concat size items some)
    (slice-AllZip chain.0 (chunks_of size items) cut (λ piece answer. IfOk answer (λ text. text ≡ led 44 shown_scalar (map g.T.Cell.value piece))) made.0 chain.2)
    made.2
