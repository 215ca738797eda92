use Rattle.std.proofs.Common.{◌∙◌, arith}
use Rattle.weld_text_pieces.proofs.Pieces.{piece_more, range_to_end}
use Rattle.weld_text_pieces.proofs.writing.piece.append_piece.Goals as goal

pub blocks-2-preserved : goal.blocks-2-preserved
blocks-2-preserved g c =
    let text = range_to_end c.write_block-at.new.bytes 2688 c.write_block-at.result (omega arith) ∙ c.write_block-at.ensures.written in
    piece_more g.T.Cell.value c.blocks-2.rest.now c.split_at.result.0.now c.split_at.result.1.now c.blocks-2.out c.push_all.new.self _ _ c.split_at.ensures.by_index.0 c.in_ok-push_all.ensures.ok text c.blocks-2.invariant
