use Rattle.weld_lane_rows.proofs.PieceLemmas.{piece_are}
use Rattle.weld_lane_rows.proofs.pieces.piece_numbers.Goals as goal

pub returns-clause-are : goal.returns-clause-are
returns-clause-are g c =
    piece_are g.L.Lane.number g.L.Lane.kind c.args.lanes.now.program.now c.args.lanes.now.uniforms.now c.args.lanes.now.first.now c.args.lanes.now.second.now c.args.from c.args.to _
    c.requires.first c.requires.second c.answer_block.ensures.answers
