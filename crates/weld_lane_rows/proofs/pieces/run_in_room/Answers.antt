use Rattle.std.proofs.Common.{map, ◌∙◌, arith}
use Rattle.std.proofs.lemmas.List.{length-map}
use Rattle.weld_eval.specs.FrameView.{env_of}
use Rattle.weld_eval.specs.LegsView.{lists_of}
use Rattle.weld_eval.specs.ThingView.{thing_of}
use Rattle.weld_lane_rows.proofs.Merges.{is_taker, numbers_in_range, rows_merged}
use Rattle.weld_lane_rows.proofs.PieceLemmas.{part_holds, part_merges, goes_on}
use Rattle.weld_lane_rows.proofs.pieces.run_in_room.Goals as goal

pub merge_piece-requires-clause-in_range : goal.merge_piece-requires-clause-in_range
merge_piece-requires-clause-in_range g c =
    numbers_in_range c.args.node.now (env_of c.args.frame.now) (lists_of c.args.legs.now) g.L.Lane.kind _ c.pieces.reached c.piece_end-end.result (thing_of c.pieces.builder) (map g.L.Lane.number c.piece_numbers-numbers.result.now)
    (part_holds c.args.node.now (env_of c.args.frame.now) (lists_of c.args.legs.now) c.args.from c.args.to (thing_of c.args.builder.now) c.pieces.reached c.piece_end-end.result (thing_of c.pieces.builder)
    c.pieces.invariant.runs (omega (arith, c.piece_end-end.ensures.more)) c.piece_end-end.ensures.within)
    (part_merges c.args.node.now (env_of c.args.frame.now) (lists_of c.args.legs.now) g.L.Lane.kind _ c.piece_end-end.result c.args.to c.piece_end-end.ensures.within c.requires.merges)
    (length-map c.piece_numbers-numbers.result.now g.L.Lane.number ∙ c.piece_numbers-numbers.ensures.long) c.piece_numbers-numbers.ensures.are

pub merge_piece-requires-clause-takes : goal.merge_piece-requires-clause-takes
merge_piece-requires-clause-takes g c =
    is_taker c.args.node.now (env_of c.args.frame.now) (lists_of c.args.legs.now) g.L.Lane.kind _ c.pieces.reached c.piece_end-end.result (thing_of c.pieces.builder)
    (part_holds c.args.node.now (env_of c.args.frame.now) (lists_of c.args.legs.now) c.args.from c.args.to (thing_of c.args.builder.now) c.pieces.reached c.piece_end-end.result (thing_of c.pieces.builder)
    c.pieces.invariant.runs (omega (arith, c.piece_end-end.ensures.more)) c.piece_end-end.ensures.within)
    (part_merges c.args.node.now (env_of c.args.frame.now) (lists_of c.args.legs.now) g.L.Lane.kind _ c.piece_end-end.result c.args.to c.piece_end-end.ensures.within c.requires.merges) c.piece_end-end.ensures.more

pub pieces-preserved : goal.pieces-preserved
pieces-preserved g c = record {
  runs = goes_on c.args.node.now (env_of c.args.frame.now) (lists_of c.args.legs.now) c.args.from c.args.to (thing_of c.args.builder.now) c.pieces.reached c.piece_end-end.result (thing_of c.pieces.builder) (thing_of c.merge_piece.new.builder)
      c.pieces.invariant.runs (omega (arith, c.piece_end-end.ensures.more)) c.piece_end-end.ensures.within
      (rows_merged c.args.node.now (env_of c.args.frame.now) (lists_of c.args.legs.now) g.L.Lane.kind _ c.pieces.reached c.piece_end-end.result (thing_of c.pieces.builder) (thing_of c.merge_piece.new.builder) (map g.L.Lane.number c.piece_numbers-numbers.result.now)
      (part_holds c.args.node.now (env_of c.args.frame.now) (lists_of c.args.legs.now) c.args.from c.args.to (thing_of c.args.builder.now) c.pieces.reached c.piece_end-end.result (thing_of c.pieces.builder)
      c.pieces.invariant.runs (omega (arith, c.piece_end-end.ensures.more)) c.piece_end-end.ensures.within)
      (part_merges c.args.node.now (env_of c.args.frame.now) (lists_of c.args.legs.now) g.L.Lane.kind _ c.piece_end-end.result c.args.to c.piece_end-end.ensures.within c.requires.merges)
      c.piece_end-end.ensures.more (length-map c.piece_numbers-numbers.result.now g.L.Lane.number ∙ c.piece_numbers-numbers.ensures.long) c.piece_numbers-numbers.ensures.are c.in_ok-merge_piece.ensures);
  low = omega (arith, c.pieces.invariant.low, c.piece_end-end.ensures.more);
}
