use Rattle.std.proofs.Common.{◌<◌, SFits, length, pos, slice_index_or, arith, rules, w64}
use Rattle.std.proofs.lemmas.Int.{to_z-of_z}
use Rattle.weld_pieces.proofs.CellLemmas.{cell_in_range, bits_are, all_in_range_at, bits}
use Rattle.weld_pieces.proofs.ManyLemmas.{cells_next}
use Rattle.weld_pieces.proofs.many.merge_each.Goals as goal

pub merge_one-requires-clause-number : goal.merge_one-requires-clause-number
merge_one-requires-clause-number c = cell_in_range c.args.kind c.args.numbers.now c.loop-i.i c.requires.narrow c.requires.numbers (omega (arith, c.requires.count))

pub loop-i-preserved : goal.loop-i-preserved
loop-i-preserved c =
    let l : c.loop-i.i < length c.args.indexes.now = omega (arith) in
    let m : c.loop-i.i < length c.args.numbers.now = omega (arith, c.requires.count) in
    let x = slice_index_or c.args.indexes.now c.loop-i.i (pos 0) in
    let y = slice_index_or c.args.numbers.now c.loop-i.i (pos 0) in
    let f : SFits w64 x = search rules in (
      cells_next c.args.op c.args.kind c.args.cells.now c.loop-i.cells c.merge_one.new.cells c.args.indexes.now c.args.numbers.now c.loop-i.i (bits x) (bits y) l m c.loop-i.invariant.0
          (to_z-of_z w64 x f) (bits_are c.args.kind y c.requires.narrow (all_in_range_at c.args.kind c.args.numbers.now c.loop-i.i (pos 0) c.requires.numbers m)) c.in-Ok.ensures.cells,
      c.merge_one.ensures.in_range,
    )
