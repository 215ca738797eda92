use Rattle.std.proofs.Common.{◌≡◌, ◌<◌, length, pos, slice_index_or, arith}
use Rattle.weld_pieces.proofs.CellLemmas.{cell_in_range, bits_are, all_in_range_at, bits}
use Rattle.weld_built.specs.State.{part_of_state}
use Rattle.weld_built.proofs.PairLemmas.{takes_item, takes_still, pairs_next}
use Rattle.weld_built.proofs.pairs.each_into.Goals as goal

pub pair_into-requires-clause-key : goal.pair_into-requires-clause-key
pair_into-requires-clause-key c = cell_in_range c.args.key_kind c.args.keys.now c.loop-i.i c.requires.narrow_key c.requires.keys (omega arith)

pub pair_into-requires-clause-number : goal.pair_into-requires-clause-number
pair_into-requires-clause-number c = cell_in_range c.args.kind c.args.numbers.now c.loop-i.i c.requires.narrow c.requires.numbers (omega (arith, c.requires.count))

pub pair_into-requires-clause-item : goal.pair_into-requires-clause-item
pair_into-requires-clause-item c =
    takes_item (part_of_state c.loop-i.state) c.args.key_kind c.args.kind _ _ c.loop-i.invariant.1
    (cell_in_range c.args.key_kind c.args.keys.now c.loop-i.i c.requires.narrow_key c.requires.keys (omega arith))
    (cell_in_range c.args.kind c.args.numbers.now c.loop-i.i c.requires.narrow c.requires.numbers (omega (arith, c.requires.count)))

pub loop-i-preserved : goal.loop-i-preserved
loop-i-preserved c =
    let l : c.loop-i.i < length c.args.keys.now = omega arith in
    let m : c.loop-i.i < length c.args.numbers.now = omega (arith, c.requires.count) in
    let x = slice_index_or c.args.keys.now c.loop-i.i (pos 0) in
    let y = slice_index_or c.args.numbers.now c.loop-i.i (pos 0) in
    let p : bits x ≡ x = bits_are c.args.key_kind x c.requires.narrow_key (all_in_range_at c.args.key_kind c.args.keys.now c.loop-i.i (pos 0) c.requires.keys l) in
    let q : bits y ≡ y = bits_are c.args.kind y c.requires.narrow (all_in_range_at c.args.kind c.args.numbers.now c.loop-i.i (pos 0) c.requires.numbers m) in (
      pairs_next (part_of_state c.args.state.now) (part_of_state c.loop-i.state) (part_of_state c.pair_into.new.state) c.args.key_kind c.args.kind c.args.keys.now c.args.numbers.now c.loop-i.i (bits x) (bits y) l m
          c.loop-i.invariant.0 p q c.in-Ok.ensures.answer,
      takes_still (part_of_state c.loop-i.state) (part_of_state c.pair_into.new.state) c.args.key_kind c.args.kind (bits x) (bits y) c.loop-i.invariant.1 c.in-Ok.ensures.answer,
      c.pair_into.ensures.state,
    )
