use Rattle.std.proofs.Common.{◌≡◌, ◌<◌, length, pos, slice_index_or, subst, sym, ◌∙◌, arith}
use Rattle.weld_data.specs.Kind.{InRange}
use Rattle.weld_builders.specs.Part.{combined}
use Rattle.weld_pieces.proofs.CellLemmas.{cell_in_range, bits_are, all_in_range_at, wide_bits, wide_bits_are, wide_bits_in_range}
use Rattle.weld_pieces.proofs.ManyLemmas.{keys_next}
use Rattle.weld_pieces.proofs.many.merge_keys.Goals as goal

pub merge_at-requires-clause-number : goal.merge_at-requires-clause-number
merge_at-requires-clause-number g c =
    wide_bits_in_range c.args.kind c.from.result
    (subst (InRange c.args.kind) (sym c.from.ensures) (cell_in_range c.args.kind c.args.numbers.now c.loop-i.i c.requires.narrow c.requires.numbers (omega arith)))

pub loop-i-preserved : goal.loop-i-preserved
loop-i-preserved g c =
    let m : c.loop-i.i < length c.args.numbers.now = omega arith in
    let l : c.loop-i.i < length c.args.keys.now = omega (arith, c.requires.count) in
    let y = slice_index_or c.args.numbers.now c.loop-i.i (pos 0) in
    let there = all_in_range_at c.args.kind c.args.numbers.now c.loop-i.i (pos 0) c.requires.numbers m in
    let is : c.from.result ≡ y = c.from.ensures ∙ bits_are c.args.kind y c.requires.narrow there in
    let wide : wide_bits c.from.result ≡ y = wide_bits_are c.args.kind c.from.result (subst (InRange c.args.kind) (sym is) there) ∙ is in (
      keys_next g.K.PartialEq.eq (combined c.args.op c.args.kind) c.args.map.now.entries c.loop-i.map.entries c.merge_at.new.map.entries c.args.keys.now c.args.numbers.now c.loop-i.i c.index-keys-i.result (wide_bits c.from.result)
          l m c.loop-i.invariant.0 c.index-keys-i.is wide c.in-Ok.ensures.ok,
      c.merge_at.ensures.values,
    )
