use Rattle.std.proofs.Common.{◌≡◌, ◌<◌, length, pos, slice_index_or, ap₂, subst, sym, ◌∙◌, arith}
use Rattle.weld_data.specs.Kind.{InRange}
use Rattle.weld_data.specs.Value.{number}
use Rattle.weld_builders.specs.Part.{combined, merge_key}
use Rattle.weld_pieces.proofs.CellLemmas.{cell_in_range, bits_are, all_in_range_at, bits, wide_bits, wide_bits_are, wide_bits_in_range}
use Rattle.weld_built.proofs.PairLemmas.{key_next}
use Rattle.weld_built.proofs.keyed.merge_each.Goals as goal

pub merge_number-requires-clause-key : goal.merge_number-requires-clause-key
merge_number-requires-clause-key c = cell_in_range c.args.key_kind c.args.keys.now c.loop-i.i c.requires.narrow_key c.requires.keys_in_range (omega arith)

pub merge_number-requires-clause-in_range : goal.merge_number-requires-clause-in_range
merge_number-requires-clause-in_range c =
    let kind = c.args.part.now.kind in
    let there = cell_in_range kind c.args.numbers.now c.loop-i.i c.requires.narrow c.requires.numbers (omega (arith, c.requires.count)) in
    subst (λ k. InRange k (wide_bits c.from.result)) (sym c.loop-i.invariant.3) (wide_bits_in_range kind c.from.result (subst (InRange kind) (sym c.from.ensures) there))

pub loop-i-preserved : goal.loop-i-preserved
loop-i-preserved c =
    let op = c.args.part.now.op in
    let kind = c.args.part.now.kind in
    let l : c.loop-i.i < length c.args.keys.now = omega arith in
    let m : c.loop-i.i < length c.args.numbers.now = omega (arith, c.requires.count) in
    let x = slice_index_or c.args.keys.now c.loop-i.i (pos 0) in
    let y = slice_index_or c.args.numbers.now c.loop-i.i (pos 0) in
    let there = all_in_range_at kind c.args.numbers.now c.loop-i.i (pos 0) c.requires.numbers m in
    let key : bits x ≡ x = bits_are c.args.key_kind x c.requires.narrow_key (all_in_range_at c.args.key_kind c.args.keys.now c.loop-i.i (pos 0) c.requires.keys_in_range l) in
    let is : c.from.result ≡ y = c.from.ensures ∙ bits_are kind y c.requires.narrow there in
    let wide : wide_bits c.from.result ≡ y = wide_bits_are kind c.from.result (subst (InRange kind) (sym is) there) ∙ is in (
      key_next (combined op kind) c.args.part.now.numbers c.loop-i.part.numbers c.merge_number.new.part.numbers c.args.key_kind c.args.keys.now c.args.numbers.now c.loop-i.i (bits x) (wide_bits c.from.result) l m c.loop-i.invariant.0 key wide
          (c.in-Ok.ensures.ok ∙ ap₂ (λ o k. merge_key (combined o k) c.loop-i.part.numbers (number c.args.key_kind (bits x)) (wide_bits c.from.result)) c.loop-i.invariant.2 c.loop-i.invariant.3),
      c.merge_number.ensures.keys,
      c.merge_number.ensures.op ∙ c.loop-i.invariant.2,
      c.merge_number.ensures.kind ∙ c.loop-i.invariant.3,
    )
