use Rattle.std.proofs.Common.{◌≡◌, map, sym, subst, replicate, ap, ◌∙◌}
use Rattle.weld_data.specs.Kind.{InRange}
use Rattle.weld_builders.specs.Range.{AllInRange}
use Rattle.weld_pieces.specs.Word.{word}
use Rattle.weld_pieces.proofs.CellLemmas.{all_in_range_replicate, bits, map-replicate, replicate_is, wide_bits_are, wide_bits_in_range, word_bits_are, word_bits_in_range}
use Rattle.weld_pieces.proofs.cells.CellsPart.neutral.Goals as goal

pub invariant_of-result : goal.invariant_of-result
invariant_of-result c =
    let kind = c.args.kind in
    let start = c.to_word-start.result in
    let are : c.in_ok-cells.cells.items ≡ replicate c.args.count (bits start) = c.in_ok-cells.ensures.items_if_clones_equal (λ y e. e) in
    let so = ap (map (word kind)) are ∙ map-replicate (word kind) c.args.count (bits start) in
    let within = subst (InRange kind) (sym c.to_word-start.ensures) (wide_bits_in_range kind c.neutral.result c.neutral.ensures.in_range) in
    record {
      integer = c.requires;
      in_range = subst (AllInRange kind) (sym so) (all_in_range_replicate kind (word kind (bits start)) c.args.count (word_bits_in_range kind start within));
    }

pub returns-clause-cells : goal.returns-clause-cells
returns-clause-cells c =
    let kind = c.args.kind in
    let start = c.to_word-start.result in
    let are : c.in_ok-cells.cells.items ≡ replicate c.args.count (bits start) = c.in_ok-cells.ensures.items_if_clones_equal (λ y e. e) in
    let within = subst (InRange kind) (sym c.to_word-start.ensures) (wide_bits_in_range kind c.neutral.result c.neutral.ensures.in_range) in
    ap (map (word kind)) are ∙ map-replicate (word kind) c.args.count (bits start)
    ∙ ap (replicate c.args.count) (ap (word kind) (word_bits_are kind start within) ∙ c.to_word-start.ensures ∙ wide_bits_are kind c.neutral.result c.neutral.ensures.in_range ∙ c.neutral.ensures.value)
    ∙ replicate_is _ c.args.count
