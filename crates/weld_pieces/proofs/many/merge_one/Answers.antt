use Rattle.std.proofs.Common.{◌<◌, length, subst, sym, refl, ◌∙◌, rules, w64}
use Rattle.std.proofs.lemmas.Int.{to_z-of_z}
use Rattle.weld_pieces.specs.Answer.{IsOutside}
use Rattle.weld_pieces.proofs.CellLemmas.{cell_in_range, outside_faults, bits_in_range, all_in_range_set}
use Rattle.weld_pieces.proofs.ManyLemmas.{kept_merges}
use Rattle.weld_pieces.proofs.many.merge_one.Goals as goal

pub combine_kept-requires-clause-left : goal.combine_kept-requires-clause-left
combine_kept-requires-clause-left c =
    let l : c.in-Some.place < length c.args.cells.now = search rules in
    cell_in_range c.args.kind c.args.cells.now c.in-Some.place c.requires.narrow c.requires.cells l

pub returns-in-None-clause-cells : goal.returns-in-None-clause-cells
returns-in-None-clause-cells c =
    let o : IsOutside c.args.index (length c.args.cells.now) = subst (λ i. IsOutside i (length c.args.cells.now)) (to_z-of_z w64 c.args.index c.ranges.index) c.in-None.ensures in
    (outside_faults c.args.op c.args.kind c.args.cells.now c.args.index c.args.x o, refl)

pub returns-in-Some-clause-cells : goal.returns-in-Some-clause-cells
returns-in-Some-clause-cells c =
    let l : c.in-Some.place < length c.args.cells.now = search rules in
    kept_merges c.args.op c.args.kind c.args.cells.now c.args.index c.args.x c.combine_kept.result c.in-Some.place
    (sym (to_z-of_z w64 c.args.index c.ranges.index) ∙ c.in-Some.ensures.0) l c.requires.narrow c.requires.cells c.combine_kept.ensures.in_range c.combine_kept.ensures.value (to_z-of_z w64 c.args.x c.ranges.x)

pub returns-in-Some-clause-in_range : goal.returns-in-Some-clause-in_range
returns-in-Some-clause-in_range c =
    all_in_range_set c.args.kind c.args.cells.now c.in-Some.place _ c.requires.cells (bits_in_range c.args.kind c.combine_kept.result c.requires.narrow c.combine_kept.ensures.in_range)
