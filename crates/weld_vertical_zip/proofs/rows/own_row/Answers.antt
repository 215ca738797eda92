use Rattle.std.proofs.Common.{◌≡◌, IfOk, sym, subst, ◌∙◌, arith}
use Rattle.weld_tree.specs.TypeTree.{pack}
use Rattle.weld_vertical_zip.specs.Zipping.{own_row, part_of_row}
use Rattle.weld_vertical_zip.specs.Zips.{of_sides}
use Rattle.weld_vertical_zip.proofs.RowLists.{counted}
use Rattle.weld_vertical_zip.proofs.rows.own_row.Goals as goal

pub part_of_row-requires : goal.part_of_row-requires
part_of_row-requires c = omega (arith, c.requires, c.len.ensures, counted c.args.sides.now.before, counted c.args.sides.now.within)

pub returns : goal.returns
returns c =
    subst (λ t. IfOk c.part_of_row.result (λ e. e ≡ t))
    (λ i. part_of_row c.args.place c.args.row.0 (c.in_ok-all.ensures.value i) ((c.len.ensures ∙ sym (counted c.args.sides.now.before)) i) (pack c.args.sides.now.within)) c.part_of_row.ensures
