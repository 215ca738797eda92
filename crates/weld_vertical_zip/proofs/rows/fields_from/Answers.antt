use Rattle.std.proofs.Common.{◌≡◌, ◌+◌, ◌∷◌, ◌++◌, IfOk, ap, sym, subst, ◌∙◌, arith}
use Rattle.weld_tree.specs.TypeTree.{pack}
use Rattle.weld_tree.specs.ExprTree.{more_exprs, pack_exprs}
use Rattle.weld_horizontal.specs.Twice.{items_from}
use Rattle.weld_vertical_zip.specs.Zipping.{exprs_behind}
use Rattle.weld_vertical_zip.proofs.RowLists.{counted, packed_row}
use Rattle.weld_vertical_zip.proofs.rows.fields_from.Goals as goal

pub items_from-requires : goal.items_from-requires
items_from-requires c = omega (arith, c.requires.few, counted c.args.sides.now.before)

pub overflow_add-behind : goal.overflow_add-behind
overflow_add-behind c =
    omega (arith, c.requires.few, c.len.ensures, c.len-2.ensures, counted c.args.sides.now.before, counted c.args.sides.now.within)

pub items_from-requires-2 : goal.items_from-requires-2
items_from-requires-2 c =
    omega (
      arith,
      c.requires.few,
      c.len.ensures,
      c.len-2.ensures,
      counted c.args.sides.now.before,
      counted c.args.sides.now.within,
      counted c.args.sides.now.after,
    )

pub returns : goal.returns
returns c =
    let value = c.args.value in
    let last = c.in_ok-last.last.items in
    subst (λ t. IfOk c.joined.result (λ es. pack_exprs es ≡ t))
    (ap (λ first. pack_exprs (first ++ last)) c.in_ok-first-2.ensures
    ∙ packed_row c.in_ok-first.first.items value last
    ∙ (λ j. exprs_behind (c.in_ok-first.ensures j) (more_exprs value (c.in_ok-last.ensures j)))
    ∙ (λ j. exprs_behind (items_from c.args.place c.args.row.0 (c.requires.all j) 0 (pack c.args.sides.now.before)) (more_exprs value (items_from c.args.place c.args.row.0 (c.requires.all j) ((c.len.ensures ∙ sym (counted c.args.sides.now.before)) j + (c.len-2.ensures ∙ sym (counted c.args.sides.now.within)) j) (pack c.args.sides.now.after)))))
    c.joined.ensures
