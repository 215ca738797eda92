use Rattle.std.proofs.Common.{◌≡◌, ◌<◌, ◌≤◌, length, sym, ap, ◌∙◌, arith, None, Some}
use Rattle.weld_tree.specs.TypeTree.{struct, pack}
use Rattle.weld_tree.specs.TypeView.{view_type}
use Rattle.weld_calls.proofs.Places.{column_there, column_missing, struct_at}
use Rattle.weld_calls.proofs.misfit.column_misfit.Goals as goal

pub returns-then-number-len : goal.returns-then-number-len
returns-then-number-len c = λ us.
    let here : struct (pack c.in-Struct.fields) ≡ c.args.ty.now = sym (ap view_type c.in-Struct.is) ∙ c.ty.view_is in
    let below : c.args.number < length c.in-Struct.fields = (let e = c.len.ensures in let h = c.if-number-len.true in omega (arith, e, h)) in
    struct_at c.args.number c.args.ty.now c.in-Struct.fields us None here (column_there c.args.number c.in-Struct.fields (2, struct (pack c.in-Struct.fields)) below)

pub returns-else-number-len : goal.returns-else-number-len
returns-else-number-len c = λ us.
    let here : struct (pack c.in-Struct.fields) ≡ c.args.ty.now = sym (ap view_type c.in-Struct.is) ∙ c.ty.view_is in
    let past : length c.in-Struct.fields ≤ c.args.number = (let e = c.len.ensures in let h = c.if-number-len.false in omega (arith, e, h)) in
    (λ i. Some (2, sym here i))
    ∙ struct_at c.args.number c.args.ty.now c.in-Struct.fields us (Some (2, struct (pack c.in-Struct.fields))) here (column_missing c.args.number c.in-Struct.fields (2, struct (pack c.in-Struct.fields)) past)
