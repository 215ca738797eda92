use Rattle.std.proofs.Common.{◌≡◌, ◌<◌, List, length, get_or, ap, ◌∙◌, arith}
use Rattle.weld_tree.specs.ExprTree.{ExprTree}
use Rattle.weld_blocks.specs.Scope.{scope_env}
use Rattle.weld_blocks.proofs.ColumnLemmas.{next_field, all_fields}
use Rattle.weld_deeds.proofs.lists.items_of.Goals as goal

pub loop-place-preserved : goal.loop-place-preserved
loop-place-preserved c =
    let parts = c.args.parts.now in
    let less : c.loop-place.place < length parts = omega arith in
    let element : c.index-as_slice-place.result ≡ get_or parts c.loop-place.place c.index-as_slice-place.result = c.index-as_slice-place.is ∙ ap (λ (l : List ExprTree). get_or l c.loop-place.place c.index-as_slice-place.result) c.as_slice.ensures.value in
    next_field parts c.loop-place.place c.index-as_slice-place.result (scope_env c.args.scope.now) c.loop-place.columns.items c.push.new.self.items c.in-Some.column c.args.count less element c.in-Ok.ensures.items c.loop-place.invariant c.in-Some.ensures

pub returns : goal.returns
returns c =
    all_fields c.args.parts.now c.loop-place.place (scope_env c.args.scope.now) c.loop-place.columns.items c.args.count (omega arith) c.loop-place.invariant
