use Rattle.std.proofs.Common.{List, length, get_or, ap, subst, ◌∙◌, ◌<◌}
use Rattle.weld_tree.specs.TypeTree.{TypeTree}
use Rattle.weld_data.specs.View.{view_val}
use Rattle.weld_eager_tests.proofs.Fitting.{as_many, given_at}
use Rattle.weld_eager_tests.proofs.both.add_values.Goals as goal

pub at-requires : goal.at-requires
at-requires c =
    let given = c.args.given.now in
    subst (λ n. c.loop-i.i < n) (ap length c.as_slice-types.ensures.value ∙ as_many given.types given.values c.requires.fit) c.loop-i-test.true

pub add_value-requires : goal.add_value-requires
add_value-requires c =
    let given = c.args.given.now in
    let same = c.as_slice-types.ensures.value in
    let ty = c.index-types-i.result in
    given_at given.types given.values c.loop-i.i ty (view_val c.at.result.now) c.requires.fit c.requires.formed
    (subst (λ (ts : List TypeTree). c.loop-i.i < length ts) same c.loop-i-test.true) (c.index-types-i.is ∙ ap (λ (ts : List TypeTree). get_or ts c.loop-i.i ty) same) c.at.ensures
