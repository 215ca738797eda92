use Rattle.std.proofs.Common.{ap, ◌∙◌, ◌*ℤ◌}
use Rattle.std.specs.Int.{w128}
use Rattle.std.proofs.lemmas.Int.{to_z-of_z}
use Rattle.weld_data.specs.Wrapped.{wrapped}
use Rattle.weld_data.proofs.Ranges.{product_fits, IsNarrow-not_u64}
use Rattle.weld_data.proofs.scalar.product.Goals as goal

pub returns-in_default-clause-value : goal.returns-in_default-clause-value
returns-in_default-clause-value c =
    let x = c.args.x in
    let y = c.args.y in
    to_z-of_z w128 _ (record { sfits = c.wrap.type_inv })
    ∙ c.wrap.ensures.value
    ∙ ap (wrapped c.args.kind) (rw (to_z-of_z w128 x c.ranges.x, to_z-of_z w128 y c.ranges.y) (to_z-of_z w128 (x *ℤ y) (product_fits c.args.kind x y (IsNarrow-not_u64 c.args.kind c.in_default.not-U64) c.requires.left c.requires.right)))
