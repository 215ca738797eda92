use Rattle.std.proofs.Common.{◌+◌, arith}
use Rattle.weld_turns.specs.Scopes.{view_scope}
use Rattle.weld_turns.proofs.Scoping.{site_below}
use Rattle.weld_turns.proofs.on_rows.+make_behind.Goals as goal

pub make_behind-requires : goal.make_behind-requires
make_behind-requires t c = (
  omega (arith, c.decreases, c.if-i-names.false),
  (
    site_below (view_scope c.args.scope.now) (view_scope c.with_name-inner-in-Number.result) _ c.args.at (c.args.at + 1) _ (omega arith) (omega arith) c.requires.below c.with_name-inner-in-Number.ensures,
    omega (arith, c.requires.state),
  ),
)

pub make_behind-requires-in-Fields : goal.make_behind-requires-in-Fields
make_behind-requires-in-Fields t c = (
  omega (arith, c.decreases, c.if-i-names.false),
  (
    site_below (view_scope c.args.scope.now) (view_scope c.with_spread-inner.result) _ c.args.at (c.args.at + c.in-Fields.count) _ (omega arith) (omega arith) c.requires.below c.with_spread-inner.ensures,
    omega (arith, c.requires.state),
  ),
)
