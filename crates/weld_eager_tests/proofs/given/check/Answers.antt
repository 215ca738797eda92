use Rattle.std.proofs.Common.{sym, ◌∙◌}
use Rattle.weld_eager_tests.proofs.Fitting.{fits}
use Rattle.weld_eager_tests.proofs.given.check.Goals as goal

pub returns-in-None-clause-fits : goal.returns-in-None-clause-fits
returns-in-None-clause-fits c = fits c.args.call c.args.types.now (c.if-types-count_of.false ∙ c.count_of.ensures) (sym c.in-None.ensures)
