use Rattle.weld_safe.proofs.Valued.{valued}
use Rattle.weld_safe.proofs.laws.safe_expressions_have_values.Goals as goal

pub returns : goal.returns
returns c = valued (record { fits = c.typed_programs_are_never_stuck.ensures.expression; one = c.types_are_unique.ensures })
