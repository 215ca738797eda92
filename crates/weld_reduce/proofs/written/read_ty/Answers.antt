use Rattle.weld_reduce.proofs.CodeEnds.{no_type, over_limits}
use Rattle.weld_reduce.proofs.written.read_ty.Goals as goal

pub returns-in-Err-Break : goal.returns-in-Err-Break
returns-in-Err-Break c = no_type _ _ _ c.in-Err-Break.field-0-is c.in-Err-Break.ensures.broken

pub returns : goal.returns
returns c = over_limits _ _ _ _ c.in_ok-spell_type-in-Ok.ensures c.into_inner-ty.ensures c.is_within_limits.ensures c.if-is_within_limits.false
