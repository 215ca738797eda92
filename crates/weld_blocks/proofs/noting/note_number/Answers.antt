use Rattle.std.proofs.Common.{refl}
use Rattle.weld_blocks.proofs.noting.note_number.Goals as goal

pub returns : goal.returns
returns c = λ t. record { kind = c.if-not-is_same.ensures refl; names = c.in-Ok.ensures.items; columns = c.in-Ok-push.ensures.items }
