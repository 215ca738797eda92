use Rattle.std.proofs.Common.{ℤ}
use Rattle.weld_pieces.proofs.KeptKeys.{typed_at_start, typed_after_merge, typed_after_join}
use Rattle.weld_pieces.proofs.laws.typed_keys_stay.Goals as goal

pub returns : goal.returns
returns c = record { start = typed_at_start ℤ; merge = typed_after_merge; join = typed_after_join }
