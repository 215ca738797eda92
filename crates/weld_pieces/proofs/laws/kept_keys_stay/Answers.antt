use Rattle.std.proofs.Common.{ℤ}
use Rattle.weld_pieces.proofs.KeptKeys.{kept_at_start, kept_after_merge, kept_after_join}
use Rattle.weld_pieces.proofs.laws.kept_keys_stay.Goals as goal

pub returns : goal.returns
returns c = record { start = kept_at_start ℤ; merge = kept_after_merge; join = kept_after_join }
