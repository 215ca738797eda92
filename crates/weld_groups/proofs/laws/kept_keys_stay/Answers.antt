use Rattle.std.proofs.Common.{List}
use Rattle.weld_data.specs.Value.{Value}
use Rattle.weld_builders.specs.Part.{appended}
use Rattle.weld_pieces.proofs.KeptKeys.{kept_at_start, kept_after_merge, kept_after_join}
use Rattle.weld_groups.proofs.laws.kept_keys_stay.Goals as goal

pub returns : goal.returns
returns c = record { start = kept_at_start (List Value); merge = λ key m k vs. kept_after_merge key appended m k vs; join = λ key s m. kept_after_join key appended s m }
