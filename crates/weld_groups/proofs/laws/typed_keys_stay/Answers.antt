use Rattle.std.proofs.Common.{List}
use Rattle.weld_data.specs.Value.{Value}
use Rattle.weld_builders.specs.Part.{appended}
use Rattle.weld_pieces.proofs.KeptKeys.{typed_at_start, typed_after_merge, typed_after_join}
use Rattle.weld_groups.proofs.laws.typed_keys_stay.Goals as goal

pub returns : goal.returns
returns c = record { start = typed_at_start (List Value); merge = λ t m k vs. typed_after_merge t appended m k vs; join = λ t s m. typed_after_join t appended s m }
