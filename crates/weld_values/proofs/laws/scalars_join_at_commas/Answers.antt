use Rattle.weld_values.proofs.Cuts.{joined_separated}
use Rattle.weld_values.proofs.CutBack.{cut_separated}
use Rattle.weld_values.proofs.laws.scalars_join_at_commas.Goals as goal

pub returns : goal.returns
returns c = record { joined = joined_separated; cut = cut_separated }
