use Rattle.weld_passes.proofs.Unnoting.{same_chains}
use Rattle.weld_passes.proofs.laws.chains_look_past_notes.Goals as goal

pub returns : goal.returns
returns c = same_chains
