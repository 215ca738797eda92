use Rattle.weld_tiles.proofs.Cuts.{one_cut}
use Rattle.weld_tiles.proofs.laws.one_cut.Goals as goal

pub returns : goal.returns
returns c = one_cut c.args.cut
