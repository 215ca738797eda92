use Rattle.weld_rewriting.proofs.Rewriting.{rewrites_itself, rewrites_in_turn}
use Rattle.weld_rewriting.proofs.replacing.rewriting_is_an_order.Goals as goal

pub returns : goal.returns
returns c = record { itself = rewrites_itself; in_turn = rewrites_in_turn }
