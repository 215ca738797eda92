use Rattle.weld_rewriting.proofs.Rewriting.{rewrites_through}
use Rattle.weld_rewriting.proofs.replacing.rewriting_goes_through_every_node.Goals as goal

pub returns : goal.returns
returns c = rewrites_through (record { total = c.values_are_ordered.ensures.total; alike = c.keys_are_ordered_alike.ensures })
