use Rattle.std.proofs.Common.{subst}
use Rattle.weld_objects.specs.Objects.{AreObjects}
use Rattle.weld_lazy.proofs.graph.Graph.keeps_its_rules.Goals as goal

pub returns : goal.returns
returns c = subst AreObjects c.self.view_is c.self.invariant.0
