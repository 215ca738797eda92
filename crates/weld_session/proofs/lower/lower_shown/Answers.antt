use Rattle.weld_lazy.specs.View.{view_ids}
use Rattle.weld_session.proofs.Adding.{lowers_memory}
use Rattle.weld_session.proofs.lower.lower_shown.Goals as goal

pub only_memory-requires : goal.only_memory-requires
only_memory-requires c = lowers_memory c.in-Err.fault c.args.graph.now (view_ids c.args.shown.now) c.requires.there c.in-Err.ensures.unknown
