use Rattle.std.proofs.Common.{sym, ◌∙◌}
use Rattle.weld_session.proofs.Adding.{none_missing, none_of}
use Rattle.weld_session.proofs.lower.type_of_shown.Goals as goal

pub unreachable-requires : goal.unreachable-requires
unreachable-requires c =
    none_missing c.args.graph.now c.args.shown.now c.loop-id.id-index (record { 0 = 0 }) c.loop-id-test.true c.requires (sym c.ty_of.ensures ∙ none_of c.ty_of.result c.in_default.is)
