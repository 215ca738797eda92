use Rattle.std.proofs.Common.{◌∙◌, ap}
use Rattle.weld_tree.specs.Program.{ProgramTree, syms_of}
use Rattle.weld_uses.proofs.Answered.{clear_whole, walked_whole, stops_whole}
use Rattle.weld_uses.proofs.acceptance.check_uses.Goals as goal

pub walk-requires : goal.walk-requires
walk-requires c =
    clear_whole (syms_of c.p.inside.params) c.p.invariant.distinct c.deref.ensures c.new-left.ensures

pub returns-in-Err-clause-first_refusal : goal.returns-in-Err-clause-first_refusal
returns-in-Err-clause-first_refusal c =
    stops_whole c.in-Err.ensures (c.deref.ensures ∙ ap (λ (p : ProgramTree). p.body) c.p.view_is) c.empty-scope.ensures c.new-left.ensures

pub returns-clause-linear : goal.returns-clause-linear
returns-clause-linear c =
    walked_whole c.in-Ok.ensures (c.deref.ensures ∙ ap (λ (p : ProgramTree). p.body) c.p.view_is) c.empty-scope.ensures c.new-left.ensures
