use Rattle.std.proofs.Common.{◌≡◌, List, sym, ap, ◌∙◌, subst}
use Rattle.weld_data.specs.Value.{Value}
use Rattle.weld_acts.specs.Ranges.{HoldsRange, RangeAnswer}
use Rattle.weld_eval.specs.FrameView.{env_of}
use Rattle.weld_eval.specs.ThingView.{thing_of, things_of}
use Rattle.weld_eval_forms.specs.Legs.{leg_lists}
use Rattle.weld_plan.specs.Leads.{loop_lists}
use Rattle.weld_exec.proofs.tile.over_pile.Goals as goal

pub run_rows-requires-clause-holds : goal.run_rows-requires-clause-holds
run_rows-requires-clause-holds c =
    let lists : leg_lists c.deref.result.now ≡ loop_lists c.args.node.now (env_of c.args.frame.now) (things_of c.args.pile.now) = ap leg_lists c.deref.ensures.value ∙ c.in-Ok.ensures.lists in
    subst (λ (l : List (List Value)). HoldsRange c.args.node.now (env_of c.args.frame.now) l c.args.tile.lo c.args.tile.hi (thing_of c.args.part.now)) (sym lists) c.requires.holds

pub returns-in-Ok : goal.returns-in-Ok
returns-in-Ok c =
    let lists : leg_lists c.deref.result.now ≡ loop_lists c.args.node.now (env_of c.args.frame.now) (things_of c.args.pile.now) = ap leg_lists c.deref.ensures.value ∙ c.in-Ok.ensures.lists in
    subst (λ (l : List (List Value)). RangeAnswer c.run_rows.result (record { node = c.args.node.now; names = env_of c.args.frame.now; lists = l; start = thing_of c.args.part.now }) c.args.tile.lo c.args.tile.hi (thing_of c.args.part.now) (thing_of c.run_rows.new.builder)) lists c.run_rows.ensures
