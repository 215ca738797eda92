use Rattle.std.proofs.Common.{◌≡◌, ◌++◌, List, length, take, sym, ap, ◌∙◌, subst, refl}
use Rattle.weld_data.specs.Value.{Value}
use Rattle.weld_acts.specs.Ranges.{HoldsRange, RangeAnswer}
use Rattle.weld_eval.specs.FrameView.{env_of}
use Rattle.weld_eval.specs.LegsView.{lists_of}
use Rattle.weld_eval.specs.ThingView.{thing_of}
use Rattle.weld_eval_forms.specs.Legs.{leg_lists}
use Rattle.weld_exec.proofs.Ranges.{all_lists}
use Rattle.weld_exec.proofs.range.run_in_room.Goals as goal

pub run_tile_rows-requires-clause-holds : goal.run_tile_rows-requires-clause-holds
run_tile_rows-requires-clause-holds c =
    let lists : leg_lists (take (length c.args.vectors.now) c.args.vectors.now) ++ lists_of c.no_legs-end.result ≡ leg_lists c.args.vectors.now =
    ap (λ (r : List (List Value)). leg_lists (take (length c.args.vectors.now) c.args.vectors.now) ++ r) c.no_legs-end.ensures ∙ all_lists c.args.vectors.now c.args.vectors.now (length c.args.vectors.now) (leg_lists c.args.vectors.now) refl refl refl in
    subst (λ (l : List (List Value)). HoldsRange c.args.node.now (env_of c.args.frame.now) l c.args.tile.lo c.args.tile.hi (thing_of c.args.builder.now)) (sym lists) c.requires.holds

pub returns : goal.returns
returns c =
    let lists : leg_lists (take (length c.args.vectors.now) c.args.vectors.now) ++ lists_of c.no_legs-end.result ≡ leg_lists c.args.vectors.now =
    ap (λ (r : List (List Value)). leg_lists (take (length c.args.vectors.now) c.args.vectors.now) ++ r) c.no_legs-end.ensures ∙ all_lists c.args.vectors.now c.args.vectors.now (length c.args.vectors.now) (leg_lists c.args.vectors.now) refl refl refl in
    subst (λ (l : List (List Value)). RangeAnswer c.run_tile_rows.result (record { node = c.args.node.now; names = env_of c.args.frame.now; lists = l; start = thing_of c.args.builder.now }) c.args.tile.lo c.args.tile.hi (thing_of c.args.builder.now) (thing_of c.run_tile_rows.new.builder)) lists c.run_tile_rows.ensures
