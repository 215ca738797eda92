use Rattle.std.proofs.Common.{◌-◌, ◌++◌, List, take, sym, ap, ◌∙◌, subst, arith}
use Rattle.weld_data.specs.Value.{Value}
use Rattle.weld_data.specs.View.{view_column}
use Rattle.weld_acts.specs.Ranges.{HoldsRange, RangeAnswer}
use Rattle.weld_eval.specs.FrameView.{env_of}
use Rattle.weld_eval.specs.LegsView.{lists_of}
use Rattle.weld_eval.specs.ThingView.{thing_of}
use Rattle.weld_eval_forms.specs.Legs.{leg_lists}
use Rattle.weld_exec.proofs.Ranges.{one_taken}
use Rattle.weld_exec.proofs.range.+run_tile_rows.Goals as goal

pub run_tile_rows-requires : goal.run_tile_rows-requires
run_tile_rows-requires t c = (
  omega arith,
  (
    c.requires.vectors,
    (
      omega (arith, c.requires.left),
      subst (λ (l : List (List Value)). HoldsRange c.args.node.now (env_of c.args.frame.now) l c.args.tile.lo c.args.tile.hi (thing_of c.args.builder.now)) (sym (ap (λ (r : List (List Value)). leg_lists (take (c.args.left - 1) c.args.vectors.now) ++ r) c.before-more.ensures ∙ one_taken c.args.vectors.now c.args.left c.index-vectors-left.result (view_column c.column_of.result.now) (lists_of c.args.legs.now) (omega arith) c.requires.left c.index-vectors-left.is c.column_of.ensures)) c.requires.holds,
    ),
  ),
)

pub returns-else-left-eq0 : goal.returns-else-left-eq0
returns-else-left-eq0 t c =
    subst (λ (l : List (List Value)). RangeAnswer c.run_tile_rows.result (record { node = c.args.node.now; names = env_of c.args.frame.now; lists = l; start = thing_of c.args.builder.now }) c.args.tile.lo c.args.tile.hi (thing_of c.args.builder.now) (thing_of c.run_tile_rows.new.builder))
    (ap (λ (r : List (List Value)). leg_lists (take (c.args.left - 1) c.args.vectors.now) ++ r) c.before-more.ensures ∙ one_taken c.args.vectors.now c.args.left c.index-vectors-left.result (view_column c.column_of.result.now) (lists_of c.args.legs.now) (omega arith) c.requires.left c.index-vectors-left.is c.column_of.ensures) c.run_tile_rows.ensures
