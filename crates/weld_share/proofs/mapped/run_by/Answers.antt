use Rattle.std.proofs.Common.{◌+◌, Ok, sym, subst, ◌∙◌, arith}
use Rattle.weld_data.specs.View.{view_val}
use Rattle.weld_exec.specs.Run.{NextAnswer, LeavesNone}
use Rattle.weld_share.proofs.Counting.{HasCounted, HasRoom, counted_same, counted_on, counted_end, room_left, room_on}
use Rattle.weld_share.proofs.mapped.run_by.Goals as goal

pub returns-in-Ok-Done-clause-note : goal.returns-in-Ok-Done-clause-note
returns-in-Ok-Done-clause-note g c =
    counted_end c.args.plan.now c.advance.new.self c.args.sharing.cut c.loop-value.note c.args.inputs.now (view_val c.in-Ok-Done.value)
    (counted_same c.args.plan.now c.loop-value.env c.advance.new.self c.args.sharing.cut c.loop-value.note c.loop-value.invariant.2 c.in-Ok-Done.ensures.inputs c.in-Ok-Done.ensures.rows)
    (c.in-Ok-Done.ensures.inputs ∙ c.loop-value.invariant.1) (subst (λ n. NextAnswer (Ok n) c.args.plan.now c.advance.new.self) c.in-Ok-Done.field-0-is c.in-Ok-Done.ensures.next)
    (subst (LeavesNone c.args.plan.now c.advance.new.self) c.in-Ok-Done.field-0-is c.in-Ok-Done.ensures.none)

pub loop-value-preserved : goal.loop-value-preserved
loop-value-preserved g c =
    let counted =
    counted_on c.args.plan.now c.advance.new.self c.run_loop.new.env c.args.sharing.cut c.loop-value.note c.in-Ok-run_loop.tiles c.in-Ok-run_loop.rows
    (counted_same c.args.plan.now c.loop-value.env c.advance.new.self c.args.sharing.cut c.loop-value.note c.loop-value.invariant.2 c.in-Ok-Loop.ensures.inputs c.in-Ok-Loop.ensures.rows)
    c.in-Ok-run_loop.ensures.inputs c.in-Ok-run_loop.ensures.rows c.in-Ok-run_loop.ensures.tiles in
    let room =
    room_on c.args.plan.now c.advance.new.self c.run_loop.new.env c.loop-value.note c.in-Ok-run_loop.tiles c.in-Ok-run_loop.rows
    (room_left c.args.plan.now c.loop-value.env c.advance.new.self c.loop-value.note c.loop-value.invariant.3 c.in-Ok-Loop.ensures.left)
    c.in-Ok-run_loop.ensures.left (omega arith) c.in-Ok-run_loop.ensures.few in (
      c.in-Ok-run_loop.ensures.ready,
      c.in-Ok-run_loop.ensures.inputs ∙ c.in-Ok-Loop.ensures.inputs ∙ c.loop-value.invariant.1,
      subst (λ n. HasCounted c.args.plan.now c.run_loop.new.env c.args.sharing.cut (record c.loop-value.note { tiles = c.loop-value.note.tiles + c.in-Ok-run_loop.tiles; turns = c.loop-value.note.turns + n })) (sym c.from.ensures) counted,
      subst (λ n. HasRoom c.args.plan.now c.run_loop.new.env (record c.loop-value.note { tiles = c.loop-value.note.tiles + c.in-Ok-run_loop.tiles; turns = c.loop-value.note.turns + n })) (sym c.from.ensures) room,
    )
