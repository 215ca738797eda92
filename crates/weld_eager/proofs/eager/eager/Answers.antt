use Rattle.std.proofs.Common.{sym, subst}
use Rattle.weld_data.specs.declared.op.MergeOp.TheVariants as merges
use Rattle.weld_data.specs.View.{view_val}
use Rattle.weld_eval.specs.Answers.{Answers}
use Rattle.weld_calls.specs.Lists.{numbers}
use Rattle.weld_calls.specs.CallMeaning.{call_meaning, kind_at, value_at}
use Rattle.weld_eager.proofs.Answering.{total_answer}
use Rattle.weld_eager.proofs.eager.eager.Goals as goal

pub returns-in-Sum : goal.returns-in-Sum
returns-in-Sum c =
    subst (λ call. Answers view_val c.combined.result (call_meaning call c.args.types.now c.args.arguments.now)) (sym c.in-Sum.is)
    (total_answer merges.Add (kind_at 0 c.args.types.now) (numbers (value_at 0 c.args.arguments.now)) c.combined.result c.combined.ensures)

pub returns-in-Min : goal.returns-in-Min
returns-in-Min c =
    subst (λ call. Answers view_val c.combined-in-Min.result (call_meaning call c.args.types.now c.args.arguments.now)) (sym c.in-Min.is)
    (total_answer merges.Min (kind_at 0 c.args.types.now) (numbers (value_at 0 c.args.arguments.now)) c.combined-in-Min.result c.combined-in-Min.ensures)

pub returns-in-Max : goal.returns-in-Max
returns-in-Max c =
    subst (λ call. Answers view_val c.combined-in-Max.result (call_meaning call c.args.types.now c.args.arguments.now)) (sym c.in-Max.is)
    (total_answer merges.Max (kind_at 0 c.args.types.now) (numbers (value_at 0 c.args.arguments.now)) c.combined-in-Max.result c.combined-in-Max.ensures)
