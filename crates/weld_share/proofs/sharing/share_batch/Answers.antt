use Rattle.std.proofs.Common.{arith}
use Rattle.std.proofs.lemmas.Result.{IfOk-weaker}
use Rattle.weld_exec.specs.Run.{rows_at}
use denote.Exit.{no}
use denote.Param.Send.{param_send, arg_send, param_sync, arg_sync}
use Rattle.weld_share.proofs.Sent.{owned_send}
use Rattle.weld_share.proofs.Shared.{batch_sync}
use Rattle.weld_share.proofs.Spanning.{batch_behind}
use Rattle.weld_share.proofs.sharing.share_batch.Goals as goal

pub share_jobs-requires-sync-T : goal.share_jobs-requires-sync-T
share_jobs-requires-sync-T g c κs within = param_sync 1 _ (arg_sync _ no _ (batch_sync _ _ _ _ c.type_bounds.sync-G))

pub share_jobs-requires-send-P : goal.share_jobs-requires-send-P
share_jobs-requires-send-P g c κs within = param_send 0 _ (arg_send _ no _ owned_send)

pub returns-in-Ok-clause-behind : goal.returns-in-Ok-clause-behind
returns-in-Ok-clause-behind g c =
    let long = c.split_at.ensures.front_len in
    let some = c.requires.some in
    IfOk-weaker c.enter_spans.result _ _
    (λ j ends. batch_behind c.requires.stretches.0 c.args.joined.end (rows_at c.args.run.now.env.now) j.end c.args.len c.args.left.now c.split_at.result.0.now c.requires.stretches.1 c.split_at.ensures.front (omega arith) ends) c.enter_spans.ensures.ends
