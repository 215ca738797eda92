use Rattle.std.proofs.Common.{◌≡◌, All, length, sym, ap, subst, ◌∙◌}
use Rattle.weld_board.specs.Work.{HasWorked}
use Rattle.weld_board.proofs.WorkersSeats.{written}
use Rattle.weld_board.proofs.workers.sharing.all_work.Goals as goal

pub returns : goal.returns
returns g c =
    let long : length c.work_all.new.workers ≡ length c.args.workers.items = c.work_all.auto.workers ∙ ap length c.as_mut_slice.ensures.value in
    let same = written c.args.workers.len c.args.workers.items c.work_all.new.workers c.args.workers.ok.0 long in
    record {
      worked = subst (All (HasWorked (g.T.Jobs.made c.args.jobs.now) (g.T.Jobs.faults c.args.jobs.now) c.args.board.now)) (sym same) c.work_all.ensures;
      all = ap length same ∙ long;
    }
