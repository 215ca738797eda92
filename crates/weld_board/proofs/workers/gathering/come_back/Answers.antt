use Rattle.std.proofs.Common.{◌≡◌, [], ◌∷◌, Some, All, length, map, ap, sym, subst, ◌∙◌, length-append, arith}
use Rattle.std.proofs.lemmas.List.Elements.{All-pop, All-push}
use Rattle.weld_board.specs.Dealing.{joined}
use Rattle.weld_board.specs.Sitting.{Sits, IsEmptied, seats_in, taken}
use Rattle.weld_board.specs.declared.workers.worker.Worker.{Worker}
use Rattle.weld_board.specs.Spans.{jobs_in, AreMade}
use Rattle.weld_board.specs.Work.{HasWorked, Goes}
use Rattle.weld_board.proofs.Ending.{made_append}
use Rattle.weld_board.proofs.WorkersSeats.{has_done, joined_more}
use Rattle.weld_board.proofs.workers.gathering.come_back.Goals as goal

pub workers-preserved : goal.workers-preserved
workers-preserved g c =
    let inv = c.workers.invariant in
    let w : Worker g.row.P.Denot = c.in-Some.worker in
    let worked = All-pop (HasWorked (g.T.Jobs.made c.args.jobs.now) (g.T.Jobs.faults c.args.jobs.now) c.args.board.now) c.workers.workers.items c.pop.new.self.items (Some w) c.in-Some.ensures.items inv.worked in
    let goes = All-pop Goes c.workers.workers.items c.pop.new.self.items (Some w) c.in-Some.ensures.items inv.go in
    let done = has_done (g.T.Jobs.made c.args.jobs.now) (g.T.Jobs.faults c.args.jobs.now) c.args.board.now w worked.1 goes.1 in
    let more = ap length c.put.ensures.seats in
    let both = length-append (seats_in c.workers.seats) (w.seat ∷ []) in
    let less = ap length c.in-Some.ensures.items in
    let split = length-append c.pop.new.self.items (w ∷ []) in
    let before = inv.all in
    record {
      worked = worked.0;
      go = goes.0;
      sit = subst (All (Sits c.args.board.now)) (sym c.put.ensures.seats) (All-push (Sits c.args.board.now) (seats_in c.workers.seats) w.seat inv.sit worked.1.0.sits);
      emptied = subst (All IsEmptied) (sym c.put.ensures.seats) (All-push IsEmptied (seats_in c.workers.seats) w.seat inv.emptied worked.1.1);
      all = omega arith;
      room = c.put.ensures.room ∙ inv.room;
      made = subst (AreMade (g.T.Jobs.made c.args.jobs.now)) (sym c.in-Ok.ensures.items) (made_append (g.T.Jobs.made c.args.jobs.now) c.workers.spans.items w.spans.items inv.made done.0);
      jobs = subst (λ l. jobs_in c.append.new.self.items ≡ joined (map taken l)) (sym c.put.ensures.seats)
          (joined_more c.workers.spans.items w.spans.items c.append.new.self.items (seats_in c.workers.seats) w.seat inv.jobs done.1 c.in-Ok.ensures.items);
    }
