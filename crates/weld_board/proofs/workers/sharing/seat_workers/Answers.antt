use Rattle.std.proofs.Common.{[], ◌∷◌, Some, None, All, length, refl, ap, sym, subst, ◌∙◌, length-append, arith}
use Rattle.std.proofs.lemmas.List.Elements.{All-nil, All-pop, All-push}
use Rattle.weld_board.specs.Sitting.{seats_in}
use Rattle.weld_board.specs.declared.workers.worker.Worker.{Worker}
use Rattle.weld_board.specs.Work.{IsIdle}
use Rattle.weld_board.proofs.WorkersSeats.{IsFresh, fresh_all}
use Rattle.weld_board.proofs.workers.sharing.seat_workers.Goals as goal

pub seats-init : goal.seats-init
seats-init g c = record {
  left = fresh_all c.args.board.now 0 (seats_in c.args.seats.now) c.requires;
  idle = subst (All (IsIdle {P = g.row.P.Denot} c.args.board.now)) (sym c.new-workers.ensures.items) (All-nil (IsIdle {P = g.row.P.Denot} c.args.board.now));
  all = let none = ap length c.new-workers.ensures.items in omega arith;
  room = refl;
}

pub seats-preserved : goal.seats-preserved
seats-preserved g c =
    let inv = c.seats.invariant in
    let parts = All-pop (IsFresh c.args.board.now) (seats_in c.seats.seats) (seats_in c.pop.new.self) (Some c.in-Some.seat) c.in-Some.ensures.seats inv.left in
    let w : Worker g.row.P.Denot = record { seat = c.in-Some.seat; spans = c.new.result; stop = None } in
    let is : IsIdle c.args.board.now w = record { sits = parts.1.0; none_taken = parts.1.1; none_made = c.new.ensures.items; goes = refl } in
    let more = ap length c.in-Ok.ensures.items in
    let both = length-append c.seats.workers.items (w ∷ []) in
    let less = ap length c.in-Some.ensures.seats in
    let split = length-append (seats_in c.pop.new.self) (c.in-Some.seat ∷ []) in
    let before = inv.all in
    record {
      left = parts.0;
      idle = subst (All (IsIdle {P = g.row.P.Denot} c.args.board.now)) (sym c.in-Ok.ensures.items) (All-push (IsIdle c.args.board.now) c.seats.workers.items w inv.idle is);
      all = omega arith;
      room = c.in-Some.ensures.room ∙ inv.room;
    }
