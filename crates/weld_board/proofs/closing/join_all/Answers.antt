use Rattle.std.proofs.Common.{◌++◌, ◌∷◌, [], List, Some, ap, ◌∙◌, append_assoc, arith}
use Rattle.std.proofs.lemmas.List.Elements.{All-pop}
use Rattle.weld_board.specs.declared.seat.Seat.{Seat}
use Rattle.weld_board.specs.Rule.{both}
use Rattle.weld_board.specs.Sitting.{Sits, shares_of}
use Rattle.weld_board.proofs.Stepping.{join_allowed}
use Rattle.weld_board.proofs.closing.join_all.Goals as goal

pub join_seat-requires : goal.join_seat-requires
join_seat-requires c =
    let words = c.args.board.now.words in
    let some = c.args.board.now.some_worker in
    let s : Seat = c.in-Some-pop.seat in
    let sits : Sits c.args.board.now s = (All-pop (Sits c.args.board.now) c.joins.seats.items c.pop-in-joins.new.self.items (Some s) c.in-Some-pop.ensures.items c.joins.invariant.sit).1 in
    (c.joins.invariant.table, sits.table, ap (λ m. m.1) sits.share, (omega arith), join_allowed c.args.board.now.table.shared.key c.joins.place.id c.joins.place.me.0 s.place.id s.place.me.0)

pub joins-preserved : goal.joins-preserved
joins-preserved c =
    let inv = c.joins.invariant in
    let s : Seat = c.in-Some-pop.seat in
    let parts = All-pop (Sits c.args.board.now) c.joins.seats.items c.pop-in-joins.new.self.items (Some s) c.in-Some-pop.ensures.items inv.sit in
    let sits : Sits c.args.board.now s = parts.1 in
    let rest : List Seat = inv.shares.0 in
    record {
      table = c.join_seat.ensures.0 ∙ inv.table;
      sit = parts.0;
      shares = (
        s ∷ rest,
        inv.shares.1 ∙ ap (λ l. l ++ rest) c.in-Some-pop.ensures.items ∙ append_assoc c.pop-in-joins.new.self.items (s ∷ []) rest,
        c.join_seat.ensures.2 ∙ ap (λ m. (both m.0 s.place.me.0, m.1)) inv.shares.2 ∙ ap (λ m. (both (shares_of rest) m.0, [])) sits.share,
      );
    }
