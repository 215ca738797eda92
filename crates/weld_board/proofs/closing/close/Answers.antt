use Rattle.std.proofs.Common.{map, IsPermutation, ap, sym, subst, ◌∙◌, arith}
use Rattle.weld_board.specs.Dealing.{joined}
use Rattle.weld_board.specs.declared.share.Share.{Share}
use Rattle.weld_board.specs.Draws.{tiles_drawn}
use Rattle.weld_board.specs.Rule.{IsAll}
use Rattle.weld_board.specs.Sitting.{shares_of, numbers, seats_in}
use Rattle.weld_board.proofs.Totals.{all_once, lists_are, on_hands, some_late}
use Rattle.weld_board.proofs.closing.close.Goals as goal

pub returns-clause-lists : goal.returns-clause-lists
returns-clause-lists c =
    ap (λ m. map (λ (x : Share). tiles_drawn c.args.board.dealt x.draws) m.0) (c.look.ensures.same ∙ c.join_all-place.ensures.shares)
    ∙ lists_are c.args.board (seats_in c.args.seats) c.requires.sit

pub returns-clause-once : goal.returns-clause-once
returns-clause-once c =
    let some = c.args.board.some_worker in
    let every = c.requires.all in
    let all : IsAll (shares_of (seats_in c.args.seats)) = subst (λ m. IsAll m.0) c.join_all-place.ensures.shares c.look.ensures.all in
    subst (λ m. IsPermutation (joined (map (λ (x : Share). tiles_drawn c.args.board.dealt x.draws) m.0)) (numbers c.args.board.dealt.tiles)) (sym (c.look.ensures.same ∙ c.join_all-place.ensures.shares))
    (all_once c.args.board.dealt (shares_of (seats_in c.args.seats)) (omega arith) all (on_hands c.args.board (seats_in c.args.seats) c.requires.sit)
    (some_late c.args.board (seats_in c.args.seats) (omega arith) c.requires.sit c.requires.emptied))
