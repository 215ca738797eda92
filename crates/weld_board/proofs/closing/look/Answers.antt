use Rattle.std.proofs.Common.{arith}
use Rattle.weld_board.proofs.Stepping.{look_at}
use Rattle.weld_board.proofs.closing.look.Goals as goal

pub load-found-requires : goal.load-found-requires
load-found-requires c =
    let words = c.args.board.now.words in
    let some = c.args.board.now.some_worker in
    (c.requires.table, (omega arith), look_at c.args.board.now.table.shared.key c.args.board.now.dealt c.args.board.now.table.shared.table_id.slots c.args.place.now.id c.args.place.now.me c.args.board.now.key c.requires.none c.requires.all)
