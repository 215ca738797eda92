use Rattle.std.proofs.Common.{◌≡◌, sym, ap, ◌∙◌, arith}
use Rattle.weld_board.specs.declared.share.Share.{Share}
use Rattle.weld_board.specs.Draws.{late}
use Rattle.weld_board.specs.Sitting.{draws_in}
use Rattle.weld_board.proofs.Stepping.{draw_at}
use Rattle.weld_board.proofs.take.draw.Goals as goal

pub fetch_add-requires : goal.fetch_add-requires
fetch_add-requires c =
    let words = c.args.board.now.words in
    let low = c.requires.hand in
    let x : Share = c.requires.one.0 in
    let none : late c.args.board.now.dealt c.args.hand x.draws ≡ 0 = ap (λ m. late c.args.board.now.dealt c.args.hand (draws_in m.0)) (sym c.requires.one.1) ∙ c.requires.not_empty in (
      c.requires.table,
      (omega arith),
      draw_at c.args.board.now.table.shared.key c.args.board.now.dealt c.args.board.now.table.shared.table_id.slots c.args.place.now.id c.args.hand c.args.place.now.me x c.args.board.now.key c.requires.one.1 c.requires.hand none,
    )
