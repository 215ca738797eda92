use Rattle.std.proofs.Common.{◌∙◌}
use Rattle.weld_board.proofs.Stepping.{opens}
use Rattle.weld_board.proofs.dealing.opened.Goals as goal

pub of_words-requires : goal.of_words-requires
of_words-requires c = opens c.args.dealt c.as_slice.result.now c.requires.room (c.as_slice.ensures.value ∙ c.in_ok-words.ensures)
