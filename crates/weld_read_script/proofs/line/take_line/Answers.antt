use Rattle.weld_read_script.proofs.Knowing.{line_keeps}
use Rattle.weld_read_script.proofs.line.take_line.Goals as goal

pub returns-in-Ok-clause-keeps : goal.returns-in-Ok-clause-keeps
returns-in-Ok-clause-keeps c =
    line_keeps c.statements_keep.ensures c.statements_are_sound.ensures c.args.line.now c.in-Ok.said c.args.known.now c.take_saying.new.known c.take_saying.result
    c.in-Ok.ensures c.requires.known c.take_saying.ensures
