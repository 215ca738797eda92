use Rattle.weld_read_script.proofs.Sound.{line_made}
use Rattle.weld_read_script.proofs.statements.laws.statements_are_sound.Goals as goal

pub returns : goal.returns
returns c = line_made
