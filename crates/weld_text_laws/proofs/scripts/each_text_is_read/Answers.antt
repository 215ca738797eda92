use Rattle.weld_text_laws.proofs.Texts.{text_some}
use Rattle.weld_text_laws.proofs.scripts.each_text_is_read.Goals as goal

pub returns : goal.returns
returns c = λ text. text_some c.each_line_says_one_thing.ensures.some text
