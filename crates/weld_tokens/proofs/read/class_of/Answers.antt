use Rattle.std.proofs.Common.{sym}
use Rattle.weld_tokens.proofs.Reading.{class_of-more, class_of-none}
use Rattle.weld_tokens.proofs.read.class_of.Goals as goal

pub returns-else-count-word : goal.returns-else-count-word
returns-else-count-word c = sym (class_of-more c.args.word.now c.in-Some.count c.in-Some.ensures.some.longest c.if-count-word.false)

pub returns-in-None : goal.returns-in-None
returns-in-None c = sym (class_of-none c.args.word.now c.in-None.ensures.none)
