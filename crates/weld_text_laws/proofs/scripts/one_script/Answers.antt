use Rattle.weld_text_laws.proofs.Texts.{script_one, fault_one, script_or_fault}
use Rattle.weld_text_laws.proofs.scripts.one_script.Goals as goal

pub returns-clause-script : goal.returns-clause-script
returns-clause-script c = λ text s t h k. script_one c.each_line_says_one_thing.ensures.one text s t h k

pub returns-clause-fault : goal.returns-clause-fault
returns-clause-fault c = λ text e f m n h k. fault_one c.each_line_says_one_thing.ensures.one text e f m n h k

pub returns-clause-not_both : goal.returns-clause-not_both
returns-clause-not_both c = λ text s e m h k. script_or_fault c.each_line_says_one_thing.ensures.one text s e m h k
