use Rattle.weld_text_laws.proofs.Texts.{read_script}
use Rattle.weld_text_laws.proofs.scripts.read_scripts_are_scripts.Goals as goal

pub returns : goal.returns
returns c = λ text s h. read_script c.statements_keep.ensures c.statements_are_sound.ensures text s h
