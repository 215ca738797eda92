use Rattle.weld_print.proofs.SpelledPrograms.{text_spells_spellable}
use Rattle.weld_print.proofs.reads_back.texts_spell_the_spellable.Goals as goal

pub returns : goal.returns
returns c = text_spells_spellable c.classes_of_tokens.ensures
