use Rattle.std.proofs.Common.{subst, sym}
use Rattle.std.specs.List.{AllByRecursion}
use Rattle.weld_tree.specs.Program.{ProgramTree}
use Rattle.weld_print.specs.Spellable.{NoteIsSpellable, IsSpellableProgram}
use Rattle.weld_rewriting.specs.Rewriting.{RewritesProgram}
use Rattle.weld_rewriting.proofs.Tidying.{program_within}
use Rattle.weld_rewriting.proofs.Programs.{still_typed, still_accepted, still_noted, still_means}
use Rattle.weld_rewriting.proofs.replacing.rewritten_programs.Goals as goal

spellable : (q p : ProgramTree) → RewritesProgram q p → IsSpellableProgram p → IsSpellableProgram q
spellable q p r h = record {
  params = subst (AllByRecursion (λ b. NoteIsSpellable b.note)) (sym r.params) h.params;
  body = r.body.within.spellable h.body;
}

pub returns : goal.returns
returns c = record {
  accepted = still_accepted;
  noted = still_noted;
  typed = still_typed;
  same_meaning = still_means;
  program = λ q p r h. program_within q p r.params r.body.within h;
  loops = λ q p r. r.body.within.no_more_loops;
  legs = λ q p r. r.body.within.no_more_legs;
  spelled = λ text q p r h s.
      c.printed_programs_read_back.ensures.made q (program_within q p r.params r.body.within h) (spellable q p r (c.texts_spell_the_spellable.ensures text p s));
}
