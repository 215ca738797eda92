-- Where some text spells a program, noted types apart, the printed text of the rewritten program spells that.
use Rattle.std.proofs.Common.{◌≡◌, ℕ, List, refl, sym, ◌∙◌, ap, subst}
use Rattle.std.specs.List.{AllByRecursion}
use Rattle.weld_tree.specs.declared.binder.Binder.{Binder}
use Rattle.weld_tree.specs.ExprTree.{ExprTree, leaf, one, two, three, many, let_in, loop, iterate, ExprTrees, no_exprs, more_exprs, LegTree, whole, strided, LegTrees, no_legs, more_legs}
use Rattle.weld_tree.specs.Program.{ProgramTree, IsProgram}
use Rattle.weld_tree.specs.Blank.{AreSame}
use Rattle.weld_check_types.specs.Unnoted.{unnoted, all_unnoted, leg_unnoted, legs_unnoted, IsSameButNotes}
use Rattle.weld_print.specs.PrintText.{program_text}
use Rattle.weld_print.specs.Spellable.{OneIsSpellable, NoteIsSpellable, IsSpellable, AreSpellable, LegIsSpellable, LegsAreSpellable, IsSpellableProgram}
use Rattle.weld_print.specs.Texts.{TextSpells, TextSpellsSoundly}
use Rattle.weld_rewriting.specs.Rewriting.{RewritesProgram}

mutual
  looks_past : (e : ExprTree) → IsSpellable (unnoted e) ≡ IsSpellable e
  looks_past (leaf a l) = refl
  looks_past (one a o e) = λ i. OneIsSpellable o × looks_past e i
  looks_past (two a o e f) = λ i. looks_past e i × looks_past f i
  looks_past (three a o c e f) = λ i. looks_past c i × looks_past e i × looks_past f i
  looks_past (many a o es) = all_look_past es
  looks_past (let_in a b e f) = λ i. NoteIsSpellable b.note × looks_past e i × looks_past f i
  looks_past (loop a ls e b n x f) = λ i.
      legs_look_past ls i × looks_past e i × NoteIsSpellable b.note × NoteIsSpellable n.note × NoteIsSpellable x.note × looks_past f i
  looks_past (iterate a e b f) = λ i. looks_past e i × NoteIsSpellable b.note × looks_past f i

  all_look_past : (es : ExprTrees) → AreSpellable (all_unnoted es) ≡ AreSpellable es
  all_look_past no_exprs = refl
  all_look_past (more_exprs e es) = λ i. looks_past e i × all_look_past es i

  leg_looks_past : (l : LegTree) → LegIsSpellable (leg_unnoted l) ≡ LegIsSpellable l
  leg_looks_past (whole e) = looks_past e
  leg_looks_past (strided e f g h) = λ i. looks_past e i × looks_past f i × looks_past g i × looks_past h i

  legs_look_past : (ls : LegTrees) → LegsAreSpellable (legs_unnoted ls) ≡ LegsAreSpellable ls
  legs_look_past no_legs = refl
  legs_look_past (more_legs l ls) = λ i. leg_looks_past l i × legs_look_past ls i

same_spellable : (d e : ExprTree) → unnoted d ≡ unnoted e → IsSpellable d → IsSpellable e
same_spellable d e p h = subst (λ (X : Type 0). X) (sym (looks_past d) ∙ ap IsSpellable p ∙ looks_past e) h

-- the laws of texts that this rests on
pub record TextLaws : Type 0 where
  pub spellable : (text : List ℕ) (p : ProgramTree) → TextSpells text p → IsSpellableProgram p
  pub printed : (p : ProgramTree) → IsProgram p.params p.body → IsSpellableProgram p → (q : ProgramTree) × TextSpellsSoundly (program_text p) q × AreSame p q

still_spellable : (q p s : ProgramTree) → RewritesProgram q p → IsSameButNotes s p → IsSpellableProgram s → IsSpellableProgram q
still_spellable q p s h same k = record {
  params = subst (λ (bs : List Binder). AllByRecursion (λ b. NoteIsSpellable b.note) bs) (ap (λ (r : ProgramTree). r.params) same ∙ sym h.params) k.params;
  body = h.body.within.spellable (same_spellable s.body p.body (ap (λ (r : ProgramTree). r.body) same) k.body);
}

pub spelled_by : TextLaws → (q p : ProgramTree) → RewritesProgram q p → IsProgram q.params q.body → (text : List ℕ) (s : ProgramTree) → TextSpells text s → IsSameButNotes s p
    → (r : ProgramTree) × TextSpellsSoundly (program_text q) r × AreSame q r
spelled_by laws q p h made text s k same = laws.printed q made (still_spellable q p s h same (laws.spellable text s k))
