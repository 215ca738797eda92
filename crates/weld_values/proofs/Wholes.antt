-- A whole text reads as at most one value, and else has one reason.
use Rattle.std.proofs.Common.{◌≡◌, sym, ◌∙◌, ℕ, List, [], ◌∷◌, length, ◌==◌, false, refl, ap, arith}
use Rattle.std.proofs.lemmas.Bool.{false≢true}
use Rattle.weld_data.specs.Value.{Value}
use Rattle.weld_tree.specs.TypeTree.{TypeTree}
use Rattle.weld_values.specs.declared.flaw.Flaw.TheVariants.{Fine, Repeat, Range}
use Rattle.weld_values.specs.declared.fault.DataFault.TheVariants as faults
use Rattle.weld_values.specs.declared.flaw.Flaw.{Flaw}
use Rattle.weld_values.specs.Tokens.{after_blanks}
use Rattle.weld_values.specs.Grammar.{At}
use Rattle.weld_values.specs.Reading.{Spells, ReadsAs, WhyNot}
use Rattle.weld_values.specs.Judging.{IsRead, IsUnread}
use Rattle.weld_values.proofs.Soles.{at_sole}

pub empty_is : (text : List ℕ) → length text ≡ 0 → text ≡ []
empty_is [] h = refl
empty_is (x ∷ xs) h = absurd (omega arith)

spelled : (t : TypeTree) (text rest : List ℕ) (f : Flaw) (v : Value) (r : IsRead (At t) text f v rest) → length (after_blanks rest) ≡ 0 → Spells text t r.raw
spelled t text rest f v r e = record { rest = rest; at = r.at; ends = empty_is (after_blanks rest) e }

pub whole_fine : (t : TypeTree) (text rest : List ℕ) (v : Value) → IsRead (At t) text Fine v rest → length (after_blanks rest) ≡ 0 → ReadsAs text t v
whole_fine t text rest v r e = record { raw = r.raw; spelled = spelled t text rest Fine v r e; in_range = r.judged.0; settled = r.judged.1 }

pub whole_repeat : (t : TypeTree) (text rest : List ℕ) (v : Value) → IsRead (At t) text Repeat v rest → length (after_blanks rest) ≡ 0 → WhyNot text t faults.Repeat
whole_repeat t text rest v r e = record { raw = r.raw; spelled = spelled t text rest Repeat v r e; in_range = r.judged.0; repeats = r.judged.1 }

pub whole_range : (t : TypeTree) (text rest : List ℕ) (v : Value) → IsRead (At t) text Range v rest → length (after_blanks rest) ≡ 0 → WhyNot text t faults.Range
whole_range t text rest v r e = record { raw = r.raw; spelled = spelled t text rest Range v r e; out = r.judged }

pub whole_open : (t : TypeTree) (text rest : List ℕ) (f : Flaw) (v : Value) → IsRead (At t) text f v rest → (length (after_blanks rest) ≡ 0 → ⊥) → WhyNot text t faults.Syntax
whole_open t text rest f v r e = λ raw s.
    let same = at_sole t raw r.raw text s.rest rest s.at r.at in
    e (ap length (ap after_blanks (sym same.1) ∙ s.ends))

pub whole_unread : (t : TypeTree) (text : List ℕ) → IsUnread (At t) text → WhyNot text t faults.Syntax
whole_unread t text u = λ raw s. u raw s.rest s.at

pub not_empty : (text : List ℕ) → (length text == 0) ≡ false → length text ≡ 0 → ⊥
not_empty [] h e = false≢true (sym h)
not_empty (x ∷ xs) h e = omega arith
