-- A printed program parses, or is refused by a limit.
use Rattle.std.proofs.Common.{◌≡◌, ◌⊎◌, inl, inr, ℕ, Bool, true, false, List, [], ◌∷◌, Option, Some, None, refl, sym, subst, ◌∙◌}
use Rattle.weld_tree.specs.declared.place.Place.{Place}
use Rattle.weld_tree.specs.declared.code.Code.{Code}
use Rattle.weld_tree.specs.declared.code.Code.TheVariants.{X3, M3, M4, M5, M6, M7, M8, M9}
use Rattle.weld_tree.specs.declared.refusal.Refusal.{Refusal}
use Rattle.weld_tree.specs.declared.refusal.Refusal.TheVariants.{At, Size}
use Rattle.weld_tree.specs.Program.{ProgramTree, IsProgram}
use Rattle.weld_tree.specs.Blank.{AreSame}
use Rattle.weld_grammar.specs.declared.terminals.class.Class.{Class}
use Rattle.weld_grammar.specs.declared.terminals.token.Token.{Token}
use Rattle.weld_tokens.specs.declared.order.Findings.{Findings}
use Rattle.weld_tokens.specs.Tokens.{AreTokens, IsWrongAt}
use Rattle.weld_tokens.specs.TokenLimits.{has_too_many_tokens, first_long_name}
use Rattle.weld_tokens.specs.Order.{or_else, at, whole, named, first_refusal}
use Rattle.weld_grammar.specs.declared.rule.Rule.{Rule}
use Rattle.weld_grammar.specs.declared.rule.Rule.TheVariants.{Program}
use Rattle.weld_grammar.specs.Derivation.{Tree, yield, IsOf}
use Rattle.weld_grammar.specs.declared.item.Item.TheVariants.{Part as OfRule}
use Rattle.weld_grammar.specs.Grammar.{item}
use Rattle.weld_spell.specs.Seen.{seen}
use Rattle.weld_grammar.specs.Breaks.{Derives, BreaksAt}
use Rattle.weld_grammar.specs.Classes.{classes}
use Rattle.weld_spell.specs.ProgramOf.{program_of}
use Rattle.weld_spell.specs.Spells.{Spells}
use Rattle.weld_spell.specs.Ranges.{number_out_of_range}
use Rattle.weld_tokens.specs.Depth.{first_deep_node}
use Rattle.weld_tokens.specs.Lets.{has_too_many_lets}
use Rattle.weld_spell.specs.Measures.{type_too_large, parameter_too_many, field_too_many}
use Rattle.weld_spell.specs.Names.{Refused, first_misnamed}
use Rattle.weld_print.specs.PrintText.{program_text}
use Rattle.weld_print.specs.Texts.{TextSpells, TextSpellsSoundly}
use Rattle.weld_parse.specs.Findings.{IsTreeOf, found_in, Finds, broken, derived}
use Rattle.weld_parse.specs.Parses.{Parses, IsRefused, too_long, no_token, by_rule}
use Rattle.weld_text_laws.specs.Limits.{IsLimitCode, IsLimit}

-- ---- refusals behind the grammar

same_refusal : (r s : Refusal) → Some r ≡ Some s → r ≡ s
same_refusal r s e = cc

by_whole : (code : Code) → IsLimitCode code → (refused : Bool) (rest : Option Refusal) (r : Refusal) → (rest ≡ Some r → IsLimit r) → or_else (whole code refused) rest ≡ Some r → IsLimit r
by_whole code is true rest r f e = subst IsLimit (same_refusal (Size code) r e) is
by_whole code is false rest r f e = f e

by_place : (code : Code) → IsLimitCode code → (place : Option Place) (rest : Option Refusal) (r : Refusal) → (rest ≡ Some r → IsLimit r) → or_else (at code place) rest ≡ Some r → IsLimit r
by_place code is None rest r f e = f e
by_place code is (Some p) rest r f e = subst IsLimit (same_refusal (At code p) r e) is

-- no number is out of its range, and no name is refused
by_none : (code : Code) (place : Option Place) (rest : Option Refusal) (r : Refusal) → place ≡ None → (rest ≡ Some r → IsLimit r) → or_else (at code place) rest ≡ Some r → IsLimit r
by_none code None rest r n f e = f e
by_none code (Some p) rest r n f e = absurd (cc)

by_name : (found : Option Refused) (r : Refusal) → found ≡ None → named found ≡ Some r → IsLimit r
by_name None r n e = absurd (cc)
by_name (Some f) r n e = absurd (cc)

by_limit : (tokens : List Token) (tree : Tree Token) (r : Refusal) → number_out_of_range tree ≡ None → first_misnamed tree ≡ None → first_refusal tokens (found_in tree) ≡ Some r → IsLimit r
by_limit tokens tree r ranged well_named e =
    by_whole M3 tt (has_too_many_tokens tokens) _ r (λ e.
    by_none X3 (number_out_of_range tree) _ r ranged (λ e.
    by_place M4 tt (first_deep_node (program_of tree).body) _ r (λ e.
    by_whole M5 tt (has_too_many_lets (program_of tree).body) _ r (λ e.
    by_place M6 tt (type_too_large tree) _ r (λ e.
    by_place M7 tt (parameter_too_many (program_of tree).params) _ r (λ e.
    by_place M8 tt (field_too_many tree) _ r (λ e.
    by_place M9 tt (first_long_name tokens) _ r (λ e. by_name (first_misnamed tree) r well_named e) e) e) e) e) e) e) e) e

-- ---- the round trip

-- the laws below
pub record Laws : Type 0 where
  pub parsed : (text : List ℕ) (p : ProgramTree) → Parses text p → IsProgram p.params p.body
  pub printed : (text : List ℕ) (p : ProgramTree) → TextSpells text p → IsProgram p.params p.body → (q : ProgramTree) × TextSpellsSoundly (program_text p) q × AreSame p q
  pub answered : (text : List ℕ) → ((p : ProgramTree) × Parses text p) ⊎ ((refusal : Refusal) × IsRefused text refusal)
  pub one_list : (text : List ℕ) (a b : List Token) → AreTokens text a → AreTokens text b → a ≡ b
  pub not_both : (text : List ℕ) (a : List Token) (place : Place) → AreTokens text a → IsWrongAt text place → ⊥
  pub one_program : (ts : List Token) (p q : ProgramTree) → Spells ts p → Spells ts q → p ≡ q
  pub are_derived : (ts : List Token) (p : ProgramTree) → Spells ts p → Derives Program (classes ts)
  pub unbroken : (r : Rule) (xs : List Class) (n : ℕ) → Derives r xs → BreaksAt r xs n → ⊥
  pub one_tree : (r : Rule) (t u : Tree Token) → IsOf (item (OfRule r)) (seen t) → IsOf (item (OfRule r)) (seen u) → yield t ≡ yield u → t ≡ u

-- a text that spells a program soundly is refused by a limit alone
by_findings : Laws → (text : List ℕ) (q : ProgramTree) (tokens : List Token) (found : Findings) (r : Refusal) → (s : TextSpellsSoundly text q) → s.tokens ≡ tokens → Finds text tokens found → first_refusal tokens found ≡ Some r → IsLimit r
by_findings l text q tokens found r s same (broken n b k) e =
    absurd (l.unbroken Program (classes tokens) n (l.are_derived tokens q (subst (λ (ts : List Token). Spells ts q) same s.spells)) b)
by_findings l text q tokens found r s same (derived tree is k) e =
    let t : s.spells.tree ≡ tree = l.one_tree Program s.spells.tree tree s.spells.tree_of is.tree_of (s.spells.tokens ∙ same ∙ sym is.yields) in
    by_limit tokens tree r (subst (λ (u : Tree Token). number_out_of_range u ≡ None) t s.ranged) (subst (λ (u : Tree Token). first_misnamed u ≡ None) t s.named)
    (subst (λ (g : Findings). first_refusal tokens g ≡ Some r) k e)

refused_by_limit : Laws → (text : List ℕ) (q : ProgramTree) (r : Refusal) → TextSpellsSoundly text q → IsRefused text r → IsLimit r
refused_by_limit l text q r s (too_long e k) = subst IsLimit (sym k) tt
refused_by_limit l text q r s (no_token place e wrong k) = absurd (l.not_both text s.tokens place s.are_tokens wrong)
refused_by_limit l text q r s (by_rule tokens found reads e) = by_findings l text q tokens found r s (l.one_list text s.tokens tokens s.are_tokens reads.tokens_of) reads.finds e

abbrev pub RoundTrip : ProgramTree → Type 0
RoundTrip p = ((q : ProgramTree) × Parses (program_text p) q × AreSame p q) ⊎ ((refusal : Refusal) × IsRefused (program_text p) refusal × IsLimit refusal)

pub round_trip : Laws → (text : List ℕ) (p : ProgramTree) → Parses text p → RoundTrip p
round_trip l text p h = by (l.printed text p (record { tokens = h.tokens; are_tokens = h.reads.tokens_of; spells = h.spells }) (l.parsed text p h)) (l.answered (program_text p))
  where
    by : (q : ProgramTree) × TextSpellsSoundly (program_text p) q × AreSame p q → ((q : ProgramTree) × Parses (program_text p) q) ⊎ ((refusal : Refusal) × IsRefused (program_text p) refusal) → RoundTrip p
    by x (inl a) =
        let q = x.0 in
        let s = x.1 in
        let tokens : s.tokens ≡ a.1.tokens = l.one_list (program_text p) s.tokens a.1.tokens s.are_tokens a.1.reads.tokens_of in
        let same : q ≡ a.0 = l.one_program a.1.tokens q a.0 (subst (λ (ts : List Token). Spells ts q) tokens s.spells) a.1.spells in
        inl (a.0, a.1, subst (AreSame p) same x.2)
    by x (inr a) = inr (a.0, a.1, refused_by_limit l (program_text p) x.0 a.0 x.1 a.1)
