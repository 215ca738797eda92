-- A text has one answer.
use Rattle.std.proofs.Common.{◌≡◌, ◌≤◌, length, ◌⊎◌, inl, inr, refl, ℕ, Bool, true, false, List, Option, Some, None, ap, sym, subst, ◌∙◌}
use Rattle.std.proofs.lemmas.Bool.{true≢false}
use Rattle.weld_tree.specs.declared.place.Place.{Place}
use Rattle.weld_tree.specs.declared.code.Code.TheVariants.{X1, M2}
use Rattle.weld_tree.specs.declared.refusal.Refusal.{Refusal}
use Rattle.weld_tree.specs.declared.refusal.Refusal.TheVariants.{At, Size}
use Rattle.weld_tree.specs.Program.{ProgramTree, IsProgram}
use Rattle.weld_grammar.specs.declared.terminals.class.Class.{Class}
use Rattle.weld_grammar.specs.declared.terminals.token.Token.{Token}
use Rattle.weld_tokens.specs.declared.order.Findings.{Findings}
use Rattle.weld_tokens.specs.Tokens.{AreTokens, IsWrongAt, end_of}
use Rattle.weld_tokens.specs.TokenLimits.{has_too_many_bytes}
use Rattle.weld_tokens.specs.Order.{first_refusal}
use Rattle.weld_grammar.specs.declared.rule.Rule.{Rule}
use Rattle.weld_grammar.specs.declared.rule.Rule.TheVariants.{Program}
use Rattle.weld_grammar.specs.declared.item.Item.TheVariants.{Part as OfRule}
use Rattle.weld_grammar.specs.Grammar.{item}
use Rattle.weld_grammar.specs.Derivation.{Tree, yield, IsOf}
use Rattle.weld_grammar.specs.Breaks.{Derives, BreaksAt}
use Rattle.weld_grammar.specs.Classes.{classes}
use Rattle.weld_spell.specs.Seen.{seen}
use Rattle.weld_spell.specs.ProgramOf.{program_of}
use Rattle.weld_spell.specs.Spells.{Spells}
use Rattle.weld_parse.specs.Findings.{place_at, broken_at, IsTreeOf, found_in, Finds, broken, derived}
use Rattle.weld_parse.specs.Parses.{Reads, Parses, IsRefused, too_long, no_token, by_rule}
use Rattle.weld_spell.specs.Ranges.{number_out_of_range}
use Rattle.weld_spell.specs.Names.{first_misnamed}
use Rattle.weld_parse.proofs.Order.{broken_refused, clean, few_tokens}
use Rattle.weld_parse.proofs.Answering.{SpellPrograms, AreDecided, AreSpelled, Found, at_break, at_tree, find}

-- ---- each text has an answer

abbrev pub Answered : List ℕ → Type 0
Answered text = ((p : ProgramTree) × Parses text p) ⊎ ((refusal : Refusal) × IsRefused text refusal)

abbrev pub HasReading : List ℕ → Type 0
HasReading text = ((tokens : List Token) × AreTokens text tokens) ⊎ ((place : Place) × IsWrongAt text place)

by_findings : (text : List ℕ) (tokens : List Token) (p : ProgramTree) (tree : Tree Token) → has_too_many_bytes text ≡ false → AreTokens text tokens → IsTreeOf tokens tree → program_of tree ≡ p
    → (o : Option Refusal) → first_refusal tokens (found_in tree) ≡ o → Answered text
by_findings text tokens p tree fits of is e None k =
    inl (p, record { tokens = tokens; found = found_in tree; reads = record { fits = fits; tokens_of = of; finds = derived tree is refl }; unrefused = k; spells = record { tree = tree; tree_of = is.tree_of; tokens = is.yields; is = e } })
by_findings text tokens p tree fits of is e (Some r) k = inr (r, by_rule tokens (found_in tree) (record { fits = fits; tokens_of = of; finds = derived tree is refl }) k)

by_broken : (text : List ℕ) (tokens : List Token) (n : ℕ) → has_too_many_bytes text ≡ false → AreTokens text tokens → BreaksAt Program (classes tokens) n
    → (o : Option Refusal) → first_refusal tokens (broken_at (place_at tokens n (end_of text))) ≡ o → Answered text
by_broken text tokens n fits of b None k = absurd (broken_refused tokens (place_at tokens n (end_of text)) k)
by_broken text tokens n fits of b (Some r) k = inr (r, by_rule tokens (broken_at (place_at tokens n (end_of text))) (record { fits = fits; tokens_of = of; finds = broken n b refl }) k)

by_tokens : (text : List ℕ) (tokens : List Token) → has_too_many_bytes text ≡ false → AreTokens text tokens → Found text tokens → Answered text
by_tokens text tokens fits of (at_break n b) = by_broken text tokens n fits of b (first_refusal tokens (broken_at (place_at tokens n (end_of text)))) refl
by_tokens text tokens fits of (at_tree p tree is e) = by_findings text tokens p tree fits of is e (first_refusal tokens (found_in tree)) refl

pub answered : (text : List ℕ) → HasReading text → AreDecided → AreSpelled → Answered text
answered text reading decided spelled = cases (has_too_many_bytes text) refl
  where
    cases : (b : Bool) → has_too_many_bytes text ≡ b → Answered text
    cases true e = inr (Size M2, too_long e refl)
    cases false e =
        elim reading as (λ _. Answered text) [
          | inl of ↦ by_tokens text of.0 e of.1 (find decided spelled text of.0)
          | inr wrong ↦ inr (At X1 wrong.0, no_token wrong.0 e wrong.1 refl)
        ]

-- ---- and one alone

-- the laws below
pub record Laws (text : List ℕ) : Type 0 where
  pub one_list : (a b : List Token) → AreTokens text a → AreTokens text b → a ≡ b
  pub one_wrong : (p q : Place) → IsWrongAt text p → IsWrongAt text q → p ≡ q
  pub not_both : (a : List Token) (p : Place) → AreTokens text a → IsWrongAt text p → ⊥
  pub unbroken : (r : Rule) (xs : List Class) (n : ℕ) → Derives r xs → BreaksAt r xs n → ⊥
  pub one_break : (r : Rule) (xs : List Class) (m n : ℕ) → BreaksAt r xs m → BreaksAt r xs n → m ≡ n
  pub one_tree : (r : Rule) (t u : Tree Token) → IsOf (item (OfRule r)) (seen t) → IsOf (item (OfRule r)) (seen u) → yield t ≡ yield u → t ≡ u
  pub one_program : (ts : List Token) (p q : ProgramTree) → Spells ts p → Spells ts q → p ≡ q
  pub are_derived : (ts : List Token) (p : ProgramTree) → Spells ts p → Derives Program (classes ts)

tree_derives : (text : List ℕ) → Laws text → (tokens : List Token) (tree : Tree Token) → IsTreeOf tokens tree → Derives Program (classes tokens)
tree_derives text l tokens tree is = l.are_derived tokens (program_of tree) (record { tree = tree; tree_of = is.tree_of; tokens = is.yields; is = refl })

-- the grammar finds one thing in tokens
one_finding : (text : List ℕ) → Laws text → (tokens : List Token) (f g : Findings) → Finds text tokens f → Finds text tokens g → f ≡ g
one_finding text l tokens f g (broken m a e) (broken n b k) = e ∙ ap (λ z. broken_at (place_at tokens z (end_of text))) (l.one_break Program (classes tokens) m n a b) ∙ sym k
one_finding text l tokens f g (broken m a e) (derived u j k) = absurd (l.unbroken Program (classes tokens) m (tree_derives text l tokens u j) a)
one_finding text l tokens f g (derived t i e) (broken n b k) = absurd (l.unbroken Program (classes tokens) n (tree_derives text l tokens t i) b)
one_finding text l tokens f g (derived t i e) (derived u j k) = e ∙ ap found_in (l.one_tree Program t u i.tree_of j.tree_of (i.yields ∙ sym j.yields)) ∙ sym k

-- what is read of a text is one
one_refusal_of : (text : List ℕ) → Laws text → (ts us : List Token) (f g : Findings) → Reads text ts f → Reads text us g → first_refusal ts f ≡ first_refusal us g
one_refusal_of text l ts us f g a b =
    let tokens = l.one_list ts us a.tokens_of b.tokens_of in
    let P : List Token → Type 0 = λ z. Finds text z g in
    let found = one_finding text l ts f g a.finds (subst P (sym tokens) b.finds) in
    ap (first_refusal ts) found ∙ ap (λ z. first_refusal z g) tokens

some_same : (a b : Refusal) → Some a ≡ Some b → a ≡ b
some_same a b e = cc

none_some : (a : Refusal) → None ≡ Some a → ⊥
none_some a e = cc

clash : (b : Bool) → b ≡ true → b ≡ false → ⊥
clash b e k = true≢false (sym e ∙ k)

pub one_refusal : (text : List ℕ) → Laws text → (a b : Refusal) → IsRefused text a → IsRefused text b → a ≡ b
one_refusal text l a b (too_long e f) (too_long h i) = f ∙ sym i
one_refusal text l a b (too_long e f) (no_token q h j i) = absurd (clash (has_too_many_bytes text) e h)
one_refusal text l a b (too_long e f) (by_rule us g r i) = absurd (clash (has_too_many_bytes text) e r.fits)
one_refusal text l a b (no_token p e w f) (too_long h i) = absurd (clash (has_too_many_bytes text) h e)
one_refusal text l a b (no_token p e w f) (no_token q h j i) = f ∙ ap (At X1) (l.one_wrong p q w j) ∙ sym i
one_refusal text l a b (no_token p e w f) (by_rule us g r i) = absurd (l.not_both us p r.tokens_of w)
one_refusal text l a b (by_rule ts f r e) (too_long h i) = absurd (clash (has_too_many_bytes text) h r.fits)
one_refusal text l a b (by_rule ts f r e) (no_token q h j i) = absurd (l.not_both ts q r.tokens_of j)
one_refusal text l a b (by_rule ts f r e) (by_rule us g s i) = some_same a b (sym e ∙ one_refusal_of text l ts us f g r s ∙ i)

pub one_parse : (text : List ℕ) → Laws text → (p q : ProgramTree) → Parses text p → Parses text q → p ≡ q
one_parse text l p q a b =
    let P : List Token → Type 0 = λ z. Spells z q in
    l.one_program a.tokens p q a.spells (subst P (sym (l.one_list a.tokens b.tokens a.reads.tokens_of b.reads.tokens_of)) b.spells)

pub never_both : (text : List ℕ) → Laws text → (p : ProgramTree) (a : Refusal) → Parses text p → IsRefused text a → ⊥
never_both text l p a h (too_long e f) = clash (has_too_many_bytes text) e h.reads.fits
never_both text l p a h (no_token q e w f) = l.not_both h.tokens q h.reads.tokens_of w
never_both text l p a h (by_rule us g r i) = none_some a (sym h.unrefused ∙ one_refusal_of text l h.tokens us h.found g h.reads r ∙ i)

-- ---- what is read is a program

none_is : {A : Type 0} (o : Option A) (x : A) → o ≡ Some x → o ≡ None → ⊥
none_is o x e k = let same : Some x ≡ None = sym e ∙ k in cc

by_finding : SpellPrograms → (text : List ℕ) (tokens : List Token) (found : Findings) → Finds text tokens found → first_refusal tokens found ≡ None
    → (tree : Tree Token) × IsTreeOf tokens tree × IsProgram (program_of tree).params (program_of tree).body
by_finding law text tokens found (broken n b e) k =
    absurd (broken_refused tokens (place_at tokens n (end_of text)) (subst (λ (f : Findings). first_refusal tokens f ≡ None) e k))
by_finding law text tokens found (derived tree is e) k =
    let c = clean tokens found k in
    let ranged : number_out_of_range tree ≡ None = ap (λ (g : Findings). g.out_of_range) (sym e) ∙ c.ranged in
    let well_named : first_misnamed tree ≡ None = ap (λ (g : Findings). g.misnamed) (sym e) ∙ c.well_named in
    let Few : List Token → Type 0 = λ ts. length ts ≤ 16384 in
    (tree, is, law tree is.tree_of ranged well_named (subst Few (sym is.yields) (few_tokens tokens c.few)))

pub parsed_is_program : SpellPrograms → ((ts : List Token) (p q : ProgramTree) → Spells ts p → Spells ts q → p ≡ q) → (text : List ℕ) (p : ProgramTree) → Parses text p → IsProgram p.params p.body
parsed_is_program law one text p h =
    let t = by_finding law text h.tokens h.found h.reads.finds h.unrefused in
    let same : program_of t.0 ≡ p = one h.tokens (program_of t.0) p (record { tree = t.0; tree_of = t.1.tree_of; tokens = t.1.yields; is = refl }) h.spells in
    subst (λ (q : ProgramTree). IsProgram q.params q.body) same t.2
