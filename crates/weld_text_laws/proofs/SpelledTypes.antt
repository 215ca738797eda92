-- The type that tokens spell: one at most, and whether there is one.
use Rattle.std.proofs.Common.{◌≡◌, ℕ, ◌⊎◌, inl, inr, List, Option, Some, None, MatchOption, refl, ap, sym, subst, ◌∙◌}
use Rattle.weld_grammar.specs.declared.terminals.class.Class.{Class}
use Rattle.weld_grammar.specs.declared.terminals.token.Token.{Token}
use Rattle.weld_tree.specs.TypeTree.{TypeTree}
use Rattle.weld_tree.specs.Types.{IsWithinLimits}
use Rattle.weld_grammar.specs.declared.rule.Rule.{Rule}
use Rattle.weld_grammar.specs.declared.rule.Rule.TheVariants.{AnyType}
use Rattle.weld_grammar.specs.declared.item.Item.TheVariants.{Part as OfRule}
use Rattle.weld_grammar.specs.Grammar.{item}
use Rattle.weld_grammar.specs.Derivation.{Tree, yield, IsOf}
use Rattle.weld_grammar.specs.Breaks.{Derives, BreaksAt}
use Rattle.weld_grammar.specs.Classes.{classes}
use Rattle.weld_tokens.specs.TokenLimits.{has_too_many_tokens}
use Rattle.weld_spell.specs.TypeOf.{type_of}
use Rattle.weld_spell.specs.Seen.{seen}
use Rattle.weld_spell.specs.Types.{SpellsType, IsNoType, broken, too_large}
use Rattle.weld_read_script.specs.Parts.{NoType, unspelled, unwanted, TypeRead}
use Rattle.weld_text_laws.proofs.Cases.{in_both, in_either, nothing}
use Rattle.weld_text_laws.proofs.Decided.{Either, limits_decided}
use Rattle.weld_text_laws.proofs.Trees.{yield-seen, over_tokens}

-- what is known of the grammar: one tree, one break, and either
pub record GrammarKnown : Type 0 where
  pub one_tree : (r : Rule) (t u : Tree Token) → IsOf (item (OfRule r)) (seen t) → IsOf (item (OfRule r)) (seen u) → yield t ≡ yield u → t ≡ u
  pub unbroken : (r : Rule) (xs : List Class) (n : ℕ) → Derives r xs → BreaksAt r xs n → ⊥
  pub derived_or_broken : (r : Rule) (xs : List Class) → Derives r xs ⊎ ((n : ℕ) × BreaksAt r xs n)

-- ---- one type at most

one_type : GrammarKnown → (ts : List Token) (t u : TypeTree) → SpellsType ts t → SpellsType ts u → t ≡ u
one_type known ts t u h k = sym h.value ∙ ap type_of (known.one_tree AnyType h.tree k.tree h.tree_of k.tree_of (h.tokens ∙ sym k.tokens)) ∙ k.value

type_derives : (ts : List Token) (t : TypeTree) → SpellsType ts t → Derives AnyType (classes ts)
type_derives ts t h = (seen h.tree, h.tree_of, yield-seen h.tree ∙ ap classes h.tokens)

not_spelled : GrammarKnown → (ts : List Token) (t : TypeTree) → SpellsType ts t → IsWithinLimits t → IsNoType ts → ⊥
not_spelled known ts t h l (broken n b) = known.unbroken AnyType (classes ts) n (type_derives ts t h) b
not_spelled known ts t h l (too_large v s n) = n (subst IsWithinLimits (one_type known ts t v h s) l)

not_wanted : GrammarKnown → (Wanted : TypeTree → Type 0) (ts : List Token) (t : TypeTree) → SpellsType ts t → IsWithinLimits t → Wanted t → NoType Wanted ts → ⊥
not_wanted known Wanted ts t h l w (unspelled n) = not_spelled known ts t h l n
not_wanted known Wanted ts t h l w (unwanted u s n) = n (subst Wanted (one_type known ts t u h s) w)

-- what is found where there aren't too many tokens
abbrev IsFound : (TypeTree → Type 0) → List Token → Option TypeTree → Type 0
IsFound Wanted ts None = NoType Wanted ts
IsFound Wanted ts (Some t) = SpellsType ts t × IsWithinLimits t × Wanted t

found_one : GrammarKnown → (Wanted : TypeTree → Type 0) (ts : List Token) (x y : Option TypeTree) → IsFound Wanted ts x → IsFound Wanted ts y → x ≡ y
found_one known Wanted ts None None h k = refl
found_one known Wanted ts (Some t) (Some u) h k = ap Some (one_type known ts t u h.0 k.0)
found_one known Wanted ts (Some t) None h k = absurd (not_wanted known Wanted ts t h.0 h.1 h.2 k)
found_one known Wanted ts None (Some u) h k = absurd (not_wanted known Wanted ts u k.0 k.1 k.2 h)

pub type_read_one : GrammarKnown → (Wanted : TypeTree → Type 0) (ts : List Token) (x y : Option TypeTree) → TypeRead Wanted ts x → TypeRead Wanted ts y → x ≡ y
type_read_one known Wanted ts None None h k = refl
type_read_one known Wanted ts (Some t) (Some u) h k =
    in_both (has_too_many_tokens ts) (Some t ≡ None) (IsFound Wanted ts (Some t)) (Some u ≡ None) (IsFound Wanted ts (Some u)) (Some t ≡ Some u)
    (λ e f. e ∙ sym f) (found_one known Wanted ts (Some t) (Some u)) h k
type_read_one known Wanted ts (Some t) None h k =
    in_both (has_too_many_tokens ts) (Some t ≡ None) (IsFound Wanted ts (Some t)) (None ≡ None) (IsFound Wanted ts None) (Some t ≡ None)
    (λ e f. e) (found_one known Wanted ts (Some t) None) h k
type_read_one known Wanted ts None (Some u) h k =
    in_both (has_too_many_tokens ts) (None ≡ None) (IsFound Wanted ts None) (Some u ≡ None) (IsFound Wanted ts (Some u)) (None ≡ Some u)
    (λ e f. sym f) (found_one known Wanted ts None (Some u)) h k

-- ---- some type, or none

derived_type : (ts : List Token) → Derives AnyType (classes ts) → (t : TypeTree) × SpellsType ts t
derived_type ts d =
    let over = over_tokens d.0 ts d.2 in
    (type_of over.tree, record { tree = over.tree; tree_of = subst (IsOf (item (OfRule AnyType))) (sym over.alike) d.1; tokens = over.tokens; value = refl })

abbrev pub IsDecided : (TypeTree → Type 0) → Type 0
IsDecided Wanted = (t : TypeTree) → Either (Wanted t)

abbrev SomeFound : (TypeTree → Type 0) → List Token → Type 0
SomeFound Wanted ts = (x : Option TypeTree) × MatchOption x (NoType Wanted ts) (λ t. SpellsType ts t × IsWithinLimits t × Wanted t)

wanted_some : (Wanted : TypeTree → Type 0) (ts : List Token) (t : TypeTree) → SpellsType ts t → IsWithinLimits t → Wanted t ⊎ ¬ (Wanted t) → SomeFound Wanted ts
wanted_some Wanted ts t s l (inl w) = (Some t, (s, l, w))
wanted_some Wanted ts t s l (inr n) = (None, unwanted t s n)

limited_some : (Wanted : TypeTree → Type 0) → IsDecided Wanted → (ts : List Token) (t : TypeTree) → SpellsType ts t → IsWithinLimits t ⊎ ¬ (IsWithinLimits t) → SomeFound Wanted ts
limited_some Wanted decide ts t s (inl l) = wanted_some Wanted ts t s l (decide t)
limited_some Wanted decide ts t s (inr n) = (None, unspelled (too_large t s n))

derived_some : (Wanted : TypeTree → Type 0) → IsDecided Wanted → (ts : List Token) → Derives AnyType (classes ts) ⊎ ((n : ℕ) × BreaksAt AnyType (classes ts) n) → SomeFound Wanted ts
derived_some Wanted decide ts (inl d) = let t = derived_type ts d in limited_some Wanted decide ts t.0 t.1 (limits_decided t.0)
derived_some Wanted decide ts (inr (n, b)) = (None, unspelled (broken n b))

pub type_read_some : GrammarKnown → (Wanted : TypeTree → Type 0) → IsDecided Wanted → (ts : List Token) → (x : Option TypeTree) × TypeRead Wanted ts x
type_read_some known Wanted decide ts =
    in_either (has_too_many_tokens ts) (λ x. x ≡ None) (λ x. MatchOption x (NoType Wanted ts) (λ t. SpellsType ts t × IsWithinLimits t × Wanted t))
    nothing (derived_some Wanted decide ts (known.derived_or_broken AnyType (classes ts)))
