-- What a terminal says of its token's class, and that no rule yields nothing.
use Rattle.std.proofs.Common.{◌≡◌, refl, Bool, true, false, ◌&&◌, eqb, get_or, List, [], ◌∷◌, ◌++◌, ap, sym, ◌∙◌}
use Rattle.std.proofs.lemmas.Bool.{false≢true, eqb-true, and_parts}
use Rattle.weld_grammar.specs.declared.terminals.symbol.Symbol.{Symbol}
use Rattle.weld_grammar.specs.declared.terminals.symbol.Symbol.TheVariants as s
use Rattle.weld_grammar.specs.declared.terminals.reserved.Reserved.{Reserved}
use Rattle.weld_grammar.specs.declared.terminals.reserved.Reserved.TheVariants as w
use Rattle.weld_grammar.specs.declared.terminals.class.Class.{Class}
use Rattle.weld_grammar.specs.declared.terminals.class.Class.TheVariants as classes
use Rattle.weld_grammar.specs.declared.terminals.token.Token.{Token}
use Rattle.weld_grammar.specs.Symbols.{symbol_number}
use Rattle.weld_grammar.specs.ReservedWords.{reserved_number}
use Rattle.weld_grammar.specs.declared.terminal.Terminal.TheVariants.{Sign, Fixed}
use Rattle.weld_grammar.specs.declared.rule.Rule.{Rule}
use Rattle.weld_grammar.specs.declared.rule.Rule.TheVariants as r
use Rattle.weld_grammar.specs.declared.item.Item.{Item}
use Rattle.weld_grammar.specs.declared.item.Item.TheVariants.{One, Part as OfRule, Optional, Repeated}
use Rattle.weld_grammar.specs.Grammar.{Part, item, all_of, one_of, body, is_of}
use Rattle.weld_grammar.specs.Derivation.{Tree, leaf, node, pair, here, there, yield, IsOf}
use Rattle.weld_spell.specs.Seen.{seen}

-- ---- terminals that are one symbol or one word

symbols : List Symbol
symbols = s.LeftParen ∷ s.RightParen ∷ s.LeftBracket ∷ s.RightBracket ∷ s.LeftBrace ∷ s.RightBrace ∷ s.Comma ∷ s.Semicolon ∷ s.Colon ∷ s.Dot ∷ s.Bar ∷ s.BarBar ∷ s.AndAnd ∷ s.Bang ∷ s.Equals ∷ s.EqualsEquals ∷ s.BangEquals ∷ s.Less ∷ s.LessEquals ∷ s.Greater ∷ s.GreaterEquals ∷ s.Plus ∷ s.Minus ∷ s.Star ∷ s.Slash ∷ s.Percent ∷ []

words : List Reserved
words = w.Let ∷ w.If ∷ w.Select ∷ w.Lookup ∷ w.Keyexists ∷ w.Len ∷ w.Slice ∷ w.Merge ∷ w.Result ∷ w.For ∷ w.Iterate ∷ w.Zip ∷ w.Iter ∷ w.Vec ∷ w.Dict ∷ w.Bool ∷ w.I8 ∷ w.I16 ∷ w.I32 ∷ w.I64 ∷ w.U8 ∷ w.U16 ∷ w.U32 ∷ w.U64 ∷ w.Vecbuilder ∷ w.Appender ∷ w.Merger ∷ w.Dictmerger ∷ w.Vecmerger ∷ w.Groupbuilder ∷ w.Groupmerger ∷ w.True ∷ w.False ∷ w.Min ∷ w.Max ∷ w.Macro ∷ []

nth_symbol : (a : Symbol) → get_or symbols (symbol_number a) s.Percent ≡ a
unfolding symbols
nth_symbol s.LeftParen = refl
nth_symbol _ = refl

nth_word : (a : Reserved) → get_or words (reserved_number a) w.Macro ≡ a
unfolding words
nth_word w.Let = refl
nth_word _ = refl

same-symbol : (a b : Symbol) → eqb (symbol_number a) (symbol_number b) ≡ true → b ≡ a
same-symbol a b e = sym (nth_symbol b) ∙ ap (λ n. get_or symbols n s.Percent) (sym (eqb-true (symbol_number a) (symbol_number b) e)) ∙ nth_symbol a

same-word : (a b : Reserved) → eqb (reserved_number a) (reserved_number b) ≡ true → b ≡ a
same-word a b e = sym (nth_word b) ∙ ap (λ n. get_or words n w.Macro) (sym (eqb-true (reserved_number a) (reserved_number b) e)) ∙ nth_word a

pub of_sign : (a : Symbol) (c : Class) → is_of (Sign a) c ≡ true → c ≡ classes.Symbol a
of_sign a (classes.Symbol b) e = ap classes.Symbol (same-symbol a b e)
of_sign a _ e = absurd (false≢true e)

pub of_fixed : (a : Reserved) (c : Class) → is_of (Fixed a) c ≡ true → c ≡ classes.Reserved a
of_fixed a (classes.Reserved b) e = ap classes.Reserved (same-word a b e)
of_fixed a _ e = absurd (false≢true e)

-- ---- rules yield something

-- these tokens begin so and go on so
pub record Begun (xs : List Token) : Type 0 where
  pub first : Token
  pub rest : List Token
  pub is : xs ≡ first ∷ rest

abbrev solid_item : Item → Bool
solid_item (One a) = true
solid_item (OfRule q) = true
solid_item (Optional q) = false
solid_item (Repeated q) = false

abbrev each_solid : List Item → Bool
each_solid [] = true
each_solid (i ∷ rest) = solid_item i && each_solid rest

abbrev solid : Part → Bool
solid (item i) = solid_item i
solid (all_of []) = false
solid (all_of (i ∷ rest)) = solid_item i
solid (one_of choices) = each_solid choices

solid_rule : (q : Rule) → solid (body q) ≡ true
solid_rule r.Program = refl
solid_rule _ = refl

begun_front : (xs ys : List Token) → Begun xs → Begun (xs ++ ys)
begun_front xs ys b = record { first = b.first; rest = b.rest ++ ys; is = ap (λ z. z ++ ys) b.is }

begun : (p : Part) (t : Tree Token) → IsOf p (seen t) → solid p ≡ true → Begun (yield t)
begun (item (One a)) (leaf x) h e = record { first = x; rest = []; is = refl }
begun (item (OfRule q)) (node t) h e = begun (body q) t h (solid_rule q)
begun (item (Optional q)) t h e = absurd (false≢true e)
begun (item (Repeated q)) t h e = absurd (false≢true e)
begun (all_of []) t h e = absurd (false≢true e)
begun (all_of (i ∷ rest)) (pair t u) h e = begun_front (yield t) (yield u) (begun (item i) t h.0 e)
begun (one_of (i ∷ rest)) (here t) h e = begun (item i) t h (and_parts (solid_item i) (each_solid rest) e).0
begun (one_of (i ∷ rest)) (there t) h e = begun (one_of rest) t h.0 (and_parts (solid_item i) (each_solid rest) e).1
begun _ _ h e = absurd h

pub rule_begun : (q : Rule) (t : Tree Token) → IsOf (item (OfRule q)) (seen t) → Begun (yield t)
rule_begun q t h = begun (item (OfRule q)) t h refl
