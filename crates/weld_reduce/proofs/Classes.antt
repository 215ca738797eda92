-- A token that is a symbol or a reserved word has its class.
use Rattle.std.proofs.Common.{◌≡◌, refl, ℕ, zero, suc, List, [], ◌∷◌, true, ◌==◌, IsTrue, ap, sym, ◌∙◌}
use Rattle.std.proofs.lemmas.Bool.{eqb-true}
use Rattle.weld_grammar.specs.declared.terminals.class.Class.{Class}
use Rattle.weld_grammar.specs.declared.terminals.class.Class.TheVariants as classes
use Rattle.weld_grammar.specs.declared.terminals.symbol.Symbol.{Symbol}
use Rattle.weld_grammar.specs.declared.terminals.symbol.Symbol.TheVariants as s
use Rattle.weld_grammar.specs.declared.terminals.reserved.Reserved.{Reserved}
use Rattle.weld_grammar.specs.declared.terminals.reserved.Reserved.TheVariants as w
use Rattle.weld_grammar.specs.Symbols.{symbol_number}
use Rattle.weld_grammar.specs.ReservedWords.{reserved_number}
use Rattle.weld_grammar.specs.declared.terminal.Terminal.TheVariants.{Sign, Fixed}
use Rattle.weld_grammar.specs.Grammar.{is_of}

-- the element at the place, or the other
abbrev element : {A : Type 0} → List A → ℕ → A → A
element [] n other = other
element (x ∷ xs) zero other = x
element (x ∷ xs) (suc n) other = element xs n other

abbrev words : List Reserved
words = w.Let ∷ w.If ∷ w.Select ∷ w.Lookup ∷ w.Keyexists ∷ w.Len ∷ w.Slice ∷ w.Merge ∷ w.Result ∷ w.For ∷ w.Iterate ∷ w.Zip ∷ w.Iter ∷ w.Vec ∷ w.Dict ∷ w.Bool ∷ w.I8 ∷ w.I16 ∷ w.I32 ∷ w.I64 ∷ w.U8 ∷ w.U16 ∷ w.U32 ∷ w.U64 ∷ w.Vecbuilder ∷ w.Appender ∷ w.Merger ∷ w.Dictmerger ∷ w.Vecmerger ∷ w.Groupbuilder ∷ w.Groupmerger ∷ w.True ∷ w.False ∷ w.Min ∷ w.Max ∷ w.Macro ∷ []

abbrev word_at : ℕ → Reserved
word_at n = element words n w.Macro

word_at-number : (a : Reserved) → word_at (reserved_number a) ≡ a
word_at-number w.Let = refl
word_at-number w.If = refl
word_at-number w.Select = refl
word_at-number w.Lookup = refl
word_at-number w.Keyexists = refl
word_at-number w.Len = refl
word_at-number w.Slice = refl
word_at-number w.Merge = refl
word_at-number w.Result = refl
word_at-number w.For = refl
word_at-number w.Iterate = refl
word_at-number w.Zip = refl
word_at-number w.Iter = refl
word_at-number w.Vec = refl
word_at-number w.Dict = refl
word_at-number w.Bool = refl
word_at-number w.I8 = refl
word_at-number w.I16 = refl
word_at-number w.I32 = refl
word_at-number w.I64 = refl
word_at-number w.U8 = refl
word_at-number w.U16 = refl
word_at-number w.U32 = refl
word_at-number w.U64 = refl
word_at-number w.Vecbuilder = refl
word_at-number w.Appender = refl
word_at-number w.Merger = refl
word_at-number w.Dictmerger = refl
word_at-number w.Vecmerger = refl
word_at-number w.Groupbuilder = refl
word_at-number w.Groupmerger = refl
word_at-number w.True = refl
word_at-number w.False = refl
word_at-number w.Min = refl
word_at-number w.Max = refl
word_at-number w.Macro = refl

abbrev symbols : List Symbol
symbols = s.LeftParen ∷ s.RightParen ∷ s.LeftBracket ∷ s.RightBracket ∷ s.LeftBrace ∷ s.RightBrace ∷ s.Comma ∷ s.Semicolon ∷ s.Colon ∷ s.Dot ∷ s.Bar ∷ s.BarBar ∷ s.AndAnd ∷ s.Bang ∷ s.Equals ∷ s.EqualsEquals ∷ s.BangEquals ∷ s.Less ∷ s.LessEquals ∷ s.Greater ∷ s.GreaterEquals ∷ s.Plus ∷ s.Minus ∷ s.Star ∷ s.Slash ∷ s.Percent ∷ []

abbrev symbol_at : ℕ → Symbol
symbol_at n = element symbols n s.Percent

symbol_at-number : (a : Symbol) → symbol_at (symbol_number a) ≡ a
symbol_at-number s.LeftParen = refl
symbol_at-number s.RightParen = refl
symbol_at-number s.LeftBracket = refl
symbol_at-number s.RightBracket = refl
symbol_at-number s.LeftBrace = refl
symbol_at-number s.RightBrace = refl
symbol_at-number s.Comma = refl
symbol_at-number s.Semicolon = refl
symbol_at-number s.Colon = refl
symbol_at-number s.Dot = refl
symbol_at-number s.Bar = refl
symbol_at-number s.BarBar = refl
symbol_at-number s.AndAnd = refl
symbol_at-number s.Bang = refl
symbol_at-number s.Equals = refl
symbol_at-number s.EqualsEquals = refl
symbol_at-number s.BangEquals = refl
symbol_at-number s.Less = refl
symbol_at-number s.LessEquals = refl
symbol_at-number s.Greater = refl
symbol_at-number s.GreaterEquals = refl
symbol_at-number s.Plus = refl
symbol_at-number s.Minus = refl
symbol_at-number s.Star = refl
symbol_at-number s.Slash = refl
symbol_at-number s.Percent = refl

same_word : (a b : Reserved) → reserved_number a == reserved_number b ≡ true → b ≡ a
same_word a b e = sym (word_at-number b) ∙ ap word_at (sym (eqb-true (reserved_number a) (reserved_number b) e)) ∙ word_at-number a

one_symbol : (a b : Symbol) → symbol_number a == symbol_number b ≡ true → b ≡ a
one_symbol a b e = sym (symbol_at-number b) ∙ ap symbol_at (sym (eqb-true (symbol_number a) (symbol_number b) e)) ∙ symbol_at-number a

pub fixed_class : (a : Reserved) (x : Class) → IsTrue (is_of (Fixed a) x) → x ≡ classes.Reserved a
fixed_class a (classes.Reserved b) e = ap classes.Reserved (same_word a b e)
fixed_class a (classes.Symbol b) e = absurd (cc)
fixed_class a classes.Name e = absurd (cc)
fixed_class a classes.Int e = absurd (cc)
fixed_class a classes.Long e = absurd (cc)
fixed_class a classes.Field e = absurd (cc)
fixed_class a classes.Chars e = absurd (cc)

pub sign_class : (a : Symbol) (x : Class) → IsTrue (is_of (Sign a) x) → x ≡ classes.Symbol a
sign_class a (classes.Symbol b) e = ap classes.Symbol (one_symbol a b e)
sign_class a (classes.Reserved b) e = absurd (cc)
sign_class a classes.Name e = absurd (cc)
sign_class a classes.Int e = absurd (cc)
sign_class a classes.Long e = absurd (cc)
sign_class a classes.Field e = absurd (cc)
sign_class a classes.Chars e = absurd (cc)
