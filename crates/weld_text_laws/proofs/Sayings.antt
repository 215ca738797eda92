-- What a line says: one thing at most, and something.
use Rattle.std.proofs.Common.{◌≡◌, ℕ, ◌<◌, ◌⊎◌, inl, inr, ◌&&◌, List, [], ◌∷◌, length, nat_lt, codes, Option, Some, None, option_map, MatchOption, refl, ap, sym, subst, ◌∙◌, arith}
use Rattle.std.specs.Bool.{MatchBool}
use Rattle.weld_tree.specs.declared.place.Place.{Place}
use Rattle.weld_tree.specs.TypeTree.{TypeTree}
use Rattle.weld_grammar.specs.declared.terminals.token.Token.{Token}
use Rattle.weld_grammar.specs.declared.terminals.symbol.Symbol.TheVariants.{LeftParen, Colon, Equals}
use Rattle.weld_grammar.specs.declared.terminal.Terminal.TheVariants.{Sign, Name}
use Rattle.weld_grammar.specs.Grammar.{is_of}
use Rattle.weld_tokens.specs.Tokens.{AreTokens, IsWrongAt}
use Rattle.weld_tokens.specs.TokenLimits.{first_long_name}
use Rattle.weld_calls.specs.CallTypes.{IsValueType}
use Rattle.weld_table.specs.Table.{IsCell}
use Rattle.weld_read_script.specs.declared.statements.statement.Column.{Column}
use Rattle.weld_read_script.specs.declared.statements.statement.Columns.{Columns}
use Rattle.weld_read_script.specs.declared.statements.statement.Statement.{Statement}
use Rattle.weld_read_script.specs.declared.statements.statement.Statement.TheVariants.{Input, Table}
use Rattle.weld_read_script.specs.declared.statements.statement.Saying.{Saying}
use Rattle.weld_read_script.specs.declared.statements.statement.Saying.TheVariants as sayings
use Rattle.weld_read_script.specs.Parts.{parts, before_close, TypeRead}
use Rattle.weld_read_script.specs.Columns.{column_name, NamedColumn, ColumnRead, with_first, ColumnsRead}
use Rattle.weld_read_script.specs.Statements.{SaysInput, SaysColumns, SaysTable, call_of, show_of, is_written, SaysBehind, SaysForm, Says, LineSays}
use Rattle.weld_text_laws.proofs.Cases.{in_both, in_either, nothing, this}
use Rattle.weld_text_laws.proofs.Decided.{values_decided, cells_decided}
use Rattle.weld_text_laws.proofs.SpelledTypes.{GrammarKnown, type_read_one, type_read_some}

-- ---- one thing at most

named_one : GrammarKnown → (name : Option (List ℕ)) (ts : List Token) (x y : Option Column) → NamedColumn name ts x → NamedColumn name ts y → x ≡ y
named_one known None ts x y h k = h ∙ sym k
named_one known (Some name) ts x y (a, r, e) (b, s, f) =
    e ∙ ap (option_map (λ (t : TypeTree). record { name = name; cell = t })) (type_read_one known IsCell ts a b r s) ∙ sym f

column_one : GrammarKnown → (p : List Token) (x y : Option Column) → ColumnRead p x → ColumnRead p y → x ≡ y
column_one known [] x y h k = h ∙ sym k
column_one known (t ∷ []) x y h k = h ∙ sym k
column_one known (t ∷ u ∷ ts) x y h k =
    in_both (is_of (Sign Colon) u.class) (NamedColumn (column_name t) ts x) (x ≡ None) (NamedColumn (column_name t) ts y) (y ≡ None) (x ≡ y)
    (named_one known (column_name t) ts x y) (λ e f. e ∙ sym f) h k

-- the columns behind the first
abbrev Behind : List (List Token) → Option Columns → Option Column → Type 0
Behind ps x first = MatchOption first (x ≡ None) (λ c. (more : Option Columns) × ColumnsRead ps more × (x ≡ option_map (with_first c) more))

abbrev OneAtMost : List (List Token) → Type 0
OneAtMost ps = (x y : Option Columns) → ColumnsRead ps x → ColumnsRead ps y → x ≡ y

behind_one : (ps : List (List Token)) (first : Option Column) (x y : Option Columns) → OneAtMost ps → Behind ps x first → Behind ps y first → x ≡ y
behind_one ps None x y ih h k = h ∙ sym k
behind_one ps (Some c) x y ih (a, r, e) (b, s, f) = e ∙ ap (option_map (with_first c)) (ih a b r s) ∙ sym f

columns_one : GrammarKnown → (ps : List (List Token)) → OneAtMost ps
columns_one known [] x y h k = h ∙ sym k
columns_one known (p ∷ ps) x y (a, r, h) (b, s, k) =
    behind_one ps b x y (columns_one known ps) (subst (Behind ps x) (column_one known p a b r s) h) k

says_columns_one : GrammarKnown → (name : List ℕ) (ps : List (List Token)) (x y : Option Statement) → SaysColumns name ps x → SaysColumns name ps y → x ≡ y
says_columns_one known name ps x y h k =
    in_both (nat_lt 16 (length ps)) (x ≡ None) ((columns : Option Columns) × ColumnsRead ps columns × (x ≡ option_map (Table name) columns))
    (y ≡ None) ((columns : Option Columns) × ColumnsRead ps columns × (y ≡ option_map (Table name) columns)) (x ≡ y)
    (λ e f. e ∙ sym f) (λ a b. a.2 ∙ ap (option_map (Table name)) (columns_one known ps a.0 b.0 a.1 b.1) ∙ sym b.2) h k

closed_one : GrammarKnown → (name : List ℕ) (o : Option (List Token)) (x y : Option Statement)
    → MatchOption o (x ≡ None) (λ inner. SaysColumns name (parts inner) x) → MatchOption o (y ≡ None) (λ inner. SaysColumns name (parts inner) y) → x ≡ y
closed_one known name None x y h k = h ∙ sym k
closed_one known name (Some inner) x y h k = says_columns_one known name (parts inner) x y h k

table_one : GrammarKnown → (name : Token) (ts : List Token) (x y : Option Statement) → SaysTable name ts x → SaysTable name ts y → x ≡ y
table_one known name [] x y h k = h ∙ sym k
table_one known name (paren ∷ ts) x y h k =
    in_both (is_of Name name.class && is_of (Sign LeftParen) paren.class)
    (MatchOption (before_close ts) (x ≡ None) (λ inner. SaysColumns name.word (parts inner) x)) (x ≡ None)
    (MatchOption (before_close ts) (y ≡ None) (λ inner. SaysColumns name.word (parts inner) y)) (y ≡ None) (x ≡ y)
    (closed_one known name.word (before_close ts) x y) (λ e f. e ∙ sym f) h k

typed_one : GrammarKnown → (name : List ℕ) (ts : List Token) (x y : Option Statement) → (found : Option TypeTree) × TypeRead IsValueType ts found × (x ≡ option_map (Input name) found)
    → (found : Option TypeTree) × TypeRead IsValueType ts found × (y ≡ option_map (Input name) found) → x ≡ y
typed_one known name ts x y (a, r, e) (b, s, f) = e ∙ ap (option_map (Input name)) (type_read_one known IsValueType ts a b r s) ∙ sym f

input_one : GrammarKnown → (name : Token) (ts : List Token) (x y : Option Statement) → SaysInput name ts x → SaysInput name ts y → x ≡ y
input_one known name [] x y h k = h ∙ sym k
input_one known name (colon ∷ ts) x y h k =
    in_both (is_of Name name.class && is_of (Sign Colon) colon.class)
    ((found : Option TypeTree) × TypeRead IsValueType ts found × (x ≡ option_map (Input name.word) found)) (x ≡ None)
    ((found : Option TypeTree) × TypeRead IsValueType ts found × (y ≡ option_map (Input name.word) found)) (y ≡ None) (x ≡ y)
    (typed_one known name.word ts x y) (λ e f. e ∙ sym f) h k

-- a line that begins with a word
abbrev ByShow : Token → Token → List Token → Option Statement → Type 0
ByShow t u ts x = MatchBool (is_written (codes "show") t) (x ≡ show_of (u ∷ ts)) (x ≡ None)

abbrev ByTable : Token → Token → List Token → Option Statement → Type 0
ByTable t u ts x = MatchBool (is_written (codes "table") t) (SaysTable u ts x) (ByShow t u ts x)

abbrev ByInput : Token → Token → List Token → Option Statement → Type 0
ByInput t u ts x = MatchBool (is_written (codes "input") t) (SaysInput u ts x) (ByTable t u ts x)

by_show_one : (t u : Token) (ts : List Token) (x y : Option Statement) → ByShow t u ts x → ByShow t u ts y → x ≡ y
by_show_one t u ts x y h k =
    in_both (is_written (codes "show") t) (x ≡ show_of (u ∷ ts)) (x ≡ None) (y ≡ show_of (u ∷ ts)) (y ≡ None) (x ≡ y)
    (λ e f. e ∙ sym f) (λ e f. e ∙ sym f) h k

by_table_one : GrammarKnown → (t u : Token) (ts : List Token) (x y : Option Statement) → ByTable t u ts x → ByTable t u ts y → x ≡ y
by_table_one known t u ts x y h k =
    in_both (is_written (codes "table") t) (SaysTable u ts x) (ByShow t u ts x) (SaysTable u ts y) (ByShow t u ts y) (x ≡ y)
    (table_one known u ts x y) (by_show_one t u ts x y) h k

by_input_one : GrammarKnown → (t u : Token) (ts : List Token) (x y : Option Statement) → ByInput t u ts x → ByInput t u ts y → x ≡ y
by_input_one known t u ts x y h k =
    in_both (is_written (codes "input") t) (SaysInput u ts x) (ByTable t u ts x) (SaysInput u ts y) (ByTable t u ts y) (x ≡ y)
    (input_one known u ts x y) (by_table_one known t u ts x y) h k

says_behind_one : GrammarKnown → (t u : Token) (ts : List Token) (x y : Option Statement) → SaysBehind t u ts x → SaysBehind t u ts y → x ≡ y
says_behind_one known t u ts x y h k =
    in_both (is_of (Sign Equals) u.class) (x ≡ call_of t.word ts) (ByInput t u ts x) (y ≡ call_of t.word ts) (ByInput t u ts y) (x ≡ y)
    (λ e f. e ∙ sym f) (by_input_one known t u ts x y) h k

form_one : GrammarKnown → (ts : List Token) (x y : Option Statement) → SaysForm ts x → SaysForm ts y → x ≡ y
form_one known [] x y h k = h ∙ sym k
form_one known (t ∷ []) x y h k = h ∙ sym k
form_one known (t ∷ u ∷ ts) x y h k =
    in_both (is_of Name t.class) (SaysBehind t u ts x) (x ≡ None) (SaysBehind t u ts y) (y ≡ None) (x ≡ y)
    (says_behind_one known t u ts x y) (λ e f. e ∙ sym f) h k

named_form_one : GrammarKnown → (o : Option Place) (ts : List Token) (x y : Option Statement)
    → MatchOption o (SaysForm ts x) (λ place. x ≡ None) → MatchOption o (SaysForm ts y) (λ place. y ≡ None) → x ≡ y
named_form_one known None ts x y h k = form_one known ts x y h k
named_form_one known (Some place) ts x y h k = h ∙ sym k

says_one : GrammarKnown → (ts : List Token) (x y : Option Statement) → Says ts x → Says ts y → x ≡ y
says_one known ts x y h k = named_form_one known (first_long_name ts) ts x y h k

-- what is known of the tokens of a text
pub record TokensKnown : Type 0 where
  pub tokens : (text : List ℕ) (a b : List Token) → AreTokens text a → AreTokens text b → a ≡ b
  pub not_both : (text : List ℕ) (a : List Token) (p : Place) → AreTokens text a → IsWrongAt text p → ⊥
  pub some : (text : List ℕ) → ((ts : List Token) × AreTokens text ts) ⊎ ((place : Place) × IsWrongAt text place)

some_none : (st : Statement) → Some st ≡ None → ⊥
some_none st e = cc

inner : (a b : Statement) → Some a ≡ Some b → a ≡ b
inner a b e = cc

-- no tokens are no statement
said_of_none : GrammarKnown → (ts : List Token) (st : Statement) → [] ≡ ts → Says ts (Some st) → ⊥
said_of_none known [] st e h = some_none st h
said_of_none known (t ∷ ts) st e h = absurd (cc)

too_few : (ts : List Token) → [] ≡ ts → 0 < length ts → ⊥
too_few [] e l = absurd (omega (arith, l))
too_few (t ∷ ts) e l = absurd (cc)

-- a statement, and what has no form
stated_or_formless : GrammarKnown → TokensKnown → (line : List ℕ) (st : Statement) → LineSays line (sayings.States st) → LineSays line sayings.NoForm → ⊥
stated_or_formless known tokens line st (ts, h, s) (inl (place, w)) = tokens.not_both line ts place h w
stated_or_formless known tokens line st (ts, h, s) (inr (us, k, l, n)) =
    some_none st (says_one known us (Some st) None (subst (λ (vs : List Token). Says vs (Some st)) (tokens.tokens line ts us h k) s) n)

nothing_or_stated : GrammarKnown → TokensKnown → (line : List ℕ) (st : Statement) → LineSays line sayings.Nothing → LineSays line (sayings.States st) → ⊥
nothing_or_stated known tokens line st h (ts, k, s) = said_of_none known ts st (tokens.tokens line [] ts h k) s

nothing_or_formless : TokensKnown → (line : List ℕ) → LineSays line sayings.Nothing → LineSays line sayings.NoForm → ⊥
nothing_or_formless tokens line h (inl (place, w)) = tokens.not_both line [] place h w
nothing_or_formless tokens line h (inr (ts, k, l, n)) = too_few ts (tokens.tokens line [] ts h k) l

statements_one : GrammarKnown → TokensKnown → (line : List ℕ) (a b : Statement) → LineSays line (sayings.States a) → LineSays line (sayings.States b) → a ≡ b
statements_one known tokens line a b (ts, h, s) (us, k, r) =
    inner a b (says_one known us (Some a) (Some b) (subst (λ (vs : List Token). Says vs (Some a)) (tokens.tokens line ts us h k) s) r)

pub saying_one : GrammarKnown → TokensKnown → (line : List ℕ) (a b : Saying) → LineSays line a → LineSays line b → a ≡ b
saying_one known tokens line sayings.Nothing sayings.Nothing h k = refl
saying_one known tokens line sayings.NoForm sayings.NoForm h k = refl
saying_one known tokens line (sayings.States a) (sayings.States b) h k = ap sayings.States (statements_one known tokens line a b h k)
saying_one known tokens line sayings.Nothing sayings.NoForm h k = absurd (nothing_or_formless tokens line h k)
saying_one known tokens line sayings.NoForm sayings.Nothing h k = absurd (nothing_or_formless tokens line k h)
saying_one known tokens line sayings.Nothing (sayings.States b) h k = absurd (nothing_or_stated known tokens line b h k)
saying_one known tokens line (sayings.States a) sayings.Nothing h k = absurd (nothing_or_stated known tokens line a k h)
saying_one known tokens line (sayings.States a) sayings.NoForm h k = absurd (stated_or_formless known tokens line a h k)
saying_one known tokens line sayings.NoForm (sayings.States b) h k = absurd (stated_or_formless known tokens line b k h)

-- ---- something

named_some : GrammarKnown → (name : Option (List ℕ)) (ts : List Token) → (x : Option Column) × NamedColumn name ts x
named_some known None ts = nothing
named_some known (Some name) ts =
    let cell = type_read_some known IsCell cells_decided ts in
    (option_map (λ (t : TypeTree). record { name = name; cell = t }) cell.0, (cell.0, cell.1, refl))

column_some : GrammarKnown → (p : List Token) → (x : Option Column) × ColumnRead p x
column_some known [] = nothing
column_some known (t ∷ []) = nothing
column_some known (t ∷ u ∷ ts) =
    in_either (is_of (Sign Colon) u.class) (λ x. NamedColumn (column_name t) ts x) (λ x. x ≡ None) (named_some known (column_name t) ts) nothing

behind_some : (ps : List (List Token)) (first : Option Column) → (more : Option Columns) × ColumnsRead ps more → (x : Option Columns) × Behind ps x first
behind_some ps None more = nothing
behind_some ps (Some c) (more, r) = (option_map (with_first c) more, (more, r, refl))

columns_some : GrammarKnown → (ps : List (List Token)) → (x : Option Columns) × ColumnsRead ps x
columns_some known [] = (Some (record { names = []; cells = [] }), refl)
columns_some known (p ∷ ps) =
    let first = column_some known p in
    let all = behind_some ps first.0 (columns_some known ps) in
    (all.0, (first.0, first.1, all.1))

says_columns_some : GrammarKnown → (name : List ℕ) (ps : List (List Token)) → (x : Option Statement) × SaysColumns name ps x
says_columns_some known name ps =
    let columns = columns_some known ps in
    in_either (nat_lt 16 (length ps)) (λ x. x ≡ None) (λ x. (columns : Option Columns) × ColumnsRead ps columns × (x ≡ option_map (Table name) columns))
    nothing (option_map (Table name) columns.0, (columns.0, columns.1, refl))

closed_some : GrammarKnown → (name : List ℕ) (o : Option (List Token)) → (x : Option Statement) × MatchOption o (x ≡ None) (λ inner. SaysColumns name (parts inner) x)
closed_some known name None = nothing
closed_some known name (Some inner) = says_columns_some known name (parts inner)

table_some : GrammarKnown → (name : Token) (ts : List Token) → (x : Option Statement) × SaysTable name ts x
table_some known name [] = nothing
table_some known name (paren ∷ ts) =
    in_either (is_of Name name.class && is_of (Sign LeftParen) paren.class)
    (λ x. MatchOption (before_close ts) (x ≡ None) (λ inner. SaysColumns name.word (parts inner) x)) (λ x. x ≡ None)
    (closed_some known name.word (before_close ts)) nothing

typed_some : GrammarKnown → (name : List ℕ) (ts : List Token) → (x : Option Statement) × ((found : Option TypeTree) × TypeRead IsValueType ts found × (x ≡ option_map (Input name) found))
typed_some known name ts =
    let found = type_read_some known IsValueType values_decided ts in (option_map (Input name) found.0, (found.0, found.1, refl))

input_some : GrammarKnown → (name : Token) (ts : List Token) → (x : Option Statement) × SaysInput name ts x
input_some known name [] = nothing
input_some known name (colon ∷ ts) =
    in_either (is_of Name name.class && is_of (Sign Colon) colon.class)
    (λ x. (found : Option TypeTree) × TypeRead IsValueType ts found × (x ≡ option_map (Input name.word) found)) (λ x. x ≡ None)
    (typed_some known name.word ts) nothing

by_show_some : (t u : Token) (ts : List Token) → (x : Option Statement) × ByShow t u ts x
by_show_some t u ts = in_either (is_written (codes "show") t) (λ x. x ≡ show_of (u ∷ ts)) (λ x. x ≡ None) (this (show_of (u ∷ ts))) nothing

by_table_some : GrammarKnown → (t u : Token) (ts : List Token) → (x : Option Statement) × ByTable t u ts x
by_table_some known t u ts = in_either (is_written (codes "table") t) (SaysTable u ts) (ByShow t u ts) (table_some known u ts) (by_show_some t u ts)

by_input_some : GrammarKnown → (t u : Token) (ts : List Token) → (x : Option Statement) × ByInput t u ts x
by_input_some known t u ts = in_either (is_written (codes "input") t) (SaysInput u ts) (ByTable t u ts) (input_some known u ts) (by_table_some known t u ts)

says_behind_some : GrammarKnown → (t u : Token) (ts : List Token) → (x : Option Statement) × SaysBehind t u ts x
says_behind_some known t u ts =
    in_either (is_of (Sign Equals) u.class) (λ x. x ≡ call_of t.word ts) (ByInput t u ts) (this (call_of t.word ts)) (by_input_some known t u ts)

form_some : GrammarKnown → (ts : List Token) → (x : Option Statement) × SaysForm ts x
form_some known [] = nothing
form_some known (t ∷ []) = nothing
form_some known (t ∷ u ∷ ts) = in_either (is_of Name t.class) (SaysBehind t u ts) (λ x. x ≡ None) (says_behind_some known t u ts) nothing

named_form_some : GrammarKnown → (o : Option Place) (ts : List Token) → (x : Option Statement) × MatchOption o (SaysForm ts x) (λ place. x ≡ None)
named_form_some known None ts = form_some known ts
named_form_some known (Some place) ts = nothing

says_some : GrammarKnown → (ts : List Token) → (x : Option Statement) × Says ts x
says_some known ts = named_form_some known (first_long_name ts) ts

tokens_said : (line : List ℕ) (ts : List Token) → AreTokens line ts → 0 < length ts → (x : Option Statement) → Says ts x → (said : Saying) × LineSays line said
tokens_said line ts h l None s = (sayings.NoForm, inr (ts, h, l, s))
tokens_said line ts h l (Some st) s = (sayings.States st, (ts, h, s))

tokens_some : GrammarKnown → (line : List ℕ) (ts : List Token) → AreTokens line ts → (said : Saying) × LineSays line said
tokens_some known line [] h = (sayings.Nothing, h)
tokens_some known line (t ∷ ts) h = let s = says_some known (t ∷ ts) in tokens_said line (t ∷ ts) h (omega arith) s.0 s.1

line_some : GrammarKnown → (line : List ℕ) → ((ts : List Token) × AreTokens line ts) ⊎ ((place : Place) × IsWrongAt line place) → (said : Saying) × LineSays line said
line_some known line (inl (ts, h)) = tokens_some known line ts h
line_some known line (inr (place, w)) = (sayings.NoForm, inl (place, w))

pub saying_some : GrammarKnown → TokensKnown → (line : List ℕ) → (said : Saying) × LineSays line said
saying_some known tokens line = line_some known line (tokens.some line)
