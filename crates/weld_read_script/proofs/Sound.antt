-- What is known of the statements that lines are.
use Rattle.std.proofs.Common.{◌≡◌, ℕ, suc, ◌+◌, ◌<◌, ◌≤◌, Bool, true, false, ◌&&◌, cond, if◌then◌else◌, nat_lt, List, [], ◌∷◌, length, Option, Some, None, option_map, option_and_then, MatchBool, MatchOption, refl, sym, ap, subst, ◌∙◌, arith, ℤ, pos, neg_ℤ, codes}
use Rattle.std.proofs.lemmas.Bool.{leb-true}
use Rattle.std.proofs.lemmas.Int.{ints}
use Rattle.std.proofs.lemmas.List.Splits.{length-slice_split}
use Rattle.std.proofs.lemmas.List.Elements.{All-from_recursion}
use Rattle.std.specs.List.{AllByRecursion, count_by}
use Rattle.weld_data.specs.declared.kind.Kind.{Kind}
use Rattle.weld_data.specs.declared.kind.Kind.TheVariants as kinds
use Rattle.weld_data.specs.Kind.{InRange}
use Rattle.weld_tree.specs.declared.place.Place.{Place}
use Rattle.weld_tree.specs.TypeTree.{TypeTree}
use Rattle.weld_tree.specs.Types.{IsWithinLimits}
use Rattle.weld_grammar.specs.declared.terminals.class.Class.{Class}
use Rattle.weld_grammar.specs.declared.terminals.class.Class.TheVariants as classes
use Rattle.weld_grammar.specs.declared.terminals.token.Token.{Token}
use Rattle.weld_grammar.specs.declared.terminals.symbol.Symbol.TheVariants.{Colon, LeftParen, Equals, Minus, Comma, Dot}
use Rattle.weld_grammar.specs.declared.terminals.reserved.Reserved.TheVariants as words
use Rattle.weld_grammar.specs.declared.terminal.Terminal.TheVariants.{Sign, Name, Number}
use Rattle.weld_grammar.specs.Grammar.{is_of}
use Rattle.weld_tokens.specs.Literals.{number_value, greatest_literal, is_in_range, literal_value}
use Rattle.weld_tokens.specs.TokenLimits.{first_long_name, has_too_many_tokens}
use Rattle.weld_spell.specs.Types.{SpellsType}
use Rattle.weld_calls.specs.CallTypes.{IsValueType}
use Rattle.weld_table.specs.Table.{IsCell}
use Rattle.weld_read_script.specs.declared.statements.statement.Argument.{Argument}
use Rattle.weld_read_script.specs.declared.statements.statement.Argument.TheVariants as written
use Rattle.weld_read_script.specs.declared.statements.statement.Column.{Column}
use Rattle.weld_read_script.specs.declared.statements.statement.Columns.{Columns}
use Rattle.weld_read_script.specs.declared.statements.statement.Statement.{Statement}
use Rattle.weld_read_script.specs.declared.statements.statement.Statement.TheVariants.{Input, Table, Call, Show}
use Rattle.weld_read_script.specs.declared.statements.statement.Saying.TheVariants as sayings
use Rattle.weld_read_script.specs.Parts.{parts, before_close, both, all_read, is_call_word, name_of, TypeRead}
use Rattle.weld_read_script.specs.Arguments.{number_kind, number_read, one_token, argument_of}
use Rattle.weld_read_script.specs.Columns.{column_name, NamedColumn, ColumnRead, ColumnsRead, with_first}
use Rattle.weld_read_script.specs.Statements.{SaysInput, SaysColumns, SaysTable, arguments_of, call_of, show_of, is_written, SaysBehind, SaysForm, LineSays}
use Rattle.weld_read_script.specs.Sound.{IsArgument, AreColumns, IsStatement}

-- ---- cases

either : (b : Bool) (P Q R : Type 0) → (P → R) → (Q → R) → MatchBool b P Q → R
either true P Q R p q h = p h
either false P Q R p q h = q h

none_some : {A : Type 0} (R : Type 0) (x : A) → Some x ≡ None → R
none_some R x e = cc

inner : {A : Type 0} (x y : A) → Some x ≡ Some y → x ≡ y
inner x y e = cc

-- ---- numbers

int_range : (negative : Bool) (v : ℕ) → v ≤ cond negative 2147483648 2147483647 → InRange kinds.I32 (cond negative (neg_ℤ (pos v)) (pos v))
int_range true v h = record { low = omega (arith, ints); high = omega (arith, ints) }
int_range false v h = record { low = omega (arith, ints); high = omega (arith, ints) }

long_range : (negative : Bool) (v : ℕ) → v ≤ cond negative 9223372036854775808 9223372036854775807 → InRange kinds.I64 (cond negative (neg_ℤ (pos v)) (pos v))
long_range true v h = record { low = omega (arith, ints); high = omega (arith, ints) }
long_range false v h = record { low = omega (arith, ints); high = omega (arith, ints) }

in_range : (negative : Bool) (c : Class) (word : List ℕ) → number_value word ≤ greatest_literal negative c → InRange (number_kind c) (literal_value negative word)
in_range negative classes.Long word h = long_range negative (number_value word) h
in_range negative _ word h = int_range negative (number_value word) h

made_at : (b : Bool) (k : Kind) (x : ℤ) → (b ≡ true → InRange k x) → IsArgument (if b then written.Literal k x else written.OutOfRange)
made_at true k x h = h refl
made_at false k x h = tt

number_made : (negative : Bool) (t : Token) → IsArgument (number_read negative t)
number_made negative t =
    made_at (is_in_range negative t.class t.word) (number_kind t.class) (literal_value negative t.word)
    (λ e. in_range negative t.class t.word (leb-true (number_value t.word) (greatest_literal negative t.class) e))

-- ---- arguments

argument_is : (a b : Argument) → Some a ≡ Some b → IsArgument a → IsArgument b
argument_is a b e h = subst IsArgument (inner a b e) h

one_made : (c : Class) (t : Token) (a : Argument) → one_token c t ≡ Some a → IsArgument a
one_made classes.Name t a e = argument_is (written.Name t.word) a e tt
one_made classes.Int t a e = argument_is (number_read false t) a e (number_made false t)
one_made classes.Long t a e = argument_is (number_read false t) a e (number_made false t)
one_made (classes.Reserved words.False) t a e = argument_is (written.Literal kinds.Bool (pos 0)) a e (record { low = omega (arith, ints); high = omega (arith, ints) })
one_made (classes.Reserved words.True) t a e = argument_is (written.Literal kinds.Bool (pos 1)) a e (record { low = omega (arith, ints); high = omega (arith, ints) })
one_made classes.Chars t a e = subst IsArgument (inner _ a e) tt
one_made _ t a e = none_some (IsArgument a) a (sym e)

two_made : (b : Bool) (u : Token) (a : Argument) → (if b then Some (number_read true u) else None) ≡ Some a → IsArgument a
two_made true u a e = argument_is (number_read true u) a e (number_made true u)
two_made false u a e = none_some (IsArgument a) a (sym e)

argument_made : (p : List Token) (a : Argument) → argument_of p ≡ Some a → IsArgument a
argument_made [] a e = none_some (IsArgument a) a (sym e)
argument_made (t ∷ []) a e = one_made t.class t a e
argument_made (t ∷ u ∷ []) a e = two_made (is_of (Sign Minus) t.class && is_of Number u.class) u a e
argument_made (t ∷ u ∷ v ∷ ts) a e = none_some (IsArgument a) a (sym e)

both_made : (x : Option Argument) (xs : Option (List Argument)) (all : List Argument) → both x xs ≡ Some all
    → ((a : Argument) → x ≡ Some a → IsArgument a) → ((more : List Argument) → xs ≡ Some more → AllByRecursion IsArgument more) → AllByRecursion IsArgument all
both_made (Some a) (Some more) all e f g = subst (AllByRecursion IsArgument) (inner (a ∷ more) all e) (f a refl, g more refl)
both_made (Some a) None all e f g = none_some _ all (sym e)
both_made None xs all e f g = none_some _ all (sym e)

arguments_made : (ps : List (List Token)) (all : List Argument) → all_read argument_of ps ≡ Some all → AllByRecursion IsArgument all
arguments_made [] all e = subst (AllByRecursion IsArgument) (inner [] all e) tt
arguments_made (p ∷ ps) all e = both_made (argument_of p) (all_read argument_of ps) all e (argument_made p) (arguments_made ps)

closed_made : (found : Option (List Token)) (all : List Argument) → option_and_then (λ inner. all_read argument_of (parts inner)) found ≡ Some all → AllByRecursion IsArgument all
closed_made (Some ts) all e = arguments_made (parts ts) all e
closed_made None all e = none_some _ all (sym e)

-- ---- statements of each form

stated : (s t : Statement) → Some s ≡ Some t → IsStatement s → IsStatement t
stated s t e h = subst IsStatement (inner s t e) h

mapped_call : (name library call : List ℕ) (found : Option (List Argument)) (st : Statement) → Some st ≡ option_map (Call name library call) found
    → ((all : List Argument) → found ≡ Some all → AllByRecursion IsArgument all) → IsStatement st
mapped_call name library call (Some all) st e h = stated (Call name library call all) st (sym e) (h all refl)
mapped_call name library call None st e h = none_some (IsStatement st) st e

tested_call : (b : Bool) (name library call : List ℕ) (found : Option (List Argument)) (st : Statement)
    → Some st ≡ (if b then option_map (Call name library call) found else None)
    → ((all : List Argument) → found ≡ Some all → AllByRecursion IsArgument all) → IsStatement st
tested_call true name library call found st e h = mapped_call name library call found st e h
tested_call false name library call found st e h = none_some (IsStatement st) st e

call_made : (name : List ℕ) (ts : List Token) (st : Statement) → Some st ≡ call_of name ts → IsStatement st
call_made name [] st e = none_some (IsStatement st) st e
call_made name (a ∷ []) st e = none_some (IsStatement st) st e
call_made name (a ∷ b ∷ []) st e = none_some (IsStatement st) st e
call_made name (a ∷ b ∷ c ∷ []) st e = none_some (IsStatement st) st e
call_made name (library ∷ dot ∷ call ∷ paren ∷ ts) st e =
    tested_call (is_of Name library.class && is_of (Sign Dot) dot.class && is_call_word call.class && is_of (Sign LeftParen) paren.class)
    name library.word call.word (arguments_of ts) st e (λ all f. closed_made (before_close ts) all f)

named_made : (names : Option (List ℕ)) (more : Option (List (List ℕ))) (st : Statement) → Some st ≡ option_map Show (both names more) → IsStatement st
named_made (Some name) (Some more) st e = stated (Show (name ∷ more)) st (sym e) (omega arith)
named_made (Some name) None st e = none_some (IsStatement st) st e
named_made None more st e = none_some (IsStatement st) st e

some_parts : (ps : List (List Token)) (st : Statement) → 0 < length ps → Some st ≡ option_map Show (all_read name_of ps) → IsStatement st
some_parts [] st h e = absurd (omega arith)
some_parts (p ∷ ps) st h e = named_made (name_of p) (all_read name_of ps) st e

parts_are : (ts : List Token) → 0 < length (parts ts)
parts_are ts = let e : length (parts ts) ≡ count_by (λ t. is_of (Sign Comma) t.class) ts + 1 = length-slice_split (λ t. is_of (Sign Comma) t.class) ts in omega arith

show_made : (ts : List Token) (st : Statement) → Some st ≡ show_of ts → IsStatement st
show_made ts st e = some_parts (parts ts) st (parts_are ts) e

-- ---- types

read_made : (W : TypeTree → Type 0) (ts : List Token) (t : TypeTree) → TypeRead W ts (Some t) → W t
read_made W ts t h =
    either (has_too_many_tokens ts) (Some t ≡ None) (SpellsType ts t × IsWithinLimits t × W t) (W t) (λ e. none_some (W t) t e) (λ k. k.2) h

input_made : (name : List ℕ) (ts : List Token) (found : Option TypeTree) (st : Statement) → TypeRead IsValueType ts found → Some st ≡ option_map (Input name) found → IsStatement st
input_made name ts (Some t) st h e = stated (Input name t) st (sym e) (read_made IsValueType ts t h)
input_made name ts None st h e = none_some (IsStatement st) st e

-- ---- columns

cell_made : (name : List ℕ) (ts : List Token) (cell : Option TypeTree) (c : Column) → TypeRead IsCell ts cell
    → Some c ≡ option_map (λ t. record { name = name; cell = t }) cell → IsCell c.cell
cell_made name ts (Some t) c h e =
    let made : Column = record { name = name; cell = t } in subst (λ (x : Column). IsCell x.cell) (inner made c (sym e)) (read_made IsCell ts t h)
cell_made name ts None c h e = none_some (IsCell c.cell) c e

named_cell : (name : Option (List ℕ)) (ts : List Token) (c : Column) → NamedColumn name ts (Some c) → IsCell c.cell
named_cell (Some name) ts c h = cell_made name ts h.0 c h.1 h.2
named_cell None ts c h = none_some (IsCell c.cell) c h

column_made : (p : List Token) (c : Column) → ColumnRead p (Some c) → IsCell c.cell
column_made [] c h = none_some (IsCell c.cell) c h
column_made (t ∷ []) c h = none_some (IsCell c.cell) c h
column_made (t ∷ u ∷ ts) c h =
    either (is_of (Sign Colon) u.class) (NamedColumn (column_name t) ts (Some c)) (Some c ≡ None) (IsCell c.cell)
    (named_cell (column_name t) ts c) (λ e. none_some (IsCell c.cell) c e) h

record Joined (ps : List (List Token)) (cs : Columns) : Type 0 where
  names : length cs.names ≡ length ps
  cells : length cs.cells ≡ length ps
  each : AllByRecursion IsCell cs.cells

joined_more : (p : List Token) (ps : List (List Token)) (c : Column) (more : Option Columns) (cs : Columns) → IsCell c.cell
    → ((m : Columns) → more ≡ Some m → Joined ps m) → Some cs ≡ option_map (with_first c) more → Joined (p ∷ ps) cs
joined_more p ps c (Some m) cs cell h e =
    let j = h m refl in
    let made : Joined (p ∷ ps) (with_first c m) = record { names = ap suc j.names; cells = ap suc j.cells; each = (cell, j.each) } in
    subst (Joined (p ∷ ps)) (inner (with_first c m) cs (sym e)) made
joined_more p ps c None cs cell h e = none_some (Joined (p ∷ ps) cs) cs e

abbrev Further : List (List Token) → Option Column → Option Columns → Type 0
Further ps first columns = MatchOption first (columns ≡ None) (λ c. (more : Option Columns) × ColumnsRead ps more × (columns ≡ option_map (with_first c) more))

joined_from : (p : List Token) (ps : List (List Token)) (first : Option Column) (cs : Columns)
    → ((m : Columns) → ColumnsRead ps (Some m) → Joined ps m) → ColumnRead p first → Further ps first (Some cs) → Joined (p ∷ ps) cs
joined_from p ps (Some c) cs rest reads h =
    joined_more p ps c h.0 cs (column_made p c reads) (λ m e. rest m (subst (ColumnsRead ps) e h.1)) h.2
joined_from p ps None cs rest reads h = none_some (Joined (p ∷ ps) cs) cs h

columns_joined : (ps : List (List Token)) (cs : Columns) → ColumnsRead ps (Some cs) → Joined ps cs
columns_joined [] cs h =
    let none : Columns = record { names = []; cells = [] } in
    let made : Joined [] none = record { names = refl; cells = refl; each = tt } in
    subst (Joined []) (inner none cs (sym h)) made
columns_joined (p ∷ ps) cs h = joined_from p ps h.0 cs (columns_joined ps) h.1 h.2

table_made : (name : List ℕ) (ps : List (List Token)) (columns : Option Columns) (st : Statement) → 0 < length ps
    → ColumnsRead ps columns → Some st ≡ option_map (Table name) columns → IsStatement st
table_made name ps (Some cs) st some h e =
    let j = columns_joined ps cs h in
    let made : AreColumns cs = record { count = j.names ∙ sym j.cells; some = omega (arith, j.cells); cells = All-from_recursion IsCell cs.cells j.each } in
    stated (Table name cs) st (sym e) made
table_made name ps None st some h e = none_some (IsStatement st) st e

says_columns : (name : List ℕ) (ps : List (List Token)) (st : Statement) → 0 < length ps → SaysColumns name ps (Some st) → IsStatement st
says_columns name ps st some h =
    either (nat_lt 16 (length ps)) (Some st ≡ None) ((columns : Option Columns) × ColumnsRead ps columns × (Some st ≡ option_map (Table name) columns))
    (IsStatement st) (λ e. none_some (IsStatement st) st e) (λ k. table_made name ps k.0 st some k.1 k.2) h

closed_table : (name : List ℕ) (found : Option (List Token)) (st : Statement) → MatchOption found (Some st ≡ None) (λ inner. SaysColumns name (parts inner) (Some st)) → IsStatement st
closed_table name (Some ts) st h = says_columns name (parts ts) st (parts_are ts) h
closed_table name None st h = none_some (IsStatement st) st h

says_table : (u : Token) (ts : List Token) (st : Statement) → SaysTable u ts (Some st) → IsStatement st
says_table u [] st h = none_some (IsStatement st) st h
says_table u (v ∷ ts) st h =
    either (is_of Name u.class && is_of (Sign LeftParen) v.class) (MatchOption (before_close ts) (Some st ≡ None) (λ inner. SaysColumns u.word (parts inner) (Some st)))
    (Some st ≡ None) (IsStatement st) (closed_table u.word (before_close ts) st) (λ e. none_some (IsStatement st) st e) h

says_input : (u : Token) (ts : List Token) (st : Statement) → SaysInput u ts (Some st) → IsStatement st
says_input u [] st h = none_some (IsStatement st) st h
says_input u (v ∷ ts) st h =
    either (is_of Name u.class && is_of (Sign Colon) v.class)
    ((found : Option TypeTree) × TypeRead IsValueType ts found × (Some st ≡ option_map (Input u.word) found)) (Some st ≡ None) (IsStatement st)
    (λ k. input_made u.word ts k.0 st k.1 k.2) (λ e. none_some (IsStatement st) st e) h

-- ---- lines

says_behind : (t u : Token) (ts : List Token) (st : Statement) → SaysBehind t u ts (Some st) → IsStatement st
says_behind t u ts st h =
    either (is_of (Sign Equals) u.class) _ _ (IsStatement st) (call_made t.word ts st)
    (λ k. either (is_written (codes "input") t) _ _ (IsStatement st) (says_input u ts st)
    (λ k. either (is_written (codes "table") t) _ _ (IsStatement st) (says_table u ts st)
    (λ k. either (is_written (codes "show") t) _ _ (IsStatement st) (show_made (u ∷ ts) st) (λ e. none_some (IsStatement st) st e) k) k) k) h

says_form : (ts : List Token) (st : Statement) → SaysForm ts (Some st) → IsStatement st
says_form [] st h = none_some (IsStatement st) st h
says_form (t ∷ []) st h = none_some (IsStatement st) st h
says_form (t ∷ u ∷ ts) st h =
    either (is_of Name t.class) (SaysBehind t u ts (Some st)) (Some st ≡ None) (IsStatement st) (says_behind t u ts st) (λ e. none_some (IsStatement st) st e) h

says_at : (long : Option Place) (ts : List Token) (st : Statement) → MatchOption long (SaysForm ts (Some st)) (λ place. Some st ≡ None) → IsStatement st
says_at None ts st h = says_form ts st h
says_at (Some p) ts st h = none_some (IsStatement st) st h

pub line_made : (line : List ℕ) (st : Statement) → LineSays line (sayings.States st) → IsStatement st
line_made line st h = says_at (first_long_name h.0) h.0 st h.2
