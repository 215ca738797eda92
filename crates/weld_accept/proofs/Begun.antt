-- What begins a rule begins the first item of its body, or one of its alternatives.
use Rattle.std.proofs.Common.{◌≡◌, refl, Bool, true, false, ◌||◌, List, [], ◌∷◌, ap, sym, ◌∙◌}
use Rattle.std.proofs.lemmas.Bool.{false≢true, cond-true, cond-false}
use Rattle.weld_grammar.specs.declared.terminals.class.Class.{Class}
use Rattle.weld_grammar.specs.declared.terminals.class.Class.TheVariants as classes
use Rattle.weld_grammar.specs.declared.terminals.symbol.Symbol.TheVariants as s
use Rattle.weld_grammar.specs.declared.terminals.reserved.Reserved.TheVariants as w
use Rattle.weld_grammar.specs.declared.rule.Rule.{Rule}
use Rattle.weld_grammar.specs.declared.rule.Rule.TheVariants as r
use Rattle.weld_grammar.specs.declared.item.Item.{Item}
use Rattle.weld_grammar.specs.declared.terminal.Terminal.TheVariants.{Number}
use Rattle.weld_grammar.specs.Grammar.{Part, item, all_of, one_of, body, is_of}
use Rattle.weld_grammar.specs.Begins.{begins, starts, starts_expr, starts_unary, starts_primary, starts_int_kind, is_sign, is_fixed}
use Rattle.weld_grammar.specs.Pending.{first_begun}
use Rattle.weld_grammar.specs.Apart.{any_begins}

-- a token of the class may begin the part
abbrev pub part_begins : Part → Class → Bool
part_begins (item i) x = begins i x
part_begins (all_of []) x = false
part_begins (all_of (i ∷ rest)) x = begins i x
part_begins (one_of choices) x = any_begins choices x

or_last : (a b : Bool) → b ≡ true → (a || (b || false)) ≡ true
or_last true b h = refl
or_last false true h = refl
or_last false false h = h

or_2 : (a b : Bool) → (a || b) ≡ true → (a || (b || false)) ≡ true
or_2 true b h = refl
or_2 false b h = or_last false b h

or_3 : (a b c : Bool) → (a || b || c) ≡ true → (a || (b || (c || false))) ≡ true
or_3 true b c h = refl
or_3 false b c h = or_2 b c h

or_4 : (a b c d : Bool) → (a || b || c || d) ≡ true → (a || (b || (c || (d || false)))) ≡ true
or_4 true b c d h = refl
or_4 false b c d h = or_3 b c d h

or_right_first : (a b c : Bool) → (a || b || c) ≡ true → (a || (b || c)) ≡ true
or_right_first true b c h = refl
or_right_first false b c h = h

int_kind : (x : Class) → starts r.IntKind x ≡ true → part_begins (body r.IntKind) x ≡ true
int_kind (classes.Reserved w.I8) h = refl
int_kind (classes.Reserved w.I16) h = refl
int_kind (classes.Reserved w.I32) h = refl
int_kind (classes.Reserved w.I64) h = refl
int_kind (classes.Reserved w.U8) h = refl
int_kind (classes.Reserved w.U16) h = refl
int_kind (classes.Reserved w.U32) h = refl
int_kind (classes.Reserved w.U64) h = refl
int_kind _ h = absurd (false≢true h)

build : (x : Class) → starts r.Build x ≡ true → part_begins (body r.Build) x ≡ true
build (classes.Reserved w.Vecbuilder) h = refl
build (classes.Reserved w.Appender) h = refl
build (classes.Reserved w.Merger) h = refl
build (classes.Reserved w.Dictmerger) h = refl
build (classes.Reserved w.Vecmerger) h = refl
build (classes.Reserved w.Groupbuilder) h = refl
build (classes.Reserved w.Groupmerger) h = refl
build _ h = absurd (false≢true h)

primary : (x : Class) → starts r.Primary x ≡ true → part_begins (body r.Primary) x ≡ true
primary classes.Name h = refl
primary classes.Int h = refl
primary classes.Long h = refl
primary classes.Chars h = refl
primary (classes.Symbol s.LeftParen) h = refl
primary (classes.Symbol s.LeftBracket) h = refl
primary (classes.Symbol s.LeftBrace) h = refl
primary (classes.Reserved w.True) h = refl
primary (classes.Reserved w.False) h = refl
primary (classes.Reserved w.If) h = refl
primary (classes.Reserved w.Select) h = refl
primary (classes.Reserved w.Lookup) h = refl
primary (classes.Reserved w.Keyexists) h = refl
primary (classes.Reserved w.Len) h = refl
primary (classes.Reserved w.Slice) h = refl
primary (classes.Reserved w.Merge) h = refl
primary (classes.Reserved w.Result) h = refl
primary (classes.Reserved w.For) h = refl
primary (classes.Reserved w.Iterate) h = refl
primary (classes.Reserved w.I8) h = refl
primary (classes.Reserved w.I16) h = refl
primary (classes.Reserved w.I32) h = refl
primary (classes.Reserved w.I64) h = refl
primary (classes.Reserved w.U8) h = refl
primary (classes.Reserved w.U16) h = refl
primary (classes.Reserved w.U32) h = refl
primary (classes.Reserved w.U64) h = refl
primary (classes.Reserved w.Vecbuilder) h = refl
primary (classes.Reserved w.Appender) h = refl
primary (classes.Reserved w.Merger) h = refl
primary (classes.Reserved w.Dictmerger) h = refl
primary (classes.Reserved w.Vecmerger) h = refl
primary (classes.Reserved w.Groupbuilder) h = refl
primary (classes.Reserved w.Groupmerger) h = refl
primary _ h = absurd (false≢true h)

any_type : (x : Class) → starts r.AnyType x ≡ true → part_begins (body r.AnyType) x ≡ true
any_type (classes.Symbol s.LeftBrace) h = refl
any_type (classes.Reserved w.Bool) h = refl
any_type (classes.Reserved w.Vec) h = refl
any_type (classes.Reserved w.Dict) h = refl
any_type (classes.Reserved w.I8) h = refl
any_type (classes.Reserved w.I16) h = refl
any_type (classes.Reserved w.I32) h = refl
any_type (classes.Reserved w.I64) h = refl
any_type (classes.Reserved w.U8) h = refl
any_type (classes.Reserved w.U16) h = refl
any_type (classes.Reserved w.U32) h = refl
any_type (classes.Reserved w.U64) h = refl
any_type (classes.Reserved w.Vecbuilder) h = refl
any_type (classes.Reserved w.Appender) h = refl
any_type (classes.Reserved w.Merger) h = refl
any_type (classes.Reserved w.Dictmerger) h = refl
any_type (classes.Reserved w.Vecmerger) h = refl
any_type (classes.Reserved w.Groupbuilder) h = refl
any_type (classes.Reserved w.Groupmerger) h = refl
any_type _ h = absurd (false≢true h)

-- what begins a rule begins its body
pub rule_begun : (q : Rule) (x : Class) → starts q x ≡ true → part_begins (body q) x ≡ true
rule_begun r.Program x h = or_3 (is_sign s.BarBar x) (is_sign s.Bar x) (starts_expr x) h
rule_begun r.WithoutParams x h = h
rule_begun r.WithParams x h = h
rule_begun r.NextParam x h = h
rule_begun r.Param x h = h
rule_begun r.Expr x h = or_2 (is_fixed w.Let x) (starts_unary x) h
rule_begun r.Let x h = h
rule_begun r.Note x h = h
rule_begun r.Or x h = h
rule_begun r.OrPart x h = h
rule_begun r.And x h = h
rule_begun r.AndPart x h = h
rule_begun r.Equality x h = h
rule_begun r.EqualityPart x h = h
rule_begun r.EqualityOp x h = or_2 (is_sign s.EqualsEquals x) (is_sign s.BangEquals x) h
rule_begun r.Relation x h = h
rule_begun r.RelationPart x h = h
rule_begun r.RelationOp x h = or_4 (is_sign s.Less x) (is_sign s.LessEquals x) (is_sign s.Greater x) (is_sign s.GreaterEquals x) h
rule_begun r.Sum x h = h
rule_begun r.SumPart x h = h
rule_begun r.SumOp x h = or_2 (is_sign s.Plus x) (is_sign s.Minus x) h
rule_begun r.Product x h = h
rule_begun r.ProductPart x h = h
rule_begun r.ProductOp x h = or_3 (is_sign s.Star x) (is_sign s.Slash x) (is_sign s.Percent x) h
rule_begun r.Unary x h = or_3 (is_sign s.Minus x) (is_sign s.Bang x) (starts_primary x) h
rule_begun r.Minus x h = h
rule_begun r.Minused x h = or_last (is_of Number x) (starts_unary x) h
rule_begun r.Not x h = h
rule_begun r.Post x h = h
rule_begun r.FieldPart x h = h
rule_begun r.Primary x h = primary x h
rule_begun r.Paren x h = h
rule_begun r.MakeVec x h = h
rule_begun r.MakeStruct x h = h
rule_begun r.NextExpr x h = h
rule_begun r.If x h = h
rule_begun r.Select x h = h
rule_begun r.LookUp x h = h
rule_begun r.KeyExists x h = h
rule_begun r.Len x h = h
rule_begun r.Slice x h = h
rule_begun r.Merge x h = h
rule_begun r.Finish x h = h
rule_begun r.For x h = h
rule_begun r.Iterate x h = h
rule_begun r.Cast x h = h
rule_begun r.Rows x h = or_2 (is_fixed w.Zip x) (starts r.Leg x) (or_right_first (is_fixed w.Zip x) (is_fixed w.Iter x) (starts_expr x) h)
rule_begun r.Zip x h = h
rule_begun r.NextLeg x h = h
rule_begun r.Leg x h = or_2 (is_fixed w.Iter x) (starts_expr x) h
rule_begun r.Iter x h = h
rule_begun r.Bind x h = h
rule_begun r.Build x h = build x h
rule_begun r.ListBuild x h = h
rule_begun r.TotalBuild x h = h
rule_begun r.KeyedBuild x h = h
rule_begun r.CellsBuild x h = h
rule_begun r.GroupsBuild x h = h
rule_begun r.Start x h = h
rule_begun r.AnyType x h = any_type x h
rule_begun r.VecType x h = h
rule_begun r.StructType x h = h
rule_begun r.NextType x h = h
rule_begun r.DictType x h = h
rule_begun r.ListType x h = h
rule_begun r.TotalType x h = h
rule_begun r.KeyedType x h = h
rule_begun r.CellsType x h = h
rule_begun r.GroupsType x h = h
rule_begun r.ListWord x h = or_2 (is_fixed w.Vecbuilder x) (is_fixed w.Appender x) h
rule_begun r.GroupsWord x h = or_2 (is_fixed w.Groupbuilder x) (is_fixed w.Groupmerger x) h
rule_begun r.MergeOp x h = or_4 (is_sign s.Plus x) (is_sign s.Star x) (is_fixed w.Min x) (is_fixed w.Max x) h
rule_begun r.Kind x h = or_2 (is_fixed w.Bool x) (starts_int_kind x) h
rule_begun r.IntKind x h = int_kind x h

-- where the token begins one of the items, it begins the first that it may begin
pub chosen_begun : (choices : List Item) (x : Class) → any_begins choices x ≡ true → begins (first_begun choices x) x ≡ true
chosen_begun [] x h = absurd (false≢true h)
chosen_begun (i ∷ rest) x h = cases (begins i x) refl (chosen_begun rest x)
  where
    cases : (b : Bool) → begins i x ≡ b → (any_begins rest x ≡ true → begins (first_begun rest x) x ≡ true) → begins (first_begun (i ∷ rest) x) x ≡ true
    cases true e ih = ap (λ j. begins j x) (cond-true (begins i x) i (first_begun rest x) e) ∙ e
    cases false e ih = ap (λ j. begins j x) (cond-false (begins i x) i (first_begun rest x) e) ∙ ih (sym (ap (λ b. b || any_begins rest x) e) ∙ h)

pub choice_begun : (q : Rule) (choices : List Item) (x : Class) → one_of choices ≡ body q → starts q x ≡ true → any_begins choices x ≡ true
choice_begun q choices x e h = ap (λ p. part_begins p x) e ∙ rule_begun q x h

pub row_begun : (q : Rule) (i : Item) (items : List Item) (x : Class) → all_of (i ∷ items) ≡ body q → starts q x ≡ true → begins i x ≡ true
row_begun q i items x e h = ap (λ p. part_begins p x) e ∙ rule_begun q x h
