-- What may begin an item, and what can be empty.
use Rattle.std.specs.Prelude.{Bool, true, false, ◌||◌}
use Rattle.weld_grammar.specs.declared.terminals.class.Class.{Class}
use Rattle.weld_grammar.specs.declared.terminals.class.Class.TheVariants as classes
use Rattle.weld_grammar.specs.declared.terminals.symbol.Symbol.{Symbol}
use Rattle.weld_grammar.specs.declared.terminals.symbol.Symbol.TheVariants as s
use Rattle.weld_grammar.specs.declared.terminals.reserved.Reserved.{Reserved}
use Rattle.weld_grammar.specs.declared.terminals.reserved.Reserved.TheVariants as w
use Rattle.weld_grammar.specs.declared.terminal.Terminal.TheVariants.{Sign, Fixed, Word}
use Rattle.weld_grammar.specs.declared.rule.Rule.{Rule}
use Rattle.weld_grammar.specs.declared.rule.Rule.TheVariants.{Program, WithoutParams, WithParams, NextParam, Param, Expr, Let, Note, Or, OrPart, And, AndPart, Equality, EqualityPart, EqualityOp, Relation, RelationPart, RelationOp, Sum, SumPart, SumOp, Product, ProductPart, ProductOp, Unary, Minus, Minused, Not, Post, FieldPart, Primary, Paren, MakeVec, MakeStruct, NextExpr, If, Select, LookUp, KeyExists, Len, Slice, Merge, Finish, For, Iterate, Cast, Rows, Zip, NextLeg, Leg, Iter, Bind, Build, ListBuild, TotalBuild, KeyedBuild, CellsBuild, GroupsBuild, Start, AnyType, VecType, StructType, NextType, DictType, ListType, TotalType, KeyedType, CellsType, GroupsType, ListWord, GroupsWord, MergeOp, Kind, IntKind}
use Rattle.weld_grammar.specs.declared.item.Item.{Item}
use Rattle.weld_grammar.specs.declared.item.Item.TheVariants.{One, Part as OfRule, Optional, Repeated}
use Rattle.weld_grammar.specs.Grammar.{is_of}

abbrev pub is_sign : Symbol → Class → Bool
is_sign a x = is_of (Sign a) x

abbrev pub is_fixed : Reserved → Class → Bool
is_fixed a x = is_of (Fixed a) x

abbrev pub starts_int_kind : Class → Bool
starts_int_kind (classes.Reserved w.I8) = true
starts_int_kind (classes.Reserved w.I16) = true
starts_int_kind (classes.Reserved w.I32) = true
starts_int_kind (classes.Reserved w.I64) = true
starts_int_kind (classes.Reserved w.U8) = true
starts_int_kind (classes.Reserved w.U16) = true
starts_int_kind (classes.Reserved w.U32) = true
starts_int_kind (classes.Reserved w.U64) = true
starts_int_kind _ = false

abbrev pub starts_build : Class → Bool
starts_build (classes.Reserved w.Vecbuilder) = true
starts_build (classes.Reserved w.Appender) = true
starts_build (classes.Reserved w.Merger) = true
starts_build (classes.Reserved w.Dictmerger) = true
starts_build (classes.Reserved w.Vecmerger) = true
starts_build (classes.Reserved w.Groupbuilder) = true
starts_build (classes.Reserved w.Groupmerger) = true
starts_build _ = false

abbrev pub starts_form : Class → Bool
starts_form classes.Name = true
starts_form classes.Int = true
starts_form classes.Long = true
starts_form classes.Chars = true
starts_form (classes.Symbol s.LeftParen) = true
starts_form (classes.Symbol s.LeftBracket) = true
starts_form (classes.Symbol s.LeftBrace) = true
starts_form (classes.Reserved w.True) = true
starts_form (classes.Reserved w.False) = true
starts_form (classes.Reserved w.If) = true
starts_form (classes.Reserved w.Select) = true
starts_form (classes.Reserved w.Lookup) = true
starts_form (classes.Reserved w.Keyexists) = true
starts_form (classes.Reserved w.Len) = true
starts_form (classes.Reserved w.Slice) = true
starts_form (classes.Reserved w.Merge) = true
starts_form (classes.Reserved w.Result) = true
starts_form (classes.Reserved w.For) = true
starts_form (classes.Reserved w.Iterate) = true
starts_form _ = false

abbrev pub starts_primary : Class → Bool
starts_primary x = starts_form x || starts_int_kind x || starts_build x

abbrev pub starts_unary : Class → Bool
starts_unary x = is_sign s.Minus x || is_sign s.Bang x || starts_primary x

abbrev pub starts_expr : Class → Bool
starts_expr x = is_fixed w.Let x || starts_unary x

abbrev pub starts_type : Class → Bool
starts_type x = is_fixed w.Bool x || starts_int_kind x || is_fixed w.Vec x || is_sign s.LeftBrace x || is_fixed w.Dict x || starts_build x

-- a token of the class may begin the rule
abbrev pub starts : Rule → Class → Bool
starts Program x = is_sign s.BarBar x || is_sign s.Bar x || starts_expr x
starts WithoutParams x = is_sign s.BarBar x
starts WithParams x = is_sign s.Bar x
starts NextParam x = is_sign s.Comma x
starts Param x = is_of Word x
starts Expr x = starts_expr x
starts Let x = is_fixed w.Let x
starts Note x = is_sign s.Colon x
starts Or x = starts_unary x
starts OrPart x = is_sign s.BarBar x
starts And x = starts_unary x
starts AndPart x = is_sign s.AndAnd x
starts Equality x = starts_unary x
starts EqualityPart x = is_sign s.EqualsEquals x || is_sign s.BangEquals x
starts EqualityOp x = is_sign s.EqualsEquals x || is_sign s.BangEquals x
starts Relation x = starts_unary x
starts RelationPart x = is_sign s.Less x || is_sign s.LessEquals x || is_sign s.Greater x || is_sign s.GreaterEquals x
starts RelationOp x = is_sign s.Less x || is_sign s.LessEquals x || is_sign s.Greater x || is_sign s.GreaterEquals x
starts Sum x = starts_unary x
starts SumPart x = is_sign s.Plus x || is_sign s.Minus x
starts SumOp x = is_sign s.Plus x || is_sign s.Minus x
starts Product x = starts_unary x
starts ProductPart x = is_sign s.Star x || is_sign s.Slash x || is_sign s.Percent x
starts ProductOp x = is_sign s.Star x || is_sign s.Slash x || is_sign s.Percent x
starts Unary x = starts_unary x
starts Minus x = is_sign s.Minus x
starts Minused x = starts_unary x
starts Not x = is_sign s.Bang x
starts Post x = starts_primary x
starts FieldPart x = is_sign s.Dot x
starts Primary x = starts_primary x
starts Paren x = is_sign s.LeftParen x
starts MakeVec x = is_sign s.LeftBracket x
starts MakeStruct x = is_sign s.LeftBrace x
starts NextExpr x = is_sign s.Comma x
starts If x = is_fixed w.If x
starts Select x = is_fixed w.Select x
starts LookUp x = is_fixed w.Lookup x
starts KeyExists x = is_fixed w.Keyexists x
starts Len x = is_fixed w.Len x
starts Slice x = is_fixed w.Slice x
starts Merge x = is_fixed w.Merge x
starts Finish x = is_fixed w.Result x
starts For x = is_fixed w.For x
starts Iterate x = is_fixed w.Iterate x
starts Cast x = starts_int_kind x
starts Rows x = is_fixed w.Zip x || is_fixed w.Iter x || starts_expr x
starts Zip x = is_fixed w.Zip x
starts NextLeg x = is_sign s.Comma x
starts Leg x = is_fixed w.Iter x || starts_expr x
starts Iter x = is_fixed w.Iter x
starts Bind x = is_of Word x
starts Build x = starts_build x
starts ListBuild x = is_fixed w.Vecbuilder x || is_fixed w.Appender x
starts TotalBuild x = is_fixed w.Merger x
starts KeyedBuild x = is_fixed w.Dictmerger x
starts CellsBuild x = is_fixed w.Vecmerger x
starts GroupsBuild x = is_fixed w.Groupbuilder x || is_fixed w.Groupmerger x
starts Start x = is_sign s.LeftParen x
starts AnyType x = starts_type x
starts VecType x = is_fixed w.Vec x
starts StructType x = is_sign s.LeftBrace x
starts NextType x = is_sign s.Comma x
starts DictType x = is_fixed w.Dict x
starts ListType x = is_fixed w.Vecbuilder x || is_fixed w.Appender x
starts TotalType x = is_fixed w.Merger x
starts KeyedType x = is_fixed w.Dictmerger x
starts CellsType x = is_fixed w.Vecmerger x
starts GroupsType x = is_fixed w.Groupbuilder x || is_fixed w.Groupmerger x
starts ListWord x = is_fixed w.Vecbuilder x || is_fixed w.Appender x
starts GroupsWord x = is_fixed w.Groupbuilder x || is_fixed w.Groupmerger x
starts MergeOp x = is_sign s.Plus x || is_sign s.Star x || is_fixed w.Min x || is_fixed w.Max x
starts Kind x = is_fixed w.Bool x || starts_int_kind x
starts IntKind x = starts_int_kind x

-- a token of the class may begin the item
abbrev pub begins : Item → Class → Bool
begins (One a) x = is_of a x
begins (OfRule r) x = starts r x
begins (Optional r) x = starts r x
begins (Repeated r) x = starts r x

-- the item can be empty
abbrev pub nullable : Item → Bool
nullable (One a) = false
nullable (OfRule r) = false
nullable (Optional r) = true
nullable (Repeated r) = true
