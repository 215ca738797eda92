-- The grammar of Weld programs, as a table: one line for each production, and for each alternative
-- and each optional or repeated part of one.
use Rattle.std.specs.Prelude.{Bool, true, false, List, [], ◌∷◌}
use Rattle.weld_grammar.specs.declared.terminals.class.Class.{Class}
use Rattle.weld_grammar.specs.declared.terminals.class.Class.TheVariants as classes
use Rattle.weld_grammar.specs.declared.terminals.symbol.Symbol.{Symbol}
use Rattle.weld_grammar.specs.declared.terminals.symbol.Symbol.TheVariants as s
use Rattle.weld_grammar.specs.declared.terminals.reserved.Reserved.{Reserved}
use Rattle.weld_grammar.specs.declared.terminals.reserved.Reserved.TheVariants as w
use Rattle.weld_grammar.specs.Symbols.{same_symbol}
use Rattle.weld_grammar.specs.ReservedWords.{same_reserved}
use Rattle.weld_grammar.specs.declared.terminal.Terminal.{Terminal}
use Rattle.weld_grammar.specs.declared.terminal.Terminal.TheVariants.{Sign, Fixed, Word, Name, Number, Field, Chars}
use Rattle.weld_grammar.specs.declared.rule.Rule.{Rule}
use Rattle.weld_grammar.specs.declared.rule.Rule.TheVariants.{Program, WithoutParams, WithParams, NextParam, Param, Expr, Let, Note, Or, OrPart, And, AndPart, Equality, EqualityPart, EqualityOp, Relation, RelationPart, RelationOp, Sum, SumPart, SumOp, Product, ProductPart, ProductOp, Unary, Minus, Minused, Not, Post, FieldPart, Primary, Paren, MakeVec, MakeStruct, NextExpr, If, Select, LookUp, KeyExists, Len, Slice, Merge, Finish, For, Iterate, Cast, Rows, Zip, NextLeg, Leg, Iter, Bind, Build, ListBuild, TotalBuild, KeyedBuild, CellsBuild, GroupsBuild, Start, AnyType, VecType, StructType, NextType, DictType, ListType, TotalType, KeyedType, CellsType, GroupsType, ListWord, GroupsWord, MergeOp, Kind, IntKind}
use Rattle.weld_grammar.specs.declared.item.Item.{Item}
use Rattle.weld_grammar.specs.declared.item.Item.TheVariants.{One, Part as OfRule, Optional, Repeated}

-- what a stretch of tokens may be: one item, items one after another, or one of these items, the first that
-- can begin so
pub data Part : Type 0 where
  item : Item → Part
  all_of : List Item → Part
  one_of : List Item → Part

-- a token of the class is the terminal
abbrev pub is_of : Terminal → Class → Bool
is_of (Sign a) (classes.Symbol b) = same_symbol a b
is_of (Fixed a) (classes.Reserved b) = same_reserved a b
is_of Word (classes.Reserved b) = true
is_of Word classes.Name = true
is_of Name classes.Name = true
is_of Number classes.Int = true
is_of Number classes.Long = true
is_of Field classes.Field = true
is_of Chars classes.Chars = true
is_of _ _ = false

abbrev pub sign : Symbol → Item
sign a = One (Sign a)

abbrev pub fixed : Reserved → Item
fixed a = One (Fixed a)

abbrev pub word : Item
word = One Word

abbrev pub part : Rule → Item
part r = OfRule r

abbrev pub perhaps : Rule → Item
perhaps r = Optional r

abbrev pub many : Rule → Item
many r = Repeated r

-- the table
abbrev pub body : Rule → Part
body Program = one_of (part WithoutParams ∷ part WithParams ∷ part Expr ∷ [])
body WithoutParams = all_of (sign s.BarBar ∷ part Expr ∷ [])
body WithParams = all_of (sign s.Bar ∷ part Param ∷ many NextParam ∷ sign s.Bar ∷ part Expr ∷ [])
body NextParam = all_of (sign s.Comma ∷ part Param ∷ [])
body Param = all_of (word ∷ sign s.Colon ∷ part AnyType ∷ [])
body Expr = one_of (part Let ∷ part Or ∷ [])
body Let = all_of (fixed w.Let ∷ word ∷ perhaps Note ∷ sign s.Equals ∷ part Or ∷ sign s.Semicolon ∷ part Expr ∷ [])
body Note = all_of (sign s.Colon ∷ part AnyType ∷ [])
body Or = all_of (part And ∷ many OrPart ∷ [])
body OrPart = all_of (sign s.BarBar ∷ part And ∷ [])
body And = all_of (part Equality ∷ many AndPart ∷ [])
body AndPart = all_of (sign s.AndAnd ∷ part Equality ∷ [])
body Equality = all_of (part Relation ∷ many EqualityPart ∷ [])
body EqualityPart = all_of (part EqualityOp ∷ part Relation ∷ [])
body EqualityOp = one_of (sign s.EqualsEquals ∷ sign s.BangEquals ∷ [])
body Relation = all_of (part Sum ∷ many RelationPart ∷ [])
body RelationPart = all_of (part RelationOp ∷ part Sum ∷ [])
body RelationOp = one_of (sign s.Less ∷ sign s.LessEquals ∷ sign s.Greater ∷ sign s.GreaterEquals ∷ [])
body Sum = all_of (part Product ∷ many SumPart ∷ [])
body SumPart = all_of (part SumOp ∷ part Product ∷ [])
body SumOp = one_of (sign s.Plus ∷ sign s.Minus ∷ [])
body Product = all_of (part Unary ∷ many ProductPart ∷ [])
body ProductPart = all_of (part ProductOp ∷ part Unary ∷ [])
body ProductOp = one_of (sign s.Star ∷ sign s.Slash ∷ sign s.Percent ∷ [])
body Unary = one_of (part Minus ∷ part Not ∷ part Post ∷ [])
body Minus = all_of (sign s.Minus ∷ part Minused ∷ [])
body Minused = one_of (One Number ∷ part Unary ∷ [])
body Not = all_of (sign s.Bang ∷ part Unary ∷ [])
body Post = all_of (part Primary ∷ many FieldPart ∷ [])
body FieldPart = all_of (sign s.Dot ∷ One Field ∷ [])
body Primary = one_of (One Number ∷ One Chars ∷ fixed w.True ∷ fixed w.False ∷ One Name ∷ part Paren ∷ part MakeVec ∷ part MakeStruct ∷ part If ∷ part Select ∷ part LookUp ∷ part KeyExists ∷ part Len ∷ part Slice ∷ part Merge ∷ part Finish ∷ part For ∷ part Iterate ∷ part Cast ∷ part Build ∷ [])
body Paren = all_of (sign s.LeftParen ∷ part Expr ∷ sign s.RightParen ∷ [])
body MakeVec = all_of (sign s.LeftBracket ∷ part Expr ∷ many NextExpr ∷ sign s.RightBracket ∷ [])
body MakeStruct = all_of (sign s.LeftBrace ∷ part Expr ∷ many NextExpr ∷ sign s.RightBrace ∷ [])
body NextExpr = all_of (sign s.Comma ∷ part Expr ∷ [])
body If = all_of (fixed w.If ∷ sign s.LeftParen ∷ part Expr ∷ sign s.Comma ∷ part Expr ∷ sign s.Comma ∷ part Expr ∷ sign s.RightParen ∷ [])
body Select = all_of (fixed w.Select ∷ sign s.LeftParen ∷ part Expr ∷ sign s.Comma ∷ part Expr ∷ sign s.Comma ∷ part Expr ∷ sign s.RightParen ∷ [])
body LookUp = all_of (fixed w.Lookup ∷ sign s.LeftParen ∷ part Expr ∷ sign s.Comma ∷ part Expr ∷ sign s.RightParen ∷ [])
body KeyExists = all_of (fixed w.Keyexists ∷ sign s.LeftParen ∷ part Expr ∷ sign s.Comma ∷ part Expr ∷ sign s.RightParen ∷ [])
body Len = all_of (fixed w.Len ∷ sign s.LeftParen ∷ part Expr ∷ sign s.RightParen ∷ [])
body Slice = all_of (fixed w.Slice ∷ sign s.LeftParen ∷ part Expr ∷ sign s.Comma ∷ part Expr ∷ sign s.Comma ∷ part Expr ∷ sign s.RightParen ∷ [])
body Merge = all_of (fixed w.Merge ∷ sign s.LeftParen ∷ part Expr ∷ sign s.Comma ∷ part Expr ∷ sign s.RightParen ∷ [])
body Finish = all_of (fixed w.Result ∷ sign s.LeftParen ∷ part Expr ∷ sign s.RightParen ∷ [])
body For = all_of (fixed w.For ∷ sign s.LeftParen ∷ part Rows ∷ sign s.Comma ∷ part Expr ∷ sign s.Comma ∷ sign s.Bar ∷ part Bind ∷ sign s.Comma ∷ part Bind ∷ sign s.Comma ∷ part Bind ∷ sign s.Bar ∷ part Expr ∷ sign s.RightParen ∷ [])
body Iterate = all_of (fixed w.Iterate ∷ sign s.LeftParen ∷ part Expr ∷ sign s.Comma ∷ sign s.Bar ∷ part Bind ∷ sign s.Bar ∷ part Expr ∷ sign s.RightParen ∷ [])
body Cast = all_of (part IntKind ∷ sign s.LeftParen ∷ part Expr ∷ sign s.RightParen ∷ [])
body Rows = one_of (part Zip ∷ part Leg ∷ [])
body Zip = all_of (fixed w.Zip ∷ sign s.LeftParen ∷ part Leg ∷ sign s.Comma ∷ part Leg ∷ many NextLeg ∷ sign s.RightParen ∷ [])
body NextLeg = all_of (sign s.Comma ∷ part Leg ∷ [])
body Leg = one_of (part Iter ∷ part Expr ∷ [])
body Iter = all_of (fixed w.Iter ∷ sign s.LeftParen ∷ part Expr ∷ sign s.Comma ∷ part Expr ∷ sign s.Comma ∷ part Expr ∷ sign s.Comma ∷ part Expr ∷ sign s.RightParen ∷ [])
body Bind = all_of (word ∷ perhaps Note ∷ [])
body Build = one_of (part ListBuild ∷ part TotalBuild ∷ part KeyedBuild ∷ part CellsBuild ∷ part GroupsBuild ∷ [])
body ListBuild = all_of (part ListWord ∷ sign s.LeftBracket ∷ part AnyType ∷ sign s.RightBracket ∷ [])
body TotalBuild = all_of (fixed w.Merger ∷ sign s.LeftBracket ∷ part AnyType ∷ sign s.Comma ∷ part MergeOp ∷ sign s.RightBracket ∷ perhaps Start ∷ [])
body KeyedBuild = all_of (fixed w.Dictmerger ∷ sign s.LeftBracket ∷ part AnyType ∷ sign s.Comma ∷ part AnyType ∷ sign s.Comma ∷ part MergeOp ∷ sign s.RightBracket ∷ [])
body CellsBuild = all_of (fixed w.Vecmerger ∷ sign s.LeftBracket ∷ part AnyType ∷ sign s.Comma ∷ part MergeOp ∷ sign s.RightBracket ∷ part Start ∷ [])
body GroupsBuild = all_of (part GroupsWord ∷ sign s.LeftBracket ∷ part AnyType ∷ sign s.Comma ∷ part AnyType ∷ sign s.RightBracket ∷ [])
body Start = all_of (sign s.LeftParen ∷ part Expr ∷ sign s.RightParen ∷ [])
body AnyType = one_of (part Kind ∷ part VecType ∷ part StructType ∷ part DictType ∷ part ListType ∷ part TotalType ∷ part KeyedType ∷ part CellsType ∷ part GroupsType ∷ [])
body VecType = all_of (fixed w.Vec ∷ sign s.LeftBracket ∷ part AnyType ∷ sign s.RightBracket ∷ [])
body StructType = all_of (sign s.LeftBrace ∷ part AnyType ∷ many NextType ∷ sign s.RightBrace ∷ [])
body NextType = all_of (sign s.Comma ∷ part AnyType ∷ [])
body DictType = all_of (fixed w.Dict ∷ sign s.LeftBracket ∷ part AnyType ∷ sign s.Comma ∷ part AnyType ∷ sign s.RightBracket ∷ [])
body ListType = all_of (part ListWord ∷ sign s.LeftBracket ∷ part AnyType ∷ sign s.RightBracket ∷ [])
body TotalType = all_of (fixed w.Merger ∷ sign s.LeftBracket ∷ part AnyType ∷ sign s.Comma ∷ part MergeOp ∷ sign s.RightBracket ∷ [])
body KeyedType = all_of (fixed w.Dictmerger ∷ sign s.LeftBracket ∷ part AnyType ∷ sign s.Comma ∷ part AnyType ∷ sign s.Comma ∷ part MergeOp ∷ sign s.RightBracket ∷ [])
body CellsType = all_of (fixed w.Vecmerger ∷ sign s.LeftBracket ∷ part AnyType ∷ sign s.Comma ∷ part MergeOp ∷ sign s.RightBracket ∷ [])
body GroupsType = all_of (part GroupsWord ∷ sign s.LeftBracket ∷ part AnyType ∷ sign s.Comma ∷ part AnyType ∷ sign s.RightBracket ∷ [])
body ListWord = one_of (fixed w.Vecbuilder ∷ fixed w.Appender ∷ [])
body GroupsWord = one_of (fixed w.Groupbuilder ∷ fixed w.Groupmerger ∷ [])
body MergeOp = one_of (sign s.Plus ∷ sign s.Star ∷ fixed w.Min ∷ fixed w.Max ∷ [])
body Kind = one_of (fixed w.Bool ∷ part IntKind ∷ [])
body IntKind = one_of (fixed w.I8 ∷ fixed w.I16 ∷ fixed w.I32 ∷ fixed w.I64 ∷ fixed w.U8 ∷ fixed w.U16 ∷ fixed w.U32 ∷ fixed w.U64 ∷ [])
