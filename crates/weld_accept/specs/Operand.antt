-- What a token that begins an operand opens, as most of the tokens at which expressions begin do.
use Rattle.std.specs.Prelude.{Option, Some, None, List, [], ◌∷◌}
use Rattle.weld_grammar.specs.declared.terminals.class.Class.{Class}
use Rattle.weld_grammar.specs.declared.terminals.class.Class.TheVariants as classes
use Rattle.weld_grammar.specs.declared.terminals.symbol.Symbol.TheVariants as s
use Rattle.weld_grammar.specs.declared.terminals.reserved.Reserved.TheVariants as w
use Rattle.weld_grammar.specs.declared.terminal.Terminal.TheVariants as t
use Rattle.weld_grammar.specs.declared.rule.Rule.{Rule}
use Rattle.weld_grammar.specs.declared.rule.Rule.TheVariants as r
use Rattle.weld_grammar.specs.declared.item.Item.{Item}
use Rattle.weld_grammar.specs.declared.item.Item.TheVariants.{One, Part as OfRule, Repeated}
use Rattle.weld_accept.specs.declared.entry.Entry.{Entry}
use Rattle.weld_accept.specs.declared.entry.Entry.TheVariants.{Due, End}

-- what the token is that begins an operand: a terminal, or the first of a rule
abbrev pub primary : Class → Option Item
primary classes.Name = Some (One t.Name)
primary classes.Int = Some (One t.Number)
primary classes.Long = Some (One t.Number)
primary classes.Chars = Some (One t.Chars)
primary (classes.Symbol s.LeftParen) = Some (OfRule r.Paren)
primary (classes.Symbol s.LeftBracket) = Some (OfRule r.MakeVec)
primary (classes.Symbol s.LeftBrace) = Some (OfRule r.MakeStruct)
primary (classes.Reserved w.True) = Some (One (t.Fixed w.True))
primary (classes.Reserved w.False) = Some (One (t.Fixed w.False))
primary (classes.Reserved w.If) = Some (OfRule r.If)
primary (classes.Reserved w.Select) = Some (OfRule r.Select)
primary (classes.Reserved w.Lookup) = Some (OfRule r.LookUp)
primary (classes.Reserved w.Keyexists) = Some (OfRule r.KeyExists)
primary (classes.Reserved w.Len) = Some (OfRule r.Len)
primary (classes.Reserved w.Slice) = Some (OfRule r.Slice)
primary (classes.Reserved w.Merge) = Some (OfRule r.Merge)
primary (classes.Reserved w.Result) = Some (OfRule r.Finish)
primary (classes.Reserved w.For) = Some (OfRule r.For)
primary (classes.Reserved w.Iterate) = Some (OfRule r.Iterate)
primary (classes.Reserved w.I8) = Some (OfRule r.Cast)
primary (classes.Reserved w.I16) = Some (OfRule r.Cast)
primary (classes.Reserved w.I32) = Some (OfRule r.Cast)
primary (classes.Reserved w.I64) = Some (OfRule r.Cast)
primary (classes.Reserved w.U8) = Some (OfRule r.Cast)
primary (classes.Reserved w.U16) = Some (OfRule r.Cast)
primary (classes.Reserved w.U32) = Some (OfRule r.Cast)
primary (classes.Reserved w.U64) = Some (OfRule r.Cast)
primary (classes.Reserved w.Vecbuilder) = Some (OfRule r.Build)
primary (classes.Reserved w.Appender) = Some (OfRule r.Build)
primary (classes.Reserved w.Merger) = Some (OfRule r.Build)
primary (classes.Reserved w.Dictmerger) = Some (OfRule r.Build)
primary (classes.Reserved w.Vecmerger) = Some (OfRule r.Build)
primary (classes.Reserved w.Groupbuilder) = Some (OfRule r.Build)
primary (classes.Reserved w.Groupmerger) = Some (OfRule r.Build)
primary _ = None

-- what it leaves on the stack below that where it begins the rule, the next entry first
abbrev pub operand : Rule → Option (List Entry)
operand r.Primary = Some (End r.Primary ∷ [])
operand r.Post = Some (End r.Primary ∷ Due (Repeated r.FieldPart) ∷ End r.Post ∷ [])
operand r.Unary = Some (End r.Primary ∷ Due (Repeated r.FieldPart) ∷ End r.Post ∷ End r.Unary ∷ [])
operand r.Product = Some (End r.Primary ∷ Due (Repeated r.FieldPart) ∷ End r.Post ∷ End r.Unary ∷ Due (Repeated r.ProductPart) ∷ End r.Product ∷ [])
operand r.Sum = Some (End r.Primary ∷ Due (Repeated r.FieldPart) ∷ End r.Post ∷ End r.Unary ∷ Due (Repeated r.ProductPart) ∷ End r.Product ∷ Due (Repeated r.SumPart) ∷ End r.Sum ∷ [])
operand r.Or = Some (End r.Primary ∷ Due (Repeated r.FieldPart) ∷ End r.Post ∷ End r.Unary ∷ Due (Repeated r.ProductPart) ∷ End r.Product ∷ Due (Repeated r.SumPart) ∷ End r.Sum ∷ Due (Repeated r.RelationPart) ∷ End r.Relation ∷ Due (Repeated r.EqualityPart) ∷ End r.Equality ∷ Due (Repeated r.AndPart) ∷ End r.And ∷ Due (Repeated r.OrPart) ∷ End r.Or ∷ [])
operand r.Expr = Some (End r.Primary ∷ Due (Repeated r.FieldPart) ∷ End r.Post ∷ End r.Unary ∷ Due (Repeated r.ProductPart) ∷ End r.Product ∷ Due (Repeated r.SumPart) ∷ End r.Sum ∷ Due (Repeated r.RelationPart) ∷ End r.Relation ∷ Due (Repeated r.EqualityPart) ∷ End r.Equality ∷ Due (Repeated r.AndPart) ∷ End r.And ∷ Due (Repeated r.OrPart) ∷ End r.Or ∷ End r.Expr ∷ [])
operand _ = None

-- what an operator leaves on the stack, the next entry first, where it begins another operand of the rule's line
abbrev pub operator : Rule → Option (List Entry)
operator r.ProductPart = Some (End r.ProductOp ∷ Due (OfRule r.Unary) ∷ End r.ProductPart ∷ Due (Repeated r.ProductPart) ∷ [])
operator r.SumPart = Some (End r.SumOp ∷ Due (OfRule r.Product) ∷ End r.SumPart ∷ Due (Repeated r.SumPart) ∷ [])
operator r.RelationPart = Some (End r.RelationOp ∷ Due (OfRule r.Sum) ∷ End r.RelationPart ∷ Due (Repeated r.RelationPart) ∷ [])
operator r.EqualityPart = Some (End r.EqualityOp ∷ Due (OfRule r.Relation) ∷ End r.EqualityPart ∷ Due (Repeated r.EqualityPart) ∷ [])
operator _ = None
