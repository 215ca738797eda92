-- The one test of the table on which the theory stands: each rule opens to what it may begin with, none is empty,
-- and what may follow an optional or a repeated rule can't begin it.
use Rattle.std.proofs.Common.{ℕ, zero, suc, ◌<◌, Bool, true, false, not, ◌&&◌, ◌||◌, ◌≡◌, refl, List, [], ◌∷◌, length, get_or, ap, arith, lit<, sym, ◌∙◌}
use Rattle.std.proofs.lemmas.Bool.{and_parts}
use Rattle.weld_grammar.specs.declared.terminals.class.Class.{Class}
use Rattle.weld_grammar.specs.declared.terminals.class.Class.TheVariants as classes
use Rattle.weld_grammar.specs.declared.terminals.symbol.Symbol.TheVariants as s
use Rattle.weld_grammar.specs.declared.terminals.reserved.Reserved.TheVariants as w
use Rattle.weld_grammar.specs.declared.rule.Rule.{Rule}
use Rattle.weld_grammar.specs.declared.rule.Rule.TheVariants as r
use Rattle.weld_grammar.specs.declared.item.Item.{Item}
use Rattle.weld_grammar.specs.declared.item.Item.TheVariants.{One, Part as OfRule, Optional, Repeated}
use Rattle.weld_grammar.specs.Grammar.{Part, item, all_of, one_of, body}
use Rattle.weld_grammar.specs.Begins.{begins, nullable, starts, starts_unary, is_sign}
use Rattle.weld_grammar.specs.Pending.{first_begun}
use Rattle.weld_grammar.specs.Apart.{any_begins, choices_apart, takes_order}

abbrev pub after_expr : Class → Bool
after_expr x = is_sign s.RightParen x || is_sign s.Comma x || is_sign s.RightBracket x || is_sign s.RightBrace x

abbrev pub after_or : Class → Bool
after_or x = after_expr x || is_sign s.Semicolon x

abbrev pub after_and : Class → Bool
after_and x = after_or x || is_sign s.BarBar x

abbrev pub after_equality : Class → Bool
after_equality x = after_and x || is_sign s.AndAnd x

abbrev pub after_relation : Class → Bool
after_relation x = after_equality x || is_sign s.EqualsEquals x || is_sign s.BangEquals x

abbrev pub after_sum : Class → Bool
after_sum x = after_relation x || is_sign s.Less x || is_sign s.LessEquals x || is_sign s.Greater x || is_sign s.GreaterEquals x

abbrev pub after_product : Class → Bool
after_product x = after_sum x || is_sign s.Plus x || is_sign s.Minus x

abbrev pub after_unary : Class → Bool
after_unary x = after_product x || is_sign s.Star x || is_sign s.Slash x || is_sign s.Percent x

abbrev pub after_primary : Class → Bool
after_primary x = after_unary x || is_sign s.Dot x

abbrev pub after_param : Class → Bool
after_param x = is_sign s.Comma x || is_sign s.Bar x

abbrev pub after_note : Class → Bool
after_note x = after_param x || is_sign s.Equals x

abbrev pub after_leg : Class → Bool
after_leg x = is_sign s.Comma x || is_sign s.RightParen x

abbrev pub after_type : Class → Bool
after_type x = after_note x || is_sign s.RightBracket x || is_sign s.RightBrace x

-- what may come behind a rule
abbrev pub follow : Rule → Class → Bool
follow r.Program x = false
follow r.WithoutParams x = false
follow r.WithParams x = false
follow r.NextParam x = after_param x
follow r.Param x = after_param x
follow r.Expr x = after_expr x
follow r.Let x = after_expr x
follow r.Note x = after_note x
follow r.Or x = after_or x
follow r.OrPart x = after_and x
follow r.And x = after_and x
follow r.AndPart x = after_equality x
follow r.Equality x = after_equality x
follow r.EqualityPart x = after_relation x
follow r.EqualityOp x = starts_unary x
follow r.Relation x = after_relation x
follow r.RelationPart x = after_sum x
follow r.RelationOp x = starts_unary x
follow r.Sum x = after_sum x
follow r.SumPart x = after_product x
follow r.SumOp x = starts_unary x
follow r.Product x = after_product x
follow r.ProductPart x = after_unary x
follow r.ProductOp x = starts_unary x
follow r.Unary x = after_unary x
follow r.Minus x = after_unary x
follow r.Minused x = after_unary x
follow r.Not x = after_unary x
follow r.Post x = after_unary x
follow r.FieldPart x = after_primary x
follow r.Primary x = after_primary x
follow r.Paren x = after_primary x
follow r.MakeVec x = after_primary x
follow r.MakeStruct x = after_primary x
follow r.NextExpr x = after_expr x
follow r.If x = after_primary x
follow r.Select x = after_primary x
follow r.LookUp x = after_primary x
follow r.KeyExists x = after_primary x
follow r.Len x = after_primary x
follow r.Slice x = after_primary x
follow r.Merge x = after_primary x
follow r.Finish x = after_primary x
follow r.For x = after_primary x
follow r.Iterate x = after_primary x
follow r.Cast x = after_primary x
follow r.Rows x = is_sign s.Comma x
follow r.Zip x = is_sign s.Comma x
follow r.NextLeg x = after_leg x
follow r.Leg x = after_leg x
follow r.Iter x = after_leg x
follow r.Bind x = after_param x
follow r.Build x = after_primary x
follow r.ListBuild x = after_primary x
follow r.TotalBuild x = after_primary x
follow r.KeyedBuild x = after_primary x
follow r.CellsBuild x = after_primary x
follow r.GroupsBuild x = after_primary x
follow r.Start x = after_primary x
follow r.AnyType x = after_type x
follow r.VecType x = after_type x
follow r.StructType x = after_type x
follow r.NextType x = after_type x
follow r.DictType x = after_type x
follow r.ListType x = after_type x
follow r.TotalType x = after_type x
follow r.KeyedType x = after_type x
follow r.CellsType x = after_type x
follow r.GroupsType x = after_type x
follow r.ListWord x = is_sign s.LeftBracket x
follow r.GroupsWord x = is_sign s.LeftBracket x
follow r.MergeOp x = is_sign s.RightBracket x
follow r.Kind x = after_type x
follow r.IntKind x = after_type x || is_sign s.LeftParen x

abbrev pub implies : Bool → Bool → Bool
implies true b = b
implies false b = true

abbrev pub same : Bool → Bool → Bool
same true b = b
same false b = not b

-- a token of the class may begin these items where `f` says whether one may come behind them
abbrev pub firsts : Class → List Item → Bool → Bool
firsts x [] f = f
firsts x (i ∷ rest) f = begins i x || (nullable i && firsts x rest f)

-- the item can stand where `f` says whether a token of the class may come behind it
abbrev pub fits : Class → Item → Bool → Bool
fits x (One a) f = true
fits x (OfRule r) f = implies f (follow r x)
fits x (Optional r) f = implies f (not (starts r x)) && implies f (follow r x)
fits x (Repeated r) f = implies f (not (starts r x)) && implies (starts r x || f) (follow r x)

abbrev pub fit : Class → List Item → Bool → Bool
fit x [] f = true
fit x (i ∷ rest) f = fits x i (firsts x rest f) && fit x rest f

abbrev pub each_fits : Class → List Item → Bool → Bool
each_fits x [] f = true
each_fits x (i ∷ rest) f = fits x i f && each_fits x rest f

abbrev pub part_fits : Class → Part → Bool → Bool
part_fits x (item i) f = fits x i f
part_fits x (all_of is) f = fit x is f
part_fits x (one_of is) f = each_fits x is f

abbrev pub none_empty : List Item → Bool
none_empty [] = true
none_empty (i ∷ rest) = not (nullable i) && none_empty rest

-- the part can't be empty, and opens to an item that can't
abbrev pub solid : Part → Bool
solid (item i) = not (nullable i)
solid (all_of []) = false
solid (all_of (i ∷ rest)) = not (nullable i)
solid (one_of is) = none_empty is

abbrev pub part_begins : Part → Class → Bool
part_begins (item i) x = begins i x
part_begins (all_of []) x = false
part_begins (all_of (i ∷ rest)) x = begins i x
part_begins (one_of is) x = any_begins is x

-- the part opens no deeper at the token than the number
abbrev pub enough : ℕ → Part → Class → Bool
enough zero p x = false
enough (suc n) (item (One a)) x = true
enough (suc n) (item (OfRule r)) x = enough n (body r) x
enough (suc n) (item (Optional r)) x = enough n (item (OfRule r)) x
enough (suc n) (item (Repeated r)) x = enough n (item (OfRule r)) x
enough (suc n) (all_of []) x = true
enough (suc n) (all_of (i ∷ rest)) x = enough n (item i) x
enough (suc n) (one_of choices) x = enough n (item (first_begun choices x)) x

abbrev pub sound : Rule → Class → Bool
sound r x = (solid (body r) && same (starts r x) (part_begins (body r) x)) && (part_fits x (body r) (follow r x) && (enough 50 (item (OfRule r)) x && (takes_order r || choices_apart (body r) x)))

abbrev pub all_classes : List Class
all_classes = classes.Symbol s.LeftParen ∷ classes.Symbol s.RightParen ∷ classes.Symbol s.LeftBracket ∷ classes.Symbol s.RightBracket ∷ classes.Symbol s.LeftBrace ∷ classes.Symbol s.RightBrace ∷ classes.Symbol s.Comma ∷ classes.Symbol s.Semicolon ∷ classes.Symbol s.Colon ∷ classes.Symbol s.Dot ∷ classes.Symbol s.Bar ∷ classes.Symbol s.BarBar ∷ classes.Symbol s.AndAnd ∷ classes.Symbol s.Bang ∷ classes.Symbol s.Equals ∷ classes.Symbol s.EqualsEquals ∷ classes.Symbol s.BangEquals ∷ classes.Symbol s.Less ∷ classes.Symbol s.LessEquals ∷ classes.Symbol s.Greater ∷ classes.Symbol s.GreaterEquals ∷ classes.Symbol s.Plus ∷ classes.Symbol s.Minus ∷ classes.Symbol s.Star ∷ classes.Symbol s.Slash ∷ classes.Symbol s.Percent ∷ classes.Reserved w.Let ∷ classes.Reserved w.If ∷ classes.Reserved w.Select ∷ classes.Reserved w.Lookup ∷ classes.Reserved w.Keyexists ∷ classes.Reserved w.Len ∷ classes.Reserved w.Slice ∷ classes.Reserved w.Merge ∷ classes.Reserved w.Result ∷ classes.Reserved w.For ∷ classes.Reserved w.Iterate ∷ classes.Reserved w.Zip ∷ classes.Reserved w.Iter ∷ classes.Reserved w.Vec ∷ classes.Reserved w.Dict ∷ classes.Reserved w.Bool ∷ classes.Reserved w.I8 ∷ classes.Reserved w.I16 ∷ classes.Reserved w.I32 ∷ classes.Reserved w.I64 ∷ classes.Reserved w.U8 ∷ classes.Reserved w.U16 ∷ classes.Reserved w.U32 ∷ classes.Reserved w.U64 ∷ classes.Reserved w.Vecbuilder ∷ classes.Reserved w.Appender ∷ classes.Reserved w.Merger ∷ classes.Reserved w.Dictmerger ∷ classes.Reserved w.Vecmerger ∷ classes.Reserved w.Groupbuilder ∷ classes.Reserved w.Groupmerger ∷ classes.Reserved w.True ∷ classes.Reserved w.False ∷ classes.Reserved w.Min ∷ classes.Reserved w.Max ∷ classes.Reserved w.Macro ∷ classes.Name ∷ classes.Int ∷ classes.Long ∷ classes.Field ∷ classes.Chars ∷ []

abbrev pub every : (Class → Bool) → List Class → Bool
every f [] = true
every f (x ∷ xs) = f x && every f xs

every-get : (f : Class → Bool) (xs : List Class) (n : ℕ) (d : Class) → every f xs ≡ true → n < length xs → f (get_or xs n d) ≡ true
every-get f [] n d h lt = absurd (omega arith)
every-get f (x ∷ xs) zero d h lt = (and_parts (f x) (every f xs) h).0
every-get f (x ∷ xs) (suc n) d h lt = every-get f xs n d (and_parts (f x) (every f xs) h).1 (omega arith)

listed : (x : Class) → (n : ℕ) × (n < 67) × (get_or all_classes n classes.Name ≡ x)
listed (classes.Symbol s.LeftParen) = (0, lit< tt, refl)
listed (classes.Symbol s.RightParen) = (1, lit< tt, refl)
listed (classes.Symbol s.LeftBracket) = (2, lit< tt, refl)
listed (classes.Symbol s.RightBracket) = (3, lit< tt, refl)
listed (classes.Symbol s.LeftBrace) = (4, lit< tt, refl)
listed (classes.Symbol s.RightBrace) = (5, lit< tt, refl)
listed (classes.Symbol s.Comma) = (6, lit< tt, refl)
listed (classes.Symbol s.Semicolon) = (7, lit< tt, refl)
listed (classes.Symbol s.Colon) = (8, lit< tt, refl)
listed (classes.Symbol s.Dot) = (9, lit< tt, refl)
listed (classes.Symbol s.Bar) = (10, lit< tt, refl)
listed (classes.Symbol s.BarBar) = (11, lit< tt, refl)
listed (classes.Symbol s.AndAnd) = (12, lit< tt, refl)
listed (classes.Symbol s.Bang) = (13, lit< tt, refl)
listed (classes.Symbol s.Equals) = (14, lit< tt, refl)
listed (classes.Symbol s.EqualsEquals) = (15, lit< tt, refl)
listed (classes.Symbol s.BangEquals) = (16, lit< tt, refl)
listed (classes.Symbol s.Less) = (17, lit< tt, refl)
listed (classes.Symbol s.LessEquals) = (18, lit< tt, refl)
listed (classes.Symbol s.Greater) = (19, lit< tt, refl)
listed (classes.Symbol s.GreaterEquals) = (20, lit< tt, refl)
listed (classes.Symbol s.Plus) = (21, lit< tt, refl)
listed (classes.Symbol s.Minus) = (22, lit< tt, refl)
listed (classes.Symbol s.Star) = (23, lit< tt, refl)
listed (classes.Symbol s.Slash) = (24, lit< tt, refl)
listed (classes.Symbol s.Percent) = (25, lit< tt, refl)
listed (classes.Reserved w.Let) = (26, lit< tt, refl)
listed (classes.Reserved w.If) = (27, lit< tt, refl)
listed (classes.Reserved w.Select) = (28, lit< tt, refl)
listed (classes.Reserved w.Lookup) = (29, lit< tt, refl)
listed (classes.Reserved w.Keyexists) = (30, lit< tt, refl)
listed (classes.Reserved w.Len) = (31, lit< tt, refl)
listed (classes.Reserved w.Slice) = (32, lit< tt, refl)
listed (classes.Reserved w.Merge) = (33, lit< tt, refl)
listed (classes.Reserved w.Result) = (34, lit< tt, refl)
listed (classes.Reserved w.For) = (35, lit< tt, refl)
listed (classes.Reserved w.Iterate) = (36, lit< tt, refl)
listed (classes.Reserved w.Zip) = (37, lit< tt, refl)
listed (classes.Reserved w.Iter) = (38, lit< tt, refl)
listed (classes.Reserved w.Vec) = (39, lit< tt, refl)
listed (classes.Reserved w.Dict) = (40, lit< tt, refl)
listed (classes.Reserved w.Bool) = (41, lit< tt, refl)
listed (classes.Reserved w.I8) = (42, lit< tt, refl)
listed (classes.Reserved w.I16) = (43, lit< tt, refl)
listed (classes.Reserved w.I32) = (44, lit< tt, refl)
listed (classes.Reserved w.I64) = (45, lit< tt, refl)
listed (classes.Reserved w.U8) = (46, lit< tt, refl)
listed (classes.Reserved w.U16) = (47, lit< tt, refl)
listed (classes.Reserved w.U32) = (48, lit< tt, refl)
listed (classes.Reserved w.U64) = (49, lit< tt, refl)
listed (classes.Reserved w.Vecbuilder) = (50, lit< tt, refl)
listed (classes.Reserved w.Appender) = (51, lit< tt, refl)
listed (classes.Reserved w.Merger) = (52, lit< tt, refl)
listed (classes.Reserved w.Dictmerger) = (53, lit< tt, refl)
listed (classes.Reserved w.Vecmerger) = (54, lit< tt, refl)
listed (classes.Reserved w.Groupbuilder) = (55, lit< tt, refl)
listed (classes.Reserved w.Groupmerger) = (56, lit< tt, refl)
listed (classes.Reserved w.True) = (57, lit< tt, refl)
listed (classes.Reserved w.False) = (58, lit< tt, refl)
listed (classes.Reserved w.Min) = (59, lit< tt, refl)
listed (classes.Reserved w.Max) = (60, lit< tt, refl)
listed (classes.Reserved w.Macro) = (61, lit< tt, refl)
listed classes.Name = (62, lit< tt, refl)
listed classes.Int = (63, lit< tt, refl)
listed classes.Long = (64, lit< tt, refl)
listed classes.Field = (65, lit< tt, refl)
listed classes.Chars = (66, lit< tt, refl)

by_every : (f : Class → Bool) → every f all_classes ≡ true → (x : Class) → f x ≡ true
by_every f h x = let found = listed x in sym (ap f found.2) ∙ every-get f all_classes found.0 classes.Name h found.1

pub table : (r : Rule) (x : Class) → sound r x ≡ true
table r.Program x = by_every (sound r.Program) refl x
table r.WithoutParams x = by_every (sound r.WithoutParams) refl x
table r.WithParams x = by_every (sound r.WithParams) refl x
table r.NextParam x = by_every (sound r.NextParam) refl x
table r.Param x = by_every (sound r.Param) refl x
table r.Expr x = by_every (sound r.Expr) refl x
table r.Let x = by_every (sound r.Let) refl x
table r.Note x = by_every (sound r.Note) refl x
table r.Or x = by_every (sound r.Or) refl x
table r.OrPart x = by_every (sound r.OrPart) refl x
table r.And x = by_every (sound r.And) refl x
table r.AndPart x = by_every (sound r.AndPart) refl x
table r.Equality x = by_every (sound r.Equality) refl x
table r.EqualityPart x = by_every (sound r.EqualityPart) refl x
table r.EqualityOp x = by_every (sound r.EqualityOp) refl x
table r.Relation x = by_every (sound r.Relation) refl x
table r.RelationPart x = by_every (sound r.RelationPart) refl x
table r.RelationOp x = by_every (sound r.RelationOp) refl x
table r.Sum x = by_every (sound r.Sum) refl x
table r.SumPart x = by_every (sound r.SumPart) refl x
table r.SumOp x = by_every (sound r.SumOp) refl x
table r.Product x = by_every (sound r.Product) refl x
table r.ProductPart x = by_every (sound r.ProductPart) refl x
table r.ProductOp x = by_every (sound r.ProductOp) refl x
table r.Unary x = by_every (sound r.Unary) refl x
table r.Minus x = by_every (sound r.Minus) refl x
table r.Minused x = by_every (sound r.Minused) refl x
table r.Not x = by_every (sound r.Not) refl x
table r.Post x = by_every (sound r.Post) refl x
table r.FieldPart x = by_every (sound r.FieldPart) refl x
table r.Primary x = by_every (sound r.Primary) refl x
table r.Paren x = by_every (sound r.Paren) refl x
table r.MakeVec x = by_every (sound r.MakeVec) refl x
table r.MakeStruct x = by_every (sound r.MakeStruct) refl x
table r.NextExpr x = by_every (sound r.NextExpr) refl x
table r.If x = by_every (sound r.If) refl x
table r.Select x = by_every (sound r.Select) refl x
table r.LookUp x = by_every (sound r.LookUp) refl x
table r.KeyExists x = by_every (sound r.KeyExists) refl x
table r.Len x = by_every (sound r.Len) refl x
table r.Slice x = by_every (sound r.Slice) refl x
table r.Merge x = by_every (sound r.Merge) refl x
table r.Finish x = by_every (sound r.Finish) refl x
table r.For x = by_every (sound r.For) refl x
table r.Iterate x = by_every (sound r.Iterate) refl x
table r.Cast x = by_every (sound r.Cast) refl x
table r.Rows x = by_every (sound r.Rows) refl x
table r.Zip x = by_every (sound r.Zip) refl x
table r.NextLeg x = by_every (sound r.NextLeg) refl x
table r.Leg x = by_every (sound r.Leg) refl x
table r.Iter x = by_every (sound r.Iter) refl x
table r.Bind x = by_every (sound r.Bind) refl x
table r.Build x = by_every (sound r.Build) refl x
table r.ListBuild x = by_every (sound r.ListBuild) refl x
table r.TotalBuild x = by_every (sound r.TotalBuild) refl x
table r.KeyedBuild x = by_every (sound r.KeyedBuild) refl x
table r.CellsBuild x = by_every (sound r.CellsBuild) refl x
table r.GroupsBuild x = by_every (sound r.GroupsBuild) refl x
table r.Start x = by_every (sound r.Start) refl x
table r.AnyType x = by_every (sound r.AnyType) refl x
table r.VecType x = by_every (sound r.VecType) refl x
table r.StructType x = by_every (sound r.StructType) refl x
table r.NextType x = by_every (sound r.NextType) refl x
table r.DictType x = by_every (sound r.DictType) refl x
table r.ListType x = by_every (sound r.ListType) refl x
table r.TotalType x = by_every (sound r.TotalType) refl x
table r.KeyedType x = by_every (sound r.KeyedType) refl x
table r.CellsType x = by_every (sound r.CellsType) refl x
table r.GroupsType x = by_every (sound r.GroupsType) refl x
table r.ListWord x = by_every (sound r.ListWord) refl x
table r.GroupsWord x = by_every (sound r.GroupsWord) refl x
table r.MergeOp x = by_every (sound r.MergeOp) refl x
table r.Kind x = by_every (sound r.Kind) refl x
table r.IntKind x = by_every (sound r.IntKind) refl x
