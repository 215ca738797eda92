-- What a rule makes of expressions, by the token that it goes by.
use Rattle.std.specs.Prelude.{List}
use Rattle.weld_grammar.specs.declared.terminals.token.Token.{Token}
use Rattle.weld_tree.specs.ExprTree.{One, neg, not, cast, len, finish, Two, binary, and, or}
use Rattle.weld_grammar.specs.declared.rule.Rule.{Rule}
use Rattle.weld_grammar.specs.declared.rule.Rule.TheVariants as r
use Rattle.weld_reduce.specs.Forms.{equality_op, relation_op, sum_op, product_op, kind_of_word, Builder, list_built, total_built, keyed_built, cells_built, groups_built}
use Rattle.weld_reduce.specs.Values.{Value, Top}

-- at a rule that goes on with a line
abbrev pub line : Rule → Token → Two
line r.OrPart t = or
line r.AndPart t = and
line r.EqualityPart t = binary (equality_op t.class)
line r.RelationPart t = binary (relation_op t.class)
line r.SumPart t = binary (sum_op t.class)
line _ t = binary (product_op t.class)

-- at a rule of a sign or a word and one expression
abbrev pub worded : Rule → Token → One
worded r.Minus t = neg
worded r.Not t = not
worded r.Len t = len
worded r.Finish t = finish
worded _ t = cast (kind_of_word t.class)

-- the builder at its rule
abbrev pub built_at : Rule → List Value → Top Builder
built_at r.ListBuild vs = list_built vs
built_at r.ListType vs = list_built vs
built_at r.TotalBuild vs = total_built vs
built_at r.TotalType vs = total_built vs
built_at r.KeyedBuild vs = keyed_built vs
built_at r.KeyedType vs = keyed_built vs
built_at r.CellsBuild vs = cells_built vs
built_at r.CellsType vs = cells_built vs
built_at _ vs = groups_built vs
