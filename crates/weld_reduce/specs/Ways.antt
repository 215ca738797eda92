-- How a rule that binds no names is reduced.
use Rattle.std.specs.Prelude.{Some, List}
use Rattle.weld_tree.specs.ExprView.{view_two, view_three, view_many}
use Rattle.weld_tree.specs.declared.expr.TwoForm.TheVariants as two_form
use Rattle.weld_tree.specs.declared.expr.ThreeForm.TheVariants as three_form
use Rattle.weld_tree.specs.declared.expr.ManyForm.TheVariants as many_form
use Rattle.weld_grammar.specs.declared.rule.Rule.{Rule}
use Rattle.weld_grammar.specs.declared.rule.Rule.TheVariants as r
use Rattle.weld_reduce.specs.Values.{Value}
use Rattle.weld_reduce.specs.Forms.{Reduced, between, call_one, call_two, call_three, listed, behind_token, minus, field, number, next_expr, next_leg, iter, any_type, vec_type, dict_type, next_type, struct_type, merge_operator, as_type, as_fresh, total_builder, cells_builder}
use Rattle.weld_reduce.specs.Operators.{line, worded, built_at}
use Rattle.weld_reduce.specs.declared.way.Way.{Way}
use Rattle.weld_reduce.specs.declared.way.Way.TheVariants.{Rest, Line, Word, Two, Three, Listed, Fresh, BuilderType, Own}

-- a rule leaves what is there; it goes on with a line; it is a word or a sign, and one, two, three or a list of expressions; a
-- builder without a starting value; the type of a builder; it has a way of its own
abbrev pub way_of : Rule → Way
way_of r.WithoutParams = Own
way_of r.OrPart = Line
way_of r.AndPart = Line
way_of r.EqualityPart = Line
way_of r.RelationPart = Line
way_of r.SumPart = Line
way_of r.ProductPart = Line
way_of r.Minus = Own
way_of r.Not = Word
way_of r.FieldPart = Own
way_of r.Primary = Own
way_of r.MakeVec = Listed many_form.Vec
way_of r.MakeStruct = Listed many_form.Struct
way_of r.NextExpr = Own
way_of r.If = Three three_form.If
way_of r.Select = Three three_form.Select
way_of r.LookUp = Two two_form.LookUp
way_of r.KeyExists = Two two_form.KeyExists
way_of r.Len = Word
way_of r.Slice = Three three_form.Slice
way_of r.Merge = Two two_form.Merge
way_of r.Finish = Word
way_of r.Cast = Word
way_of r.Leg = Own
way_of r.Iter = Own
way_of r.ListBuild = Fresh
way_of r.TotalBuild = Own
way_of r.KeyedBuild = Fresh
way_of r.CellsBuild = Own
way_of r.GroupsBuild = Fresh
way_of r.AnyType = Own
way_of r.VecType = Own
way_of r.StructType = Own
way_of r.NextType = Own
way_of r.DictType = Own
way_of r.ListType = BuilderType
way_of r.TotalType = BuilderType
way_of r.KeyedType = BuilderType
way_of r.CellsType = BuilderType
way_of r.GroupsType = BuilderType
way_of r.MergeOp = Own
way_of _ = Rest

-- a rule that has a way of its own
abbrev pub own : Rule → List Value → Reduced
own r.WithoutParams vs = behind_token vs
own r.Minus vs = minus vs
own r.FieldPart vs = field vs
own r.Primary vs = number vs
own r.NextExpr vs = next_expr vs
own r.Leg vs = next_leg vs
own r.Iter vs = iter vs
own r.TotalBuild vs = total_builder vs
own r.CellsBuild vs = cells_builder vs
own r.AnyType vs = any_type vs
own r.VecType vs = vec_type vs
own r.StructType vs = struct_type vs
own r.NextType vs = next_type vs
own r.DictType vs = dict_type vs
own _ vs = merge_operator vs

-- a rule, by its way
abbrev pub by_way : Way → Rule → List Value → Reduced
by_way Rest rule vs = Some vs
by_way Line rule vs = between (line rule) vs
by_way Word rule vs = call_one (worded rule) vs
by_way (Two f) rule vs = call_two (view_two f) vs
by_way (Three f) rule vs = call_three (view_three f) vs
by_way (Listed f) rule vs = listed (view_many f) vs
by_way Fresh rule vs = as_fresh (built_at rule vs)
by_way BuilderType rule vs = as_type (built_at rule vs)
by_way Own rule vs = own rule vs
