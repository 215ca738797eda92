-- The rules by their ways.
use Rattle.std.proofs.Common.{◌≡◌, refl, List}
use Rattle.weld_grammar.specs.declared.rule.Rule.{Rule}
use Rattle.weld_grammar.specs.declared.rule.Rule.TheVariants as r
use Rattle.weld_reduce.specs.Values.{Value}
use Rattle.weld_reduce.specs.Forms.{reduced}
use Rattle.weld_reduce.specs.Ways.{way_of, by_way}

pub reduced_by_way : (rule : Rule) (vs : List Value) → reduced rule vs ≡ by_way (way_of rule) rule vs
reduced_by_way r.Program vs = refl
reduced_by_way r.WithoutParams vs = refl
reduced_by_way r.WithParams vs = refl
reduced_by_way r.NextParam vs = refl
reduced_by_way r.Param vs = refl
reduced_by_way r.Expr vs = refl
reduced_by_way r.Let vs = refl
reduced_by_way r.Note vs = refl
reduced_by_way r.Or vs = refl
reduced_by_way r.OrPart vs = refl
reduced_by_way r.And vs = refl
reduced_by_way r.AndPart vs = refl
reduced_by_way r.Equality vs = refl
reduced_by_way r.EqualityPart vs = refl
reduced_by_way r.EqualityOp vs = refl
reduced_by_way r.Relation vs = refl
reduced_by_way r.RelationPart vs = refl
reduced_by_way r.RelationOp vs = refl
reduced_by_way r.Sum vs = refl
reduced_by_way r.SumPart vs = refl
reduced_by_way r.SumOp vs = refl
reduced_by_way r.Product vs = refl
reduced_by_way r.ProductPart vs = refl
reduced_by_way r.ProductOp vs = refl
reduced_by_way r.Unary vs = refl
reduced_by_way r.Minus vs = refl
reduced_by_way r.Minused vs = refl
reduced_by_way r.Not vs = refl
reduced_by_way r.Post vs = refl
reduced_by_way r.FieldPart vs = refl
reduced_by_way r.Primary vs = refl
reduced_by_way r.Paren vs = refl
reduced_by_way r.MakeVec vs = refl
reduced_by_way r.MakeStruct vs = refl
reduced_by_way r.NextExpr vs = refl
reduced_by_way r.If vs = refl
reduced_by_way r.Select vs = refl
reduced_by_way r.LookUp vs = refl
reduced_by_way r.KeyExists vs = refl
reduced_by_way r.Len vs = refl
reduced_by_way r.Slice vs = refl
reduced_by_way r.Merge vs = refl
reduced_by_way r.Finish vs = refl
reduced_by_way r.For vs = refl
reduced_by_way r.Iterate vs = refl
reduced_by_way r.Cast vs = refl
reduced_by_way r.Rows vs = refl
reduced_by_way r.Zip vs = refl
reduced_by_way r.NextLeg vs = refl
reduced_by_way r.Leg vs = refl
reduced_by_way r.Iter vs = refl
reduced_by_way r.Bind vs = refl
reduced_by_way r.Build vs = refl
reduced_by_way r.ListBuild vs = refl
reduced_by_way r.TotalBuild vs = refl
reduced_by_way r.KeyedBuild vs = refl
reduced_by_way r.CellsBuild vs = refl
reduced_by_way r.GroupsBuild vs = refl
reduced_by_way r.Start vs = refl
reduced_by_way r.AnyType vs = refl
reduced_by_way r.VecType vs = refl
reduced_by_way r.StructType vs = refl
reduced_by_way r.NextType vs = refl
reduced_by_way r.DictType vs = refl
reduced_by_way r.ListType vs = refl
reduced_by_way r.TotalType vs = refl
reduced_by_way r.KeyedType vs = refl
reduced_by_way r.CellsType vs = refl
reduced_by_way r.GroupsType vs = refl
reduced_by_way r.ListWord vs = refl
reduced_by_way r.GroupsWord vs = refl
reduced_by_way r.MergeOp vs = refl
reduced_by_way r.Kind vs = refl
reduced_by_way r.IntKind vs = refl
