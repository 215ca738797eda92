-- The rules that bind no names.
use Rattle.std.proofs.Common.{◌≡◌, refl, ℕ, true, false, List, Option, Some, None, option_and_then, ap}
use Rattle.weld_grammar.specs.declared.terminals.class.Class.{Class}
use Rattle.weld_grammar.specs.declared.terminals.class.Class.TheVariants as classes
use Rattle.weld_tokens.specs.Words.{class_of}
use Rattle.weld_grammar.specs.declared.rule.Rule.{Rule}
use Rattle.weld_grammar.specs.declared.rule.Rule.TheVariants as r
use Rattle.weld_spell.specs.Names.{Refused, or_else}
use Rattle.weld_reduce.specs.Forms.{reduced, is_field}
use Rattle.weld_reduce.specs.States.{State, reduce, refuse, with_values}

-- a rule, by what it makes of the stack
abbrev pub reduce_stack : Rule → State → Option State
reduce_stack rule st = option_and_then (λ vs. Some (with_values st vs)) (reduced rule st.values)

pub nameless : (rule : Rule) (st : State) → (rule ≡ r.Let → ⊥) → (rule ≡ r.For → ⊥) → (rule ≡ r.Iterate → ⊥) → (rule ≡ r.Bind → ⊥) → (rule ≡ r.Param → ⊥) → reduce rule st ≡ reduce_stack rule st
nameless r.Program st _ _ _ _ _ = refl
nameless r.WithoutParams st _ _ _ _ _ = refl
nameless r.WithParams st _ _ _ _ _ = refl
nameless r.NextParam st _ _ _ _ _ = refl
nameless r.Param st _ _ _ _ h = absurd (h refl)
nameless r.Expr st _ _ _ _ _ = refl
nameless r.Let st h _ _ _ _ = absurd (h refl)
nameless r.Note st _ _ _ _ _ = refl
nameless r.Or st _ _ _ _ _ = refl
nameless r.OrPart st _ _ _ _ _ = refl
nameless r.And st _ _ _ _ _ = refl
nameless r.AndPart st _ _ _ _ _ = refl
nameless r.Equality st _ _ _ _ _ = refl
nameless r.EqualityPart st _ _ _ _ _ = refl
nameless r.EqualityOp st _ _ _ _ _ = refl
nameless r.Relation st _ _ _ _ _ = refl
nameless r.RelationPart st _ _ _ _ _ = refl
nameless r.RelationOp st _ _ _ _ _ = refl
nameless r.Sum st _ _ _ _ _ = refl
nameless r.SumPart st _ _ _ _ _ = refl
nameless r.SumOp st _ _ _ _ _ = refl
nameless r.Product st _ _ _ _ _ = refl
nameless r.ProductPart st _ _ _ _ _ = refl
nameless r.ProductOp st _ _ _ _ _ = refl
nameless r.Unary st _ _ _ _ _ = refl
nameless r.Minus st _ _ _ _ _ = refl
nameless r.Minused st _ _ _ _ _ = refl
nameless r.Not st _ _ _ _ _ = refl
nameless r.Post st _ _ _ _ _ = refl
nameless r.FieldPart st _ _ _ _ _ = refl
nameless r.Primary st _ _ _ _ _ = refl
nameless r.Paren st _ _ _ _ _ = refl
nameless r.MakeVec st _ _ _ _ _ = refl
nameless r.MakeStruct st _ _ _ _ _ = refl
nameless r.NextExpr st _ _ _ _ _ = refl
nameless r.If st _ _ _ _ _ = refl
nameless r.Select st _ _ _ _ _ = refl
nameless r.LookUp st _ _ _ _ _ = refl
nameless r.KeyExists st _ _ _ _ _ = refl
nameless r.Len st _ _ _ _ _ = refl
nameless r.Slice st _ _ _ _ _ = refl
nameless r.Merge st _ _ _ _ _ = refl
nameless r.Finish st _ _ _ _ _ = refl
nameless r.For st _ h _ _ _ = absurd (h refl)
nameless r.Iterate st _ _ h _ _ = absurd (h refl)
nameless r.Cast st _ _ _ _ _ = refl
nameless r.Rows st _ _ _ _ _ = refl
nameless r.Zip st _ _ _ _ _ = refl
nameless r.NextLeg st _ _ _ _ _ = refl
nameless r.Leg st _ _ _ _ _ = refl
nameless r.Iter st _ _ _ _ _ = refl
nameless r.Bind st _ _ _ h _ = absurd (h refl)
nameless r.Build st _ _ _ _ _ = refl
nameless r.ListBuild st _ _ _ _ _ = refl
nameless r.TotalBuild st _ _ _ _ _ = refl
nameless r.KeyedBuild st _ _ _ _ _ = refl
nameless r.CellsBuild st _ _ _ _ _ = refl
nameless r.GroupsBuild st _ _ _ _ _ = refl
nameless r.Start st _ _ _ _ _ = refl
nameless r.AnyType st _ _ _ _ _ = refl
nameless r.VecType st _ _ _ _ _ = refl
nameless r.StructType st _ _ _ _ _ = refl
nameless r.NextType st _ _ _ _ _ = refl
nameless r.DictType st _ _ _ _ _ = refl
nameless r.ListType st _ _ _ _ _ = refl
nameless r.TotalType st _ _ _ _ _ = refl
nameless r.KeyedType st _ _ _ _ _ = refl
nameless r.CellsType st _ _ _ _ _ = refl
nameless r.GroupsType st _ _ _ _ _ = refl
nameless r.ListWord st _ _ _ _ _ = refl
nameless r.GroupsWord st _ _ _ _ _ = refl
nameless r.MergeOp st _ _ _ _ _ = refl
nameless r.Kind st _ _ _ _ _ = refl
nameless r.IntKind st _ _ _ _ _ = refl

or_else-none : (m : Option Refused) → or_else m None ≡ m
or_else-none None = refl
or_else-none (Some refused) = refl

-- no refusal changes nothing
pub refuse_none : (st : State) → refuse None st ≡ st
refuse_none st = ap (λ m. record { values = st.values; binders = st.binders; scope = st.scope; next = st.next; misnamed = m; params = st.params }) (or_else-none st.misnamed)

-- ---- fields

pub field_is_told : (word : List ℕ) → class_of word ≡ Some classes.Field → is_field (class_of word) ≡ true
field_is_told word e = ap is_field e

pub no_field_is_told : (word : List ℕ) → (class_of word ≡ Some classes.Field → ⊥) → is_field (class_of word) ≡ false
no_field_is_told word h = without (class_of word) h
  where
    without : (o : Option Class) → (o ≡ Some classes.Field → ⊥) → is_field o ≡ false
    without (Some classes.Field) h = absurd (h refl)
    without _ h = refl
