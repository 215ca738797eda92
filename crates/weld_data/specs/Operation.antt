-- What the operators do with whole numbers of one kind.
use Rattle.std.specs.Prelude.{Bool, true, false, not, if◌then◌else◌, ℤ, pos, ◌+ℤ◌, ◌-ℤ◌, ◌*ℤ◌, int_lt, int_le, int_div, int_rem, Option, Some, None}
use Rattle.std.specs.Int.{int_min, int_max}
use Rattle.std.specs.Ordering.{int_eq}
use Rattle.weld_data.specs.declared.kind.Kind.{Kind}
use Rattle.weld_data.specs.declared.kind.Kind.TheVariants as kinds
use Rattle.weld_data.specs.declared.op.BinOp.{BinOp}
use Rattle.weld_data.specs.declared.op.BinOp.TheVariants.{Add, Sub, Mul, Div, Rem, Eq, Ne, Lt, Le, Gt, Ge}
use Rattle.weld_data.specs.declared.op.MergeOp.{MergeOp}
use Rattle.weld_data.specs.declared.op.MergeOp.TheVariants as merge
use Rattle.weld_data.specs.Kind.{IsInteger, least, greatest}
use Rattle.weld_data.specs.Wrapped.{wrapped}

-- false is 0 and true is 1
abbrev pub truth : Bool → ℤ
truth false = pos 0
truth true = pos 1

-- truth values can only be tested for equality
abbrev pub TakesKind : BinOp → Kind → Type 0
TakesKind Eq kind = Unit {0}
TakesKind Ne kind = Unit {0}
TakesKind _ kind = IsInteger kind

-- the operator divides
abbrev pub Divides : BinOp → Type 0
Divides Div = Unit {0}
Divides Rem = Unit {0}
Divides _ = ⊥

-- the kind of the operator's answer: comparisons answer truth values
abbrev pub answer_kind : BinOp → Kind → Kind
answer_kind Add kind = kind
answer_kind Sub kind = kind
answer_kind Mul kind = kind
answer_kind Div kind = kind
answer_kind Rem kind = kind
answer_kind Eq kind = kinds.Bool
answer_kind Ne kind = kinds.Bool
answer_kind Lt kind = kinds.Bool
answer_kind Le kind = kinds.Bool
answer_kind Gt kind = kinds.Bool
answer_kind Ge kind = kinds.Bool

-- the wrapped sum, difference, product or quotient, truncated; the remainder, with the sign of the dividend; or the truth of the comparison. A quotient or a remainder by 0 is none
abbrev pub operation : BinOp → Kind → ℤ → ℤ → Option ℤ
operation Add kind x y = Some (wrapped kind (x +ℤ y))
operation Sub kind x y = Some (wrapped kind (x -ℤ y))
operation Mul kind x y = Some (wrapped kind (x *ℤ y))
operation Div kind x y = if int_eq y (pos 0) then None else Some (wrapped kind (int_div x y))
operation Rem kind x y = if int_eq y (pos 0) then None else Some (int_rem x y)
operation Eq kind x y = Some (truth (int_eq x y))
operation Ne kind x y = Some (truth (not (int_eq x y)))
operation Lt kind x y = Some (truth (int_lt x y))
operation Le kind x y = Some (truth (int_le x y))
operation Gt kind x y = Some (truth (int_lt y x))
operation Ge kind x y = Some (truth (int_le y x))

-- the wrapped sum or product, the less or the greater number
abbrev pub combination : MergeOp → Kind → ℤ → ℤ → ℤ
combination merge.Add kind x y = wrapped kind (x +ℤ y)
combination merge.Mul kind x y = wrapped kind (x *ℤ y)
combination merge.Min kind x y = int_min x y
combination merge.Max kind x y = int_max x y

-- the number that a builder of this operator starts with: 0, 1, the greatest or the least number of the kind
abbrev pub start_of : MergeOp → Kind → ℤ
start_of merge.Add kind = pos 0
start_of merge.Mul kind = pos 1
start_of merge.Min kind = greatest kind
start_of merge.Max kind = least kind
