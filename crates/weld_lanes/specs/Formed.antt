-- Which steps are well formed.
use Rattle.std.specs.Prelude.{ℕ, suc, Bool, true, false, ◌&&◌, int_le, List, [], ◌∷◌, nat_lt}
use Rattle.weld_data.specs.declared.kind.Kind.{Kind}
use Rattle.weld_data.specs.declared.op.BinOp.{BinOp}
use Rattle.weld_data.specs.declared.op.BinOp.TheVariants as ops
use Rattle.weld_data.specs.Kind.{least, greatest}
use Rattle.weld_lanes.specs.declared.steps.LaneStep.{LaneStep}
use Rattle.weld_lanes.specs.declared.steps.LaneStep.TheVariants as steps

-- arithmetic that always answers
abbrev pub is_arithmetic : BinOp → Bool
is_arithmetic ops.Add = true
is_arithmetic ops.Sub = true
is_arithmetic ops.Mul = true
is_arithmetic ops.Div = false
is_arithmetic ops.Rem = false
is_arithmetic ops.Eq = false
is_arithmetic ops.Ne = false
is_arithmetic ops.Lt = false
is_arithmetic ops.Le = false
is_arithmetic ops.Gt = false
is_arithmetic ops.Ge = false

abbrev pub is_comparison : BinOp → Bool
is_comparison ops.Add = false
is_comparison ops.Sub = false
is_comparison ops.Mul = false
is_comparison ops.Div = false
is_comparison ops.Rem = false
is_comparison ops.Eq = true
is_comparison ops.Ne = true
is_comparison ops.Lt = true
is_comparison ops.Le = true
is_comparison ops.Gt = true
is_comparison ops.Ge = true

-- behind so many steps the step may stand: it names steps among them, its operator is of its sort, and a literal is a number of the kind
abbrev pub is_formed : Kind → ℕ → LaneStep → Bool
is_formed k n steps.A = true
is_formed k n steps.B = true
is_formed k n (steps.Lit x) = int_le (least k) x && int_le x (greatest k)
is_formed k n (steps.Uniform u) = true
is_formed k n (steps.Arith op i j) = is_arithmetic op && (nat_lt i n && nat_lt j n)
is_formed k n (steps.Compare op i j) = is_comparison op && (nat_lt i n && nat_lt j n)
is_formed k n (steps.Truth t) = true
is_formed k n (steps.Not i) = nat_lt i n
is_formed k n (steps.And i j) = nat_lt i n && nat_lt j n
is_formed k n (steps.Or i j) = nat_lt i n && nat_lt j n
is_formed k n (steps.Select c i j) = nat_lt c n && (nat_lt i n && nat_lt j n)

-- each of the steps may stand in its place, behind so many others
abbrev pub are_formed : Kind → ℕ → List LaneStep → Bool
are_formed k n [] = true
are_formed k n (s ∷ ss) = is_formed k n s && are_formed k (suc n) ss
