-- Operators on numbers of one kind.
use Rattle.weld_eval.proofs.ScalarLemmas as lemmas
use Rattle.std.proofs.Common.{ℕ, mod-eq_of_lt, ◌%◌, ◌<◌, ◌≡◌, ◌^◌, ℤ, pos, w64, Some, sym, ap}
use Rattle.std.proofs.Math.Nat.{mod-mod}
use Rattle.std.specs.Int.{cast_signed, int_wrap}
use Rattle.weld_data.specs.declared.kind.Kind.TheVariants as kinds
use Rattle.weld_data.specs.Wrapped.{wrapped}
use Rattle.weld_data.specs.declared.kind.Kind.{Kind}
use Rattle.weld_data.specs.declared.op.BinOp.{BinOp}
use Rattle.weld_data.specs.Kind.{IsInteger}
use Rattle.weld_data.specs.Operation.{operation, answer_kind}
use Rattle.weld_data.specs.Value.{number}
use Rattle.weld_builders.specs.Outcome.{done}
use Rattle.weld_meaning.specs.Evaluation.{operated}
use Rattle.weld_eval.specs.Fits.{AreOperands, IsIntegerNumber}

pub operated_some : (op : BinOp) (k m : Kind) (x y z : ℤ) → AreOperands op (number k x) (number m y) → Some z ≡ operation op k x y → operated op (number k x) (number m y) ≡ done (number (answer_kind op k) z)
operated_some = lemmas.operated_some

pub integer_kind : (k : Kind) (x : ℤ) → IsIntegerNumber (number k x) → IsInteger k
integer_kind = lemmas.integer_kind

-- a count that is read by its bits
pub counted : (n : ℕ) → n < 2 ^ 64 → cast_signed w64 n ≡ wrapped kinds.I64 (pos n)
unfolding int_wrap
counted n h = ap (cast_signed w64) (sym (mod-eq_of_lt {n = n} {m = 2 ^ 64} h))

-- a count that has gone around
pub counted_on : (n : ℕ) → wrapped kinds.I64 (pos (n % 2 ^ 64)) ≡ wrapped kinds.I64 (pos n)
unfolding int_wrap
counted_on n = ap (cast_signed w64) (mod-mod n (2 ^ 64))
