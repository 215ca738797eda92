-- Operators on the words of numbers of one kind, place by place.
use Rattle.std.specs.Prelude.{◌≡◌, ℕ, ◌<◌, if◌then◌else◌, ℤ, pos, List, length, get_or, Some}
use Rattle.std.specs.Ordering.{int_eq}
use Rattle.weld_data.specs.declared.kind.Kind.{Kind}
use Rattle.weld_data.specs.declared.op.BinOp.{BinOp}
use Rattle.weld_data.specs.Kind.{InRange}
use Rattle.weld_data.specs.Operation.{operation, answer_kind}
use Rattle.weld_eval.specs.Word.{of_word}

-- the number of each word is one of the kind
abbrev pub AreInRange : Kind → List ℤ → Type 0
AreInRange kind xs = (place : ℕ) → InRange kind (of_word kind (get_or xs place (pos 0)))

-- so many are the words of what the operator makes of the numbers of those at their places
pub record AreWorked (op : BinOp) (kind : Kind) (xs ys zs : List ℤ) (count : ℕ) : Type 0 where
  pub long : length zs ≡ count
  pub each : (place : ℕ) → place < count → Some (of_word (answer_kind op kind) (get_or zs place (pos 0))) ≡ operation op kind (of_word kind (get_or xs place (pos 0))) (of_word kind (get_or ys place (pos 0)))
  pub in_range : (place : ℕ) → place < count → InRange (answer_kind op kind) (of_word (answer_kind op kind) (get_or zs place (pos 0)))

-- so many are the second or the third at their places, as the first, a truth value, says
pub record AreChosen (ts xs ys zs : List ℤ) (count : ℕ) : Type 0 where
  pub long : length zs ≡ count
  pub each : (place : ℕ) → place < count → get_or zs place (pos 0) ≡ (if int_eq (get_or ts place (pos 0)) (pos 1) then get_or xs place (pos 0) else get_or ys place (pos 0))
