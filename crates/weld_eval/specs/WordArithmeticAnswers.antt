-- What the operators make of numbers, in words.
use Rattle.std.specs.Prelude.{◌≡◌, ℤ, Option, Some, None}
use Rattle.weld_data.specs.declared.kind.Kind.{Kind}
use Rattle.weld_data.specs.declared.op.BinOp.{BinOp}
use Rattle.weld_data.specs.Kind.{InRange}
use Rattle.weld_data.specs.Operation.{operation, answer_kind}
use Rattle.weld_eval.specs.Word.{of_word}

-- it is the word of what the operator makes of two numbers of the kind, where it makes one
abbrev pub IsWordOf : BinOp → Kind → ℤ → ℤ → Option ℤ → Type 0
IsWordOf op kind x y (Some z) = (Some (of_word (answer_kind op kind) z) ≡ operation op kind x y) × InRange (answer_kind op kind) (of_word (answer_kind op kind) z)
IsWordOf op kind x y None = None ≡ operation op kind x y
