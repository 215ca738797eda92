-- What is answered of code that is run.
use Rattle.std.specs.Prelude.{◌≡◌, ℤ, Bool, Option, Some, None, Result, Ok, Err, FitsSigned}
use Rattle.std.specs.Int.{w64}
use Rattle.weld_data.specs.declared.kind.Kind.{Kind}
use Rattle.weld_data.specs.Kind.{InRange}
use Rattle.weld_data.specs.Value.{Value, number}
use Rattle.weld_built.specs.Pair.{pair}
use Rattle.weld_builders.specs.Outcome.{Outcome, done, fault}
use Rattle.weld_meaning.specs.Evaluation.{truth_of}
use Rattle.weld_eval.specs.Word.{of_word}
use Rattle.weld_turns.specs.CodeView.{Slots, shape_value}
use Rattle.weld_turns.specs.declared.code.Halt.{Halt}
use Rattle.weld_turns.specs.declared.code.Halt.TheVariants.{Fault, Other}
use Rattle.weld_turns.specs.declared.code.Shape.{Shape}

-- it is done with the number of the kind that the word stands for
abbrev pub IsNumberIn : Kind → ℤ → Outcome Value → Type 0
IsNumberIn k x o = InRange k (of_word k x) × (o ≡ done (number k (of_word k x))) × FitsSigned w64 x

-- Ok says which number it comes to: the kind is answered, and the word is left in its place; a fault, that it is one; else nothing is said
abbrev pub KindAndWord : Result Kind Halt → ℤ → Outcome Value → Type 0
KindAndWord (Ok k) x o = IsNumberIn k x o
KindAndWord (Err Fault) x o = o ≡ fault
KindAndWord (Err Other) x o = Unit {0}

-- the same where the number is at hand; else nothing is said
abbrev pub KindAtHand : Option Kind → ℤ → Outcome Value → Type 0
KindAtHand (Some k) x o = IsNumberIn k x o
KindAtHand None x o = Unit {0}

-- Ok says that the slots are what it comes to; a fault, that it is one; else nothing is said
abbrev pub AreSlots : Result (Unit {0}) Halt → Slots → Outcome Slots → Type 0
AreSlots (Ok u) f o = o ≡ done f
AreSlots (Err Fault) f o = o ≡ fault
AreSlots (Err Other) f o = Unit {0}

-- the same of a turn: it answers whether to go on, and the next state stands in the first slots
abbrev pub NextState : Result Bool Halt → Shape → Slots → Outcome Value → Type 0
NextState (Ok go) shape f o = (v : Value) × (o ≡ done (pair (shape_value shape 0 f) v)) × (truth_of v ≡ done go)
NextState (Err Fault) shape f o = o ≡ fault
NextState (Err Other) shape f o = Unit {0}

-- it is the truth value that the number is; else nothing is said
abbrev pub IsTruthOf : Result Bool Halt → Value → Type 0
IsTruthOf (Ok b) v = truth_of v ≡ done b
IsTruthOf (Err Fault) v = ⊥
IsTruthOf (Err Other) v = Unit {0}

-- the same of an outcome
abbrev pub ComesToTruth : Result Bool Halt → Outcome Value → Type 0
ComesToTruth (Ok b) o = (v : Value) × (o ≡ done v) × (truth_of v ≡ done b)
ComesToTruth (Err Fault) o = o ≡ fault
ComesToTruth (Err Other) o = Unit {0}
