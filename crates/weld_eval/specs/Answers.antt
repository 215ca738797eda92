-- What an evaluation in the code answers, by what it means.
use Rattle.std.specs.Prelude.{◌≡◌, Result, Ok, Err}
use Rattle.weld_data.specs.declared.stop.Stop.{Stop}
use Rattle.weld_data.specs.declared.stop.Stop.TheVariants.{Fault, Memory}
use Rattle.weld_builders.specs.Outcome.{Outcome, done, fault}

-- Ok says that the meaning is done with what the result stands for; a fault, that the meaning is one; want of memory says nothing
abbrev pub Answers : {T A : Type 0} → (T → A) → Result T Stop → Outcome A → Type 0
Answers view (Ok x) o = o ≡ done (view x)
Answers view (Err Fault) o = o ≡ fault
Answers view (Err Memory) o = Unit {0}

-- where the answer is a fault, this holds
abbrev pub OnFault : {T : Type 0} → Result T Stop → Type 0 → Type 0
OnFault (Ok x) P = Unit {0}
OnFault (Err Fault) P = P
OnFault (Err Memory) P = Unit {0}

-- it tells of no want of memory
abbrev pub IsSure : {T : Type 0} → Result T Stop → Type 0
IsSure (Ok x) = Unit {0}
IsSure (Err Fault) = Unit {0}
IsSure (Err Memory) = ⊥
