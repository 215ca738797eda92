-- What an evaluation comes to: it is done with a thing, it faults, or it is stuck, where a part isn't of the form that is asked for.
use Rattle.std.specs.Prelude.{Option, Some, None}

pub data Outcome (A : Type 0) : Type 0 where
  done : A → Outcome A
  fault : Outcome A
  stuck : Outcome A

-- goes on with what was done
abbrev pub and_then : {A B : Type 0} → Outcome A → (A → Outcome B) → Outcome B
and_then (done x) f = f x
and_then fault f = fault
and_then stuck f = stuck

-- changes what was done
abbrev pub map_out : {A B : Type 0} → (A → B) → Outcome A → Outcome B
map_out f (done x) = done (f x)
map_out f fault = fault
map_out f stuck = stuck

-- what is there, or a fault
abbrev pub or_fault : {A : Type 0} → Option A → Outcome A
or_fault (Some x) = done x
or_fault None = fault
