-- Fields of what names from outside stand for.
use Rattle.std.specs.Prelude.{◌≡◌, ℕ, Option, Some, None}
use Rattle.weld_data.specs.Value.{Value}
use Rattle.weld_built.specs.Pair.{pair}
use Rattle.weld_eval.specs.ShortView.{view_short}
use Rattle.weld_eval.specs.declared.short.Short.{Short}
use Rattle.weld_builders.specs.Outcome.{done}
use Rattle.weld_meaning.specs.Environment.{look_for}
use Rattle.weld_meaning.specs.Evaluation.{Env}
use Rattle.weld_meaning.specs.Thing.{Thing, plain, field_of}

-- the field of the thing is that value
abbrev pub StandsFor : Thing → ℕ → Value → Type 0
StandsFor t field v = field_of field t ≡ done (plain v)

-- the field of what the name stands for is that value
abbrev pub IsFieldIn : ℕ → Env → ℕ → Value → Type 0
IsFieldIn s env field v = (t : Thing) × (look_for s env ≡ Some t) × StandsFor t field v

-- the thing is the struct of two numbers, where they were found
abbrev pub IsPairOf : Option (Short × Short) → Thing → Type 0
IsPairOf (Some p) t = t ≡ plain (pair (view_short p.0) (view_short p.1))
IsPairOf None t = Unit {0}

-- the name stands for the struct of two numbers, where they were found
abbrev pub StandsForPair : Option (Short × Short) → ℕ → Env → Type 0
StandsForPair (Some p) s env = look_for s env ≡ Some (plain (pair (view_short p.0) (view_short p.1)))
StandsForPair None s env = Unit {0}
