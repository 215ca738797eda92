-- What code comes to where slots have these values.
use Rattle.std.specs.Prelude.{ℕ, zero, suc, ◌==◌, Bool, if◌then◌else◌, List, Option, Some, None, pos, slice_get}
use Rattle.weld_data.specs.declared.kind.Kind.TheVariants as kinds
use Rattle.weld_data.specs.Value.{Value, Values, number, struct, no_values, and_value}
use Rattle.weld_built.specs.Pair.{pair}
use Rattle.weld_builders.specs.Outcome.{Outcome, done, and_then, map_out}
use Rattle.weld_meaning.specs.Evaluation.{operated, negated, contrary, cast_to, truth_of, selected}
use Rattle.weld_eval.specs.ShortView.{view_short}
use Rattle.weld_eval.specs.declared.short.Short.{Short}
use Rattle.weld_turns.specs.declared.code.Code.{Code}
use Rattle.weld_turns.specs.declared.code.Code as code
use Rattle.weld_turns.specs.declared.code.Filling.{Filling}
use Rattle.weld_turns.specs.declared.code.Filling as filling
use Rattle.weld_turns.specs.declared.code.Turn.{Turn}
use Rattle.weld_turns.specs.declared.code.Turn as turns
use Rattle.weld_turns.specs.declared.code.Shape.{Shape}
use Rattle.weld_turns.specs.declared.code.Shape.TheVariants.{One, Fields}

-- ---- slots

-- the values of slots by their numbers
abbrev pub Slots : Type 0
Slots = ℕ → Value

-- code reads and writes slots below that number alone; past them stand values that are none of its own
abbrev pub slot_limit : ℕ
slot_limit = 18446744073709551616

-- the slots with another value in one
abbrev pub with_slot : Slots → ℕ → Value → Slots
with_slot f to v = λ i. if i == to then v else f i

-- past the slots that are there nothing is asked for
abbrev pub slot_value : Option Short → Value
slot_value (Some n) = view_short n
slot_value None = number kinds.Bool (pos 0)

abbrev pub slots_of : List Short → Slots
slots_of ss = λ i. slot_value (slice_get ss i)

-- the values of so many slots that follow each other, from that one on
abbrev pub field_values : ℕ → ℕ → Slots → Values
field_values zero first f = no_values
field_values (suc n) first f = and_value (f first) (field_values n (suc first) f)

-- the value of a shape that stands in slots from that one on: a number, or a struct of so many
abbrev pub shape_value : Shape → ℕ → Slots → Value
shape_value One first f = f first
shape_value (Fields n) first f = struct (field_values n first f)

-- ---- numbers

-- one of two outcomes, as a truth value says
abbrev pub either_of : {A : Type 0} → Value → Outcome A → Outcome A → Outcome A
either_of v o p = and_then (truth_of v) (λ (b : Bool). if b then o else p)

-- what the code comes to, by the meaning's own operators
abbrev pub value : Code → Slots → Outcome Value
value (code.Slot i) f = done (f i)
value (code.Literal n) f = done (view_short n)
value (code.Work' op a x b y) f = and_then (value x f) (λ v. and_then (value y f) (λ w. operated op v w))
value (code.Opposite' a x) f = and_then (value x f) (λ v. negated v)
value (code.Contrary' a x) f = and_then (value x f) (λ v. contrary v)
value (code.Cast' k a x) f = and_then (value x f) (λ v. cast_to k v)
value (code.Choice' a c b x d y) f = and_then (value c f) (λ u. either_of u (value x f) (value y f))
value (code.Select' a c b x d y) f = and_then (value c f) (λ u. and_then (value x f) (λ v. and_then (value y f) (λ w. selected u v w)))

-- ---- slots that are filled

-- the slots once they are filled
abbrev pub filled : Filling → Slots → Outcome Slots
filled (filling.Put to c) f = map_out (with_slot f to) (value c f)
filled (filling.Then' a x b y) f = and_then (filled x f) (filled y)
filled (filling.Either' c a x b y) f = and_then (value c f) (λ v. either_of v (filled x f) (filled y f))

-- ---- turns

-- what a turn comes to: the struct of the next state and of whether to go on
abbrev pub turn_value : Turn → Shape → Slots → Outcome Value
turn_value (turns.First' x a rest) shape f = and_then (filled x f) (λ g. turn_value rest shape g)
turn_value (turns.Either' c a x b y) shape f = and_then (value c f) (λ v. either_of v (turn_value x shape f) (turn_value y shape f))
turn_value (turns.End first c) shape f = and_then (value c f) (λ v. done (pair (shape_value shape first f) v))
