-- What fills slots with the value of an expression.
use Rattle.std.specs.Prelude.{◌≡◌, ℕ, suc, ◌+◌, ◌≤◌}
use Rattle.weld_data.specs.Value.{Values, no_values, and_value}
use Rattle.weld_data.specs.declared.op.BinOp.{BinOp}
use Rattle.weld_tree.specs.ExprTree.{select}
use Rattle.weld_builders.specs.Outcome.{Outcome, done, fault, stuck, map_out}
use Rattle.weld_meaning.specs.Evaluation.{Env, operated, selected, three_thing}
use Rattle.weld_meaning.specs.Thing.{Thing, Things, plain, no_things, more_things}
use Rattle.weld_turns.specs.CodeView.{Slots, field_values, filled, shape_value, slot_limit, with_slot}
use Rattle.weld_turns.specs.Scopes.{with_scope, Sites}
use Rattle.weld_turns.specs.declared.code.Filling.{Filling}
use Rattle.weld_turns.specs.declared.code.Shape.{Shape}
use Rattle.weld_turns.specs.declared.code.Shape.TheVariants.{Fields}

-- the slots below that one are as they were, and all past the slots
pub record AreKept (first : ℕ) (f g : Slots) : Type 0 where
  pub below : (i : ℕ) → suc i ≤ first → g i ≡ f i
  pub past : (i : ℕ) → slot_limit ≤ i → g i ≡ f i

-- where slots were filled the thing is what stands from that one on, and those below are as they were; else it is the same fault
abbrev pub IsFilled : Outcome Thing → Outcome Slots → Shape → ℕ → Slots → Type 0
IsFilled o (done g) shape first f = (o ≡ done (plain (shape_value shape first g))) × AreKept first f g
IsFilled o fault shape first f = o ≡ fault
IsFilled o stuck shape first f = o ≡ stuck

-- whatever the slots have, those from that one on are filled with what is looked at
abbrev pub Fills : Filling → Shape → ℕ → Sites → Env → (Env → Outcome Thing) → Type 0
Fills t shape first ns env comes = (f : Slots) → IsFilled (comes (with_scope ns f env)) (filled t f) shape first f

-- whatever the slots have, those from the second on are filled with what stands from the first on
abbrev pub Copies : Filling → Shape → ℕ → ℕ → Type 0
Copies t shape from first = (f : Slots) → IsFilled (done (plain (shape_value shape from f))) (filled t f) shape first f

-- whatever the slots have, those from the second on are filled with what a `select` comes to whose truth value stands in the first
abbrev pub Selects : Filling → ℕ → ℕ → ℕ → Sites → Env → (Env → Outcome Thing) → (Env → Outcome Thing) → Type 0
Selects t n held first ns env x y = (f : Slots) → IsFilled (three_thing select (plain (f held)) (x (with_scope ns f env)) (y (with_scope ns f env))) (filled t f) (Fields n) first f

-- the same where its two structs stand in the slots behind that one
abbrev pub Picks : Filling → ℕ → ℕ → ℕ → Type 0
Picks t n held first = (f : Slots) → IsFilled (map_out plain (selected (f held) (shape_value (Fields n) (held + 1) f) (shape_value (Fields n) (held + 1 + n) f))) (filled t f) (Fields n) first f

-- whatever the slots have, the first is filled with what an operator makes of the numbers of both
abbrev pub IsWork : Filling → BinOp → ℕ → ℕ → Type 0
IsWork t op first second = (f : Slots) → filled t f ≡ map_out (with_slot f first) (operated op (f first) (f second))

-- ---- fields, one after another

-- the values as things
abbrev pub things_in : Values → Things
things_in no_values = no_things
things_in (and_value v vs) = more_things (plain v) (things_in vs)

-- where slots were filled the things are what stands in so many from that one on, and those below are as they were; else it is the same fault
abbrev pub AreFilled : Outcome Things → Outcome Slots → ℕ → ℕ → Slots → Type 0
AreFilled o (done g) n first f = (o ≡ done (things_in (field_values n first g))) × AreKept first f g
AreFilled o fault n first f = o ≡ fault
AreFilled o stuck n first f = o ≡ stuck

-- whatever the slots have, so many from that one on are filled with the things that are looked at
abbrev pub FillsFields : Filling → ℕ → ℕ → Sites → Env → (Env → Outcome Things) → Type 0
FillsFields t n first ns env come = (f : Slots) → AreFilled (come (with_scope ns f env)) (filled t f) n first f

-- whatever the slots have, so many from the second on are filled with what stands from the first on
abbrev pub CopiesFields : Filling → ℕ → ℕ → ℕ → Type 0
CopiesFields t n from first = (f : Slots) → AreFilled (done (things_in (field_values n from f))) (filled t f) n first f

-- whatever the slots have, so many from that one on are filled with these values
abbrev pub PutsFields : Filling → ℕ → Values → ℕ → Type 0
PutsFields t n vs first = (f : Slots) → AreFilled (done (things_in vs)) (filled t f) n first f
