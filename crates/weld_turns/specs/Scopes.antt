-- The names of a body, and what code means there.
use Rattle.std.specs.Prelude.{◌≡◌, ℕ, zero, suc, ◌+◌, ◌/◌, ◌%◌, ◌≤◌, ◌==◌, Bool, if◌then◌else◌, List, [], ◌∷◌, pos, Some, None}
use Rattle.weld_data.specs.declared.kind.Kind.TheVariants as kinds
use Rattle.weld_data.specs.Value.{Value, Values, number, list, struct, dict, no_values, and_value}
use Rattle.weld_tree.specs.ExprTree.{ExprTree, leaf, name, make_struct}
use Rattle.weld_builders.specs.Outcome.{Outcome, done, and_then, map_out}
use Rattle.weld_meaning.specs.Evaluation.{Env, truth_value, many_thing}
use Rattle.weld_meaning.specs.Environment.{look_for}
use Rattle.weld_built.specs.Pair.{pair}
use Rattle.weld_meaning.specs.Thing.{Thing, plain, value_field, no_things, more_things}
use Rattle.weld_turns.specs.CodeView.{Slots, shape_value, slot_limit, value, turn_value}
use Rattle.weld_turns.specs.declared.code.Code.{Code}
use Rattle.weld_turns.specs.declared.code.Turn.{Turn}
use Rattle.weld_turns.specs.declared.code.Shape.{Shape}
use Rattle.weld_turns.specs.declared.code.Shape.TheVariants.{One, Fields}
use Rattle.weld_turns.specs.declared.code.Place.{Place}
use Rattle.weld_turns.specs.declared.code.Site.{Site}
use Rattle.weld_turns.specs.declared.code.Site.TheVariants as sites
use Rattle.weld_turns.specs.declared.code.Spread.{Spread}
use Rattle.weld_turns.specs.declared.scope.Scope.{Scope, fold-Scope}
use Rattle.weld_turns.specs.declared.scope.Scope.TheOpen.{Scope-F}

-- names with where their values stand, the newest first
abbrev pub Sites : Type 0
Sites = List (ℕ × Site)

-- the names with one more, where there is one
abbrev pub scope_step : Scope-F Sites → Sites
scope_step Scope-F.End = []
scope_step (Scope-F.And s p rest) = (s.0, p) ∷ rest.now

abbrev pub view_scope : Scope → Sites
view_scope = fold-Scope Sites scope_step

-- ---- structs of which fields stand in slots

-- the lowest bit is set
abbrev pub is_odd : ℕ → Bool
is_odd bits = bits % 2 == 1

-- the bit of that place is set
abbrev pub takes : ℕ → ℕ → Bool
takes bits zero = is_odd bits
takes bits (suc k) = takes (bits / 2) k

-- the first value; past the last one nothing is asked for
abbrev pub first_of : Values → Value
first_of no_values = number kinds.Bool (pos 0)
first_of (and_value v vs) = v

-- the values behind the first one
abbrev pub rest_of : Values → Values
rest_of no_values = no_values
rest_of (and_value v vs) = vs

-- the fields of a struct; of another value none
abbrev pub fields_in : Value → Values
fields_in (number k x) = no_values
fields_in (list vs) = no_values
fields_in (struct vs) = vs
fields_in (dict es) = no_values

-- the values, of which so many first ones, where their bits are set, are those of the slots from that one on
abbrev pub put_fields : ℕ → ℕ → ℕ → Slots → Values → Values
put_fields zero bits first f vs = vs
put_fields (suc n) bits first f vs = and_value (if is_odd bits then f first else first_of vs) (put_fields n (bits / 2) (suc first) f (rest_of vs))

-- the fields of what the name stands for outside of the slots, which is past them
abbrev pub whole_of : Slots → ℕ → Values
whole_of f s = fields_in (f (slot_limit + s))

-- ---- names

-- the value that stands there
abbrev pub site_value : Site → Slots → Value
site_value (sites.Whole p) f = shape_value p.shape p.first f
site_value (sites.Spread p) f = struct (put_fields p.fields p.taken p.first f (whole_of f p.name.0))

-- the names that stand in slots, and those outside
abbrev pub with_scope : Sites → Slots → Env → Env
with_scope [] f env = env
with_scope (n ∷ ns) f env = (n.0, plain (site_value n.1 f)) ∷ with_scope ns f env

-- how many slots a shape takes
abbrev pub room_of : Shape → ℕ
room_of One = 1
room_of (Fields n) = n

-- the slot behind the last one of it
abbrev pub end_of : Site → ℕ
end_of (sites.Whole p) = p.first + room_of p.shape
end_of (sites.Spread p) = p.first + p.fields

-- each ends at that slot or before
abbrev pub AreBelow : Sites → ℕ → Type 0
AreBelow [] next = Unit {0}
AreBelow (n ∷ ns) next = (end_of n.1 ≤ next) × AreBelow ns next

-- whatever the slots have, the code comes to what is looked at
abbrev pub Means : Code → Sites → Env → (Env → Outcome Thing) → Type 0
Means c ns env comes = (f : Slots) → comes (with_scope ns f env) ≡ map_out plain (value c f)

-- the same of a turn
abbrev pub TurnMeans : Turn → Shape → Sites → Env → (Env → Outcome Thing) → Type 0
TurnMeans t shape ns env comes = (f : Slots) → comes (with_scope ns f env) ≡ map_out plain (turn_value t shape f)

-- the expression is a use of the name
abbrev pub IsNameOf : ExprTree → ℕ → Type 0
IsNameOf (leaf at l) s = l ≡ name s
IsNameOf _ s = ⊥

-- whatever the slots have, the code comes to that truth value
abbrev pub IsTruth : Code → Bool → Type 0
IsTruth c b = (f : Slots) → value c f ≡ done (truth_value b)

-- whatever the slots have, the code comes to the field of that number of what stands in a place
abbrev pub IsFieldSlot : Code → ℕ → Place → Type 0
IsFieldSlot c n p = (f : Slots) → value_field n (shape_value p.shape p.first f) ≡ value c f

-- the same of a struct of so many that stands in slots from that one on
abbrev pub IsStructSlot : Code → ℕ → ℕ → ℕ → Type 0
IsStructSlot c n count first = (f : Slots) → value_field n (shape_value (Fields count) first f) ≡ value c f

-- the same of a struct of which fields stand in slots
abbrev pub IsSpreadSlot : Code → ℕ → Spread → Type 0
IsSpreadSlot c n p = (f : Slots) → value_field n (site_value (sites.Spread p) f) ≡ value c f

-- the expression is a name of a state that stands in slots from that one on
abbrev pub IsStateAt : ExprTree → Shape → Sites → ℕ → Type 0
IsStateAt e shape ns first = (s : ℕ) × (p : Place) × IsNameOf e s × (look_for s ns ≡ Some (sites.Whole p)) × (p.shape ≡ shape) × (p.first ≡ first)

-- the struct of a state and of whether to go on
abbrev pub ended : Outcome Thing → Outcome Thing → Outcome Thing
ended state flag = and_then (and_then state (λ t. map_out (more_things t) (and_then flag (λ u. map_out (more_things u) (done no_things))))) (many_thing make_struct)

-- whatever the slots have, the turn is the end whose state stands in slots from that one on
abbrev pub IsEndAt : Turn → ℕ → Sites → Env → (Env → Outcome Thing) → Type 0
IsEndAt t first ns env flag = (c : Code) × Means c ns env flag × ((shape : Shape) (f : Slots) → turn_value t shape f ≡ and_then (value c f) (λ v. done (pair (shape_value shape first f) v)))

-- the expression is a name of what stands in that place
abbrev pub IsNamedAt : ExprTree → Sites → Place → Type 0
IsNamedAt e ns p = (s : ℕ) × IsNameOf e s × (look_for s ns ≡ Some (sites.Whole p))

-- the expression is a name of nothing that stands in slots
abbrev pub IsOutsideName : ExprTree → Sites → ℕ → Type 0
IsOutsideName e ns s = IsNameOf e s × (look_for s ns ≡ None)
