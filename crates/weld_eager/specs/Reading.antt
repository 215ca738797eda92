-- Arguments that are vectors, as the code reads them.
use Rattle.std.specs.Prelude.{◌≡◌, ℕ, ◌<◌, ℤ, pos, List, length, Option, Some, None}
use Rattle.std.specs.List.{AllByRecursion}
use Rattle.weld_data.specs.declared.kind.Kind.{Kind}
use Rattle.weld_data.specs.declared.kind.Kind.TheVariants as kinds
use Rattle.weld_data.specs.Wrapped.{wrapped}
use Rattle.weld_data.specs.Value.{Value, values}
use Rattle.weld_tree.specs.TypeTree.{TypeTree, scalar, vec}
use Rattle.weld_tree.specs.Types.{IsKey}
use Rattle.weld_tree.specs.HasValue.{HasValue, AllAre}
use Rattle.weld_builders.specs.Outcome.{Outcome, done, fault, map_out}
use Rattle.weld_builders.specs.ValueOrder.{ValueMap}
use Rattle.weld_eval.specs.Fits.{IsList}
use Rattle.weld_calls.specs.Lists.{paired, grouped}

-- what is answered, seen so, is the outcome; nothing is answered where it is a fault
abbrev pub IsFaultOr : {T A : Type 0} → Option T → (T → A) → Outcome A → Type 0
IsFaultOr None view o = o ≡ fault
IsFaultOr (Some x) view o = o ≡ done (view x)

-- the values are numbers of one kind
abbrev pub AreNumbers : List Value → Type 0
AreNumbers vs = (k : Kind) × AllAre (HasValue (scalar k)) (values vs)

-- a vector of numbers of one kind
abbrev pub IsNumberVector : Value → Type 0
IsNumberVector v = (k : Kind) × HasValue (vec (scalar k)) v

-- values that a list takes whose items are kept as numbers of a kind, or as values
abbrev pub AreKept : Option Kind → List Value → Type 0
AreKept (Some k) vs = AllAre (HasValue (scalar k)) (values vs)
AreKept None vs = Unit {0}

-- a vector of such values
abbrev pub IsKeptVector : Option Kind → Value → Type 0
IsKeptVector (Some k) v = HasValue (vec (scalar k)) v
IsKeptVector None v = IsList v

-- the number is that place, from 0, which is one of so many
abbrev pub IsPlaceAmong : ℤ → ℕ → ℕ → Type 0
IsPlaceAmong x place count = (x ≡ pos place) × (place < count)

-- a value of a type that keys may have
abbrev pub IsKeyOf : TypeTree → Value → Type 0
IsKeyOf t v = HasValue t v × IsKey t

-- such values, all of one type
abbrev pub AreKeys : List Value → Type 0
AreKeys vs = (t : TypeTree) × AllByRecursion (IsKeyOf t) vs

-- a vector of such values
abbrev pub IsKeyVector : Value → Type 0
IsKeyVector v = (t : TypeTree) × IsKey t × HasValue (vec t) v

-- each key has what the rule makes of what stands at its places
abbrev pub AreGrouped : {A B : Type 0} → (List A → B) → List Value → List A → ValueMap B → Type 0
AreGrouped rule keys xs m = map_out (grouped rule) (paired keys xs) ≡ done m

-- how many there are, wrapped
abbrev pub how_many_wrapped : {A : Type 0} → List A → ℤ
how_many_wrapped xs = wrapped kinds.I64 (pos (length xs))
