-- Several items merged one after another.
use Rattle.std.specs.Prelude.{◌≡◌, Bool, true, false, List, [], ◌∷◌, Result, Ok, Err}
use Rattle.weld_data.specs.declared.kind.Kind.{Kind}
use Rattle.weld_data.specs.declared.kind.Kind.TheVariants as kinds
use Rattle.weld_data.specs.Value.{Value}
use Rattle.weld_builders.specs.Outcome.{Outcome, done, and_then}
use Rattle.weld_builders.specs.Part.{Part, list_part, total_part, totals_part, cells_part, keyed_part, groups_part, kinds_of, merge_part}

-- the first item first, up to a fault
abbrev pub merge_all : Part → List Value → Outcome Part
merge_all p [] = done p
merge_all p (v ∷ vs) = and_then (merge_part p v) (λ q. merge_all q vs)

-- numbers of the kind are items of the builder: of a list any are, of a total those of its kind
abbrev pub TakesNumbers : Part → Kind → Type 0
TakesNumbers (list_part vs) kind = Unit {0}
TakesNumbers (total_part op k x) kind = kind ≡ k
TakesNumbers (totals_part op xs) kind = ⊥
TakesNumbers (cells_part op k xs) kind = ⊥
TakesNumbers (keyed_part op k m) kind = ⊥
TakesNumbers (groups_part m) kind = ⊥

-- pairs of numbers of two kinds are items of the builder: of a list and of groups any are, of cells those of an index and a number of their kind, of numbers by keys those of any number and one of their kind, of totals those of their two kinds
abbrev pub TakesPairs : Part → Kind → Kind → Type 0
TakesPairs (list_part vs) key kind = Unit {0}
TakesPairs (total_part op k x) key kind = ⊥
TakesPairs (totals_part op xs) key kind = kinds_of xs ≡ key ∷ kind ∷ []
TakesPairs (cells_part op k xs) key kind = (key ≡ kinds.I64) × (kind ≡ k)
TakesPairs (keyed_part op k m) key kind = kind ≡ k
TakesPairs (groups_part m) key kind = Unit {0}

-- what it answers that appends all or nothing: true, that what is there then is so; false, that nothing has changed; want of memory says nothing
abbrev pub MayAppend : {X E : Type 0} → Result Bool E → X → (X → Type 0) → X → Type 0
MayAppend (Ok true) old All new = All new
MayAppend (Ok false) old All new = new ≡ old
MayAppend (Err e) old All new = Unit {0}
