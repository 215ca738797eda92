-- The names in scope in the code: beside each the number of the binder that it hides, and the newest of each name in a map.
use Rattle.std.specs.Prelude.{◌≡◌, ℕ, if◌then◌else◌, Option, Some, None, List, [], ◌∷◌, map, bytes_eq}
use Rattle.std.specs.HashMap.{HashMap, get_by}
use denote.Ref.{Bor}
use Rattle.weld_spell.specs.ProgramOf.{Bound}
use Rattle.weld_reduce.specs.Views.{view_seen}
use Rattle.weld_reduce.specs.declared.scope.Hiding.{Hiding}

-- the names
abbrev pub bounds : List Hiding → List Bound
bounds names = map (λ name. view_seen name.seen) names

-- the number of the newest binder of the name, if one is among them
abbrev pub newest_number : List Bound → List ℕ → Option ℕ
newest_number [] bytes = None
newest_number (b ∷ scope) bytes = if bytes_eq b.bytes bytes then Some b.number else newest_number scope bytes

-- each has the number of the newest binder of its name among those before it; the newest first
abbrev pub HideEachOther : List Hiding → Type 0
HideEachOther [] = Unit {0}
HideEachOther (name ∷ names) = (name.hidden ≡ newest_number (bounds names) (view_seen name.seen).bytes) × HideEachOther names

-- the number that the map has at a name
abbrev pub number_at : {S : Type 0} → HashMap (Bor (List ℕ)) ℕ S → List ℕ → Option ℕ
number_at numbers bytes = get_by (λ k. bytes_eq bytes k.now) numbers

-- the map has the newest of each name
pub record IsScope {S : Type 0} (numbers : HashMap (Bor (List ℕ)) ℕ S) (names : List Hiding) : Type 0 where
  pub newest : (bytes : List ℕ) → number_at numbers bytes ≡ newest_number (bounds names) bytes
  pub hidden : HideEachOther names
