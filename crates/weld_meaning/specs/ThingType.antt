-- Which things are of a type.
use Rattle.std.specs.Prelude.{◌≡◌, ℕ, Some, List, [], ◌∷◌}
use Rattle.std.specs.FinMap as finite
use Rattle.weld_data.specs.Kind.{InRange}
use Rattle.weld_data.specs.Value.{Value, values}
use Rattle.weld_tree.specs.TypeTree.{TypeTree, BuildTree, TypeTrees, scalar, struct, build, list, total, keyed, cells, groups, no_types, more_types}
use Rattle.weld_tree.specs.Types.{HasTypes, IsWellFormedBuild}
use Rattle.weld_tree.specs.HasValue.{HasValue, AllAre}
use Rattle.weld_builders.specs.Part.{Part, Totals, list_part, total_part, totals_part, cells_part, keyed_part, groups_part}
use Rattle.weld_builders.specs.Range.{AllInRange}
use Rattle.weld_meaning.specs.Thing.{Thing, plain, building, several, Things, no_things, more_things}
use Rattle.weld_meaning.specs.Environment.{look_for}
use Rattle.weld_meaning.specs.Typing.{Types}
use Rattle.weld_meaning.specs.Evaluation.{Env}

-- each key is a first such one, and what stands at it a second such one
abbrev pub EntriesHave : {X : Type 0} → (Value → Type 0) → (X → Type 0) → List (Value × X) → Type 0
EntriesHave P Q [] = Unit {0}
EntriesHave P Q (e ∷ es) = P e.0 × Q e.1 × EntriesHave P Q es

-- a number of its field's kind, in range, for each field
abbrev pub TotalsFit : Totals → TypeTrees → Type 0
TotalsFit [] no_types = Unit {0}
TotalsFit [] (more_types t ts) = ⊥
TotalsFit (x ∷ xs) no_types = ⊥
TotalsFit (x ∷ xs) (more_types t ts) = (t ≡ scalar x.0) × InRange x.0 x.1 × TotalsFit xs ts

-- such numbers for the fields of a struct
abbrev pub AreTotals : Totals → TypeTree → Type 0
AreTotals xs (struct ts) = TotalsFit xs ts
AreTotals xs _ = ⊥

-- the part is a builder of the type: its operator and kind are the type's, its numbers are in range, and its values are of
-- the items' types
abbrev pub HasPart : Part → BuildTree → Type 0
HasPart (list_part vs) (list t) = AllAre (HasValue t) (values vs)
HasPart (total_part op k x) (total t o) = (o ≡ op) × (t ≡ scalar k) × InRange k x
HasPart (totals_part op xs) (total t o) = (o ≡ op) × AreTotals xs t
HasPart (cells_part op k xs) (cells t o) = (o ≡ op) × (t ≡ scalar k) × AllInRange k xs
HasPart (keyed_part op k m) (keyed s t o) = (o ≡ op) × (t ≡ scalar k) × EntriesHave (HasValue s) (InRange k) (finite.entries m)
HasPart (groups_part m) (groups s t) = EntriesHave (HasValue s) (λ vs. AllAre (HasValue t) (values vs)) (finite.entries m)
HasPart _ _ = ⊥

abbrev mutual
  -- the thing is of the type
  pub HasThing : Thing → TypeTree → Type 0
  HasThing (plain v) t = HasValue t v
  HasThing (building p) (build b) = IsWellFormedBuild b × HasPart p b
  HasThing (building p) _ = ⊥
  HasThing (several ts) (struct us) = HasTypes us × HaveBuilders ts us
  HasThing (several ts) _ = ⊥

  -- each of them is a builder of its type
  pub HaveBuilders : Things → TypeTrees → Type 0
  HaveBuilders no_things no_types = Unit {0}
  HaveBuilders no_things (more_types u us) = ⊥
  HaveBuilders (more_things t ts) no_types = ⊥
  HaveBuilders (more_things (plain v) ts) (more_types u us) = ⊥
  HaveBuilders (more_things (building p) ts) (more_types u us) = HasThing (building p) u × HaveBuilders ts us
  HaveBuilders (more_things (several ss) ts) (more_types u us) = HasThing (several ss) u × HaveBuilders ts us

-- each typed name stands for a thing of its type
pub record EnvFits (g : Types) (env : Env) : Type 0 where
  pub finds : (s : ℕ) (t : TypeTree) → look_for s g ≡ Some t → (thing : Thing) × (look_for s env ≡ Some thing) × HasThing thing t
