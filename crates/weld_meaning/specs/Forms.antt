-- Which origins fit which types.
use Rattle.std.specs.Prelude.{◌≡◌, ℕ, Some}
use Rattle.weld_tree.specs.TypeTree.{TypeTree, TypeTrees, scalar, vec, struct as tuple, dict, build, no_types, more_types}
use Rattle.weld_tree.specs.Types.{IsBuilderFree, AreBuilders}
use Rattle.weld_meaning.specs.Environment.{Named, look_for}
use Rattle.weld_meaning.specs.Typing.{Types}
use Rattle.weld_meaning.specs.Origin.{Origin, value, made, own, outer, named, struct, Origins, no_origins, more_origins, origin_of_name}

-- the type is one of the five builders
abbrev pub IsOneBuilder : TypeTree → Type 0
IsOneBuilder (scalar k) = ⊥
IsOneBuilder (vec t) = ⊥
IsOneBuilder (tuple us) = ⊥
IsOneBuilder (dict k v) = ⊥
IsOneBuilder (build b) = Unit {0}

-- a value has a builder-free type, a builder one of the five, and a struct of builders the struct of their types
abbrev mutual
  pub HasForm : Origin → TypeTree → Type 0
  HasForm value t = IsBuilderFree t
  HasForm made t = IsOneBuilder t
  HasForm (own p) t = IsOneBuilder t
  HasForm outer t = IsOneBuilder t
  HasForm (named s p) t = IsOneBuilder t
  HasForm (struct os) (tuple us) = AreBuilders us × HaveForms os us
  HasForm (struct os) _ = ⊥

  pub HaveForms : Origins → TypeTrees → Type 0
  HaveForms no_origins no_types = Unit {0}
  HaveForms no_origins (more_types u us) = ⊥
  HaveForms (more_origins o os) no_types = ⊥
  HaveForms (more_origins o os) (more_types u us) = HasForm o u × HaveForms os us

-- each typed name comes from where its type says; a name without an origin is a value
pub record NamesHaveForms (g : Named Origin) (types : Types) : Type 0 where
  pub forms : (s : ℕ) (t : TypeTree) → look_for s types ≡ Some t → HasForm (origin_of_name s g) t
