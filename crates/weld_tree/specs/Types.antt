-- What types are, and what builders take and give.
use Rattle.std.specs.Prelude.{◌≤◌, ◌⊎◌}
use Rattle.weld_data.specs.declared.kind.Kind.TheVariants.{I64}
use Rattle.weld_data.specs.Kind.{IsInteger}
use Rattle.weld_tree.specs.TypeTree.{TypeTree, BuildTree, TypeTrees, scalar, vec, struct, dict, build, list, total, keyed, cells, groups, no_types, more_types, type_nodes, type_depth}

-- no builder stands in the type
abbrev mutual
  pub IsBuilderFree : TypeTree → Type 0
  IsBuilderFree (scalar k) = Unit {0}
  IsBuilderFree (vec t) = IsBuilderFree t
  IsBuilderFree (struct ts) = AreBuilderFree ts
  IsBuilderFree (dict k v) = IsBuilderFree k × IsBuilderFree v
  IsBuilderFree (build b) = ⊥

  pub AreBuilderFree : TypeTrees → Type 0
  AreBuilderFree no_types = Unit {0}
  AreBuilderFree (more_types t ts) = IsBuilderFree t × AreBuilderFree ts

-- the type is one of the five builders, or a struct whose fields are all builder types
abbrev mutual
  pub IsBuilder : TypeTree → Type 0
  IsBuilder (scalar k) = ⊥
  IsBuilder (vec t) = ⊥
  IsBuilder (struct ts) = AreBuilders ts
  IsBuilder (dict k v) = ⊥
  IsBuilder (build b) = Unit {0}

  pub AreBuilders : TypeTrees → Type 0
  AreBuilders no_types = Unit {0}
  AreBuilders (more_types t ts) = IsBuilder t × AreBuilders ts

-- the type is a scalar
abbrev pub IsScalarType : TypeTree → Type 0
IsScalarType (scalar k) = Unit {0}
IsScalarType (vec t) = ⊥
IsScalarType (struct ts) = ⊥
IsScalarType (dict k v) = ⊥
IsScalarType (build b) = ⊥

-- the type is an integer kind
abbrev pub IsIntegerType : TypeTree → Type 0
IsIntegerType (scalar k) = IsInteger k
IsIntegerType (vec t) = ⊥
IsIntegerType (struct ts) = ⊥
IsIntegerType (dict k v) = ⊥
IsIntegerType (build b) = ⊥

abbrev pub AreIntegerTypes : TypeTrees → Type 0
AreIntegerTypes no_types = Unit {0}
AreIntegerTypes (more_types t ts) = IsIntegerType t × AreIntegerTypes ts

-- the type is a scalar or a vector of scalars
abbrev pub IsKeyField : TypeTree → Type 0
IsKeyField (scalar k) = Unit {0}
IsKeyField (vec t) = IsScalarType t
IsKeyField (struct ts) = ⊥
IsKeyField (dict k v) = ⊥
IsKeyField (build b) = ⊥

abbrev pub AreKeyFields : TypeTrees → Type 0
AreKeyFields no_types = Unit {0}
AreKeyFields (more_types t ts) = IsKeyField t × AreKeyFields ts

-- there is some type
abbrev pub HasTypes : TypeTrees → Type 0
HasTypes no_types = ⊥
HasTypes (more_types t ts) = Unit {0}

-- dictionaries may have keys of the type: a key field, or a struct of such
abbrev pub IsKey : TypeTree → Type 0
IsKey (struct ts) = HasTypes ts × AreKeyFields ts
IsKey t = IsKeyField t

-- the type is an integer kind, or a struct of integer kinds: what a merger combines
abbrev pub IsMergerType : TypeTree → Type 0
IsMergerType (struct ts) = HasTypes ts × AreIntegerTypes ts
IsMergerType t = IsIntegerType t

-- the type is well formed
abbrev mutual
  pub IsWellFormed : TypeTree → Type 0
  IsWellFormed (scalar k) = Unit {0}
  IsWellFormed (vec t) = IsWellFormed t × IsBuilderFree t
  IsWellFormed (struct ts) = HasTypes ts × AreWellFormed ts × (AreBuilderFree ts ⊎ AreBuilders ts)
  IsWellFormed (dict k v) = IsKey k × IsWellFormed v × IsBuilderFree v
  IsWellFormed (build b) = IsWellFormedBuild b

  pub IsWellFormedBuild : BuildTree → Type 0
  IsWellFormedBuild (list t) = IsWellFormed t × IsBuilderFree t
  IsWellFormedBuild (total t op) = IsMergerType t
  IsWellFormedBuild (keyed k v op) = IsKey k × IsIntegerType v
  IsWellFormedBuild (cells t op) = IsIntegerType t
  IsWellFormedBuild (groups k v) = IsKey k × IsWellFormed v × IsBuilderFree v

  pub AreWellFormed : TypeTrees → Type 0
  AreWellFormed no_types = Unit {0}
  AreWellFormed (more_types t ts) = IsWellFormed t × AreWellFormed ts

-- the type is within the limits on written types: depth 16 and 256 type nodes
pub record IsWithinLimits (t : TypeTree) : Type 0 where
  pub depth : type_depth t ≤ 16
  pub nodes : type_nodes t ≤ 256

-- the struct of two types
abbrev pub pair_of : TypeTree → TypeTree → TypeTree
pair_of s t = struct (more_types s (more_types t no_types))

-- the type of what is merged into a builder
abbrev pub takes : BuildTree → TypeTree
takes (list t) = t
takes (total t op) = t
takes (keyed k v op) = pair_of k v
takes (cells t op) = pair_of (scalar I64) t
takes (groups k v) = pair_of k v

-- the type of a builder's result
abbrev pub gives : BuildTree → TypeTree
gives (list t) = vec t
gives (total t op) = t
gives (keyed k v op) = dict k v
gives (cells t op) = vec t
gives (groups k v) = dict k (vec v)
