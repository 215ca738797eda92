-- Types of Weld programs as plain data.
use Rattle.std.specs.Prelude.{◌≡◌, ℕ, ◌+◌, max, List, [], ◌∷◌, refl}
use Rattle.std.proofs.Common.{ap}
use Rattle.weld_data.specs.declared.kind.Kind.{Kind}
use Rattle.weld_data.specs.declared.op.MergeOp.{MergeOp}

-- a type: of a scalar, of a vector of items, of a struct by its fields, of a dictionary by its keys
-- and values, or of a builder
mutual
  pub data TypeTree : Type 0 where
    scalar : Kind → TypeTree
    vec : TypeTree → TypeTree
    struct : TypeTrees → TypeTree
    dict : TypeTree → TypeTree → TypeTree
    build : BuildTree → TypeTree

  -- a builder: of a list, of one number, of numbers by keys, of numbers by places, of lists by keys
  pub data BuildTree : Type 0 where
    list : TypeTree → BuildTree
    total : TypeTree → MergeOp → BuildTree
    keyed : TypeTree → TypeTree → MergeOp → BuildTree
    cells : TypeTree → MergeOp → BuildTree
    groups : TypeTree → TypeTree → BuildTree

  -- types in order
  pub data TypeTrees : Type 0 where
    no_types : TypeTrees
    more_types : TypeTree → TypeTrees → TypeTrees

-- the types of a list, as data
abbrev pub pack : List TypeTree → TypeTrees
pack [] = no_types
pack (t ∷ ts) = more_types t (pack ts)

-- the types, as a list
abbrev pub unpack : TypeTrees → List TypeTree
unpack no_types = []
unpack (more_types t ts) = t ∷ unpack ts

pub unpack-pack : (ts : List TypeTree) → unpack (pack ts) ≡ ts
unpack-pack [] = refl
unpack-pack (t ∷ ts) = ap (λ r. t ∷ r) (unpack-pack ts)

pub pack-unpack : (ts : TypeTrees) → pack (unpack ts) ≡ ts
pack-unpack no_types = refl
pack-unpack (more_types t ts) = ap (more_types t) (pack-unpack ts)

-- how many type nodes stand in a type, and how deep they nest; a scalar is one node of depth 1
abbrev mutual
  pub type_nodes : TypeTree → ℕ
  type_nodes (scalar k) = 1
  type_nodes (vec t) = 1 + type_nodes t
  type_nodes (struct ts) = 1 + types_nodes ts
  type_nodes (dict k v) = 1 + (type_nodes k + type_nodes v)
  type_nodes (build b) = 1 + build_nodes b

  -- in the brackets of a builder
  pub build_nodes : BuildTree → ℕ
  build_nodes (list t) = type_nodes t
  build_nodes (total t op) = type_nodes t
  build_nodes (keyed k v op) = type_nodes k + type_nodes v
  build_nodes (cells t op) = type_nodes t
  build_nodes (groups k v) = type_nodes k + type_nodes v

  -- in all of these together
  pub types_nodes : TypeTrees → ℕ
  types_nodes no_types = 0
  types_nodes (more_types t ts) = type_nodes t + types_nodes ts

abbrev mutual
  pub type_depth : TypeTree → ℕ
  type_depth (scalar k) = 1
  type_depth (vec t) = 1 + type_depth t
  type_depth (struct ts) = 1 + types_depth ts
  type_depth (dict k v) = 1 + max (type_depth k) (type_depth v)
  type_depth (build b) = 1 + build_depth b

  -- the deepest in the brackets of a builder
  pub build_depth : BuildTree → ℕ
  build_depth (list t) = type_depth t
  build_depth (total t op) = type_depth t
  build_depth (keyed k v op) = max (type_depth k) (type_depth v)
  build_depth (cells t op) = type_depth t
  build_depth (groups k v) = max (type_depth k) (type_depth v)

  -- the deepest of these, or 0 for none
  pub types_depth : TypeTrees → ℕ
  types_depth no_types = 0
  types_depth (more_types t ts) = max (type_depth t) (types_depth ts)
