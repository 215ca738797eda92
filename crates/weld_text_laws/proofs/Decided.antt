-- Which types are of values, of cells and within the limits is decided.
use Rattle.std.proofs.Common.{◌≤◌, ◌<◌, ◌⊎◌, inl, inr, arith}
use Rattle.std.proofs.lemmas.Bool.{cases_lt}
use Rattle.weld_data.specs.declared.kind.Kind.{Kind}
use Rattle.weld_data.specs.declared.kind.Kind.TheVariants.{Bool, I8, I16, I32, I64, U8, U16, U32, U64}
use Rattle.weld_data.specs.Kind.{IsInteger}
use Rattle.weld_tree.specs.TypeTree.{TypeTree, BuildTree, TypeTrees, scalar, vec, struct, dict, build, list, total, keyed, cells, groups, no_types, more_types, type_nodes, type_depth}
use Rattle.weld_tree.specs.Types.{IsBuilderFree, AreBuilderFree, IsBuilder, AreBuilders, IsScalarType, IsIntegerType, AreIntegerTypes, IsMergerType, IsKeyField, AreKeyFields, HasTypes, IsKey, IsWellFormed, IsWellFormedBuild, AreWellFormed, IsWithinLimits}
use Rattle.weld_calls.specs.CallTypes.{IsValueType}
use Rattle.weld_table.specs.Table.{IsCell}

-- it holds, or it doesn't
abbrev pub Either : Type 0 → Type 0
Either P = P ⊎ ¬ P

yes : Either (Unit {0})
yes = inl tt

no : Either ⊥
no = inr (λ h. h)

both : (P Q : Type 0) → Either P → Either Q → Either (P × Q)
both P Q (inl p) (inl q) = inl (p, q)
both P Q (inr n) q = inr (λ h. n h.0)
both P Q p (inr n) = inr (λ h. n h.1)

all_three : (P Q R : Type 0) → Either P → Either Q → Either R → Either (P × Q × R)
all_three P Q R (inl p) (inl q) (inl r) = inl (p, q, r)
all_three P Q R (inr n) q r = inr (λ h. n h.0)
all_three P Q R p (inr n) r = inr (λ h. n h.1)
all_three P Q R p q (inr n) = inr (λ h. n h.2)

neither : (P Q : Type 0) → ¬ P → ¬ Q → P ⊎ Q → ⊥
neither P Q n m (inl p) = n p
neither P Q n m (inr q) = m q

one_of : (P Q : Type 0) → Either P → Either Q → Either (P ⊎ Q)
one_of P Q (inl p) q = inl (inl p)
one_of P Q p (inl q) = inl (inr q)
one_of P Q (inr n) (inr m) = inr (neither P Q n m)

-- ---- the parts of well formed types

mutual
  free : (t : TypeTree) → Either (IsBuilderFree t)
  free (scalar k) = yes
  free (vec t) = free t
  free (struct ts) = all_free ts
  free (dict k v) = both (IsBuilderFree k) (IsBuilderFree v) (free k) (free v)
  free (build b) = no

  all_free : (ts : TypeTrees) → Either (AreBuilderFree ts)
  all_free no_types = yes
  all_free (more_types t ts) = both (IsBuilderFree t) (AreBuilderFree ts) (free t) (all_free ts)

mutual
  builder : (t : TypeTree) → Either (IsBuilder t)
  builder (scalar k) = no
  builder (vec t) = no
  builder (struct ts) = builders ts
  builder (dict k v) = no
  builder (build b) = yes

  builders : (ts : TypeTrees) → Either (AreBuilders ts)
  builders no_types = yes
  builders (more_types t ts) = both (IsBuilder t) (AreBuilders ts) (builder t) (builders ts)

integer_kind : (k : Kind) → Either (IsInteger k)
integer_kind Bool = no
integer_kind I8 = yes
integer_kind I16 = yes
integer_kind I32 = yes
integer_kind I64 = yes
integer_kind U8 = yes
integer_kind U16 = yes
integer_kind U32 = yes
integer_kind U64 = yes

integer : (t : TypeTree) → Either (IsIntegerType t)
integer (scalar k) = integer_kind k
integer (vec t) = no
integer (struct ts) = no
integer (dict k v) = no
integer (build b) = no

a_scalar : (t : TypeTree) → Either (IsScalarType t)
a_scalar (scalar k) = yes
a_scalar (vec t) = no
a_scalar (struct ts) = no
a_scalar (dict k v) = no
a_scalar (build b) = no

key_field : (t : TypeTree) → Either (IsKeyField t)
key_field (scalar k) = yes
key_field (vec t) = a_scalar t
key_field (struct ts) = no
key_field (dict k v) = no
key_field (build b) = no

key_fields : (ts : TypeTrees) → Either (AreKeyFields ts)
key_fields no_types = yes
key_fields (more_types t ts) = both (IsKeyField t) (AreKeyFields ts) (key_field t) (key_fields ts)

some_types : (ts : TypeTrees) → Either (HasTypes ts)
some_types no_types = no
some_types (more_types t ts) = yes

key : (t : TypeTree) → Either (IsKey t)
key (scalar k) = yes
key (vec t) = a_scalar t
key (struct ts) = both (HasTypes ts) (AreKeyFields ts) (some_types ts) (key_fields ts)
key (dict k v) = no
key (build b) = no

integers : (ts : TypeTrees) → Either (AreIntegerTypes ts)
integers no_types = yes
integers (more_types t ts) = both (IsIntegerType t) (AreIntegerTypes ts) (integer t) (integers ts)

mergeable : (t : TypeTree) → Either (IsMergerType t)
mergeable (scalar k) = integer_kind k
mergeable (vec t) = no
mergeable (struct ts) = both (HasTypes ts) (AreIntegerTypes ts) (some_types ts) (integers ts)
mergeable (dict k v) = no
mergeable (build b) = no

-- ---- well formed types

mutual
  formed : (t : TypeTree) → Either (IsWellFormed t)
  formed (scalar k) = yes
  formed (vec t) = both (IsWellFormed t) (IsBuilderFree t) (formed t) (free t)
  formed (struct ts) =
      all_three (HasTypes ts) (AreWellFormed ts) (AreBuilderFree ts ⊎ AreBuilders ts) (some_types ts) (all_formed ts)
      (one_of (AreBuilderFree ts) (AreBuilders ts) (all_free ts) (builders ts))
  formed (dict k v) = all_three (IsKey k) (IsWellFormed v) (IsBuilderFree v) (key k) (formed v) (free v)
  formed (build b) = formed_build b

  formed_build : (b : BuildTree) → Either (IsWellFormedBuild b)
  formed_build (list t) = both (IsWellFormed t) (IsBuilderFree t) (formed t) (free t)
  formed_build (total t op) = mergeable t
  formed_build (keyed k v op) = both (IsKey k) (IsIntegerType v) (key k) (integer v)
  formed_build (cells t op) = integer t
  formed_build (groups k v) = all_three (IsKey k) (IsWellFormed v) (IsBuilderFree v) (key k) (formed v) (free v)

  all_formed : (ts : TypeTrees) → Either (AreWellFormed ts)
  all_formed no_types = yes
  all_formed (more_types t ts) = both (IsWellFormed t) (AreWellFormed ts) (formed t) (all_formed ts)

-- ---- types of values, of cells, and within the limits

both_sides : (t : TypeTree) → Either (IsWellFormed t) → Either (IsBuilderFree t) → Either (IsValueType t)
both_sides t (inl f) (inl b) = inl (record { formed = f; free = b })
both_sides t (inr n) b = inr (λ h. n h.formed)
both_sides t f (inr n) = inr (λ h. n h.free)

pub values_decided : (t : TypeTree) → Either (IsValueType t)
values_decided t = both_sides t (formed t) (free t)

pub cells_decided : (t : TypeTree) → Either (IsCell t)
cells_decided (scalar k) = yes
cells_decided (vec (scalar I8)) = yes
cells_decided (vec (scalar U8)) = yes
cells_decided _ = no

within : (t : TypeTree) → (16 < type_depth t) ⊎ (type_depth t ≤ 16) → (256 < type_nodes t) ⊎ (type_nodes t ≤ 256) → Either (IsWithinLimits t)
within t (inr d) (inr n) = inl (record { depth = d; nodes = n })
within t (inl d) n = inr (λ h. omega (arith, d, h.depth))
within t d (inl n) = inr (λ h. omega (arith, n, h.nodes))

pub limits_decided : (t : TypeTree) → Either (IsWithinLimits t)
limits_decided t = within t (cases_lt 16 (type_depth t)) (cases_lt 256 (type_nodes t))
