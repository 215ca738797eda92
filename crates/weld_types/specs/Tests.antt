-- Tests of types: each says by a truth value what a property of the same name says.
use Rattle.std.specs.Prelude.{◌==◌, nat_le, Bool, true, false, ◌&&◌, ◌||◌}
use Rattle.weld_data.specs.declared.kind.Kind.{Kind}
use Rattle.weld_data.specs.declared.kind.Kind.TheVariants as kinds
use Rattle.weld_data.specs.declared.op.BinOp.{BinOp}
use Rattle.weld_data.specs.declared.op.BinOp.TheVariants.{Eq, Ne}
use Rattle.weld_tree.specs.TypeCode.{kind_number, merge_number}
use Rattle.weld_tree.specs.TypeTree.{TypeTree, BuildTree, TypeTrees, scalar, vec, struct, dict, build, list, total, keyed, cells, groups, no_types, more_types, type_nodes, type_depth}

-- ---- equality

abbrev mutual
  pub same_type : TypeTree → TypeTree → Bool
  same_type (scalar k) (scalar m) = kind_number k == kind_number m
  same_type (vec t) (vec u) = same_type t u
  same_type (struct ts) (struct us) = same_types ts us
  same_type (dict k v) (dict l w) = same_type k l && same_type v w
  same_type (build b) (build c) = same_build b c
  same_type _ _ = false

  pub same_build : BuildTree → BuildTree → Bool
  same_build (list t) (list u) = same_type t u
  same_build (total t op) (total u op2) = same_type t u && (merge_number op == merge_number op2)
  same_build (keyed k v op) (keyed l w op2) = same_type k l && (same_type v w && (merge_number op == merge_number op2))
  same_build (cells t op) (cells u op2) = same_type t u && (merge_number op == merge_number op2)
  same_build (groups k v) (groups l w) = same_type k l && same_type v w
  same_build _ _ = false

  pub same_types : TypeTrees → TypeTrees → Bool
  same_types no_types no_types = true
  same_types (more_types t ts) (more_types u us) = same_type t u && same_types ts us
  same_types _ _ = false

-- each of these types is that one
abbrev pub are_all : TypeTrees → TypeTree → Bool
are_all no_types t = true
are_all (more_types u us) t = same_type u t && are_all us t

-- ---- shapes

abbrev pub is_integer_kind : Kind → Bool
is_integer_kind kinds.Bool = false
is_integer_kind kinds.I8 = true
is_integer_kind kinds.I16 = true
is_integer_kind kinds.I32 = true
is_integer_kind kinds.I64 = true
is_integer_kind kinds.U8 = true
is_integer_kind kinds.U16 = true
is_integer_kind kinds.U32 = true
is_integer_kind kinds.U64 = true

abbrev pub is_scalar : TypeTree → Bool
is_scalar (scalar k) = true
is_scalar _ = false

abbrev pub is_integer : TypeTree → Bool
is_integer (scalar k) = is_integer_kind k
is_integer _ = false

abbrev mutual
  pub is_builder_free : TypeTree → Bool
  is_builder_free (scalar k) = true
  is_builder_free (vec t) = is_builder_free t
  is_builder_free (struct ts) = are_builder_free ts
  is_builder_free (dict k v) = is_builder_free k && is_builder_free v
  is_builder_free (build b) = false

  pub are_builder_free : TypeTrees → Bool
  are_builder_free no_types = true
  are_builder_free (more_types t ts) = is_builder_free t && are_builder_free ts

abbrev mutual
  pub is_builder : TypeTree → Bool
  is_builder (scalar k) = false
  is_builder (vec t) = false
  is_builder (struct ts) = are_builders ts
  is_builder (dict k v) = false
  is_builder (build b) = true

  pub are_builders : TypeTrees → Bool
  are_builders no_types = true
  are_builders (more_types t ts) = is_builder t && are_builders ts

-- ---- well-formed types

abbrev pub is_key_field : TypeTree → Bool
is_key_field (scalar k) = true
is_key_field (vec t) = is_scalar t
is_key_field _ = false

abbrev pub are_key_fields : TypeTrees → Bool
are_key_fields no_types = true
are_key_fields (more_types t ts) = is_key_field t && are_key_fields ts

abbrev pub has_types : TypeTrees → Bool
has_types no_types = false
has_types (more_types t ts) = true

abbrev pub is_key : TypeTree → Bool
is_key (scalar k) = true
is_key (vec t) = is_scalar t
is_key (struct ts) = has_types ts && are_key_fields ts
is_key (dict k v) = false
is_key (build b) = false

abbrev pub are_integers : TypeTrees → Bool
are_integers no_types = true
are_integers (more_types t ts) = is_integer t && are_integers ts

-- a merger may combine values of the type
abbrev pub is_mergeable : TypeTree → Bool
is_mergeable (scalar k) = is_integer_kind k
is_mergeable (vec t) = false
is_mergeable (struct ts) = has_types ts && are_integers ts
is_mergeable (dict k v) = false
is_mergeable (build b) = false

abbrev mutual
  pub is_well_formed : TypeTree → Bool
  is_well_formed (scalar k) = true
  is_well_formed (vec t) = is_well_formed t && is_builder_free t
  is_well_formed (struct ts) = has_types ts && (are_well_formed ts && (are_builder_free ts || are_builders ts))
  is_well_formed (dict k v) = is_key k && (is_well_formed v && is_builder_free v)
  is_well_formed (build b) = is_well_formed_build b

  pub is_well_formed_build : BuildTree → Bool
  is_well_formed_build (list t) = is_well_formed t && is_builder_free t
  is_well_formed_build (total t op) = is_mergeable t
  is_well_formed_build (keyed k v op) = is_key k && is_integer v
  is_well_formed_build (cells t op) = is_integer t
  is_well_formed_build (groups k v) = is_key k && (is_well_formed v && is_builder_free v)

  pub are_well_formed : TypeTrees → Bool
  are_well_formed no_types = true
  are_well_formed (more_types t ts) = is_well_formed t && are_well_formed ts

-- depth 16 and 256 type nodes
abbrev pub is_within_limits : TypeTree → Bool
is_within_limits t = nat_le (type_depth t) 16 && nat_le (type_nodes t) 256

-- ---- operators

-- truth values can only be tested for equality
abbrev pub takes_kind : BinOp → Kind → Bool
takes_kind Eq k = true
takes_kind Ne k = true
takes_kind _ k = is_integer_kind k

-- the operator takes numbers of this type
abbrev pub takes_type : BinOp → TypeTree → Bool
takes_type op (scalar k) = takes_kind op k
takes_type op _ = false
