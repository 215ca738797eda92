-- What the tests of types say.
use Rattle.std.proofs.Common.{◌≡◌, ◌==◌, Bool, true, false, ◌&&◌, ◌||◌, refl, ap, sym, subst, ◌∙◌, inl, inr, ◌⊎◌, nat_le}
use Rattle.std.proofs.lemmas.Bool.{leb-true, le-leb, eqb-true, eq-eqb}
use Rattle.weld_data.specs.declared.kind.Kind.{Kind}
use Rattle.weld_data.specs.declared.kind.Kind.TheVariants as kinds
use Rattle.weld_data.specs.Kind.{IsInteger}
use Rattle.weld_data.specs.declared.op.BinOp.{BinOp}
use Rattle.weld_data.specs.declared.op.BinOp.TheVariants.{Add, Sub, Mul, Div, Rem, Eq, Ne, Lt, Le, Gt, Ge}
use Rattle.weld_data.specs.declared.op.MergeOp.{MergeOp}
use Rattle.weld_data.specs.Operation.{TakesKind}
use Rattle.weld_tree.specs.TypeCode.{kind_number, kind_at, kind_at-kind_number, merge_number, merge_at, merge_at-merge_number}
use Rattle.weld_tree.specs.TypeTree.{TypeTree, BuildTree, TypeTrees, scalar, vec, struct, dict, build, list, total, keyed, cells, groups, no_types, more_types, type_nodes, type_depth}
use Rattle.weld_tree.specs.Types.{IsBuilderFree, AreBuilderFree, IsBuilder, AreBuilders, IsScalarType, IsIntegerType, AreIntegerTypes, IsMergerType, IsKeyField, AreKeyFields, HasTypes, IsKey, IsWellFormed, IsWellFormedBuild, AreWellFormed, IsWithinLimits}
use Rattle.weld_meaning.specs.Typing.{AreAll}
use Rattle.weld_types.specs.Tests.{same_type, same_build, same_types, are_all, is_integer_kind, is_scalar, is_integer, are_integers, is_mergeable, is_builder_free, are_builder_free, is_builder, are_builders, is_key_field, are_key_fields, has_types, is_key, is_well_formed, is_well_formed_build, are_well_formed, is_within_limits, takes_kind}

-- ---- truth values

pub clash : {A : Type 0} {b : Bool} → b ≡ true → b ≡ false → A
clash p q = let no : ⊥ = cc in absurd no

pub and_true : (a b : Bool) → (a && b) ≡ true → (a ≡ true) × (b ≡ true)
and_true true b e = (refl, e)
and_true false b e = clash e refl

pub both_true : (a b : Bool) → a ≡ true → b ≡ true → (a && b) ≡ true
both_true true b p q = q
both_true false b p q = clash p refl

pub or_true : (a b : Bool) → (a || b) ≡ true → (a ≡ true) ⊎ (b ≡ true)
or_true true b e = inl refl
or_true false b e = inr e

pub or_left : (a b : Bool) → a ≡ true → (a || b) ≡ true
or_left true b e = refl
or_left false b e = clash e refl

pub or_right : (a b : Bool) → b ≡ true → (a || b) ≡ true
or_right true b e = refl
or_right false b e = e

-- ---- equality

kind_true : (k m : Kind) → (kind_number k == kind_number m) ≡ true → k ≡ m
kind_true k m e = sym (kind_at-kind_number k) ∙ ap kind_at (eqb-true (kind_number k) (kind_number m) e) ∙ kind_at-kind_number m

op_true : (o p : MergeOp) → (merge_number o == merge_number p) ≡ true → o ≡ p
op_true o p e = sym (merge_at-merge_number o) ∙ ap merge_at (eqb-true (merge_number o) (merge_number p) e) ∙ merge_at-merge_number p

mutual
  pub same_type_true : (t u : TypeTree) → same_type t u ≡ true → t ≡ u
  same_type_true (scalar k) (scalar m) e = ap scalar (kind_true k m e)
  same_type_true (vec t) (vec u) e = ap vec (same_type_true t u e)
  same_type_true (struct ts) (struct us) e = ap struct (same_types_true ts us e)
  same_type_true (dict k v) (dict l w) e =
      let h = and_true (same_type k l) (same_type v w) e in λ i. dict (same_type_true k l h.0 i) (same_type_true v w h.1 i)
  same_type_true (build b) (build c) e = ap build (same_build_true b c e)
  same_type_true _ _ e = clash e refl

  same_build_true : (b c : BuildTree) → same_build b c ≡ true → b ≡ c
  same_build_true (list t) (list u) e = ap list (same_type_true t u e)
  same_build_true (total t o) (total u p) e =
      let h = and_true (same_type t u) (merge_number o == merge_number p) e in λ i. total (same_type_true t u h.0 i) (op_true o p h.1 i)
  same_build_true (keyed k v o) (keyed l w p) e =
      let h = and_true (same_type k l) (same_type v w && (merge_number o == merge_number p)) e in
      let q = and_true (same_type v w) (merge_number o == merge_number p) h.1 in
      λ i. keyed (same_type_true k l h.0 i) (same_type_true v w q.0 i) (op_true o p q.1 i)
  same_build_true (cells t o) (cells u p) e =
      let h = and_true (same_type t u) (merge_number o == merge_number p) e in λ i. cells (same_type_true t u h.0 i) (op_true o p h.1 i)
  same_build_true (groups k v) (groups l w) e =
      let h = and_true (same_type k l) (same_type v w) e in λ i. groups (same_type_true k l h.0 i) (same_type_true v w h.1 i)
  same_build_true _ _ e = clash e refl

  same_types_true : (ts us : TypeTrees) → same_types ts us ≡ true → ts ≡ us
  same_types_true no_types no_types e = refl
  same_types_true (more_types t ts) (more_types u us) e =
      let h = and_true (same_type t u) (same_types ts us) e in λ i. more_types (same_type_true t u h.0 i) (same_types_true ts us h.1 i)
  same_types_true _ _ e = clash e refl

mutual
  same_type_refl : (t : TypeTree) → same_type t t ≡ true
  same_type_refl (scalar k) = eq-eqb (kind_number k) (kind_number k) refl
  same_type_refl (vec t) = same_type_refl t
  same_type_refl (struct ts) = same_types_refl ts
  same_type_refl (dict k v) = both_true (same_type k k) (same_type v v) (same_type_refl k) (same_type_refl v)
  same_type_refl (build b) = same_build_refl b

  same_build_refl : (b : BuildTree) → same_build b b ≡ true
  same_build_refl (list t) = same_type_refl t
  same_build_refl (total t o) = both_true (same_type t t) (merge_number o == merge_number o) (same_type_refl t) (eq-eqb (merge_number o) (merge_number o) refl)
  same_build_refl (keyed k v o) =
      both_true (same_type k k) (same_type v v && (merge_number o == merge_number o)) (same_type_refl k)
      (both_true (same_type v v) (merge_number o == merge_number o) (same_type_refl v) (eq-eqb (merge_number o) (merge_number o) refl))
  same_build_refl (cells t o) = both_true (same_type t t) (merge_number o == merge_number o) (same_type_refl t) (eq-eqb (merge_number o) (merge_number o) refl)
  same_build_refl (groups k v) = both_true (same_type k k) (same_type v v) (same_type_refl k) (same_type_refl v)

  same_types_refl : (ts : TypeTrees) → same_types ts ts ≡ true
  same_types_refl no_types = refl
  same_types_refl (more_types t ts) = both_true (same_type t t) (same_types ts ts) (same_type_refl t) (same_types_refl ts)

pub true_same_type : (t u : TypeTree) → t ≡ u → same_type t u ≡ true
true_same_type t u e = subst (λ x. same_type t x ≡ true) e (same_type_refl t)

pub all_of : (us : TypeTrees) (t : TypeTree) → are_all us t ≡ true → AreAll us t
all_of no_types t e = tt
all_of (more_types u us) t e = let h = and_true (same_type u t) (are_all us t) e in (same_type_true u t h.0, all_of us t h.1)

pub of_all : (us : TypeTrees) (t : TypeTree) → AreAll us t → are_all us t ≡ true
of_all no_types t h = refl
of_all (more_types u us) t h = both_true (same_type u t) (are_all us t) (true_same_type u t h.0) (of_all us t h.1)

-- ---- shapes

pub integer_kind_of : (k : Kind) → is_integer_kind k ≡ true → IsInteger k
integer_kind_of kinds.Bool e = clash e refl
integer_kind_of kinds.I8 e = tt
integer_kind_of kinds.I16 e = tt
integer_kind_of kinds.I32 e = tt
integer_kind_of kinds.I64 e = tt
integer_kind_of kinds.U8 e = tt
integer_kind_of kinds.U16 e = tt
integer_kind_of kinds.U32 e = tt
integer_kind_of kinds.U64 e = tt

pub of_integer_kind : (k : Kind) → IsInteger k → is_integer_kind k ≡ true
of_integer_kind kinds.Bool h = absurd h
of_integer_kind kinds.I8 h = refl
of_integer_kind kinds.I16 h = refl
of_integer_kind kinds.I32 h = refl
of_integer_kind kinds.I64 h = refl
of_integer_kind kinds.U8 h = refl
of_integer_kind kinds.U16 h = refl
of_integer_kind kinds.U32 h = refl
of_integer_kind kinds.U64 h = refl

pub scalar_of : (t : TypeTree) → is_scalar t ≡ true → IsScalarType t
scalar_of (scalar k) e = tt
scalar_of _ e = clash e refl

pub of_scalar : (t : TypeTree) → IsScalarType t → is_scalar t ≡ true
of_scalar (scalar k) h = refl
of_scalar (vec t) h = absurd h
of_scalar (struct ts) h = absurd h
of_scalar (dict k v) h = absurd h
of_scalar (build b) h = absurd h

pub integer_of : (t : TypeTree) → is_integer t ≡ true → IsIntegerType t
integer_of (scalar k) e = integer_kind_of k e
integer_of _ e = clash e refl

pub of_integer : (t : TypeTree) → IsIntegerType t → is_integer t ≡ true
of_integer (scalar k) h = of_integer_kind k h
of_integer (vec t) h = absurd h
of_integer (struct ts) h = absurd h
of_integer (dict k v) h = absurd h
of_integer (build b) h = absurd h

mutual
  pub free_of : (t : TypeTree) → is_builder_free t ≡ true → IsBuilderFree t
  free_of (scalar k) e = tt
  free_of (vec t) e = free_of t e
  free_of (struct ts) e = all_free_of ts e
  free_of (dict k v) e = let h = and_true (is_builder_free k) (is_builder_free v) e in (free_of k h.0, free_of v h.1)
  free_of (build b) e = clash e refl

  pub all_free_of : (ts : TypeTrees) → are_builder_free ts ≡ true → AreBuilderFree ts
  all_free_of no_types e = tt
  all_free_of (more_types t ts) e = let h = and_true (is_builder_free t) (are_builder_free ts) e in (free_of t h.0, all_free_of ts h.1)

mutual
  pub of_free : (t : TypeTree) → IsBuilderFree t → is_builder_free t ≡ true
  of_free (scalar k) h = refl
  of_free (vec t) h = of_free t h
  of_free (struct ts) h = of_all_free ts h
  of_free (dict k v) h = both_true (is_builder_free k) (is_builder_free v) (of_free k h.0) (of_free v h.1)
  of_free (build b) h = absurd h

  pub of_all_free : (ts : TypeTrees) → AreBuilderFree ts → are_builder_free ts ≡ true
  of_all_free no_types h = refl
  of_all_free (more_types t ts) h = both_true (is_builder_free t) (are_builder_free ts) (of_free t h.0) (of_all_free ts h.1)

mutual
  pub builder_of : (t : TypeTree) → is_builder t ≡ true → IsBuilder t
  builder_of (scalar k) e = clash e refl
  builder_of (vec t) e = clash e refl
  builder_of (struct ts) e = builders_of ts e
  builder_of (dict k v) e = clash e refl
  builder_of (build b) e = tt

  pub builders_of : (ts : TypeTrees) → are_builders ts ≡ true → AreBuilders ts
  builders_of no_types e = tt
  builders_of (more_types t ts) e = let h = and_true (is_builder t) (are_builders ts) e in (builder_of t h.0, builders_of ts h.1)

mutual
  pub of_builder : (t : TypeTree) → IsBuilder t → is_builder t ≡ true
  of_builder (scalar k) h = absurd h
  of_builder (vec t) h = absurd h
  of_builder (struct ts) h = of_builders ts h
  of_builder (dict k v) h = absurd h
  of_builder (build b) h = refl

  pub of_builders : (ts : TypeTrees) → AreBuilders ts → are_builders ts ≡ true
  of_builders no_types h = refl
  of_builders (more_types t ts) h = both_true (is_builder t) (are_builders ts) (of_builder t h.0) (of_builders ts h.1)

pub one_sort_of : (ts : TypeTrees) → (are_builder_free ts || are_builders ts) ≡ true → AreBuilderFree ts ⊎ AreBuilders ts
one_sort_of ts e = by (or_true (are_builder_free ts) (are_builders ts) e)
  where
    by : (are_builder_free ts ≡ true) ⊎ (are_builders ts ≡ true) → AreBuilderFree ts ⊎ AreBuilders ts
    by (inl p) = inl (all_free_of ts p)
    by (inr p) = inr (builders_of ts p)

pub of_one_sort : (ts : TypeTrees) → AreBuilderFree ts ⊎ AreBuilders ts → (are_builder_free ts || are_builders ts) ≡ true
of_one_sort ts (inl h) = or_left (are_builder_free ts) (are_builders ts) (of_all_free ts h)
of_one_sort ts (inr h) = or_right (are_builder_free ts) (are_builders ts) (of_builders ts h)

-- ---- well-formed types

key_field_of : (t : TypeTree) → is_key_field t ≡ true → IsKeyField t
key_field_of (scalar k) e = tt
key_field_of (vec t) e = scalar_of t e
key_field_of (struct ts) e = clash e refl
key_field_of (dict k v) e = clash e refl
key_field_of (build b) e = clash e refl

of_key_field : (t : TypeTree) → IsKeyField t → is_key_field t ≡ true
of_key_field (scalar k) h = refl
of_key_field (vec t) h = of_scalar t h
of_key_field (struct ts) h = absurd h
of_key_field (dict k v) h = absurd h
of_key_field (build b) h = absurd h

key_fields_of : (ts : TypeTrees) → are_key_fields ts ≡ true → AreKeyFields ts
key_fields_of no_types e = tt
key_fields_of (more_types t ts) e = let h = and_true (is_key_field t) (are_key_fields ts) e in (key_field_of t h.0, key_fields_of ts h.1)

of_key_fields : (ts : TypeTrees) → AreKeyFields ts → are_key_fields ts ≡ true
of_key_fields no_types h = refl
of_key_fields (more_types t ts) h = both_true (is_key_field t) (are_key_fields ts) (of_key_field t h.0) (of_key_fields ts h.1)

has_of : (ts : TypeTrees) → has_types ts ≡ true → HasTypes ts
has_of no_types e = clash e refl
has_of (more_types t ts) e = tt

of_has : (ts : TypeTrees) → HasTypes ts → has_types ts ≡ true
of_has no_types h = absurd h
of_has (more_types t ts) h = refl

key_of : (t : TypeTree) → is_key t ≡ true → IsKey t
key_of (scalar k) e = tt
key_of (vec t) e = scalar_of t e
key_of (struct ts) e = let h = and_true (has_types ts) (are_key_fields ts) e in (has_of ts h.0, key_fields_of ts h.1)
key_of (dict k v) e = clash e refl
key_of (build b) e = clash e refl

of_key : (t : TypeTree) → IsKey t → is_key t ≡ true
of_key (scalar k) h = refl
of_key (vec t) h = of_scalar t h
of_key (struct ts) h = both_true (has_types ts) (are_key_fields ts) (of_has ts h.0) (of_key_fields ts h.1)
of_key (dict k v) h = absurd h
of_key (build b) h = absurd h

integers_of : (ts : TypeTrees) → are_integers ts ≡ true → AreIntegerTypes ts
integers_of no_types e = tt
integers_of (more_types t ts) e = let h = and_true (is_integer t) (are_integers ts) e in (integer_of t h.0, integers_of ts h.1)

of_integers : (ts : TypeTrees) → AreIntegerTypes ts → are_integers ts ≡ true
of_integers no_types h = refl
of_integers (more_types t ts) h = both_true (is_integer t) (are_integers ts) (of_integer t h.0) (of_integers ts h.1)

mergeable_of : (t : TypeTree) → is_mergeable t ≡ true → IsMergerType t
mergeable_of (scalar k) e = integer_kind_of k e
mergeable_of (vec t) e = clash e refl
mergeable_of (struct ts) e = let h = and_true (has_types ts) (are_integers ts) e in (has_of ts h.0, integers_of ts h.1)
mergeable_of (dict k v) e = clash e refl
mergeable_of (build b) e = clash e refl

of_mergeable : (t : TypeTree) → IsMergerType t → is_mergeable t ≡ true
of_mergeable (scalar k) h = of_integer_kind k h
of_mergeable (vec t) h = absurd h
of_mergeable (struct ts) h = both_true (has_types ts) (are_integers ts) (of_has ts h.0) (of_integers ts h.1)
of_mergeable (dict k v) h = absurd h
of_mergeable (build b) h = absurd h

mutual
  pub formed_of : (t : TypeTree) → is_well_formed t ≡ true → IsWellFormed t
  formed_of (scalar k) e = tt
  formed_of (vec t) e = let h = and_true (is_well_formed t) (is_builder_free t) e in (formed_of t h.0, free_of t h.1)
  formed_of (struct ts) e =
      let h = and_true (has_types ts) (are_well_formed ts && (are_builder_free ts || are_builders ts)) e in
      let q = and_true (are_well_formed ts) (are_builder_free ts || are_builders ts) h.1 in
      (has_of ts h.0, all_formed_of ts q.0, one_sort_of ts q.1)
  formed_of (dict k v) e =
      let h = and_true (is_key k) (is_well_formed v && is_builder_free v) e in
      let q = and_true (is_well_formed v) (is_builder_free v) h.1 in (key_of k h.0, formed_of v q.0, free_of v q.1)
  formed_of (build b) e = build_formed_of b e

  pub build_formed_of : (b : BuildTree) → is_well_formed_build b ≡ true → IsWellFormedBuild b
  build_formed_of (list t) e = let h = and_true (is_well_formed t) (is_builder_free t) e in (formed_of t h.0, free_of t h.1)
  build_formed_of (total t o) e = mergeable_of t e
  build_formed_of (keyed k v o) e = let h = and_true (is_key k) (is_integer v) e in (key_of k h.0, integer_of v h.1)
  build_formed_of (cells t o) e = integer_of t e
  build_formed_of (groups k v) e =
      let h = and_true (is_key k) (is_well_formed v && is_builder_free v) e in
      let q = and_true (is_well_formed v) (is_builder_free v) h.1 in (key_of k h.0, formed_of v q.0, free_of v q.1)

  all_formed_of : (ts : TypeTrees) → are_well_formed ts ≡ true → AreWellFormed ts
  all_formed_of no_types e = tt
  all_formed_of (more_types t ts) e = let h = and_true (is_well_formed t) (are_well_formed ts) e in (formed_of t h.0, all_formed_of ts h.1)

mutual
  pub of_formed : (t : TypeTree) → IsWellFormed t → is_well_formed t ≡ true
  of_formed (scalar k) h = refl
  of_formed (vec t) h = both_true (is_well_formed t) (is_builder_free t) (of_formed t h.0) (of_free t h.1)
  of_formed (struct ts) h =
      both_true (has_types ts) (are_well_formed ts && (are_builder_free ts || are_builders ts)) (of_has ts h.0)
      (both_true (are_well_formed ts) (are_builder_free ts || are_builders ts) (of_all_formed ts h.1) (of_one_sort ts h.2))
  of_formed (dict k v) h =
      both_true (is_key k) (is_well_formed v && is_builder_free v) (of_key k h.0)
      (both_true (is_well_formed v) (is_builder_free v) (of_formed v h.1) (of_free v h.2))
  of_formed (build b) h = of_build_formed b h

  pub of_build_formed : (b : BuildTree) → IsWellFormedBuild b → is_well_formed_build b ≡ true
  of_build_formed (list t) h = both_true (is_well_formed t) (is_builder_free t) (of_formed t h.0) (of_free t h.1)
  of_build_formed (total t o) h = of_mergeable t h
  of_build_formed (keyed k v o) h = both_true (is_key k) (is_integer v) (of_key k h.0) (of_integer v h.1)
  of_build_formed (cells t o) h = of_integer t h
  of_build_formed (groups k v) h =
      both_true (is_key k) (is_well_formed v && is_builder_free v) (of_key k h.0)
      (both_true (is_well_formed v) (is_builder_free v) (of_formed v h.1) (of_free v h.2))

  of_all_formed : (ts : TypeTrees) → AreWellFormed ts → are_well_formed ts ≡ true
  of_all_formed no_types h = refl
  of_all_formed (more_types t ts) h = both_true (is_well_formed t) (are_well_formed ts) (of_formed t h.0) (of_all_formed ts h.1)

pub limits_of : (t : TypeTree) → is_within_limits t ≡ true → IsWithinLimits t
limits_of t e =
    let h = and_true (nat_le (type_depth t) 16) (nat_le (type_nodes t) 256) e in
    record { depth = leb-true (type_depth t) 16 h.0; nodes = leb-true (type_nodes t) 256 h.1 }

pub of_limits : (t : TypeTree) → IsWithinLimits t → is_within_limits t ≡ true
of_limits t h =
    both_true (nat_le (type_depth t) 16) (nat_le (type_nodes t) 256) (le-leb (type_depth t) 16 h.depth) (le-leb (type_nodes t) 256 h.nodes)

-- ---- operators

pub takes_of : (op : BinOp) (k : Kind) → takes_kind op k ≡ true → TakesKind op k
takes_of Add k e = integer_kind_of k e
takes_of Sub k e = integer_kind_of k e
takes_of Mul k e = integer_kind_of k e
takes_of Div k e = integer_kind_of k e
takes_of Rem k e = integer_kind_of k e
takes_of Eq k e = tt
takes_of Ne k e = tt
takes_of Lt k e = integer_kind_of k e
takes_of Le k e = integer_kind_of k e
takes_of Gt k e = integer_kind_of k e
takes_of Ge k e = integer_kind_of k e

pub of_takes : (op : BinOp) (k : Kind) → TakesKind op k → takes_kind op k ≡ true
of_takes Add k h = of_integer_kind k h
of_takes Sub k h = of_integer_kind k h
of_takes Mul k h = of_integer_kind k h
of_takes Div k h = of_integer_kind k h
of_takes Rem k h = of_integer_kind k h
of_takes Eq k h = refl
of_takes Ne k h = refl
of_takes Lt k h = of_integer_kind k h
of_takes Le k h = of_integer_kind k h
of_takes Gt k h = of_integer_kind k h
of_takes Ge k h = of_integer_kind k h
