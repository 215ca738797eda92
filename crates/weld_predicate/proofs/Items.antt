-- What a type tells of a `merger` over it.
use Rattle.std.proofs.Common.{◌≡◌, Bool, true, false, ◌&&◌, if◌then◌else◌, Option, Some, None, refl, ap}
use Rattle.weld_data.specs.declared.kind.Kind.{Kind}
use Rattle.weld_data.specs.declared.kind.Kind.TheVariants as kinds
use Rattle.weld_data.specs.declared.op.MergeOp.{MergeOp}
use Rattle.weld_data.specs.Kind.{IsInteger}
use Rattle.weld_tree.specs.TypeTree.{TypeTree, TypeTrees, scalar, vec, struct, dict, build, no_types, more_types}
use Rattle.weld_tree.specs.Types.{IsIntegerType, AreIntegerTypes, IsMergerType}
use Rattle.weld_types.specs.Tests.{is_integer_kind, is_integer, are_integers, is_mergeable}
use Rattle.weld_predicate.specs.Guard.{Merger, of_item}
use Rattle.weld_predicate.proofs.Same.{merger_type}

integer_kind : (k : Kind) → IsInteger k → is_integer_kind k ≡ true
integer_kind kinds.Bool h = absurd h
integer_kind kinds.I8 h = refl
integer_kind kinds.I16 h = refl
integer_kind kinds.I32 h = refl
integer_kind kinds.I64 h = refl
integer_kind kinds.U8 h = refl
integer_kind kinds.U16 h = refl
integer_kind kinds.U32 h = refl
integer_kind kinds.U64 h = refl

integer_type : (t : TypeTree) → IsIntegerType t → is_integer t ≡ true
integer_type (scalar k) h = integer_kind k h
integer_type (vec t) h = absurd h
integer_type (struct ts) h = absurd h
integer_type (dict k v) h = absurd h
integer_type (build b) h = absurd h

integer_types : (ts : TypeTrees) → AreIntegerTypes ts → are_integers ts ≡ true
integer_types no_types h = refl
integer_types (more_types t ts) h = λ i. integer_type t h.0 i && integer_types ts h.1 i

mergeable_type : (t : TypeTree) → IsMergerType t → is_mergeable t ≡ true
mergeable_type (scalar k) h = integer_kind k h
mergeable_type (vec t) h = absurd h
mergeable_type (struct no_types) h = absurd h.0
mergeable_type (struct (more_types t ts)) h = integer_types (more_types t ts) h.1
mergeable_type (dict k v) h = absurd h
mergeable_type (build b) h = absurd h

abbrev told : TypeTree → MergeOp → Bool → Option Merger
told t op b = if b then Some (record { item = t; op = op }) else None

pub item_told : (t : TypeTree) (op : MergeOp) → IsMergerType t → of_item t op ≡ Some (record { item = t; op = op })
item_told t op h = ap (told t op) (mergeable_type t h)

pub no_item : (t : TypeTree) (op : MergeOp) → (IsMergerType t → ⊥) → of_item t op ≡ None
no_item t op h = by (is_mergeable t) refl
  where
    by : (b : Bool) → is_mergeable t ≡ b → told t op b ≡ None
    by true q = absurd (h (merger_type t q))
    by false q = refl
