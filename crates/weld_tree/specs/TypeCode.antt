-- A code for types, from which they can be read back.
use Rattle.std.specs.Prelude.{◌≡◌, ℕ, zero, suc, refl}
use Rattle.std.specs.Coded.{Coded, code_by}
use base.Stored.{Gv, gnil, gnum, gcons, num}
use denote.Struct.Codes.{itself}
use Rattle.weld_data.specs.declared.kind.Kind.{Kind}
use Rattle.weld_data.specs.declared.kind.Kind.TheVariants.{Bool, I8, I16, I32, I64, U8, U16, U32, U64}
use Rattle.weld_data.specs.declared.op.MergeOp.{MergeOp}
use Rattle.weld_data.specs.declared.op.MergeOp.TheVariants.{Add, Mul, Min, Max}
use Rattle.weld_tree.specs.TypeTree.{TypeTree, BuildTree, TypeTrees, scalar, vec, struct, dict, build, list, total, keyed, cells, groups, no_types, more_types}

-- the rest of a list
abbrev pub tail : Gv → Gv
tail gnil = gnil
tail (gnum n) = gnil
tail (gcons a b) = b

-- a kind by its number
abbrev pub kind_number : Kind → ℕ
kind_number Bool = 0
kind_number I8 = 1
kind_number I16 = 2
kind_number I32 = 3
kind_number I64 = 4
kind_number U8 = 5
kind_number U16 = 6
kind_number U32 = 7
kind_number U64 = 8

abbrev pub kind_at : ℕ → Kind
kind_at zero = Bool
kind_at (suc zero) = I8
kind_at (suc (suc zero)) = I16
kind_at (suc (suc (suc zero))) = I32
kind_at (suc (suc (suc (suc zero)))) = I64
kind_at (suc (suc (suc (suc (suc zero))))) = U8
kind_at (suc (suc (suc (suc (suc (suc zero)))))) = U16
kind_at (suc (suc (suc (suc (suc (suc (suc zero))))))) = U32
kind_at (suc (suc (suc (suc (suc (suc (suc (suc n)))))))) = U64

pub kind_at-kind_number : (k : Kind) → kind_at (kind_number k) ≡ k
kind_at-kind_number Bool = refl
kind_at-kind_number I8 = refl
kind_at-kind_number I16 = refl
kind_at-kind_number I32 = refl
kind_at-kind_number I64 = refl
kind_at-kind_number U8 = refl
kind_at-kind_number U16 = refl
kind_at-kind_number U32 = refl
kind_at-kind_number U64 = refl

-- an operator by its number
abbrev pub merge_number : MergeOp → ℕ
merge_number Add = 0
merge_number Mul = 1
merge_number Min = 2
merge_number Max = 3

abbrev pub merge_at : ℕ → MergeOp
merge_at zero = Add
merge_at (suc zero) = Mul
merge_at (suc (suc zero)) = Min
merge_at (suc (suc (suc n))) = Max

pub merge_at-merge_number : (op : MergeOp) → merge_at (merge_number op) ≡ op
merge_at-merge_number Add = refl
merge_at-merge_number Mul = refl
merge_at-merge_number Min = refl
merge_at-merge_number Max = refl

-- a node by its number, its scalars and the list of its parts
abbrev mutual
  pub code_type : TypeTree → Gv
  code_type (scalar k) = gcons (gnum 0) (gnum (kind_number k))
  code_type (vec t) = gcons (gnum 1) (gcons (code_type t) gnil)
  code_type (struct ts) = gcons (gnum 2) (code_types ts)
  code_type (dict k v) = gcons (gnum 3) (gcons (code_type k) (gcons (code_type v) gnil))
  code_type (build b) = gcons (gnum 4) (code_build b)

  pub code_build : BuildTree → Gv
  code_build (list t) = gcons (gnum 0) (gcons (code_type t) gnil)
  code_build (total t op) = gcons (gnum 1) (gcons (code_type t) (gnum (merge_number op)))
  code_build (keyed k v op) = gcons (gnum 2) (gcons (code_type k) (gcons (code_type v) (gnum (merge_number op))))
  code_build (cells t op) = gcons (gnum 3) (gcons (code_type t) (gnum (merge_number op)))
  code_build (groups k v) = gcons (gnum 4) (gcons (code_type k) (gcons (code_type v) gnil))

  pub code_types : TypeTrees → Gv
  code_types no_types = gnil
  code_types (more_types t ts) = gcons (code_type t) (code_types ts)

abbrev first : TypeTrees → TypeTree
first no_types = scalar Bool
first (more_types t ts) = t

abbrev second : TypeTrees → TypeTree
second no_types = scalar Bool
second (more_types t ts) = first ts

abbrev type_by : ℕ → Gv → BuildTree → TypeTrees → TypeTree
type_by zero g b ts = scalar (kind_at (num g))
type_by (suc zero) g b ts = vec (first ts)
type_by (suc (suc zero)) g b ts = struct ts
type_by (suc (suc (suc zero))) g b ts = dict (first ts) (second ts)
type_by (suc (suc (suc (suc n)))) g b ts = build b

abbrev build_by : ℕ → Gv → TypeTrees → BuildTree
build_by zero g ts = list (first ts)
build_by (suc zero) g ts = total (first ts) (merge_at (num (tail g)))
build_by (suc (suc zero)) g ts = keyed (first ts) (second ts) (merge_at (num (tail (tail g))))
build_by (suc (suc (suc zero))) g ts = cells (first ts) (merge_at (num (tail g)))
build_by (suc (suc (suc (suc n)))) g ts = groups (first ts) (second ts)

-- what a code is a code of, read as each of the three
abbrev pub back : Gv → TypeTree × BuildTree × TypeTrees
back gnil = (scalar Bool, list (scalar Bool), no_types)
back (gnum n) = (scalar Bool, list (scalar Bool), no_types)
back (gcons a b) = (type_by (num a) b (back b).1 (back b).2, build_by (num a) b (back b).2, more_types (back a).0 (back b).2)

mutual
  pub back-code_type : (t : TypeTree) → (back (code_type t)).0 ≡ t
  back-code_type (scalar k) = λ i. scalar (kind_at-kind_number k i)
  back-code_type (vec t) = λ i. vec (back-code_type t i)
  back-code_type (struct ts) = λ i. struct (back-code_types ts i)
  back-code_type (dict k v) = λ i. dict (back-code_type k i) (back-code_type v i)
  back-code_type (build b) = λ i. build (back-code_build b i)

  pub back-code_build : (b : BuildTree) → (back (code_build b)).1 ≡ b
  back-code_build (list t) = λ i. list (back-code_type t i)
  back-code_build (total t op) = λ i. total (back-code_type t i) (merge_at-merge_number op i)
  back-code_build (keyed k v op) = λ i. keyed (back-code_type k i) (back-code_type v i) (merge_at-merge_number op i)
  back-code_build (cells t op) = λ i. cells (back-code_type t i) (merge_at-merge_number op i)
  back-code_build (groups k v) = λ i. groups (back-code_type k i) (back-code_type v i)

  pub back-code_types : (ts : TypeTrees) → (back (code_types ts)).2 ≡ ts
  back-code_types no_types = refl
  back-code_types (more_types t ts) = λ i. more_types (back-code_type t i) (back-code_types ts i)

abbrev pub coded_type : Coded TypeTree
coded_type = code_by Gv itself code_type (λ g. (back g).0) back-code_type

abbrev pub coded_build : Coded BuildTree
coded_build = code_by Gv itself code_build (λ g. (back g).1) back-code_build
