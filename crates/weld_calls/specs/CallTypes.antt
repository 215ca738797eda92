-- Which types the arguments of a call may have, and which type its answer has.
use Rattle.std.specs.Prelude.{◌≡◌, ℕ, zero, suc, ◌==◌, Bool, true, false, ◌&&◌, if◌then◌else◌, List, [], ◌∷◌, length, Option, Some, None, option_map}
use Rattle.weld_data.specs.declared.kind.Kind.{Kind}
use Rattle.weld_data.specs.declared.kind.Kind.TheVariants as kinds
use Rattle.weld_data.specs.declared.op.BinOp.{BinOp}
use Rattle.weld_data.specs.declared.op.BinOp.TheVariants as ops
use Rattle.weld_data.specs.Lookup.{same_kind}
use Rattle.weld_tree.specs.TypeTree.{TypeTree, TypeTrees, scalar, vec, struct, dict, no_types, more_types}
use Rattle.weld_tree.specs.Types.{IsWellFormed, IsBuilderFree}
use Rattle.weld_calls.specs.declared.call.Call.{Call}
use Rattle.weld_calls.specs.declared.call.Call.TheVariants.{Add, Sub, Mul, Scale, Where, Dot, Sum, Min, Max, Slice, Take, Histogram, RowsDot, Column, Filter, Compare, Arith, Count, GroupSum, GroupList, GroupCount}
use Rattle.weld_calls.specs.declared.pattern.Pattern.{Pattern}
use Rattle.weld_calls.specs.declared.pattern.Pattern.TheVariants.{Number, Numbers, Rows, Place, Places, Truths, Items, Keys, Columns}

-- ---- operators

abbrev pub IsComparison : BinOp → Type 0
IsComparison ops.Add = ⊥
IsComparison ops.Sub = ⊥
IsComparison ops.Mul = ⊥
IsComparison ops.Div = ⊥
IsComparison ops.Rem = ⊥
IsComparison _ = Unit {0}

abbrev pub IsArithmetic : BinOp → Type 0
IsArithmetic ops.Add = Unit {0}
IsArithmetic ops.Sub = Unit {0}
IsArithmetic ops.Mul = Unit {0}
IsArithmetic ops.Div = Unit {0}
IsArithmetic ops.Rem = Unit {0}
IsArithmetic _ = ⊥

-- the operator of the call, if it names one, is one that the call may have
abbrev pub HasItsOperator : Call → Type 0
HasItsOperator (Compare op) = IsComparison op
HasItsOperator (Arith op) = IsArithmetic op
HasItsOperator _ = Unit {0}

-- ---- rows

-- what a call wants of the types of its arguments, in order
abbrev pub row : Call → List Pattern
row Add = Numbers ∷ Numbers ∷ []
row Sub = Numbers ∷ Numbers ∷ []
row Mul = Numbers ∷ Numbers ∷ []
row Scale = Numbers ∷ Number ∷ []
row Where = Truths ∷ Numbers ∷ Numbers ∷ []
row Dot = Numbers ∷ Numbers ∷ []
row Sum = Numbers ∷ []
row Min = Numbers ∷ []
row Max = Numbers ∷ []
row Slice = Items ∷ Place ∷ Place ∷ []
row Take = Items ∷ Places ∷ []
row Histogram = Places ∷ Places ∷ []
row RowsDot = Rows ∷ Numbers ∷ []
row (Column n) = Columns ∷ []
row Filter = Items ∷ Truths ∷ []
row (Compare op) = Numbers ∷ Number ∷ []
row (Arith op) = Numbers ∷ Numbers ∷ []
row Count = Truths ∷ []
row GroupSum = Keys ∷ Numbers ∷ []
row GroupList = Keys ∷ Items ∷ []
row GroupCount = Keys ∷ []

-- ---- which types fit

abbrev pub is_integer : Kind → Bool
is_integer kinds.Bool = false
is_integer _ = true

-- the kind may be K: the one that K is already, or else an integer kind
abbrev pub may_be_k : Option Kind → Kind → Bool
may_be_k None k = is_integer k
may_be_k (Some m) k = same_kind m k

abbrev pub is_number : (Kind → Bool) → TypeTree → Bool
is_number f (scalar k) = f k
is_number f _ = false

-- a vector whose elements are so
abbrev pub is_vec : (TypeTree → Bool) → TypeTree → Bool
is_vec f (vec t) = f t
is_vec f _ = false

abbrev pub are_vecs : TypeTrees → Bool
are_vecs no_types = true
are_vecs (more_types t ts) = is_vec (λ u. true) t && are_vecs ts

abbrev pub is_key_field : TypeTree → Bool
is_key_field (scalar k) = true
is_key_field (vec t) = is_number (λ k. true) t
is_key_field _ = false

abbrev pub are_key_fields : TypeTrees → Bool
are_key_fields no_types = true
are_key_fields (more_types t ts) = is_key_field t && are_key_fields ts

-- dictionaries may have keys of the type
abbrev pub is_key : TypeTree → Bool
is_key (scalar k) = true
is_key (vec t) = is_number (λ k. true) t
is_key (struct no_types) = false
is_key (struct (more_types t ts)) = is_key_field t && are_key_fields ts
is_key _ = false

abbrev pub is_table : TypeTree → Bool
is_table (struct ts) = are_vecs ts
is_table _ = false

-- the type is as wanted, K being known or not
abbrev pub is_wanted : Option Kind → Pattern → TypeTree → Bool
is_wanted k Number t = is_number (may_be_k k) t
is_wanted k Numbers t = is_vec (is_number (may_be_k k)) t
is_wanted k Rows t = is_vec (is_vec (is_number (may_be_k k))) t
is_wanted k Place t = is_number (same_kind kinds.I64) t
is_wanted k Places t = is_vec (is_number (same_kind kinds.I64)) t
is_wanted k Truths t = is_vec (is_number (same_kind kinds.Bool)) t
is_wanted k Items t = is_vec (λ u. true) t
is_wanted k Keys t = is_vec is_key t
is_wanted k Columns t = is_table t

-- ---- types within types

-- what a vector's elements are
abbrev pub item : TypeTree → TypeTree
item (vec t) = t
item t = t

abbrev pub kind_in : TypeTree → Option Kind
kind_in (scalar k) = Some k
kind_in _ = None

-- K after an argument of that type
abbrev pub k_after : Option Kind → Pattern → TypeTree → Option Kind
k_after k Number t = kind_in t
k_after k Numbers t = kind_in (item t)
k_after k Rows t = kind_in (item (item t))
k_after k _ t = k

-- the type of that number, from 0
abbrev pub nth_type : ℕ → TypeTrees → Option TypeTree
nth_type n no_types = None
nth_type zero (more_types t ts) = Some t
nth_type (suc n) (more_types t ts) = nth_type n ts

-- ---- the first that doesn't fit

-- where two refusals may come, the first
abbrev pub first_of : {A : Type 0} → Option A → Option A → Option A
first_of (Some x) later = Some x
first_of None later = later

-- the first type that isn't as wanted, with its place; the first of these types stands at place n
abbrev pub misfit_from : Option Kind → ℕ → List Pattern → List TypeTree → Option (ℕ × TypeTree)
misfit_from k n [] ts = None
misfit_from k n (p ∷ ps) [] = None
misfit_from k n (p ∷ ps) (t ∷ ts) = if is_wanted k p t then misfit_from (k_after k p t) (suc n) ps ts else Some (n, t)

abbrev pub unless_some : Option TypeTree → ℕ × TypeTree → Option (ℕ × TypeTree)
unless_some (Some t) refused = None
unless_some None refused = Some refused

-- a column's number is its second written argument: past the last column it doesn't fit, and the struct's type is told
abbrev pub no_column : Call → List TypeTree → Option (ℕ × TypeTree)
no_column (Column n) (struct ts ∷ us) = unless_some (nth_type n ts) (2, struct ts)
no_column _ _ = None

-- an object's place among all written arguments, from 1: an operator stands second
abbrev pub written : Call → ℕ → ℕ
written (Compare op) n = if n == 2 then 3 else n
written (Arith op) n = if n == 2 then 3 else n
written _ n = n

abbrev pub as_written : Call → ℕ × TypeTree → ℕ × TypeTree
as_written call x = (written call x.0, x.1)

-- the first argument, from 1, whose type doesn't fit the call with those before it, and the type that is told
abbrev pub misfit : Call → List TypeTree → Option (ℕ × TypeTree)
misfit call types = first_of (option_map (as_written call) (misfit_from None 1 (row call) types)) (no_column call types)

-- the types fit the call: there are as many as it takes, and each fits
pub record FitsCall (call : Call) (types : List TypeTree) : Type 0 where
  pub count : length types ≡ length (row call)
  pub each : misfit call types ≡ None

-- types of values: well formed, and without builders
pub record IsValueType (t : TypeTree) : Type 0 where
  pub formed : IsWellFormed t
  pub free : IsBuilderFree t

abbrev pub AreValueTypes : List TypeTree → Type 0
AreValueTypes [] = Unit {0}
AreValueTypes (t ∷ ts) = IsValueType t × AreValueTypes ts

-- ---- the answer

-- the type of the argument of that number, from 0
abbrev pub argument : ℕ → List TypeTree → TypeTree
argument n [] = struct no_types
argument zero (t ∷ ts) = t
argument (suc n) (t ∷ ts) = argument n ts

abbrev pub or_itself : Option TypeTree → TypeTree → TypeTree
or_itself (Some t) u = t
or_itself None u = u

abbrev pub column_of : ℕ → TypeTree → TypeTree
column_of n (struct ts) = or_itself (nth_type n ts) (struct ts)
column_of n t = t

abbrev pub truth_type : TypeTree
truth_type = scalar kinds.Bool

abbrev pub place_type : TypeTree
place_type = scalar kinds.I64

-- the type of what the call answers on arguments of these types, which fit it
abbrev pub answer_of : Call → List TypeTree → TypeTree
answer_of Add ts = argument 0 ts
answer_of Sub ts = argument 0 ts
answer_of Mul ts = argument 0 ts
answer_of Scale ts = argument 0 ts
answer_of Where ts = argument 1 ts
answer_of Dot ts = item (argument 0 ts)
answer_of Sum ts = item (argument 0 ts)
answer_of Min ts = item (argument 0 ts)
answer_of Max ts = item (argument 0 ts)
answer_of Slice ts = argument 0 ts
answer_of Take ts = argument 0 ts
answer_of Histogram ts = vec place_type
answer_of RowsDot ts = argument 1 ts
answer_of (Column n) ts = column_of n (argument 0 ts)
answer_of Filter ts = argument 0 ts
answer_of (Compare op) ts = vec truth_type
answer_of (Arith op) ts = argument 0 ts
answer_of Count ts = place_type
answer_of GroupSum ts = dict (item (argument 0 ts)) (item (argument 1 ts))
answer_of GroupList ts = dict (item (argument 0 ts)) (argument 1 ts)
answer_of GroupCount ts = dict (item (argument 0 ts)) place_type
