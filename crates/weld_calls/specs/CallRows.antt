-- The rows of the calls as a table: K is an integer kind, T any type of elements, Q a type of keys.
use Rattle.std.specs.Prelude.{◌≡◌, List, [], ◌∷◌, Some}
use Rattle.weld_data.specs.declared.kind.Kind.{Kind}
use Rattle.weld_data.specs.Kind.{IsInteger}
use Rattle.weld_tree.specs.TypeTree.{TypeTree, TypeTrees, scalar, vec, struct, no_types, more_types}
use Rattle.weld_tree.specs.Types.{IsKey}
use Rattle.weld_calls.specs.declared.call.Call.{Call}
use Rattle.weld_calls.specs.declared.call.Call.TheVariants.{Add, Sub, Mul, Scale, Where, Dot, Sum, Min, Max, Slice, Take, Histogram, RowsDot, Column, Filter, Compare, Arith, Count, GroupSum, GroupList, GroupCount}
use Rattle.weld_calls.specs.CallTypes.{nth_type, place_type, truth_type}

-- a vector of numbers of kind K
abbrev pub OneVector : List TypeTree → Type 0
OneVector ts = (k : Kind) × IsInteger k × (ts ≡ vec (scalar k) ∷ [])

-- two of one kind
abbrev pub TwoVectors : List TypeTree → Type 0
TwoVectors ts = (k : Kind) × IsInteger k × (ts ≡ vec (scalar k) ∷ vec (scalar k) ∷ [])

-- a vector and a number of one kind
abbrev pub VectorAndNumber : List TypeTree → Type 0
VectorAndNumber ts = (k : Kind) × IsInteger k × (ts ≡ vec (scalar k) ∷ scalar k ∷ [])

-- the fields of a struct of vectors
abbrev pub AreColumns : TypeTrees → Type 0
AreColumns no_types = Unit {0}
AreColumns (more_types t ts) = ((u : TypeTree) × (t ≡ vec u)) × AreColumns ts

abbrev pub IsRow : Call → List TypeTree → Type 0
IsRow Add ts = TwoVectors ts
IsRow Sub ts = TwoVectors ts
IsRow Mul ts = TwoVectors ts
IsRow Scale ts = VectorAndNumber ts
IsRow Where ts = (k : Kind) × IsInteger k × (ts ≡ vec truth_type ∷ vec (scalar k) ∷ vec (scalar k) ∷ [])
IsRow Dot ts = TwoVectors ts
IsRow Sum ts = OneVector ts
IsRow Min ts = OneVector ts
IsRow Max ts = OneVector ts
IsRow Slice ts = (t : TypeTree) × (ts ≡ vec t ∷ place_type ∷ place_type ∷ [])
IsRow Take ts = (t : TypeTree) × (ts ≡ vec t ∷ vec place_type ∷ [])
IsRow Histogram ts = ts ≡ vec place_type ∷ vec place_type ∷ []
IsRow RowsDot ts = (k : Kind) × IsInteger k × (ts ≡ vec (vec (scalar k)) ∷ vec (scalar k) ∷ [])
IsRow (Column n) ts = (us : TypeTrees) × (t : TypeTree) × AreColumns us × (nth_type n us ≡ Some t) × (ts ≡ struct us ∷ [])
IsRow Filter ts = (t : TypeTree) × (ts ≡ vec t ∷ vec truth_type ∷ [])
IsRow (Compare op) ts = VectorAndNumber ts
IsRow (Arith op) ts = TwoVectors ts
IsRow Count ts = ts ≡ vec truth_type ∷ []
IsRow GroupSum ts = (q : TypeTree) × (k : Kind) × IsKey q × IsInteger k × (ts ≡ vec q ∷ vec (scalar k) ∷ [])
IsRow GroupList ts = (q : TypeTree) × (t : TypeTree) × IsKey q × (ts ≡ vec q ∷ vec t ∷ [])
IsRow GroupCount ts = (q : TypeTree) × IsKey q × (ts ≡ vec q ∷ [])
