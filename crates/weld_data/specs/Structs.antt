-- Lists of structs whose fields are numbers, kept as the numbers of one struct after another.
use Rattle.std.specs.Prelude.{◌≡◌, ℕ, zero, suc, ◌+◌, ◌<◌, ◌≤◌, ℤ, Bool, true, false, List, [], ◌∷◌, ◌++◌, length, drop, slice_get, Option, Some, None, Result, Ok, Err}
use Rattle.weld_data.specs.declared.kind.Kind.{Kind}
use Rattle.weld_data.specs.declared.num.Num.{Num}
use Rattle.weld_data.specs.Kind.{InRange, IsNarrow}
use Rattle.weld_data.specs.Value.{Value, number, list, struct, dict, Values, no_values, and_value, list_of_values}

-- the fields that numbers are, one of each kind
abbrev pub fields_in : List Kind → List ℤ → Values
fields_in [] xs = no_values
fields_in (k ∷ ks) [] = no_values
fields_in (k ∷ ks) (x ∷ xs) = and_value (number k x) (fields_in ks xs)

-- so many structs, the numbers of the first one first
abbrev pub structs_in : ℕ → List Kind → List ℤ → List Value
structs_in zero ks xs = []
structs_in (suc n) ks xs = struct (fields_in ks xs) ∷ structs_in n ks (drop (length ks) xs)

-- there is a number of each kind, which lies within an i64
abbrev pub AreFields : List Kind → List ℤ → Type 0
AreFields [] xs = Unit {0}
AreFields (k ∷ ks) [] = ⊥
AreFields (k ∷ ks) (x ∷ xs) = IsNarrow k × InRange k x × AreFields ks xs

-- they are the numbers of so many structs, and nothing else
abbrev pub AreStructs : ℕ → List Kind → List ℤ → Type 0
AreStructs zero ks xs = xs ≡ []
AreStructs (suc n) ks xs = AreFields ks xs × AreStructs n ks (drop (length ks) xs)

-- the same, of one field at least
pub record AreKeptStructs (n : ℕ) (ks : List Kind) (xs : List ℤ) : Type 0 where
  pub some : 0 < length ks
  pub structs : AreStructs n ks xs

-- each value is a number of its kind, which lies within an i64
abbrev pub FitKinds : List Kind → List Value → Type 0
FitKinds [] [] = Unit {0}
FitKinds [] (v ∷ vs) = ⊥
FitKinds (k ∷ ks) [] = ⊥
FitKinds (k ∷ ks) (number j x ∷ vs) = (j ≡ k) × IsNarrow k × InRange k x × FitKinds ks vs
FitKinds (k ∷ ks) (list us ∷ vs) = ⊥
FitKinds (k ∷ ks) (struct us ∷ vs) = ⊥
FitKinds (k ∷ ks) (dict es ∷ vs) = ⊥

-- the numbers of the struct of a place begin at this one
pub record StandsAt (n place : ℕ) (ks : List Kind) (xs : List ℤ) (from : ℕ) : Type 0 where
  pub are : AreFields ks (drop from xs)
  pub within : from + length ks ≤ length xs
  pub at : slice_get (structs_in n ks xs) place ≡ Some (struct (fields_in ks (drop from xs)))

-- a struct stands at the place
pub record HasStructAt (vs : List Value) (place : ℕ) : Type 0 where
  pub fields : Values
  pub at : slice_get vs place ≡ Some (struct fields)

-- the value that is there
abbrev pub value_there : Option Value → Value
value_there (Some v) = v
value_there None = struct no_values

-- the value is a struct whose field of that number, from 0, is this one
abbrev pub HasThere : ℕ → Value → Value → Type 0
HasThere field w (number k x) = ⊥
HasThere field w (list vs) = ⊥
HasThere field w (struct vs) = slice_get (list_of_values vs) field ≡ Some w
HasThere field w (dict es) = ⊥

-- the value is a struct that has so many fields at most
abbrev pub HasAtMost : ℕ → Value → Type 0
HasAtMost field (number k x) = ⊥
HasAtMost field (list vs) = ⊥
HasAtMost field (struct vs) = length (list_of_values vs) ≤ field
HasAtMost field (dict es) = ⊥

-- the number that a struct's field is, where there is such a field
abbrev pub FieldAnswer : Option Num → ℕ → Value → Type 0
FieldAnswer (Some n) field v = HasThere field (number n.kind n.value) v
FieldAnswer None field v = HasAtMost field v

-- the numbers among values
abbrev pub numbers_of : List Value → List ℤ
numbers_of [] = []
numbers_of (number k x ∷ vs) = x ∷ numbers_of vs
numbers_of (list us ∷ vs) = numbers_of vs
numbers_of (struct us ∷ vs) = numbers_of vs
numbers_of (dict es ∷ vs) = numbers_of vs

-- the kinds of the numbers among values
abbrev pub kinds_of : List Value → List Kind
kinds_of [] = []
kinds_of (number k x ∷ vs) = k ∷ kinds_of vs
kinds_of (list us ∷ vs) = kinds_of vs
kinds_of (struct us ∷ vs) = kinds_of vs
kinds_of (dict es ∷ vs) = kinds_of vs

-- what a list has taken, where it could; else it is as it was
abbrev pub MayTake : {E : Type 0} → Result Bool E → List Value → List Value → List Value → Type 0
MayTake (Ok true) old more new = new ≡ old ++ more
MayTake (Ok false) old more new = new ≡ old
MayTake (Err e) old more new = new ≡ old
