-- Scripts of library calls: objects that are made one after another.
use Rattle.std.specs.Prelude.{◌≡◌, ◌<◌, ◌≤◌, ℕ, List, [], ◌∷◌, ◌++◌, map, length}
use Rattle.std.specs.List.{All}
use Rattle.weld_data.specs.Kind.{InRange}
use Rattle.weld_data.specs.Value.{Value}
use Rattle.weld_tree.specs.TypeTree.{TypeTree, scalar}
use Rattle.weld_tree.specs.HasValue.{HasValue}
use Rattle.weld_calls.specs.declared.call.Call.{Call}
use Rattle.weld_calls.specs.CallTypes.{HasItsOperator, FitsCall, IsValueType, argument, answer_of}
use Rattle.weld_table.specs.declared.wanted.Wanted.TheVariants.{Named}
use Rattle.weld_table.specs.Table.{IsCell, type_of_table}
use Rattle.weld_script.specs.declared.made.Declared.{Declared}
use Rattle.weld_script.specs.declared.made.Declared.TheVariants.{Input, Table}
use Rattle.weld_script.specs.declared.made.Made.{Made}
use Rattle.weld_script.specs.declared.made.Made.TheVariants as makes

-- ---- types

-- the type of what is declared: a table's is the struct of its columns' vectors
abbrev pub declared_type : Declared → TypeTree
declared_type (Input t) = t
declared_type (Table names ts) = type_of_table (Named names ts)

-- the types of the objects of these numbers, where the objects have these types
abbrev pub types_at : List TypeTree → List ℕ → List TypeTree
types_at ts ids = map (λ id. argument id ts) ids

-- the type of an object, where those before it have these types
abbrev pub made_type : List TypeTree → Made → TypeTree
made_type ts (makes.Declared d) = declared_type d
made_type ts (makes.Literal k x) = scalar k
made_type ts (makes.Call c ids) = answer_of c (types_at ts ids)

-- the types of all objects, where those before them have these types
abbrev pub made_types_from : List TypeTree → List Made → List TypeTree
made_types_from ts [] = ts
made_types_from ts (m ∷ ms) = made_types_from (ts ++ made_type ts m ∷ []) ms

abbrev pub made_types : List Made → List TypeTree
made_types ms = made_types_from [] ms

-- ---- what may be made

-- a table has columns, as many as names, of cells: scalars, vec[i8] or vec[u8]
pub record IsTable (names : List (List ℕ)) (ts : List TypeTree) : Type 0 where
  pub count : length names ≡ length ts
  pub some : 0 < length ts
  pub cells : All IsCell ts

abbrev pub IsDeclared : Declared → Type 0
IsDeclared (Input t) = IsValueType t
IsDeclared (Table names ts) = IsTable names ts

abbrev pub AreDeclared : List Declared → Type 0
AreDeclared [] = Unit {0}
AreDeclared (d ∷ ds) = IsDeclared d × AreDeclared ds

-- each of the numbers is below that one
abbrev pub AreBelow : ℕ → List ℕ → Type 0
AreBelow n [] = Unit {0}
AreBelow n (id ∷ ids) = (id < n) × AreBelow n ids

-- the call is made on objects before it, whose types fit it, and has an operator that it may have
pub record IsCall (ts : List TypeTree) (c : Call) (ids : List ℕ) : Type 0 where
  pub operator : HasItsOperator c
  pub before : AreBelow (length ts) ids
  pub fits : FitsCall c (types_at ts ids)

-- the object may be made, where those before it have these types
abbrev pub IsMade : List TypeTree → Made → Type 0
IsMade ts (makes.Declared d) = IsDeclared d
IsMade ts (makes.Literal k x) = InRange k x
IsMade ts (makes.Call c ids) = IsCall ts c ids

-- one object after another
abbrev pub AreMade : List TypeTree → List Made → Type 0
AreMade ts [] = Unit {0}
AreMade ts (m ∷ ms) = IsMade ts m × AreMade (ts ++ made_type ts m ∷ []) ms

-- ---- declarations and calls

abbrev pub declared_by : Made → List Declared
declared_by (makes.Declared d) = d ∷ []
declared_by (makes.Literal k x) = []
declared_by (makes.Call c ids) = []

-- the declarations, in order
abbrev pub declared_of : List Made → List Declared
declared_of [] = []
declared_of (m ∷ ms) = declared_by m ++ declared_of ms

-- a value for each declaration, of its type
abbrev pub AreInputs : List Declared → List Value → Type 0
AreInputs [] [] = Unit {0}
AreInputs [] (v ∷ vs) = ⊥
AreInputs (d ∷ ds) [] = ⊥
AreInputs (d ∷ ds) (v ∷ vs) = HasValue (declared_type d) v × AreInputs ds vs

abbrev pub called_by : Made → List Call
called_by (makes.Declared d) = []
called_by (makes.Literal k x) = []
called_by (makes.Call c ids) = c ∷ []

-- the calls, in order
abbrev pub calls_of : List Made → List Call
calls_of [] = []
calls_of (m ∷ ms) = called_by m ++ calls_of ms

-- ---- scripts

-- a script: the objects that it makes, and the numbers of those that it shows
pub record PlainScript : Type 0 where
  pub made : List Made
  pub shown : List ℕ

-- a script makes such objects and shows some of them, one at least; each literal is an argument of a call, and a call has
-- three at most
pub record IsScript (made : List Made) (shown : List ℕ) : Type 0 where
  pub objects : AreMade [] made
  pub declarations : length (declared_of made) ≤ 64
  pub calls : length (calls_of made) ≤ 200
  pub few : length made ≤ 864
  pub some : 0 < length shown
  pub most : length shown ≤ 64
  pub there : AreBelow (length made) shown
