-- Which values are of a type.
use Rattle.std.specs.Prelude.{◌≡◌}
use Rattle.weld_data.specs.declared.kind.Kind.{Kind}
use Rattle.weld_data.specs.Kind.{InRange}
use Rattle.weld_data.specs.Value.{Value, number, list, struct, dict, Values, no_values, and_value, Entries, no_entries, and_entry, list_of_entries}
use Rattle.weld_data.specs.Order.{Rises}
use Rattle.weld_tree.specs.TypeTree.{TypeTree, TypeTrees, scalar, vec, struct as struct_of, dict as dict_of, build, no_types, more_types}

-- a number of the kind, in its range
abbrev pub IsNumber : Kind → Value → Type 0
IsNumber kind (number k x) = (k ≡ kind) × InRange kind x
IsNumber kind (list vs) = ⊥
IsNumber kind (struct vs) = ⊥
IsNumber kind (dict es) = ⊥

-- each of the values is such a one
abbrev pub AllAre : (Value → Type 0) → Values → Type 0
AllAre P no_values = Unit {0}
AllAre P (and_value v vs) = P v × AllAre P vs

-- a list of such values
abbrev pub IsListOf : (Value → Type 0) → Value → Type 0
IsListOf P (number k x) = ⊥
IsListOf P (list vs) = AllAre P vs
IsListOf P (struct vs) = ⊥
IsListOf P (dict es) = ⊥

-- a struct of such fields
abbrev pub IsStructOf : (Values → Type 0) → Value → Type 0
IsStructOf P (number k x) = ⊥
IsStructOf P (list vs) = ⊥
IsStructOf P (struct vs) = P vs
IsStructOf P (dict es) = ⊥

-- each key is a first such one, and its value a second such one
abbrev pub AllEntriesAre : (Value → Type 0) → (Value → Type 0) → Entries → Type 0
AllEntriesAre P Q no_entries = Unit {0}
AllEntriesAre P Q (and_entry k v es) = P k × Q v × AllEntriesAre P Q es

-- a dictionary of such keys and values, its keys rising
abbrev pub IsDictOf : (Value → Type 0) → (Value → Type 0) → Value → Type 0
IsDictOf P Q (number k x) = ⊥
IsDictOf P Q (list vs) = ⊥
IsDictOf P Q (struct vs) = ⊥
IsDictOf P Q (dict es) = AllEntriesAre P Q es × Rises (list_of_entries es)

-- a first such value before such values
abbrev pub IsOneAnd : (Value → Type 0) → (Values → Type 0) → Values → Type 0
IsOneAnd P Q no_values = ⊥
IsOneAnd P Q (and_value v vs) = P v × Q vs

-- there is no value
abbrev pub AreNone : Values → Type 0
AreNone no_values = Unit {0}
AreNone (and_value v vs) = ⊥

abbrev mutual
  -- the value is one of the type: a number of its kind and in its range, a list of values of the items' type,
  -- a struct of one value for each field, or a dictionary with rising keys; no value is of a builder's type
  pub HasValue : TypeTree → Value → Type 0
  HasValue (scalar kind) = IsNumber kind
  HasValue (vec t) = IsListOf (HasValue t)
  HasValue (struct_of ts) = IsStructOf (HaveValues ts)
  HasValue (dict_of k v) = IsDictOf (HasValue k) (HasValue v)
  HasValue (build b) = λ value. ⊥

  -- the values are of these types, one by one
  pub HaveValues : TypeTrees → Values → Type 0
  HaveValues no_types = AreNone
  HaveValues (more_types t ts) = IsOneAnd (HasValue t) (HaveValues ts)
