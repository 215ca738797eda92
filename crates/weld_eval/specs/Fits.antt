-- Which values an operation takes.
use Rattle.std.specs.Prelude.{ℕ, ◌<◌, length}
use Rattle.weld_data.specs.declared.kind.Kind.{Kind}
use Rattle.weld_data.specs.declared.kind.Kind.TheVariants as kinds
use Rattle.weld_data.specs.declared.op.BinOp.{BinOp}
use Rattle.weld_data.specs.Kind.{IsInteger}
use Rattle.weld_data.specs.Operation.{TakesKind}
use Rattle.weld_data.specs.Order.{IsNumber, IsKeyFor}
use Rattle.weld_data.specs.Value.{Value, number, list, struct, dict, list_of_values, list_of_entries}
use Rattle.weld_tree.specs.HasValue.{IsNumber as IsNumberOf}

-- numbers of one kind that the operator takes
abbrev pub AreOperands : BinOp → Value → Value → Type 0
AreOperands op v w = (k : Kind) × TakesKind op k × IsNumberOf k v × IsNumberOf k w

-- a number of an integer kind
abbrev pub IsIntegerNumber : Value → Type 0
IsIntegerNumber v = (k : Kind) × IsInteger k × IsNumberOf k v

abbrev pub IsTruth : Value → Type 0
IsTruth v = IsNumberOf kinds.Bool v

abbrev pub IsList : Value → Type 0
IsList (number k x) = ⊥
IsList (list vs) = Unit {0}
IsList (struct vs) = ⊥
IsList (dict es) = ⊥

-- a vector and a number, or a dictionary and a value of the type of its keys
abbrev pub IsLookUp : Value → Value → Type 0
IsLookUp (number k x) w = ⊥
IsLookUp (list vs) w = IsNumber w
IsLookUp (struct vs) w = ⊥
IsLookUp (dict es) w = IsKeyFor (list_of_entries es) w

abbrev pub IsKeyLookUp : Value → Value → Type 0
IsKeyLookUp (number k x) w = ⊥
IsKeyLookUp (list vs) w = ⊥
IsKeyLookUp (struct vs) w = ⊥
IsKeyLookUp (dict es) w = IsKeyFor (list_of_entries es) w

-- a struct that has a field of the number, from 0
abbrev pub HasField : ℕ → Value → Type 0
HasField n (number k x) = ⊥
HasField n (list vs) = ⊥
HasField n (struct vs) = n < length (list_of_values vs)
HasField n (dict es) = ⊥

-- a number of kind i64
abbrev pub IsPlaceNumber : Value → Type 0
IsPlaceNumber v = IsNumberOf kinds.I64 v
