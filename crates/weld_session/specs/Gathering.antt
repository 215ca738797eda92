-- The steps by which a script becomes a graph.
use Rattle.std.specs.Prelude.{◌≡◌, List, [], ◌∷◌, ◌++◌, Option, Some, None, map}
use Rattle.weld_data.specs.Value.{Value, number, struct, no_values}
use Rattle.weld_data.specs.View.{view_val}
use Rattle.weld_data.specs.declared.value.Val.{Val}
use Rattle.weld_tree.specs.TypeTree.{TypeTree, scalar}
use Rattle.weld_tree.specs.HasValue.{HasValue}
use Rattle.weld_objects.specs.Objects.{Object, given, call, type_of}
use Rattle.weld_calls.specs.CallTypes.{answer_of}
use Rattle.weld_calls.specs.CallPrograms.{fragment}
use Rattle.weld_lazy.specs.declared.fault.LazyFault.{LazyFault}
use Rattle.weld_lazy.specs.declared.fault.LazyFault.TheVariants as lazy
use Rattle.weld_lazy.specs.declared.fault.LibFault.{LibFault}
use Rattle.weld_lazy.specs.declared.fault.LibFault.TheVariants as faults
use Rattle.weld_script.specs.declared.made.Made.{Made}
use Rattle.weld_script.specs.declared.made.Made.TheVariants as makes
use Rattle.weld_script.specs.Script.{types_at, declared_type, made_type}
use Rattle.weld_session.specs.Answer.{left_after}

-- the next value, where there is one
abbrev pub next_of : List Value → Value
next_of [] = struct no_values
next_of (v ∷ vs) = v

-- an object of the script as one of the graph, where those before it have these types
abbrev pub object_of : List TypeTree → List Value → Made → Object
object_of types inputs (makes.Declared d) = given (declared_type d) (next_of inputs)
object_of types inputs (makes.Literal k x) = given (scalar k) (number k x)
object_of types inputs (makes.Call c ids) = call (answer_of c (types_at types ids)) ids (fragment c (types_at types ids))

-- one after another
abbrev pub objects_from : List TypeTree → List Value → List Made → List Object
objects_from types inputs [] = []
objects_from types inputs (m ∷ ms) = object_of types inputs m ∷ objects_from (types ++ made_type types m ∷ []) (left_after m inputs) ms

-- the types of a graph's objects
abbrev pub types_of : List Object → List TypeTree
types_of os = map type_of os

-- the values that are left have the object's first, where it is a declaration
abbrev pub Hands : Made → List Value → Type 0
Hands (makes.Declared d) [] = ⊥
Hands (makes.Declared d) (v ∷ vs) = HasValue (declared_type d) v
Hands (makes.Literal k x) vs = Unit {0}
Hands (makes.Call c ids) vs = Unit {0}

-- what is taken from the front
abbrev pub IsTaken : Option Val → List Value → List Value → Type 0
IsTaken None old new = (old ≡ []) × (new ≡ [])
IsTaken (Some v) old new = old ≡ view_val v ∷ new

-- memory is wanting
abbrev pub IsMemory : LibFault → Type 0
IsMemory faults.Memory = Unit {0}
IsMemory _ = ⊥

-- memory is wanting, in lowering
abbrev pub LowersMemory : LazyFault → Type 0
LowersMemory lazy.Memory = Unit {0}
LowersMemory _ = ⊥
