-- Names that lines of a script bind, and arguments with the objects in the names' place.
use Rattle.std.specs.Prelude.{ℕ, if◌then◌else◌, List, [], ◌∷◌, Option, Some, None, option_map}
use Rattle.std.specs.Str.{bytes_eq}
use Rattle.weld_read_script.specs.declared.statements.statement.Argument.{Argument}
use Rattle.weld_read_script.specs.declared.statements.statement.Argument.TheVariants as written
use Rattle.weld_read_script.specs.Parts.{all_read}
use Rattle.weld_read_script.specs.declared.requests.names.Bound.{Bound}
use Rattle.weld_read_script.specs.declared.requests.names.Object.TheVariants.{Before, Literal}
use Rattle.weld_read_script.specs.declared.requests.names.Resolved.{Resolved}
use Rattle.weld_read_script.specs.declared.requests.names.Resolved.TheVariants.{OfObject, OutOfRange, Chars}

-- the object that the name is bound to
abbrev pub object_of : List ℕ → List Bound → Option ℕ
object_of name [] = None
object_of name (b ∷ bs) = if bytes_eq b.name name then Some b.object else object_of name bs

-- the objects of all the names, where all are bound
abbrev pub objects_of : List Bound → List (List ℕ) → Option (List ℕ)
objects_of bs names = all_read (λ name. object_of name bs) names

-- the argument with its object in place of its name, if that is bound
abbrev pub resolved : List Bound → Argument → Option Resolved
resolved bs (written.Name name) = option_map (λ id. OfObject (Before id)) (object_of name bs)
resolved bs (written.Literal k x) = Some (OfObject (Literal k x))
resolved bs written.OutOfRange = Some OutOfRange
resolved bs (written.Chars text) = Some (Chars text)

-- all the arguments so, where all names among them are bound
abbrev pub all_resolved : List Bound → List Argument → Option (List Resolved)
all_resolved bs arguments = all_read (resolved bs) arguments
