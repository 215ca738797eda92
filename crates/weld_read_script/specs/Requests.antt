-- What a line of a call asks for.
use Rattle.std.specs.Prelude.{◌==◌, if◌then◌else◌, List, [], ◌∷◌, length, Option, Some, None, option_map, option_and_then}
use Rattle.weld_calls.specs.declared.call.Call.{Call}
use Rattle.weld_calls.specs.declared.call.Call.TheVariants as calls
use Rattle.weld_calls.specs.CallTypes.{row}
use Rattle.weld_read_script.specs.Parts.{all_read}
use Rattle.weld_read_script.specs.declared.requests.callee.Callee.{Callee}
use Rattle.weld_read_script.specs.declared.requests.callee.Callee.TheVariants.{Fixed, Column, Compare, Arith}
use Rattle.weld_read_script.specs.declared.requests.names.Object.{Object}
use Rattle.weld_read_script.specs.declared.requests.names.Resolved.{Resolved}
use Rattle.weld_read_script.specs.declared.requests.names.Resolved.TheVariants.{OfObject, OutOfRange, Chars}
use Rattle.weld_read_script.specs.declared.requests.request.Request.{Request}
use Rattle.weld_read_script.specs.declared.requests.request.Wish.{Wish}
use Rattle.weld_read_script.specs.declared.requests.request.Wish.TheVariants as wishes
use Rattle.weld_read_script.specs.Callees.{comparison_of, arithmetic_of}

-- the object that an argument is; none where it is a string, or a number out of its range
abbrev pub object_in : Resolved → Option Object
object_in (OfObject object) = Some object
object_in OutOfRange = None
object_in (Chars text) = None

abbrev pub all_objects : List Resolved → Option (List Object)
all_objects arguments = all_read object_in arguments

abbrev pub asked : Wish → List Object → Request
asked wish objects = record { wish = wish; objects = objects }

-- so many objects as the call takes
abbrev pub counted : Call → List Object → Option Request
counted call objects = if length objects == length (row call) then Some (asked (wishes.OfCall call) objects) else None

-- what is asked for; none where the number of the arguments is wrong, or one has the wrong form
abbrev pub request_of : Callee → List Resolved → Option Request
request_of (Fixed call) arguments = option_and_then (counted call) (all_objects arguments)
request_of Column (OfObject t ∷ Chars name ∷ []) = Some (asked (wishes.OfColumn name) (t ∷ []))
request_of Compare (OfObject c ∷ Chars text ∷ OfObject s ∷ []) =
    option_map (λ op. asked (wishes.OfCall (calls.Compare op)) (c ∷ s ∷ [])) (comparison_of text)
request_of Arith (OfObject c ∷ Chars text ∷ OfObject d ∷ []) =
    option_map (λ op. asked (wishes.OfCall (calls.Arith op)) (c ∷ d ∷ [])) (arithmetic_of text)
request_of _ _ = None
