-- What is known behind some lines of a script, and what a statement makes of it.
use Rattle.std.specs.Prelude.{◌≡◌, ℕ, suc, ◌+◌, ◌==◌, Bool, false, ◌||◌, if◌then◌else◌, nat_lt, List, [], ◌∷◌, ◌++◌, length, take, Option, Some, None, option_map, Result, Ok, Err}
use Rattle.std.specs.Option.{is_some}
use Rattle.std.specs.List.{slice_get}
use Rattle.std.specs.Str.{bytes_eq}
use Rattle.weld_tree.specs.declared.code.Code.{Code}
use Rattle.weld_tree.specs.declared.code.Code.TheVariants.{S2, S3, S4, S5, S6, S8}
use Rattle.weld_tree.specs.TypeTree.{TypeTree, scalar}
use Rattle.weld_calls.specs.declared.call.Call.{Call}
use Rattle.weld_calls.specs.declared.call.Call.TheVariants as calls
use Rattle.weld_calls.specs.CallTypes.{misfit, answer_of}
use Rattle.weld_read_script.specs.declared.statements.statement.Argument.{Argument}
use Rattle.weld_read_script.specs.declared.statements.statement.Columns.{Columns}
use Rattle.weld_read_script.specs.declared.statements.statement.Statement.{Statement}
use Rattle.weld_read_script.specs.declared.statements.statement.Statement.TheVariants as says
use Rattle.weld_read_script.specs.declared.requests.names.Object.{Object}
use Rattle.weld_read_script.specs.declared.requests.names.Object.TheVariants.{Before, Literal}
use Rattle.weld_read_script.specs.declared.requests.names.Resolved.{Resolved}
use Rattle.weld_read_script.specs.declared.requests.callee.Callee.{Callee}
use Rattle.weld_read_script.specs.declared.requests.request.Request.{Request}
use Rattle.weld_read_script.specs.declared.requests.request.Wish.{Wish}
use Rattle.weld_read_script.specs.declared.requests.request.Wish.TheVariants.{OfCall, OfColumn}
use Rattle.weld_read_script.specs.Callees.{callee_of}
use Rattle.weld_read_script.specs.Names.{object_of, objects_of, all_resolved}
use Rattle.weld_read_script.specs.Requests.{request_of}
use Rattle.weld_script.specs.declared.made.Declared.{Declared}
use Rattle.weld_script.specs.declared.made.Declared.TheVariants.{Input, Table}
use Rattle.weld_script.specs.declared.made.Made.{Made}
use Rattle.weld_script.specs.declared.made.Made.TheVariants as makes
use Rattle.weld_script.specs.Script.{declared_type, types_at}
use Rattle.weld_read_script.specs.declared.steps.known.Known.{Known}
use Rattle.weld_read_script.specs.declared.steps.known.LineFault.{LineFault}
use Rattle.weld_read_script.specs.declared.steps.known.LineFault.TheVariants as lines_end

-- the code where the test is so, and else what follows
abbrev pub refused_if : Bool → Code → Result Known Code → Result Known Code
refused_if test code rest = if test then Err code else rest

-- what is known before the first line
abbrev pub nothing_known : Known
nothing_known = record { bound = []; made = []; types = []; declarations = 0; calls = 0; shown = [] }

-- the step as it is said, or its code, or want of memory
abbrev pub Steps : Result Known Code → Result (Unit {0}) LineFault → Known → Type 0
Steps next (Ok u) k = next ≡ Ok k
Steps next (Err (lines_end.Refused code)) k = next ≡ Err code
Steps next (Err lines_end.Memory) k = Unit {0}

-- ---- what is made

-- one object more, of this type, to which the name is bound
abbrev pub bind : Known → List ℕ → Made → TypeTree → Known
bind k name m t = record k {
  bound = k.bound ++ record { name = name; object = length k.made } ∷ [];
  made = k.made ++ m ∷ [];
  types = k.types ++ t ∷ [];
}

-- a declaration more
abbrev pub declare : Known → List ℕ → Declared → Known
declare k name d = record (bind k name (makes.Declared d) (declared_type d)) { declarations = k.declarations + 1 }

-- a call more
abbrev pub add_call : Known → List ℕ → Call → List ℕ → Known
add_call k name call ids = record (bind k name (makes.Call call ids) (answer_of call (types_at k.types ids))) { calls = k.calls + 1 }

-- the literals among objects, as objects of their own, and their types
abbrev pub literals : List Object → List Made
literals [] = []
literals (Before id ∷ os) = literals os
literals (Literal x n ∷ os) = makes.Literal x n ∷ literals os

abbrev pub literal_types : List Object → List TypeTree
literal_types [] = []
literal_types (Before id ∷ os) = literal_types os
literal_types (Literal x n ∷ os) = scalar x ∷ literal_types os

abbrev pub with_literals : Known → List Object → Known
with_literals k os = record k { made = k.made ++ literals os; types = k.types ++ literal_types os }

-- the numbers of the objects, where the next that is made has that number
abbrev pub numbers : ℕ → List Object → List ℕ
numbers n [] = []
numbers n (Before id ∷ os) = id ∷ numbers n os
numbers n (Literal x m ∷ os) = n ∷ numbers (suc n) os

-- ---- declarations

-- the name stands among these
abbrev pub stands_among : List ℕ → List (List ℕ) → Bool
stands_among name [] = false
stands_among name (n ∷ ns) = bytes_eq n name || stands_among name ns

-- a name stands twice among these
abbrev pub has_twice : List (List ℕ) → Bool
has_twice [] = false
has_twice (n ∷ ns) = stands_among n ns || has_twice ns

-- the place of the first of the names that is this one, from that number on
abbrev pub place_from : ℕ → List ℕ → List (List ℕ) → Option ℕ
place_from at name [] = None
place_from at name (n ∷ ns) = if bytes_eq n name then Some at else place_from (suc at) name ns

abbrev pub is_bound : List ℕ → Known → Bool
is_bound name k = is_some (object_of name k.bound)

-- 64 declarations at most
abbrev pub declared : Known → List ℕ → Declared → Result Known Code
declared k name d = refused_if (k.declarations == 64) S8 (Ok (declare k name d))

abbrev pub after_input : Known → List ℕ → TypeTree → Result Known Code
after_input k name t = refused_if (is_bound name k) S2 (declared k name (Input t))

abbrev pub after_table : Known → List ℕ → Columns → Result Known Code
after_table k name columns =
    refused_if (is_bound name k || has_twice columns.names) S2 (declared k name (Table columns.names columns.cells))

-- ---- calls

-- the number of the column of that name, where the object is a table that has one; a table has 16 columns at most
abbrev pub column_number : List ℕ → Option Made → Option ℕ
column_number name (Some (makes.Declared (Table names ts))) = place_from 0 name (take 16 names)
column_number name _ = None

-- the call that is wished for, on these objects
abbrev pub wished : List Made → Wish → List ℕ → Option Call
wished ms (OfCall call) ids = Some call
wished ms (OfColumn name) [] = None
wished ms (OfColumn name) (id ∷ ids) = option_map calls.Column (column_number name (slice_get ms id))

-- the types fit the call; 200 calls at most
abbrev pub after_wish : Known → List ℕ → List ℕ → Option Call → Result Known Code
after_wish k name ids None = Err S6
after_wish k name ids (Some call) =
    refused_if (is_some (misfit call (types_at k.types ids))) S6 (refused_if (k.calls == 200) S8 (Ok (add_call k name call ids)))

abbrev pub placed : Known → List ℕ → Wish → List ℕ → Result Known Code
placed k name wish ids = after_wish k name ids (wished k.made wish ids)

abbrev pub after_request : Known → List ℕ → Option Request → Result Known Code
after_request k name None = Err S5
after_request k name (Some request) = placed (with_literals k request.objects) name request.wish (numbers (length k.made) request.objects)

abbrev pub after_callee : Known → List ℕ → List Resolved → Option Callee → Result Known Code
after_callee k name arguments None = Err S4
after_callee k name arguments (Some callee) = after_request k name (request_of callee arguments)

abbrev pub after_names : Known → List ℕ → List ℕ → List ℕ → Option (List Resolved) → Result Known Code
after_names k name library call None = Err S3
after_names k name library call (Some arguments) = after_callee k name arguments (callee_of library call)

abbrev pub after_call : Known → List ℕ → List ℕ → List ℕ → List Argument → Result Known Code
after_call k name library call arguments =
    refused_if (is_bound name k) S2 (after_names k name library call (all_resolved k.bound arguments))

-- ---- shown names

-- 64 shown names at most
abbrev pub shown_also : Known → Option (List ℕ) → Result Known Code
shown_also k None = Err S3
shown_also k (Some ids) = refused_if (nat_lt 64 (length k.shown + length ids)) S8 (Ok (record k { shown = k.shown ++ ids }))

abbrev pub after_show : Known → List (List ℕ) → Result Known Code
after_show k names = shown_also k (objects_of k.bound names)

-- ---- statements

-- what is known behind the statement, or the first code that refuses it
abbrev pub after : Known → Statement → Result Known Code
after k (says.Input name t) = after_input k name t
after k (says.Table name columns) = after_table k name columns
after k (says.Call name library call arguments) = after_call k name library call arguments
after k (says.Show names) = after_show k names
