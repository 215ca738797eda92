-- The calls of the two libraries by their words in scripts.
use Rattle.std.specs.Prelude.{ℕ, if◌then◌else◌, List, [], ◌∷◌, codes, Option, Some, None}
use Rattle.std.specs.Str.{bytes_eq}
use Rattle.weld_data.specs.declared.op.BinOp.{BinOp}
use Rattle.weld_data.specs.declared.op.BinOp.TheVariants as ops
use Rattle.weld_calls.specs.declared.call.Call.{Call}
use Rattle.weld_calls.specs.declared.call.Call.TheVariants as calls
use Rattle.weld_read_script.specs.declared.requests.callee.Callee.{Callee}
use Rattle.weld_read_script.specs.declared.requests.callee.Callee.TheVariants.{Fixed, Column, Compare, Arith}

-- the word of a call
abbrev pub call_text : Call → List ℕ
call_text calls.Add = codes "add"
call_text calls.Sub = codes "sub"
call_text calls.Mul = codes "mul"
call_text calls.Scale = codes "scale"
call_text calls.Where = codes "where_"
call_text calls.Dot = codes "dot"
call_text calls.Sum = codes "sum"
call_text calls.Min = codes "min"
call_text calls.Max = codes "max"
call_text calls.Slice = codes "slice"
call_text calls.Take = codes "take"
call_text calls.Histogram = codes "histogram"
call_text calls.RowsDot = codes "rows_dot"
call_text (calls.Column n) = codes "column"
call_text calls.Filter = codes "filter"
call_text (calls.Compare op) = codes "compare"
call_text (calls.Arith op) = codes "arith"
call_text calls.Count = codes "count"
call_text calls.GroupSum = codes "group_sum"
call_text calls.GroupList = codes "group_list"
call_text calls.GroupCount = codes "group_count"

abbrev pub callee_text : Callee → List ℕ
callee_text (Fixed c) = call_text c
callee_text Column = codes "column"
callee_text Compare = codes "compare"
callee_text Arith = codes "arith"

-- the calls of the library of vectors
abbrev pub vector_calls : List Callee
vector_calls =
    Fixed calls.Add ∷ Fixed calls.Sub ∷ Fixed calls.Mul ∷ Fixed calls.Scale ∷ Fixed calls.Where ∷ Fixed calls.Dot ∷ Fixed calls.Sum
    ∷ Fixed calls.Min ∷ Fixed calls.Max ∷ Fixed calls.Slice ∷ Fixed calls.Take ∷ Fixed calls.Histogram ∷ Fixed calls.RowsDot ∷ []

-- the calls of the library of columns
abbrev pub column_calls : List Callee
column_calls =
    Column ∷ Fixed calls.Filter ∷ Compare ∷ Arith ∷ Fixed calls.Sum ∷ Fixed calls.Min ∷ Fixed calls.Max ∷ Fixed calls.Count
    ∷ Fixed calls.GroupSum ∷ Fixed calls.GroupList ∷ Fixed calls.GroupCount ∷ []

-- the one of these calls that is written so
abbrev pub named_among : List ℕ → List Callee → Option Callee
named_among word [] = None
named_among word (c ∷ cs) = if bytes_eq (callee_text c) word then Some c else named_among word cs

-- the call of that word in the library of that word
abbrev pub callee_of : List ℕ → List ℕ → Option Callee
callee_of library call =
    if bytes_eq (codes "vectors") library then named_among call vector_calls
    else if bytes_eq (codes "columns") library then named_among call column_calls
    else None

-- the comparison that is written so
abbrev pub comparison_of : List ℕ → Option BinOp
comparison_of text =
    if bytes_eq (codes "==") text then Some ops.Eq
    else if bytes_eq (codes "!=") text then Some ops.Ne
    else if bytes_eq (codes "<") text then Some ops.Lt
    else if bytes_eq (codes "<=") text then Some ops.Le
    else if bytes_eq (codes ">") text then Some ops.Gt
    else if bytes_eq (codes ">=") text then Some ops.Ge
    else None

-- the operator of arithmetic that is written so
abbrev pub arithmetic_of : List ℕ → Option BinOp
arithmetic_of text =
    if bytes_eq (codes "+") text then Some ops.Add
    else if bytes_eq (codes "-") text then Some ops.Sub
    else if bytes_eq (codes "*") text then Some ops.Mul
    else if bytes_eq (codes "/") text then Some ops.Div
    else if bytes_eq (codes "%") text then Some ops.Rem
    else None
