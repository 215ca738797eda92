-- The table that is made from a number, and the fixed script on it.
use Rattle.std.specs.Prelude.{ℕ, zero, suc, ◌+◌, ◌*◌, ◌/◌, ◌%◌, pos, List, [], ◌∷◌, ◌++◌, map}
use Rattle.weld_data.specs.declared.kind.Kind.TheVariants.{I64}
use Rattle.weld_data.specs.declared.op.BinOp.TheVariants as ops
use Rattle.weld_data.specs.Value.{Value, number, list, struct, values}
use Rattle.weld_tree.specs.TypeTree.{TypeTree, scalar}
use Rattle.weld_calls.specs.declared.call.Call.TheVariants.{Column, Compare, Filter, Dot, GroupSum, Count}
use Rattle.weld_script.specs.declared.made.Declared.TheVariants.{Table}
use Rattle.weld_script.specs.declared.made.Made.{Made}
use Rattle.weld_script.specs.declared.made.Made.TheVariants as makes

-- ---- the table

-- the generator's number after that one; a draw gives the number above its last sixteen bits
abbrev pub next_number : ℕ → ℕ
next_number s = (s * 1103515245 + 12345) % 2147483648

abbrev pub draw_below : ℕ → ℕ → ℕ
draw_below n s = s / 65536 % n

-- a row: its k, below 8, and its x and y, below 100
pub record Row : Type 0 where
  pub k : ℕ
  pub x : ℕ
  pub y : ℕ

-- so many rows; each takes three draws
abbrev pub rows_from : ℕ → ℕ → List Row
rows_from s zero = []
rows_from s (suc n) =
    record { k = draw_below 8 (next_number s); x = draw_below 100 (next_number (next_number s)); y = draw_below 100 (next_number (next_number (next_number s))) }
    ∷ rows_from (next_number (next_number (next_number s))) n

-- a column of numbers of kind i64
abbrev pub column_of : (Row → ℕ) → List Row → Value
column_of part rows = list (values (map (λ r. number I64 (pos (part r))) rows))

abbrev pub table_of : List Row → Value
table_of rows = struct (values (column_of (λ r. r.k) rows ∷ column_of (λ r. r.x) rows ∷ column_of (λ r. r.y) rows ∷ []))

-- the table of so many rows that is made from the seed
abbrev pub soak_table : ℕ → ℕ → Value
soak_table seed rows = table_of (rows_from seed rows)

-- ---- the script

abbrev pub number_type : TypeTree
number_type = scalar I64

-- the table with the columns k, x and y, and then these columns
abbrev pub table_and_columns : List Made
table_and_columns =
    makes.Declared (Table ((107 ∷ []) ∷ (120 ∷ []) ∷ (121 ∷ []) ∷ []) (number_type ∷ number_type ∷ number_type ∷ []))
    ∷ makes.Call (Column 0) (0 ∷ [])
    ∷ makes.Call (Column 1) (0 ∷ [])
    ∷ makes.Call (Column 2) (0 ∷ [])
    ∷ []

-- 10, and where x is at least 10; there x, y and k
abbrev pub where_x_is_large : List Made
where_x_is_large =
    makes.Literal I64 (pos 10)
    ∷ makes.Call (Compare ops.Ge) (2 ∷ 4 ∷ [])
    ∷ makes.Call Filter (2 ∷ 5 ∷ [])
    ∷ makes.Call Filter (3 ∷ 5 ∷ [])
    ∷ makes.Call Filter (1 ∷ 5 ∷ [])
    ∷ []

-- the dot of x and y, the sums of x by k, and the number of rows
abbrev pub what_is_shown : List Made
what_is_shown = makes.Call Dot (6 ∷ 7 ∷ []) ∷ makes.Call GroupSum (8 ∷ 6 ∷ []) ∷ makes.Call Count (5 ∷ []) ∷ []

abbrev pub soak_made : List Made
soak_made = table_and_columns ++ (where_x_is_large ++ what_is_shown)

abbrev pub soak_shown : List ℕ
soak_shown = 9 ∷ 10 ∷ 11 ∷ []
