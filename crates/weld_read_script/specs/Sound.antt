-- What is known of every statement that a line is.
use Rattle.std.specs.Prelude.{◌≡◌, ◌<◌, length}
use Rattle.std.specs.List.{All, AllByRecursion}
use Rattle.weld_data.specs.Kind.{InRange}
use Rattle.weld_calls.specs.CallTypes.{IsValueType}
use Rattle.weld_table.specs.Table.{IsCell}
use Rattle.weld_read_script.specs.declared.statements.statement.Argument.{Argument}
use Rattle.weld_read_script.specs.declared.statements.statement.Argument.TheVariants.{Name, Literal, OutOfRange, Chars}
use Rattle.weld_read_script.specs.declared.statements.statement.Columns.{Columns}
use Rattle.weld_read_script.specs.declared.statements.statement.Statement.{Statement}
use Rattle.weld_read_script.specs.declared.statements.statement.Statement.TheVariants.{Input, Table, Call, Show}

-- a number is one of its kind
abbrev pub IsArgument : Argument → Type 0
IsArgument (Name name) = Unit {0}
IsArgument (Literal k x) = InRange k x
IsArgument OutOfRange = Unit {0}
IsArgument (Chars text) = Unit {0}

-- there are columns, as many as names, of cells
pub record AreColumns (columns : Columns) : Type 0 where
  pub count : length columns.names ≡ length columns.cells
  pub some : 0 < length columns.cells
  pub cells : All IsCell columns.cells

abbrev pub IsStatement : Statement → Type 0
IsStatement (Input name t) = IsValueType t
IsStatement (Table name columns) = AreColumns columns
IsStatement (Call name library call arguments) = AllByRecursion IsArgument arguments
IsStatement (Show names) = 0 < length names
