-- What a reader of records has left. The records are those of csv.
use Rattle.std.specs.Prelude.{◌≡◌, ◌⊎◌, ◌<◌, ℕ, Bool, true, false, List, [], ◌∷◌, length, Option, Some, None}
use Rattle.std.specs.Borrow.{Bor}
use Rattle.csv.specs.declared.reader.Reader.{Reader}
use Rattle.csv.specs.declared.reader.Trim.TheVariants as trims
use Rattle.csv.specs.declared.parser.State.{State}
use Rattle.csv.specs.declared.parser.State.TheVariants as states
use Rattle.csv.specs.Reading.{default_config, records_from, source_of, Ready, reader_config, reader_trim, reader_state}
use Rattle.weld_table.specs.Table.{Row}

-- the bytes that a reader of known bytes has left, where it hasn't failed
abbrev pub bytes_of : Reader (Bor (List ℕ)) → Option (List ℕ)
bytes_of r = source_of (λ (s : Bor (List ℕ)). Some s.now) r

-- how many they are
abbrev pub count_of : Option (List ℕ) → ℕ
count_of None = 0
count_of (Some bytes) = length bytes

-- a reader stands between two records
abbrev pub IsBetween : State → Type 0
IsBetween s = (s ≡ states.StartRecord) ⊎ (s ≡ states.AfterCr)

-- the reader has these records left, where enough turns are counted for the bytes that are left
pub record Leaves (r : Reader (Bor (List ℕ))) (rows : List Row) : Type 0 where
  pub trim : reader_trim r ≡ trims.None
  pub ready : Ready r
  pub config : reader_config r ≡ default_config
  pub between : IsBetween (reader_state r)
  pub bytes : List ℕ
  pub source : bytes_of r ≡ Some bytes
  pub turns : ℕ
  pub enough : length bytes < turns
  pub rows_are : rows ≡ records_from default_config turns (reader_state r) bytes

-- a record was taken from the front of those that were left; or none was left
abbrev pub Takes : Bool → Row → List Row → (List Row → Type 0) → Type 0
Takes true row rows P = (more : List Row) × (rows ≡ row ∷ more) × P more
Takes false row rows P = rows ≡ []
