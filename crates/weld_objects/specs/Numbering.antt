-- A map of numbers as a list of pairs.
use Rattle.std.specs.Prelude.{ℕ, unwrap_or}
use Rattle.weld_meaning.specs.Environment.{Named, look_for}
use Rattle.weld_objects.specs.Renamed.{Renaming}

-- a number becomes the one that is listed for it; one that isn't there stays
abbrev pub number_in : Named ℕ → Renaming
number_in numbers s = unwrap_or (look_for s numbers) s
