use Rattle.std.proofs.Common.{◌≡◌, ◌-◌}
use Rattle.weld_data.specs.Structs.{AreStructs}
use Rattle.weld_builders.specs.Part.{kinds_of}
use Rattle.weld_pieces.specs.Totals.{totals_in, rows_joined, AreIntegers}
use Rattle.weld_pieces.proofs.totals.add_rows.Given as goal

-- what is left of the rows comes to the same
abbrev pub invariant-rows : goal.invariant-rows
invariant-rows l =
    (rows_joined l.op (totals_in l.initial.totals) l.numbers l.count ≡ rows_joined l.op (totals_in l.totals) l.left (l.count - l.i))
    × AreStructs (l.count - l.i) (kinds_of (totals_in l.totals)) l.left
    × AreIntegers (kinds_of (totals_in l.totals))
