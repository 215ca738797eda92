use Rattle.std.proofs.Common.{◌≡◌, ◌++◌, drop}
use Rattle.weld_built.specs.Rows.{interleaved}
use Rattle.weld_built.proofs.rows.side_by_side.Given as goal

-- what there is and what is still to come make the whole
abbrev pub invariant-rows : goal.invariant-rows
invariant-rows l = l.words.items ++ interleaved (drop l.i l.keys) (drop l.i l.numbers) ≡ interleaved l.keys l.numbers
