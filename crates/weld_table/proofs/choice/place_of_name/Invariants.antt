use Rattle.csv.specs.Records.{fields_of}
use Rattle.weld_table.proofs.Choosing.{IsSought}
use Rattle.weld_table.proofs.choice.place_of_name.Given as goal

abbrev pub invariant-loop-i : goal.invariant-loop-i
invariant-loop-i l = IsSought l.name (fields_of l.header) l.i
