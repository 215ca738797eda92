use Rattle.std.proofs.Common.{◌≡◌}
use Rattle.weld_read_script.specs.Keeping.{IsKnown}
use Rattle.weld_read_script.proofs.Lines.{GivesTo}
use Rattle.weld_read_script.proofs.read.read_lines.Given as goal

abbrev pub invariant-loop-line : goal.invariant-loop-line
invariant-loop-line l = record {
  numbered : l.number ≡ l.line-index;
  known : IsKnown l.known;
  gives : GivesTo l.lines l.line-index l.number l.known;
}
