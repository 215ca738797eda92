use Rattle.std.proofs.Common.{◌≤◌}
use Rattle.std.specs.Io.KnownBytes.{Keeps}
use Rattle.weld_ports.proofs.standard.StdinSourceSource.read.Given as goal

abbrev pub invariant-loop : goal.invariant-loop
invariant-loop g l =
    (l.fn.self.faults ≤ l.self.faults) × Keeps (g.R.Read.remaining l.fn.self.reader) (g.R.Read.remaining l.self.reader)
