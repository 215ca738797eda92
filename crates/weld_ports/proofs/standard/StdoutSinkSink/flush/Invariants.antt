use Rattle.std.proofs.Common.{◌≤◌}
use Rattle.std.specs.Io.KnownBytes.{Keeps}
use Rattle.weld_ports.proofs.standard.StdoutSinkSink.flush.Given as goal

abbrev pub invariant-loop : goal.invariant-loop
invariant-loop g l =
    (l.fn.self.faults ≤ l.self.faults) × Keeps (g.W.Write.contents l.fn.self.writer) (g.W.Write.contents l.self.writer)
