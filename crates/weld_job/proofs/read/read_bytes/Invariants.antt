use Rattle.std.proofs.Common.{◌-◌, ◌≤◌, length}
use Rattle.std.specs.Io.KnownBytes.{Consumes}
use Rattle.weld_job.proofs.read.read_bytes.Given as goal

abbrev pub invariant-loop-piece : goal.invariant-loop-piece
invariant-loop-piece g l =
    Consumes (g.S.Source.left l.fn.input) (g.S.Source.left l.input) l.bytes.items
    × (g.S.Source.faults l.fn.input ≤ g.S.Source.faults l.input)
    × (length l.bytes.items ≤ 67108865)

abbrev pub decreases-loop-piece : goal.decreases-loop-piece
decreases-loop-piece g l = 67108865 - length l.bytes.items
