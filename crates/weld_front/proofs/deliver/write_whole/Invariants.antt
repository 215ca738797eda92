use Rattle.std.proofs.Common.{◌≡◌, ◌-◌, ◌≤◌, length, take}
use Rattle.std.specs.Io.KnownBytes.{Appends}
use Rattle.weld_front.proofs.deliver.write_whole.Given as goal

-- the sink has taken the front of the text
abbrev pub invariant-loop-taken : goal.invariant-loop-taken
invariant-loop-taken g l = record {
  within : l.taken ≤ length l.text;
  appended : Appends (g.K.Sink.held l.fn.output) (g.K.Sink.held l.output) (take l.taken l.text);
  settled : g.K.Sink.settled l.output ≡ g.K.Sink.settled l.fn.output;
  never_falls : g.K.Sink.faults l.fn.output ≤ g.K.Sink.faults l.output;
}

abbrev pub decreases-loop-taken : goal.decreases-loop-taken
decreases-loop-taken g l = length l.text - l.taken
