use Rattle.std.proofs.Common.{◌≡◌, ◌+◌, ◌≤◌, ◌++◌, length, take, drop}
use Rattle.std.specs.Vec.{vec_len, vec_capacity}
use Rattle.weld_accept.proofs.stack.put_all.Given as goal

abbrev pub invariant-loop-entry : goal.invariant-loop-entry
invariant-loop-entry l = record {
  put : l.entries.items ≡ l.fn.entries.items ++ take l.entry-index l.more;
  room : vec_len l.entries + length (drop l.entry-index l.more) ≤ vec_capacity l.entries;
}
