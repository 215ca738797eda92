use Rattle.std.proofs.Common.{◌≡◌, ◌≤◌, drop}
use Rattle.weld_tokens.specs.Literals.{number_value, value_behind}
use Rattle.weld_tokens.proofs.literals.number_up_to.Given as goal

abbrev pub invariant-loop-byte : goal.invariant-loop-byte
invariant-loop-byte l = (number_value l.bytes ≡ value_behind l.value (drop l.byte-index l.bytes)) × (l.value ≤ l.fn.most)
