use Rattle.std.proofs.Common.{◌≡◌, ◌++◌, drop}
use Rattle.weld_tokens.specs.Literals.{items_value}
use Rattle.weld_tokens.proofs.Numbers.{left_of}
use Rattle.weld_tokens.proofs.literals.items_value.Given as goal

abbrev pub invariant-loop-byte : goal.invariant-loop-byte
invariant-loop-byte l = items_value l.items ≡ l.chars ++ left_of l.part l.high (drop l.byte-index l.items)
