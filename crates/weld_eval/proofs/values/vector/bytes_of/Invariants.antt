use Rattle.std.proofs.Common.{◌≡◌, map, take}
use Rattle.weld_data.specs.declared.kind.Kind.TheVariants as kinds
use Rattle.weld_data.specs.Value.{number}
use Rattle.weld_meaning.specs.Evaluation.{byte_value}
use Rattle.weld_eval.proofs.values.vector.bytes_of.Given as goal

abbrev pub invariant-loop-byte : goal.invariant-loop-byte
invariant-loop-byte l = map (number kinds.I8) l.items ≡ map byte_value (take l.byte-index l.byte-items)
