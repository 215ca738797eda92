use Rattle.std.proofs.Common.{◌≡◌, Some}
use Rattle.weld_data.specs.declared.kind.Kind.TheVariants as kinds
use Rattle.weld_pieces.specs.Keyed.{KeysAreKept}
use Rattle.weld_pieces_tests.proofs.keyed.keyed_of.Given as goal

abbrev pub invariant-loop-key : goal.invariant-loop-key
invariant-loop-key l = (l.part.key ≡ Some kinds.I64) × (l.part.kind ≡ kinds.I64) × KeysAreKept (Some kinds.I64) l.part.numbers
