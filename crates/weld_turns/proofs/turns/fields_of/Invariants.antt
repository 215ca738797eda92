use Rattle.std.proofs.Common.{◌≡◌}
use Rattle.weld_data.specs.Value.{values}
use Rattle.weld_turns.specs.CodeView.{field_values, slots_of}
use Rattle.weld_turns.proofs.turns.fields_of.Given as goal

abbrev pub invariant-loop-k : goal.invariant-loop-k
invariant-loop-k l = values l.fields ≡ field_values l.k 0 (slots_of l.slots)
