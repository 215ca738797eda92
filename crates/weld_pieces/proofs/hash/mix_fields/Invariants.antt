use Rattle.std.proofs.Common.{◌≡◌, drop}
use Rattle.weld_data.specs.Value.{values}
use Rattle.weld_pieces.specs.KeyHash.{mixed_values}
use Rattle.weld_pieces.proofs.hash.mix_fields.Given as goal

abbrev pub invariant-loop-i : goal.invariant-loop-i
invariant-loop-i l =
    mixed_values l.word (values (drop l.i l.fields)) ≡ mixed_values l.fn.word (values l.fields)
