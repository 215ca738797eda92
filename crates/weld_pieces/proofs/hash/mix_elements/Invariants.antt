use Rattle.std.proofs.Common.{◌≡◌, drop}
use Rattle.weld_data.specs.Value.{values}
use Rattle.weld_data.specs.View.{view_column}
use Rattle.weld_pieces.specs.KeyHash.{mixed_values}
use Rattle.weld_pieces.proofs.hash.mix_elements.Given as goal

abbrev pub invariant-loop-i : goal.invariant-loop-i
invariant-loop-i l =
    mixed_values l.word (values (drop l.i (view_column l.column))) ≡ mixed_values l.fn.word (values (view_column l.column))
