use Rattle.std.proofs.Common.{◌≡◌, map, drop}
use Rattle.weld_data.specs.Value.{number, values}
use Rattle.weld_data.specs.declared.kind.Kind.TheVariants as kinds
use Rattle.weld_pieces.specs.KeyHash.{mixed_values}
use Rattle.weld_pieces.proofs.hash.mix_i8s.Given as goal

abbrev pub invariant-loop-x : goal.invariant-loop-x
invariant-loop-x l =
    mixed_values l.word (values (map (number kinds.I8) (drop l.x-index l.items))) ≡ mixed_values l.fn.word (values (map (number kinds.I8) l.items))
