use Rattle.std.proofs.Common.{rules, FitsSigned, w64, to_z, of_z, ◌∙◌}
use Rattle.std.proofs.lemmas.Int.{to_z-of_z}
use Rattle.weld_sorted.proofs.Comparing.{key_field_at}
use Rattle.weld_pieces.proofs.HashLemmas.{next_mixed}
use Rattle.weld_pieces.proofs.hash.mix_fields.Goals as goal

pub mix_field-word-requires : goal.mix_field-word-requires
mix_field-word-requires c = key_field_at c.args.fields.now c.loop-i.i _ c.requires c.at.ensures

pub loop-i-preserved : goal.loop-i-preserved
loop-i-preserved c =
    let r = c.mix_field-word.result in
    let fits : FitsSigned w64 r = search rules in
    next_mixed c.args.fields.now c.loop-i.i _ (to_z w64 c.loop-i.word-bits) (to_z w64 (of_z w64 r)) _ c.at.ensures
    (to_z-of_z w64 r fits ∙ c.mix_field-word.ensures) c.loop-i.invariant
