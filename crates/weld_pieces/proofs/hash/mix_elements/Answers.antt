use Rattle.std.proofs.Common.{rules, FitsSigned, w64, to_z, of_z, ◌∙◌}
use Rattle.std.proofs.lemmas.Int.{to_z-of_z}
use Rattle.weld_data.specs.View.{view_column}
use Rattle.weld_sorted.proofs.Comparing.{one_kind_at}
use Rattle.weld_pieces.proofs.HashLemmas.{next_mixed}
use Rattle.weld_pieces.proofs.hash.mix_elements.Goals as goal

pub number_at-requires-clause-number : goal.number_at-requires-clause-number
number_at-requires-clause-number c = one_kind_at (view_column c.args.column.now) c.loop-i.i c.requires

pub loop-i-preserved : goal.loop-i-preserved
loop-i-preserved c =
    let r = c.mix_number-word.result in
    let fits : FitsSigned w64 r = search rules in
    next_mixed (view_column c.args.column.now) c.loop-i.i _ (to_z w64 c.loop-i.word-bits) (to_z w64 (of_z w64 r)) _ c.number_at.ensures
    (to_z-of_z w64 r fits ∙ c.mix_number-word.ensures) c.loop-i.invariant
