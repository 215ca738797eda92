use Rattle.std.proofs.Common.{[], ◌∷◌, sym, ◌∙◌}
use Rattle.weld_data.specs.View.{view_val}
use Rattle.weld_builders.specs.Outcome.{done}
use Rattle.weld_builders.specs.Part.{totals_part, kinds_of}
use Rattle.weld_built.specs.Pair.{pair}
use Rattle.weld_built.proofs.TotalsLemmas.{first_is_number, second_is_number, two_are, kinds_are, merge_is}
use Rattle.weld_built.proofs.totals.merge_two.Goals as goal

pub as_number-requires : goal.as_number-requires
as_number-requires c = first_is_number (kinds_of c.args.totals.now.totals) (view_val c.args.first) (view_val c.args.second) c.requires

pub as_number-requires-2 : goal.as_number-requires-2
as_number-requires-2 c = second_is_number (kinds_of c.args.totals.now.totals) (view_val c.args.first) (view_val c.args.second) c.requires

pub merge_numbers-requires : goal.merge_numbers-requires
merge_numbers-requires c =
    kinds_are c.args.totals.now.totals (pair (view_val c.args.first) (view_val c.args.second)) (c.as_number.result ∷ c.as_number-2.result ∷ [])
    (two_are _ _ c.as_number.result c.as_number-2.result c.as_number.ensures c.as_number-2.ensures) c.requires

pub returns : goal.returns
returns c =
    merge_is c.args.totals.now.op c.args.totals.now.totals (pair (view_val c.args.first) (view_val c.args.second)) (c.as_number.result ∷ c.as_number-2.result ∷ [])
    (two_are _ _ c.as_number.result c.as_number-2.result c.as_number.ensures c.as_number-2.ensures) c.requires
    ∙ (λ j. done (totals_part (sym c.merge_numbers.ensures.op j) (sym c.merge_numbers.ensures.totals j)))
