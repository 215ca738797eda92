use Rattle.std.proofs.Common.{refl, ◌∙◌}
use Rattle.weld_data.specs.Value.{struct, values}
use Rattle.weld_builders.specs.Part.{totals_part}
use Rattle.weld_eval_forms.proofs.Starting.{some_numbers, integers_there, totals_from}
use Rattle.weld_eval_forms.proofs.starts.totals_from.Goals as goal

pub numbers_of-requires : goal.numbers_of-requires
numbers_of-requires c = some_numbers (struct (values c.args.fields.now)) c.args.fields.now c.requires refl

pub from_numbers-requires : goal.from_numbers-requires
from_numbers-requires c = integers_there (struct (values c.args.fields.now)) c.args.fields.now c.in_ok-totals.totals.items c.requires refl c.in_ok-totals.ensures

pub returns : goal.returns
returns c =
    totals_from c.args.op (struct (values c.args.fields.now)) c.args.fields.now c.in_ok-totals.totals.items c.totals.result refl c.in_ok-totals.ensures
    (c.totals.ensures ∙ (λ j. totals_part (c.from_numbers.ensures.op j) (c.from_numbers.ensures.totals j)))
