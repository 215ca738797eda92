use Rattle.weld_data.specs.View.{view_val}
use Rattle.weld_built.proofs.TotalsLemmas.{is_number_there, number_taken}
use Rattle.weld_built.proofs.totals.numbers_of.Goals as goal

pub number_in_field-requires : goal.number_in_field-requires
number_in_field-requires c = is_number_there c.args.fields.now c.loop-i.i (view_val c.at.result.now) c.requires c.at.ensures

pub loop-i-preserved : goal.loop-i-preserved
loop-i-preserved c =
    number_taken c.args.fields.now c.loop-i.i (view_val c.at.result.now) c.number_in_field.result c.loop-i.numbers.items c.push.new.self.items
    c.at.ensures c.number_in_field.ensures c.in_ok-push.ensures.items c.loop-i.invariant
