use Rattle.weld_data.specs.View.{view_packed}
use Rattle.weld_write_value.specs.Showing.{show}
use Rattle.weld_write_value.proofs.StructTexts.{typed_there, value_more}
use Rattle.weld_write_value.proofs.structs.write_structs.Goals as goal

pub write_row-requires : goal.write_row-requires
write_row-requires c = typed_there c.args.item.now c.args.items.now c.items.place (view_packed c.at.result) c.at.ensures c.requires

pub items-preserved : goal.items-preserved
items-preserved c =
    value_more (show c.args.item.now) c.args.items.now c.items.place c.items.lead (view_packed c.at.result) c.items.out c.push.new.self c.write_row.new.out _ c.at.ensures c.in_ok-push.ensures.ok c.in_ok-write_row.ensures c.items.invariant
