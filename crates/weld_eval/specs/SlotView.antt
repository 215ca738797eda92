-- What is read of a name.
use Rattle.weld_data.specs.View.{view_val}
use Rattle.weld_meaning.specs.Thing.{Thing, plain}
use Rattle.weld_eval.specs.ThingView.{thing_of}
use Rattle.weld_eval.specs.ShortView.{view_short}
use Rattle.weld_eval.specs.RowView.{row_value}
use Rattle.weld_eval.specs.declared.frame.Slot.{Slot}
use Rattle.weld_eval.specs.declared.frame.Slot.TheVariants as slots

abbrev pub slot_thing : Slot → Thing
slot_thing (slots.Value v) = plain (view_val v.now)
slot_thing (slots.Number n) = plain (view_short n)
slot_thing (slots.Row row) = plain (row_value row.now)
slot_thing (slots.Builder x) = thing_of x.now
