-- What things in the code stand for.
use Rattle.weld_data.specs.View.{view_val}
use Rattle.weld_meaning.specs.Thing.{Thing, plain, building, several, Things, no_things, more_things}
use Rattle.weld_eval.specs.declared.thing.Owned.{Owned}
use Rattle.weld_eval.specs.declared.thing.Owned as owned
use Rattle.weld_eval.specs.declared.thing.Fields.{Fields}
use Rattle.weld_eval.specs.declared.thing.Fields as fields
use Rattle.weld_eval.specs.declared.thing.Held.{Held}
use Rattle.weld_eval.specs.declared.thing.Held.TheVariants as held

abbrev mutual
  pub thing_of : Owned → Thing
  thing_of (owned.Value v) = plain (view_val v)
  thing_of (owned.Built b) = building b
  thing_of (owned.Several fs) = several (things_of fs)

  pub things_of : Fields → Things
  things_of fields.End = no_things
  things_of (fields.And' a x b fs) = more_things (thing_of x) (things_of fs)

abbrev pub held_of : Held → Thing
held_of (held.Lent v) = plain (view_val v.now)
held_of (held.Made x) = thing_of x
