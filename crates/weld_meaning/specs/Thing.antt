-- Things: what expressions stand for while a program is evaluated.
use Rattle.std.specs.Prelude.{ℕ, zero, suc}
use Rattle.weld_data.specs.Value.{Value, number, list, struct, dict, Values, no_values, and_value}
use Rattle.weld_builders.specs.Outcome.{Outcome, done, fault, stuck, and_then, map_out}
use Rattle.weld_builders.specs.Part.{Part, bare, after_part}

-- a value, a builder, or a struct of builders; a struct of values is a value
mutual
  pub data Thing : Type 0 where
    plain : Value → Thing
    building : Part → Thing
    several : Things → Thing

  -- things, one after another
  pub data Things : Type 0 where
    no_things : Things
    more_things : Thing → Things → Things

-- ---- values among things

-- the value that a thing is; a builder is none
abbrev pub as_value : Thing → Outcome Value
as_value (plain v) = done v
as_value (building p) = stuck
as_value (several ts) = stuck

abbrev pub as_values : Things → Outcome Values
as_values no_things = done no_values
as_values (more_things t ts) = and_then (as_value t) (λ v. map_out (and_value v) (as_values ts))

-- ---- structs

abbrev pub struct_from : Things → Outcome Values → Thing
struct_from ts (done vs) = plain (struct vs)
struct_from ts fault = several ts
struct_from ts stuck = several ts

-- the struct of these fields: a value where all of them are values
abbrev pub struct_of : Things → Thing
struct_of ts = struct_from ts (as_values ts)

-- the thing of that number, from 0
abbrev pub thing_at : ℕ → Things → Outcome Thing
thing_at n no_things = stuck
thing_at zero (more_things t ts) = done t
thing_at (suc n) (more_things t ts) = thing_at n ts

abbrev pub value_at : ℕ → Values → Outcome Value
value_at n no_values = stuck
value_at zero (and_value v vs) = done v
value_at (suc n) (and_value v vs) = value_at n vs

abbrev pub value_field : ℕ → Value → Outcome Value
value_field n (number k x) = stuck
value_field n (list vs) = stuck
value_field n (struct vs) = value_at n vs
value_field n (dict es) = stuck

-- the field of that number, from 0
abbrev pub field_of : ℕ → Thing → Outcome Thing
field_of n (plain v) = map_out plain (value_field n v)
field_of n (building p) = stuck
field_of n (several ts) = thing_at n ts

-- ---- builders among things: what has nothing merged, and the join

abbrev mutual
  -- the builder of the same shape that has nothing merged
  pub bare_thing : Thing → Thing
  bare_thing (plain v) = plain v
  bare_thing (building p) = building (bare p)
  bare_thing (several ts) = several (bare_things ts)

  pub bare_things : Things → Things
  bare_things no_things = no_things
  bare_things (more_things t ts) = more_things (bare_thing t) (bare_things ts)

-- no builder at all: what stands before a thing and adds nothing to it
abbrev pub nothing : Thing
nothing = several no_things

abbrev pub fields_of : Thing → Things
fields_of (plain v) = no_things
fields_of (building p) = no_things
fields_of (several ts) = ts

abbrev pub first_of : Things → Thing
first_of no_things = nothing
first_of (more_things t ts) = t

abbrev pub rest_of : Things → Things
rest_of no_things = no_things
rest_of (more_things t ts) = ts

-- the join of what a thing has merged with a later part
abbrev pub after_start : Thing → Part → Part
after_start (plain v) d = d
after_start (building p) d = after_part p d
after_start (several ts) d = d

abbrev mutual
  -- the join of a builder and a later one, field by field: lists are appended, numbers and cells are
  -- combined, and of maps the values of common keys are joined and the others kept. A start of
  -- another shape adds nothing, and a value is left as it is
  pub after_thing : Thing → Thing → Thing
  after_thing s (plain v) = plain v
  after_thing s (building d) = building (after_start s d)
  after_thing s (several ds) = several (after_things (fields_of s) ds)

  pub after_things : Things → Things → Things
  after_things ss no_things = no_things
  after_things ss (more_things d ds) = more_things (after_thing (first_of ss) d) (after_things (rest_of ss) ds)
