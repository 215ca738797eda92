-- Builders: one of the five, or a struct of builders; as plain data. An evaluator's things may hold parts in a tree of their own; this one is for code that keeps builders alone.
use Rattle.std.specs.Prelude.{◌≡◌, ℕ, zero, suc}
use Rattle.weld_data.specs.Value.{Value, struct, Values, no_values, and_value}
use Rattle.weld_builders.specs.Outcome.{Outcome, stuck, map_out}
use Rattle.weld_builders.specs.Range.{IsInRange}
use Rattle.weld_builders.specs.Part.{Part, shape_of, bare, merge_part, after_part, result_of}

mutual
  pub data Builder : Type 0 where
    one_part : Part → Builder
    parts : Builders → Builder

  pub data Builders : Type 0 where
    no_builders : Builders
    and_builder : Builder → Builders → Builders

-- an item for a builder: a value, or for a struct an item under the number of its field
pub data Item : Type 0 where
  item : Value → Item
  in_field : ℕ → Item → Item

abbrev mutual
  pub bare_builder : Builder → Builder
  bare_builder (one_part p) = one_part (bare p)
  bare_builder (parts bs) = parts (bare_builders bs)

  pub bare_builders : Builders → Builders
  bare_builders no_builders = no_builders
  bare_builders (and_builder b bs) = and_builder (bare_builder b) (bare_builders bs)

abbrev mutual
  pub merge_item : Builder → Item → Outcome Builder
  merge_item (one_part p) (item v) = map_out one_part (merge_part p v)
  merge_item (one_part p) (in_field n i) = stuck
  merge_item (parts bs) (item v) = stuck
  merge_item (parts bs) (in_field n i) = map_out parts (merge_field bs n i)

  pub merge_field : Builders → ℕ → Item → Outcome Builders
  merge_field no_builders n i = stuck
  merge_field (and_builder b bs) zero i = map_out (λ c. and_builder c bs) (merge_item b i)
  merge_field (and_builder b bs) (suc n) i = map_out (and_builder b) (merge_field bs n i)

-- the fields of a struct
abbrev pub fields_of : Builder → Builders
fields_of (one_part p) = no_builders
fields_of (parts bs) = bs

-- the join, field by field; a start of another shape adds nothing
abbrev mutual
  pub after_builder : Builder → Builder → Builder
  after_builder (one_part s) (one_part d) = one_part (after_part s d)
  after_builder (parts ss) (one_part d) = one_part d
  after_builder (one_part s) (parts ds) = parts ds
  after_builder (parts ss) (parts ds) = parts (after_builders ss ds)

  pub after_builders : Builders → Builders → Builders
  after_builders no_builders ds = ds
  after_builders (and_builder s ss) no_builders = no_builders
  after_builders (and_builder s ss) (and_builder d ds) = and_builder (after_builder s d) (after_builders ss ds)

abbrev mutual
  pub builder_result : Builder → Value
  builder_result (one_part p) = result_of p
  builder_result (parts bs) = struct (builder_results bs)

  pub builder_results : Builders → Values
  builder_results no_builders = no_values
  builder_results (and_builder b bs) = and_value (builder_result b) (builder_results bs)

-- of one shape: the same structs of builders, their parts of the same shapes
abbrev mutual
  pub SameShape : Builder → Builder → Type 0
  SameShape (one_part p) (one_part q) = shape_of p ≡ shape_of q
  SameShape (parts ps) (parts qs) = SameShapes ps qs
  SameShape _ _ = ⊥

  pub SameShapes : Builders → Builders → Type 0
  SameShapes no_builders no_builders = Unit {0}
  SameShapes (and_builder p ps) (and_builder q qs) = SameShape p q × SameShapes ps qs
  SameShapes _ _ = ⊥

-- each total and cell lies in the range of its kind
abbrev mutual
  pub LiesInRange : Builder → Type 0
  LiesInRange (one_part p) = IsInRange p
  LiesInRange (parts ps) = LieInRange ps

  pub LieInRange : Builders → Type 0
  LieInRange no_builders = Unit {0}
  LieInRange (and_builder p ps) = LiesInRange p × LieInRange ps
