-- Laws of structs of builders: those of their parts, field by field.
use Rattle.std.proofs.Common.{◌≡◌, ℕ, zero, suc, ap, refl}
use Rattle.weld_builders.specs.Outcome.{Outcome, done, fault, stuck, map_out}
use Rattle.weld_builders.specs.Part.{Part, after_part, merge_part}
use Rattle.weld_builders.specs.Builder.{Builder, one_part, parts, Builders, no_builders, and_builder, Item, item, in_field, bare_builder, bare_builders, merge_item, merge_field, after_builder, after_builders, SameShape, SameShapes, LiesInRange, LieInRange}
use Rattle.weld_builders.proofs.Shapes.{shape_of-bare}
use Rattle.weld_builders.proofs.Joins.{shape_of-after_part, bare_before, bare_behind, after_part-assoc, merge_part-after_part}

mutual
  pub SameShape_bare : (b : Builder) → SameShape (bare_builder b) b
  SameShape_bare (one_part p) = shape_of-bare p
  SameShape_bare (parts bs) = SameShapes_bare bs

  SameShapes_bare : (bs : Builders) → SameShapes (bare_builders bs) bs
  SameShapes_bare no_builders = tt
  SameShapes_bare (and_builder b bs) = (SameShape_bare b, SameShapes_bare bs)

mutual
  pub SameShape_itself : (b : Builder) → SameShape b b
  SameShape_itself (one_part p) = refl
  SameShape_itself (parts bs) = SameShapes_itself bs

  pub SameShapes_itself : (bs : Builders) → SameShapes bs bs
  SameShapes_itself no_builders = tt
  SameShapes_itself (and_builder b bs) = (SameShape_itself b, SameShapes_itself bs)

mutual
  pub SameShape_after : (s d : Builder) → SameShape (after_builder s d) d
  SameShape_after (one_part s) (one_part d) = shape_of-after_part s d
  SameShape_after (parts ss) (one_part d) = refl
  SameShape_after (one_part s) (parts ds) = SameShapes_itself ds
  SameShape_after (parts ss) (parts ds) = SameShapes_after ss ds

  SameShapes_after : (ss ds : Builders) → SameShapes (after_builders ss ds) ds
  SameShapes_after no_builders ds = SameShapes_itself ds
  SameShapes_after (and_builder s ss) no_builders = tt
  SameShapes_after (and_builder s ss) (and_builder d ds) = (SameShape_after s d, SameShapes_after ss ds)

mutual
  pub builder_bare_before : (d : Builder) → LiesInRange d → after_builder (bare_builder d) d ≡ d
  builder_bare_before (one_part p) h = ap one_part (bare_before p h)
  builder_bare_before (parts bs) h = ap parts (builders_bare_before bs h)

  builders_bare_before : (ds : Builders) → LieInRange ds → after_builders (bare_builders ds) ds ≡ ds
  builders_bare_before no_builders h = refl
  builders_bare_before (and_builder d ds) h = λ i. and_builder (builder_bare_before d h.0 i) (builders_bare_before ds h.1 i)

mutual
  pub builder_bare_behind : (s : Builder) → LiesInRange s → after_builder s (bare_builder s) ≡ s
  builder_bare_behind (one_part p) h = ap one_part (bare_behind p h)
  builder_bare_behind (parts bs) h = ap parts (builders_bare_behind bs h)

  builders_bare_behind : (ss : Builders) → LieInRange ss → after_builders ss (bare_builders ss) ≡ ss
  builders_bare_behind no_builders h = refl
  builders_bare_behind (and_builder s ss) h = λ i. and_builder (builder_bare_behind s h.0 i) (builders_bare_behind ss h.1 i)

mutual
  pub after_builder-assoc : (r s d : Builder) → SameShape r s → SameShape s d → after_builder (after_builder r s) d ≡ after_builder r (after_builder s d)
  after_builder-assoc (one_part r) (one_part s) (one_part d) g h = ap one_part (after_part-assoc r s d h)
  after_builder-assoc (parts rs) (parts ss) (parts ds) g h = ap parts (after_builders-assoc rs ss ds g h)
  after_builder-assoc (one_part r) (one_part s) (parts ds) g h = absurd h
  after_builder-assoc (one_part r) (parts ss) _ g h = absurd g
  after_builder-assoc (parts rs) (one_part s) _ g h = absurd g
  after_builder-assoc (parts rs) (parts ss) (one_part d) g h = absurd h

  after_builders-assoc : (rs ss ds : Builders) → SameShapes rs ss → SameShapes ss ds → after_builders (after_builders rs ss) ds ≡ after_builders rs (after_builders ss ds)
  after_builders-assoc no_builders no_builders ds g h = refl
  after_builders-assoc no_builders (and_builder s ss) ds g h = absurd g
  after_builders-assoc (and_builder r rs) no_builders ds g h = absurd g
  after_builders-assoc (and_builder r rs) (and_builder s ss) no_builders g h = absurd h
  after_builders-assoc (and_builder r rs) (and_builder s ss) (and_builder d ds) g h =
      λ i. and_builder (after_builder-assoc r s d g.0 h.0 i) (after_builders-assoc rs ss ds g.1 h.1 i)

-- the start stands before what was merged, in a struct as in one part

under_one : (s : Part) (o : Outcome Part) (p : Outcome Part) → o ≡ map_out (after_part s) p → map_out one_part o ≡ map_out (after_builder (one_part s)) (map_out one_part p)
under_one s o (done q) e = ap (map_out one_part) e
under_one s o fault e = ap (map_out one_part) e
under_one s o stuck e = ap (map_out one_part) e

under_parts : (ss : Builders) (o p : Outcome Builders) → o ≡ map_out (after_builders ss) p → map_out parts o ≡ map_out (after_builder (parts ss)) (map_out parts p)
under_parts ss o (done q) e = ap (map_out parts) e
under_parts ss o fault e = ap (map_out parts) e
under_parts ss o stuck e = ap (map_out parts) e

one_alone : (ss : Builders) (o : Outcome Part) → map_out one_part o ≡ map_out (after_builder (parts ss)) (map_out one_part o)
one_alone ss (done q) = refl
one_alone ss fault = refl
one_alone ss stuck = refl

parts_alone : (s : Part) (o : Outcome Builders) → map_out parts o ≡ map_out (after_builder (one_part s)) (map_out parts o)
parts_alone s (done q) = refl
parts_alone s fault = refl
parts_alone s stuck = refl

fields_alone : (o : Outcome Builders) → o ≡ map_out (after_builders no_builders) o
fields_alone (done q) = refl
fields_alone fault = refl
fields_alone stuck = refl

here : (s : Builder) (ss ds : Builders) (o p : Outcome Builder) → o ≡ map_out (after_builder s) p → map_out (λ c. and_builder c (after_builders ss ds)) o ≡ map_out (after_builders (and_builder s ss)) (map_out (λ c. and_builder c ds) p)
here s ss ds o (done q) e = ap (map_out (λ c. and_builder c (after_builders ss ds))) e
here s ss ds o fault e = ap (map_out (λ c. and_builder c (after_builders ss ds))) e
here s ss ds o stuck e = ap (map_out (λ c. and_builder c (after_builders ss ds))) e

later : (s d : Builder) (ss : Builders) (o p : Outcome Builders) → o ≡ map_out (after_builders ss) p → map_out (and_builder (after_builder s d)) o ≡ map_out (after_builders (and_builder s ss)) (map_out (and_builder d) p)
later s d ss o (done q) e = ap (map_out (and_builder (after_builder s d))) e
later s d ss o fault e = ap (map_out (and_builder (after_builder s d))) e
later s d ss o stuck e = ap (map_out (and_builder (after_builder s d))) e

mutual
  pub merge_item-after_builder : (s d : Builder) (i : Item) → merge_item (after_builder s d) i ≡ map_out (after_builder s) (merge_item d i)
  merge_item-after_builder (one_part s) (one_part d) (item v) = under_one s _ _ (merge_part-after_part s d v)
  merge_item-after_builder (parts ss) (one_part d) (item v) = one_alone ss (merge_part d v)
  merge_item-after_builder (one_part s) (parts ds) (in_field n i) = parts_alone s (merge_field ds n i)
  merge_item-after_builder (parts ss) (parts ds) (in_field n i) = under_parts ss _ _ (merge_field-after ss ds n i)
  merge_item-after_builder (one_part s) (one_part d) (in_field n i) = refl
  merge_item-after_builder (parts ss) (one_part d) (in_field n i) = refl
  merge_item-after_builder (one_part s) (parts ds) (item v) = refl
  merge_item-after_builder (parts ss) (parts ds) (item v) = refl

  merge_field-after : (ss ds : Builders) (n : ℕ) (i : Item) → merge_field (after_builders ss ds) n i ≡ map_out (after_builders ss) (merge_field ds n i)
  merge_field-after no_builders ds n i = fields_alone (merge_field ds n i)
  merge_field-after (and_builder s ss) no_builders n i = refl
  merge_field-after (and_builder s ss) (and_builder d ds) zero i = here s ss ds _ _ (merge_item-after_builder s d i)
  merge_field-after (and_builder s ss) (and_builder d ds) (suc n) i = later s d ss _ _ (merge_field-after ss ds n i)
