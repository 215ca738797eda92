-- The numbers of a list of kind i8, as they are kept.
use Rattle.std.specs.Prelude.{ℤ, ◌≤◌, List, take}
use Rattle.weld_data.specs.declared.i8s.Kept.{Kept}
use Rattle.weld_data.specs.declared.i8s.Kept.TheVariants.{Few, Many}

abbrev pub kept_items : Kept → List ℤ
kept_items (Few few) = take few.count few.items
kept_items (Many items) = items.items

-- there are no more in place than have room
abbrev pub AreKept : Kept → Type 0
AreKept (Few few) = few.count ≤ 30
AreKept (Many items) = Unit {0}
