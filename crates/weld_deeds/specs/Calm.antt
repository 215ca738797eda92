-- What can't fault once it fits.
use Rattle.weld_deeds.specs.declared.deed.Deed.{Deed}
use Rattle.weld_deeds.specs.declared.deed.Deed as deed
use Rattle.weld_deeds.specs.declared.deed.Deeds.{Deeds}
use Rattle.weld_deeds.specs.declared.deed.Deeds as deeds

abbrev mutual
  -- nothing is done, or a number is merged into a list or a total, or such is done to each field of a struct of builders
  pub IsCalm : Deed → Type 0
  IsCalm deed.Nothing = Unit {0}
  IsCalm (deed.Number c) = Unit {0}
  IsCalm (deed.Pair c d) = ⊥
  IsCalm (deed.Struct cs) = ⊥
  IsCalm (deed.List cs) = ⊥
  IsCalm (deed.Same u) = ⊥
  IsCalm (deed.Choice' c a d b e) = ⊥
  IsCalm (deed.Fields ds) = AreCalm ds

  -- the same of each field
  pub AreCalm : Deeds → Type 0
  AreCalm deeds.End = Unit {0}
  AreCalm (deeds.And' a d b ds) = IsCalm d × AreCalm ds
