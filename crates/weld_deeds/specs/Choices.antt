-- Deeds that a truth value chooses.
use Rattle.std.specs.Prelude.{◌≡◌}
use Rattle.weld_deeds.specs.declared.deed.Deed.{Deed}
use Rattle.weld_deeds.specs.declared.deed.Deed as deed
use Rattle.weld_blocks.specs.declared.numbers.Numbers.{Numbers}

-- it is the choice of these two by those truth values
abbrev pub IsChoice : Deed → Numbers → Deed → Deed → Type 0
IsChoice deed.Nothing c d e = ⊥
IsChoice (deed.Number x) c d e = ⊥
IsChoice (deed.Pair x y) c d e = ⊥
IsChoice (deed.Struct cs) c d e = ⊥
IsChoice (deed.List cs) c d e = ⊥
IsChoice (deed.Same u) c d e = ⊥
IsChoice (deed.Choice' x a y b z) c d e = (x ≡ c) × (y ≡ d) × (z ≡ e)
IsChoice (deed.Fields ds) c d e = ⊥
