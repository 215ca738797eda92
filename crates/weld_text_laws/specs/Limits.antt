-- Refusals by a limit.
use Rattle.weld_tree.specs.declared.code.Code.{Code}
use Rattle.weld_tree.specs.declared.code.Code.TheVariants.{M2, M3, M4, M5, M6, M7, M8, M9}
use Rattle.weld_tree.specs.declared.refusal.Refusal.{Refusal}
use Rattle.weld_tree.specs.declared.refusal.Refusal.TheVariants.{At, Size}

-- the code of a limit on texts, their tokens, or trees
abbrev pub IsLimitCode : Code → Type 0
IsLimitCode M2 = Unit {0}
IsLimitCode M3 = Unit {0}
IsLimitCode M4 = Unit {0}
IsLimitCode M5 = Unit {0}
IsLimitCode M6 = Unit {0}
IsLimitCode M7 = Unit {0}
IsLimitCode M8 = Unit {0}
IsLimitCode M9 = Unit {0}
IsLimitCode _ = ⊥

-- the text is refused by a limit
abbrev pub IsLimit : Refusal → Type 0
IsLimit (At code place) = IsLimitCode code
IsLimit (Size code) = IsLimitCode code
IsLimit _ = ⊥
