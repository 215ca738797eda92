use Rattle.std.proofs.Common.{◌≡◌, drop, map}
use Rattle.weld_substitution.specs.FreeNames.{is_among}
use Rattle.weld_substitution.proofs.syms.Syms.contains.Given as goal

abbrev pub invariant-loop-item : goal.invariant-loop-item
invariant-loop-item l = is_among l.self l.name.0 ≡ is_among (map (λ s. s.0) (drop l.item-index l.item-items)) l.name.0
