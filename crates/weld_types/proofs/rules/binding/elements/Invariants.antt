use Rattle.std.proofs.Common.{◌≡◌, drop}
use Rattle.weld_tree.specs.TypeTree.{pack}
use Rattle.weld_types.specs.Gathered.{before_judged}
use Rattle.weld_types.specs.Walk.{elements}
use Rattle.weld_types.proofs.rules.binding.elements.Given as goal

-- the elements so far and those of what is left make the whole
abbrev pub invariant-loop-vector : goal.invariant-loop-vector
invariant-loop-vector l = elements (pack l.vectors) ≡ before_judged l.items (elements (pack (drop l.vector-index l.vectors)))
