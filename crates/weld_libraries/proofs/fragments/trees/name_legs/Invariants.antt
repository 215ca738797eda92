use Rattle.std.proofs.Common.{◌≡◌, map, take}
use Rattle.weld_tree.specs.ExprTree.{whole}
use Rattle.weld_calls.specs.CallPrograms.{use_of}
use Rattle.weld_libraries.proofs.fragments.trees.name_legs.Given as goal

abbrev pub invariant-loop-name : goal.invariant-loop-name
invariant-loop-name l = l.legs ≡ map (λ s. whole (use_of s)) (take l.name-index l.names)
