use Rattle.std.proofs.Common.{◌≡◌, take, map}
use Rattle.weld_tree.specs.Blank.{blank_at}
use Rattle.weld_tree.specs.ExprTree.{leaf, name}
use Rattle.weld_objects.specs.Numbering.{number_in}
use Rattle.weld_lazy.proofs.close.struct_of.Given as goal

abbrev pub invariant-loop-place : goal.invariant-loop-place
invariant-loop-place l = l.fields ≡ map (λ id. leaf blank_at (name (number_in l.numbers id))) (take l.place l.shown)
