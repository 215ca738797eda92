use Rattle.std.proofs.Common.{◌≡◌, drop}
use Rattle.weld_tree.specs.ExprTree.{pack_exprs}
use Rattle.weld_horizontal.specs.Picked.{all_plain}
use Rattle.weld_horizontal.proofs.plain.all_plain.Given as goal

abbrev pub invariant-loop-part : goal.invariant-loop-part
invariant-loop-part l = all_plain (pack_exprs l.parts) ≡ all_plain (pack_exprs (drop l.part-index l.parts))
