use Rattle.std.proofs.Common.{◌≡◌, ◌++◌, drop, map}
use Rattle.weld_tree.specs.ExprTree.{pack_exprs, pack_legs}
use Rattle.weld_tree.specs.ExprView.{view_leg}
use Rattle.weld_tree.specs.Program.{bound_in, bound_in_legs}
use Rattle.weld_print.proofs.names.+collect.Given as goal

-- the numbers so far and those that are left make the whole
abbrev pub invariant-collect_in-parts : goal.invariant-collect_in-parts
invariant-collect_in-parts l = l.names ++ bound_in (pack_exprs (drop l.e-index l.e-items)) ≡ l.fn.names ++ bound_in (pack_exprs l.e-items)

abbrev pub invariant-collect_in_legs-legs : goal.invariant-collect_in_legs-legs
invariant-collect_in_legs-legs l = l.names ++ bound_in_legs (pack_legs (map view_leg (drop l.leg-index l.leg-items))) ≡ l.fn.names ++ bound_in_legs (pack_legs (map view_leg l.leg-items))
