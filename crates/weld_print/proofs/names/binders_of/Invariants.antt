use Rattle.std.proofs.Common.{◌≡◌, ◌++◌, drop}
use Rattle.weld_tree.specs.Program.{syms_of}
use Rattle.weld_print.proofs.names.binders_of.Given as goal

abbrev pub invariant-params : goal.invariant-params
invariant-params l = l.names ++ syms_of (drop l.param-index l.param-items) ≡ syms_of l.param-items
