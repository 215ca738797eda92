use Rattle.std.proofs.Common.{◌≡◌, ◌+◌, drop}
use Rattle.weld_tree.specs.Blank.{distance}
use Rattle.weld_print.proofs.names.Names.number_of.Given as goal

abbrev pub invariant-names : goal.invariant-names
invariant-names l = (l.before ≡ l.name-index) × (l.before + distance (drop l.name-index l.name-items) l.sym.0 ≡ distance l.name-items l.sym.0)
