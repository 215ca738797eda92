use Rattle.std.proofs.Common.{◌≡◌, drop}
use Rattle.weld_tree.specs.TypeTree.{pack}
use Rattle.weld_types.specs.Tests.{are_all}
use Rattle.weld_types.proofs.rules.many.are_all.Given as goal

-- those so far are that one, so that the rest decides
abbrev pub invariant-loop-other : goal.invariant-loop-other
invariant-loop-other l = are_all (pack l.types) l.ty ≡ are_all (pack (drop l.other-index l.types)) l.ty
