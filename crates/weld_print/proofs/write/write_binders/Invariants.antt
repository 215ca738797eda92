use Rattle.std.proofs.Common.{◌≡◌, ◌++◌, drop, codes}
use Rattle.weld_print.specs.PrintText.{binders_text}
use Rattle.weld_print.proofs.write.write_binders.Given as goal

abbrev pub invariant-binders : goal.invariant-binders
invariant-binders l = l.out ++ binders_text l.names l.lead (drop l.binder-index l.binders) ≡ l.fn.out ++ binders_text l.names (codes "|") l.binders
