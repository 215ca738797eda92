use Rattle.std.proofs.Common.{◌≡◌, drop}
use Rattle.weld_linear.specs.Sources.{pack_origins}
use Rattle.weld_linear.specs.Labels.{all_marked}
use Rattle.weld_linear.proofs.Left.{joined}
use Rattle.weld_linear.proofs.source.+mark.Given as goal

-- those so far, and what is left of the fields
abbrev pub invariant-Sources::mark-loop-number : goal.invariant-Sources::mark-loop-number
invariant-Sources::mark-loop-number l = joined l.items.items (all_marked l.label l.number l.path (pack_origins (drop l.number l.self))) ≡ all_marked l.label 0 l.path (pack_origins l.self)
