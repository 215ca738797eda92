use Rattle.std.proofs.Common.{◌≡◌, drop}
use Rattle.weld_linear.specs.Sources.{pack_origins}
use Rattle.weld_linear.specs.Resolve.{all_resolve}
use Rattle.weld_linear.proofs.Left.{joined}
use Rattle.weld_linear.proofs.source.+resolve.Given as goal

-- those so far, and what is left of the fields
abbrev pub invariant-Sources::resolve-loop-item : goal.invariant-Sources::resolve-loop-item
invariant-Sources::resolve-loop-item l = joined l.items.items (all_resolve l.scope (pack_origins (drop l.item-index l.item-items))) ≡ all_resolve l.scope (pack_origins l.item-items)
