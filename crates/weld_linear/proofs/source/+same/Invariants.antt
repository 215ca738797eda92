use Rattle.std.proofs.Common.{◌≡◌, drop}
use Rattle.weld_meaning.specs.LinearWalk.{same_origins}
use Rattle.weld_linear.specs.Sources.{pack_origins}
use Rattle.weld_linear.proofs.source.+same.Given as goal

-- those so far are the same, so that the rest decides
abbrev pub invariant-Sources::same-loop-i : goal.invariant-Sources::same-loop-i
invariant-Sources::same-loop-i l = same_origins (pack_origins l.self) (pack_origins l.other) ≡ same_origins (pack_origins (drop l.i l.self)) (pack_origins (drop l.i l.other))
