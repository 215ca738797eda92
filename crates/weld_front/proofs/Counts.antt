-- A count that stays 0 doesn't rise.
use Rattle.std.proofs.Common.{ℕ, arith}
use Rattle.weld_ports.specs.Faults.{Rises}

pub never_rises : Rises 0 0 → ⊥
never_rises h = omega (arith, h)
