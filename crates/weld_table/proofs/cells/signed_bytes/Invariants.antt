use Rattle.std.proofs.Common.{◌≡◌, ℕ, pos, map, take}
use Rattle.weld_data.specs.Wrapped.{wrapped}
use Rattle.weld_data.specs.declared.kind.Kind.TheVariants as kinds
use Rattle.weld_table.proofs.cells.signed_bytes.Given as goal

abbrev pub invariant-loop-byte : goal.invariant-loop-byte
invariant-loop-byte l = l.items ≡ map (λ (b : ℕ). wrapped kinds.I8 (pos b)) (take l.byte-index l.field)
