use Rattle.std.proofs.Common.{◌≡◌, Some, sym, subst, ℤ}
use Rattle.weld_data.specs.declared.kind.Kind.TheVariants as kinds
use Rattle.weld_builders.specs.ValueOrder.{ValueMap}
use Rattle.weld_pieces.specs.Keyed.{KeysAreKept}
use Rattle.weld_pieces_tests.proofs.keyed.keyed_of.Goals as goal

pub loop-key-init : goal.loop-key-init
loop-key-init c = (c.empty-part.ensures.key, c.empty-part.ensures.kind, subst (λ (m : ValueMap ℤ). KeysAreKept (Some kinds.I64) m) (sym c.empty-part.ensures.numbers) (c.kept_keys_stay.ensures.start (Some kinds.I64)))
