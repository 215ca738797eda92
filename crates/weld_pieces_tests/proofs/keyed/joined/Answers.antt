use Rattle.std.proofs.Common.{◌≡◌, Some, sym, subst, ℤ}
use Rattle.weld_data.specs.declared.kind.Kind.TheVariants as kinds
use Rattle.weld_builders.specs.Part.{combined}
use Rattle.weld_builders.specs.ValueOrder.{ValueMap}
use Rattle.weld_pieces.specs.Keyed.{KeysAreKept}
use Rattle.weld_pieces_tests.proofs.keyed.joined.Goals as goal

pub returns-in-Ok-clause-kept : goal.returns-in-Ok-clause-kept
returns-in-Ok-clause-kept c = subst (λ (m : ValueMap ℤ). KeysAreKept (Some kinds.I64) m) (sym c.in-Ok.ensures.ok) (c.kept_keys_stay.ensures.join (Some kinds.I64) (combined c.args.first.op c.args.first.kind) c.args.first.numbers c.args.later.numbers c.requires.first_kept c.requires.later_kept)
