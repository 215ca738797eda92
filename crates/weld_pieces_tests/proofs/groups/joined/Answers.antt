use Rattle.std.proofs.Common.{◌≡◌, Some, sym, subst, List}
use Rattle.weld_data.specs.declared.kind.Kind.TheVariants as kinds
use Rattle.weld_data.specs.Value.{Value}
use Rattle.weld_builders.specs.ValueOrder.{ValueMap}
use Rattle.weld_pieces.specs.Keyed.{KeysAreKept}
use Rattle.weld_pieces_tests.proofs.groups.joined.Goals as goal

pub returns-in-Ok-clause-kept : goal.returns-in-Ok-clause-kept
returns-in-Ok-clause-kept c = subst (λ (m : ValueMap (List Value)). KeysAreKept (Some kinds.I64) m) (sym c.in-Ok.ensures.ok) (c.kept_keys_stay.ensures.join (Some kinds.I64) c.args.first.groups c.args.later.groups c.requires.first_kept c.requires.later_kept)
