use Rattle.std.proofs.Common.{refl, sym, subst, w64, ◌∙◌}
use Rattle.std.proofs.lemmas.Int.{to_z-of_z}
use Rattle.weld_data.specs.Kind.{InRange}
use Rattle.weld_builders.specs.Part.{combined}
use Rattle.weld_built.proofs.KeyLemmas.{merged_keys, number_is_kept}
use Rattle.weld_built.proofs.keyed.merge_number.Goals as goal

pub returns-then-keeps-clause-keys : goal.returns-then-keeps-clause-keys
returns-then-keeps-clause-keys c =
    merged_keys c.merge_number.result (combined c.args.part.now.op c.args.part.now.kind) c.args.part.now.key c.merge_number.new.self.key c.args.part.now.numbers c.merge_number.new.self.numbers _ _
    c.requires.keys
    (number_is_kept c.args.part.now.key c.args.key_kind _ (sym c.key.ensures.key ∙ c.if-keeps.ensures.yes refl) (subst (InRange c.args.key_kind) (sym (to_z-of_z w64 c.args.key c.ranges.key)) c.requires.key))
    c.merge_number.ensures.ok c.merge_number.ensures.err c.merge_number.ensures.key
