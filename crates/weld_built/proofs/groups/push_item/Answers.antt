use Rattle.std.proofs.Common.{◌∷◌, []}
use Rattle.weld_data.specs.View.{view_val}
use Rattle.weld_builders.specs.Part.{appended}
use Rattle.weld_built.proofs.KeyLemmas.{merged_keys}
use Rattle.weld_built.proofs.groups.push_item.Goals as goal

pub returns-in-Ok-clause-keys : goal.returns-in-Ok-clause-keys
returns-in-Ok-clause-keys c =
    merged_keys c.push_at_value.result appended c.make_ready.new.part.key c.push_at_value.new.self.key c.make_ready.new.part.groups c.push_at_value.new.self.groups (view_val c.args.key) (view_val c.args.item ∷ [])
    c.make_ready.ensures.keys c.in-Ok.ensures.kept c.push_at_value.ensures.ok c.push_at_value.ensures.err c.push_at_value.ensures.key
