use Rattle.weld_data.specs.View.{view_val}
use Rattle.weld_builders.specs.Part.{combined}
use Rattle.weld_built.proofs.KeyLemmas.{merged_keys}
use Rattle.weld_built.proofs.keyed.merge_value.Goals as goal

pub returns-in-Ok-clause-keys : goal.returns-in-Ok-clause-keys
returns-in-Ok-clause-keys c =
    merged_keys c.merge_at_value.result (combined c.make_ready.new.part.op c.make_ready.new.part.kind) c.make_ready.new.part.key c.merge_at_value.new.self.key c.make_ready.new.part.numbers c.merge_at_value.new.self.numbers (view_val c.args.key) _
    c.make_ready.ensures.keys c.in-Ok.ensures.kept c.merge_at_value.ensures.ok c.merge_at_value.ensures.err c.merge_at_value.ensures.key
