use Rattle.weld_builders.specs.Part.{combined}
use Rattle.weld_built.proofs.KeyLemmas.{none_are_keys}
use Rattle.weld_built.proofs.PairLemmas.{pairs_are_keys}
use Rattle.weld_built.proofs.keyed.merge_kept.Goals as goal

pub returns-in-Ok-clause-keys : goal.returns-in-Ok-clause-keys
returns-in-Ok-clause-keys c =
    pairs_are_keys (combined c.args.part.now.op c.args.part.now.kind) c.args.part.now.key c.merge_numbers.new.self.key c.args.key_kind c.args.part.now.numbers c.merge_numbers.new.self.numbers c.args.keys.now c.args.numbers.now
    c.requires.keys c.requires.kept c.requires.keys_in_range c.in-Ok.ensures.ok c.merge_numbers.ensures.key

pub returns-in-Err-clause-keys : goal.returns-in-Err-clause-keys
returns-in-Err-clause-keys c = none_are_keys c.empty.result.key c.empty.result.numbers c.empty.ensures.numbers
