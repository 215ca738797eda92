use Rattle.weld_builders.specs.Part.{combined}
use Rattle.weld_built.proofs.KeyLemmas.{none_are_keys, joined_keys}
use Rattle.weld_built.proofs.keyed.append.Goals as goal

pub returns-in-Ok-clause-keys : goal.returns-in-Ok-clause-keys
returns-in-Ok-clause-keys c =
    joined_keys (combined c.args.part.now.op c.args.part.now.kind) c.args.part.now.key c.args.later.key c.append.new.self.key c.args.part.now.numbers c.args.later.numbers c.append.new.self.numbers
    c.requires.keys c.requires.later c.requires.key c.append.ensures.key c.in-Ok.ensures.ok

pub returns-in-Err-clause-keys : goal.returns-in-Err-clause-keys
returns-in-Err-clause-keys c = none_are_keys c.empty.result.key c.empty.result.numbers c.empty.ensures.numbers
