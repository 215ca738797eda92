use Rattle.weld_builders.specs.Part.{appended}
use Rattle.weld_built.proofs.KeyLemmas.{none_are_keys, joined_keys}
use Rattle.weld_built.proofs.groups.append.Goals as goal

pub returns-in-Ok-clause-keys : goal.returns-in-Ok-clause-keys
returns-in-Ok-clause-keys c =
    joined_keys appended c.args.part.now.key c.args.later.key c.append.new.self.key c.args.part.now.groups c.args.later.groups c.append.new.self.groups
    c.requires.keys c.requires.later c.requires.key c.append.ensures.key c.in-Ok.ensures.ok

pub returns-in-Err-clause-keys : goal.returns-in-Err-clause-keys
returns-in-Err-clause-keys c = none_are_keys c.empty.result.key c.empty.result.groups c.empty.ensures.groups
