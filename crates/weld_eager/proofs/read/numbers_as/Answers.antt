use Rattle.weld_eager.proofs.read.numbers_as.Goals as goal

pub numbers_of-requires : goal.numbers_of-requires
numbers_of-requires c = (c.args.kind, c.requires)
