use Rattle.weld_built.proofs.ManyLemmas.{total_numbers}
use Rattle.weld_built.proofs.built.numbers_into.Goals as goal

pub returns-in-Total-clause-answer : goal.returns-in-Total-clause-answer
returns-in-Total-clause-answer c =
    total_numbers c.args.state.now c.in-Total.total c.merge_numbers.new.self c.args.kind c.args.items.now c.in-Total.is c.requires.items c.merge_numbers.ensures.op c.merge_numbers.ensures.kind c.merge_numbers.ensures.value
