use Rattle.std.proofs.Common.{arith}
use Rattle.weld_data.proofs.StructLemmas.{stands_at}
use Rattle.weld_data.proofs.structs.start_of.Goals as goal

pub overflow_mul-result : goal.overflow_mul-result
overflow_mul-result c =
    let t = stands_at c.args.count c.args.place c.args.kinds.now c.args.numbers.now c.requires.kept c.requires.place in
    omega (arith, t.within)

pub returns : goal.returns
returns c = stands_at c.args.count c.args.place c.args.kinds.now c.args.numbers.now c.requires.kept c.requires.place
