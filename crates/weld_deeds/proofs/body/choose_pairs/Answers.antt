use Rattle.weld_deeds.proofs.PairLemmas.{pairs_chosen}
use Rattle.weld_deeds.proofs.body.choose_pairs.Goals as goal

pub returns-in-Some-chosen : goal.returns-in-Some-chosen
returns-in-Some-chosen c =
    pairs_chosen c.args.then.now c.args.otherwise.now c.args.condition.now c.in-Pair.first c.in-Pair-otherwise.other_first c.in-Pair.second c.in-Pair-otherwise.other_second c.in-Some.firsts c.in-Some-chosen.seconds c.args.count
    c.in-Pair.is c.in-Pair-otherwise.is c.in-Some.ensures c.in-Some-chosen.ensures
