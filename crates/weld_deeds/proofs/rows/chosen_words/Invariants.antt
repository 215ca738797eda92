use Rattle.std.proofs.Common.{◌≡◌, ◌+◌, ◌-◌, ◌≤◌, ◌++◌}
use Rattle.weld_deeds.specs.Rows.{words_chosen, count_chosen}
use Rattle.weld_deeds.proofs.rows.chosen_words.Given as goal

-- what there is and what is still to come make the whole
abbrev pub invariant-rows : goal.invariant-rows
invariant-rows l =
    (l.words.items ++ words_chosen l.truths l.columns l.place (l.count - l.place) ≡ words_chosen l.truths l.columns 0 l.count)
    × (l.rows + count_chosen l.truths l.place (l.count - l.place) ≡ count_chosen l.truths 0 l.count)
    × (l.rows ≤ l.place)
