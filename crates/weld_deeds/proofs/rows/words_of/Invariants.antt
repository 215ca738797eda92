use Rattle.std.proofs.Common.{◌≡◌, ◌-◌, ◌++◌}
use Rattle.weld_deeds.specs.Rows.{words_through}
use Rattle.weld_deeds.proofs.rows.words_of.Given as goal

-- what there is and what is still to come make the whole
abbrev pub invariant-rows : goal.invariant-rows
invariant-rows l = l.words.items ++ words_through l.columns l.place (l.count - l.place) ≡ words_through l.columns 0 l.count
