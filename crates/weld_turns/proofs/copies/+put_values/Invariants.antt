use Rattle.weld_turns.proofs.copies.+put_values.Given as goal

abbrev pub decreases-put_values : goal.decreases-put_values
decreases-put_values l = l.left
