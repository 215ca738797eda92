use Rattle.weld_turns.proofs.make.+has_bit.Given as goal

abbrev pub decreases-has_bit : goal.decreases-has_bit
decreases-has_bit l = l.place
