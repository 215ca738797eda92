use Rattle.weld_turns.proofs.copies.+copied_fields.Given as goal

abbrev pub decreases-copied_fields : goal.decreases-copied_fields
decreases-copied_fields l = l.count
