use Rattle.weld_exec.proofs.tile.part_in.Given as goal

abbrev pub ghost-of : goal.ghost-of
ghost-of g a = g.at
