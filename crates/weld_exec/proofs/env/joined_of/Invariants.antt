use Rattle.weld_exec.proofs.env.joined_of.Given as goal

abbrev pub ghost-of : goal.ghost-of
ghost-of g a = g.at
