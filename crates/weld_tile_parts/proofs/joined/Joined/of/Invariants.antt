use Rattle.weld_tile_parts.proofs.joined.Joined.of.Given as goal

abbrev pub ghost-new : goal.ghost-new
ghost-new g a = g.at
