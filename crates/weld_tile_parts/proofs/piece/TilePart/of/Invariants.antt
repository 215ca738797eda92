use Rattle.weld_tile_parts.proofs.piece.TilePart.of.Given as goal

abbrev pub ghost-new : goal.ghost-new
ghost-new g a = g.at
