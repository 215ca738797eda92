use Rattle.weld_exec.proofs.range.+run_tile_rows.Given as goal

abbrev pub decreases-run_tile_rows : goal.decreases-run_tile_rows
decreases-run_tile_rows l = l.left
