use Rattle.std.proofs.Common.{refl}
use Rattle.std.specs.Prelude.{length}
use Rattle.weld_acts.proofs.RangeLaw.{so_far_starts, tile_joins, tile_enters, all_tiles_done, loop_faults}
use Rattle.weld_acts.proofs.laws.tiles_join_in_order.Goals as goal

pub returns : goal.returns
returns c = record {
  start = so_far_starts;
  join = tile_joins;
  next = tile_enters;
  whole = λ ev j rows are q. all_tiles_done ev (length rows) j rows are refl q;
  fault = λ ev from to rows holds are low high q. loop_faults ev (length rows) from to rows holds are refl low high q;
}
