use Rattle.weld_tiles.specs.declared.tile.Tile.{Tile}
use Rattle.weld_share.proofs.Cutting.{last_ends}
use Rattle.weld_share.proofs.stretch.end_of.Goals as goal

pub returns : goal.returns
returns c n lo rows behind run =
    let none : Tile = record { number = 0; lo = 0; hi = 0 } in
    last_ends n lo rows c.args.tiles.now behind none c.requires run
