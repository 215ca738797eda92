-- What paths in the code are.
use Rattle.std.specs.Prelude.{[], ◌∷◌}
use Rattle.weld_meaning.specs.Origin.{Path as NumberPath}
use Rattle.weld_acts.specs.declared.path.Path.{Path, fold-Path}
use Rattle.weld_acts.specs.declared.path.Path.TheOpen.{Path-F}

abbrev pub path_step : Path-F NumberPath → NumberPath
path_step Path-F.Root = []
path_step (Path-F.Field n rest) = n ∷ rest.now

-- the numbers of the fields, the innermost first
abbrev pub path_of : Path → NumberPath
path_of = fold-Path NumberPath path_step
