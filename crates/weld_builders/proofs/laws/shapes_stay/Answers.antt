use Rattle.weld_builders.proofs.Shapes.{shape_of-bare}
use Rattle.weld_builders.proofs.Joins.{shape_of-after_part}
use Rattle.weld_builders.proofs.laws.shapes_stay.Goals as goal

pub returns : goal.returns
returns c = record { bare = shape_of-bare; join = shape_of-after_part }
