use Rattle.weld_builders.proofs.Structs.{SameShape_bare, SameShape_after}
use Rattle.weld_builders.proofs.laws.struct_shapes_stay.Goals as goal

pub returns : goal.returns
returns c = record { bare = SameShape_bare; join = SameShape_after }
