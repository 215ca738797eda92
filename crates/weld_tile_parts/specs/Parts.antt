-- What tiles' parts, pieces and joined builders hold.
use Rattle.std.specs.Prelude.{Option, Some, None, IsSome}
use Rattle.weld_meaning.specs.Thing.{Thing, nothing}
use Rattle.weld_acts.specs.Ranges.{Evaluation}
use Rattle.weld_eval.specs.ThingView.{thing_of}
use Rattle.weld_eval.specs.declared.thing.Owned.{Owned}
use Rattle.weld_tile_parts.specs.declared.piece.TilePart.{TilePart}
use Rattle.weld_tile_parts.specs.declared.piece.Piece.{Piece}
use Rattle.weld_tile_parts.specs.declared.joined.Joined.{Joined}

-- the builder that a tile's part holds, and the evaluation that it belongs to
abbrev pub part_thing : TilePart → Thing
part_thing p = thing_of p.thing

abbrev pub part_evaluation : TilePart → Evaluation
part_evaluation p = p.of.evaluation

-- the same of a piece
abbrev pub piece_thing : Piece → Thing
piece_thing p = thing_of p.thing

abbrev pub piece_evaluation : Piece → Evaluation
piece_evaluation p = p.of.evaluation

abbrev pub thing_if : Option Owned → Thing
thing_if (Some x) = thing_of x
thing_if None = nothing

-- the builder that pieces were joined to, and the evaluation that it belongs to
abbrev pub joined_thing : Joined → Thing
joined_thing j = thing_if j.held

abbrev pub joined_evaluation : Joined → Evaluation
joined_evaluation j = j.of.evaluation

-- no memory was wanting: the builder is there
abbrev pub IsWhole : Joined → Type 0
IsWhole j = IsSome j.held
