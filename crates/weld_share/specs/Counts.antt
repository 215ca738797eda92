-- What a run counts.
use Rattle.std.specs.Prelude.{◌≡◌, ℕ, ◌+◌, List, [], ◌∷◌, length}
use Rattle.std.specs.List.{sum}
use Rattle.weld_data.specs.Value.{Value}
use Rattle.weld_tree.specs.Program.{ProgramTree, loops}
use Rattle.weld_tiles.specs.Tiling.{Halves}
use Rattle.weld_plan.specs.SharedRows.{program_rows}
use Rattle.weld_sizes.specs.Lanes.{lane_marks}
use Rattle.weld_sizes.specs.Marks.{set_among}
use Rattle.weld_sizes.specs.Sized.{sized_marks}
use Rattle.weld_share.specs.declared.note.RunNote.{RunNote}

-- rows of this number are cut into so many tiles
abbrev pub AreCut : ℕ → ℕ → ℕ → Type 0
AreCut cut rows n = (ranges : List (ℕ × ℕ)) × Halves cut 0 rows ranges × (n ≡ length ranges)

-- loops of these numbers of rows are cut into so many tiles together
abbrev pub AreAllCut : ℕ → List ℕ → ℕ → Type 0
AreAllCut cut [] n = n ≡ 0
AreAllCut cut (rows ∷ more) n = (first : ℕ) × (others : ℕ) × AreCut cut rows first × AreAllCut cut more others × (n ≡ first + others)

-- the numbers of a run of the program on the arguments: the loops of the program, those of the sized form and those of the lane form;
-- the tiles and the rows of all evaluations of its shared loops
pub record IsNote (p : ProgramTree) (arguments : List Value) (cut : ℕ) (note : RunNote) : Type 0 where
  pub loops : note.loops ≡ loops p.body
  pub sized : note.sized ≡ set_among (sized_marks p.body)
  pub lanes : note.lanes ≡ set_among (lane_marks p.body)
  pub tiles : AreAllCut cut (program_rows p arguments) note.tiles
  pub turns : note.turns ≡ sum (program_rows p arguments)
