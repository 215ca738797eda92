-- The machine as the plain core, and what one step of it answers.
use Rattle.std.specs.Prelude.{◌≡◌, ℕ, List, [], ◌∷◌, map, reverse, Vec, vec_items}
use Rattle.weld_tiles.specs.declared.tile.Tile.{Tile}
use Rattle.weld_board.specs.Sharing.{Core, left_in, moved, after}
use Rattle.weld_board.specs.declared.hands.event.Event.{Event}
use Rattle.weld_board.specs.declared.hands.event.Event.TheVariants.{Pop, Steal, Finish}
use Rattle.weld_board.specs.declared.hands.event.Step.{Step}
use Rattle.weld_board.specs.declared.hands.event.Step.TheVariants.{Took, Empty, Finished, Memory}
use Rattle.weld_board.specs.declared.hands.machine.Machine.{Machine}

-- hands that are kept back to front
abbrev pub turned : {Z : Type 0} → List (Vec Tile Z) → List (List Tile)
turned hands = map (λ v. reverse (vec_items v)) hands

-- what seats have taken
abbrev pub shown : {Z : Type 0} → List (Vec Tile Z) → List (List Tile)
shown lists = map (λ v. vec_items v) lists

-- the machine as the core
abbrev pub core_of : Machine → Core Tile
core_of m = record { hands = turned m.hands.items; taken = shown m.taken.items; finished = m.finished.items }

-- what comes of giving the first tile of hand k to seat j: it was that tile; the hand was empty; or, for want of memory, nothing has changed
abbrev pub Moves : Core Tile → ℕ → ℕ → Step → Core Tile → Type 0
Moves s j k (Took t) r = ((rest : List Tile) × (left_in s k ≡ t ∷ rest)) × (r ≡ moved s j k)
Moves s j k Empty r = (left_in s k ≡ []) × (r ≡ moved s j k)
Moves s j k Finished r = ⊥
Moves s j k Memory r = ((t : Tile) × (rest : List Tile) × (left_in s k ≡ t ∷ rest)) × (r ≡ s)

-- what comes of an event
abbrev pub Steps : Core Tile → Event → Step → Core Tile → Type 0
Steps s (Pop k) step r = Moves s k k step r
Steps s (Steal j k) step r = Moves s j k step r
Steps s (Finish k) step r = (step ≡ Finished) × (r ≡ after s (Finish k))
