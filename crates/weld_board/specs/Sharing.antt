-- Tiles shared by seats that take them from hands: plain data, one event at a time.
use Rattle.std.specs.Prelude.{◌≡◌, ◌≢◌, ◌≤◌, ◌<◌, ℕ, Bool, true, false, List, [], ◌∷◌, ◌++◌, length, slice_index_or, slice_set, replicate, IsPermutation}
use Rattle.weld_tiles.specs.declared.tile.Tile.{Tile}
use Rattle.weld_board.specs.Dealing.{hands_below, joined}
use Rattle.weld_board.specs.declared.hands.event.Event.{Event}
use Rattle.weld_board.specs.declared.hands.event.Event.TheVariants.{Pop, Steal, Finish}

-- for each seat the tiles that are left in its hand, those that it has taken, and whether it has finished
pub record Core (A : Type 0) : Type 0 where
  pub hands : List (List A)
  pub taken : List (List A)
  pub finished : List Bool

module _ {A : Type 0} where
  -- the tiles left in hand k
  abbrev pub left_in : Core A → ℕ → List A
  left_in s k = slice_index_or s.hands k []

  -- those that seat j has taken
  abbrev pub taken_by : Core A → ℕ → List A
  taken_by s j = slice_index_or s.taken j []

  -- the tiles dealt to so many seats, none taken
  abbrev pub dealt : List A → ℕ → Core A
  dealt tiles workers = record { hands = hands_below tiles workers workers; taken = replicate workers []; finished = replicate workers false }

  -- the first of these tiles, which are what hand k has, goes to seat j; where there is none, nothing changes
  abbrev pub moved_first : Core A → ℕ → ℕ → List A → Core A
  moved_first s j k [] = s
  moved_first s j k (t ∷ ts) = record { hands = slice_set s.hands k ts; taken = slice_set s.taken j (taken_by s j ++ t ∷ []); finished = s.finished }

  -- the first tile of hand k goes to seat j
  abbrev pub moved : Core A → ℕ → ℕ → Core A
  moved s j k = moved_first s j k (left_in s k)

  -- a seat takes the first tile of its own hand or of another seat's, or has finished
  abbrev pub after : Core A → Event → Core A
  after s (Pop k) = moved s k k
  after s (Steal j k) = moved s j k
  after s (Finish k) = record { hands = s.hands; taken = s.taken; finished = slice_set s.finished k true }

  -- the event's seats are there; a seat steals from another; it finishes with an empty hand
  abbrev pub Permits : Core A → Event → Type 0
  Permits s (Pop k) = k < length s.hands
  Permits s (Steal j k) = (j < length s.hands) × (k < length s.hands) × (j ≢ k)
  Permits s (Finish k) = (k < length s.hands) × (left_in s k ≡ [])

  -- what some events make, one after another
  abbrev pub after_all : Core A → List Event → Core A
  after_all s [] = s
  after_all s (e ∷ es) = after_all (after s e) es

  -- each of them may come when it does
  abbrev pub PermitsAll : Core A → List Event → Type 0
  PermitsAll s [] = Unit {0}
  PermitsAll s (e ∷ es) = Permits s e × PermitsAll (after s e) es

  -- each tile is in one hand or was taken by one seat, once
  abbrev pub Once : List A → Core A → Type 0
  Once tiles s = IsPermutation (joined s.taken ++ joined s.hands) tiles

  -- all seats have finished
  abbrev pub HaveFinished : Core A → Type 0
  HaveFinished s = (k : ℕ) → k < length s.finished → slice_index_or s.finished k false ≡ true

-- in every state that events make of dealt tiles each tile is in one hand or was taken once
abbrev pub AlwaysOnce : Type 0
AlwaysOnce = (tiles : List Tile) (workers : ℕ) (events : List Event) → 1 ≤ workers → PermitsAll (dealt tiles workers) events → Once tiles (after_all (dealt tiles workers) events)

-- and where all seats have finished, all tiles were taken, each once
abbrev pub AllTaken : Type 0
AllTaken = (tiles : List Tile) (workers : ℕ) (events : List Event) → 1 ≤ workers → PermitsAll (dealt tiles workers) events
    → HaveFinished (after_all (dealt tiles workers) events) → IsPermutation (joined (after_all (dealt tiles workers) events).taken) tiles
