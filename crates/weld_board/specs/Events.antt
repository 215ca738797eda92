-- The state of a board's words and views as that of the pure core, and the steps at it as the core's events.
use Rattle.std.specs.Prelude.{◌≡◌, ℕ, ◌+◌, ◌%◌, ◌^◌, ◌<◌, ◌≤◌, ◌≢◌, false, cond, eqb, List, [], ◌∷◌, ◌++◌, length, map, drop, replicate, slice_index, slice_index_or, slice_set}
use mathlib.Core.Option.{some}
use lib.ListN.{get_elem?}
use Rattle.atomic_table.specs.Table.{State, stepped, keeps, opening}
use Rattle.weld_board.specs.Dealing.{hand}
use Rattle.weld_board.specs.Sharing.{Core, Permits, PermitsAll, after, after_all, dealt}
use Rattle.weld_board.specs.declared.hands.event.Event.{Event}
use Rattle.weld_board.specs.declared.hands.event.Event.TheVariants.{Pop, Steal}
use Rattle.weld_board.specs.declared.dealt.Dealt.{Dealt}
use Rattle.weld_board.specs.declared.share.Share.{Share}
use Rattle.weld_board.specs.Draws.{tiles_drawn, late, fresh, drawn}
use Rattle.weld_board.specs.Rule.{Shares, others, first_share, both}
use Rattle.weld_board.specs.Sitting.{numbers}

-- the tiles left in hand k after so many draws on it, by their numbers among those dealt
abbrev pub hand_left : Dealt → ℕ → ℕ → List ℕ
hand_left d k word = drop word (hand (numbers d.tiles) d.workers k)

-- those left in the hands from number k on, by their words
abbrev pub hands_left : Dealt → ℕ → List ℕ → List (List ℕ)
hands_left d k [] = []
hands_left d k (word ∷ words) = hand_left d k word ∷ hands_left d (k + 1) words

-- what seat j took: the tiles drawn in its shares, in a view and in all views
abbrev pub taken_in : Dealt → ℕ → List Share → List ℕ
taken_in d j [] = []
taken_in d j (x ∷ xs) = cond (eqb x.seat j) (tiles_drawn d x.draws) [] ++ taken_in d j xs

abbrev pub taken_in_all : Dealt → ℕ → List (List Share) → List ℕ
taken_in_all d j [] = []
taken_in_all d j (v ∷ vs) = taken_in d j v ++ taken_in_all d j vs

-- the core's state: what is left in each hand, and what each seat took; the board marks no seat as finished
abbrev pub core_at : Dealt → State ℕ (List Share) → Core ℕ
core_at d s = record { hands = hands_left d 0 s.words; taken = map (λ j. taken_in_all d j s.views) (numbers d.workers); finished = replicate d.workers false }

-- the state after a draw on hand k, one step of the table, by the seat at a place of the views, whose view this is
abbrev pub after_draw : State ℕ (List Share) → ℕ → List Share → ℕ → State ℕ (List Share)
after_draw s id v k = stepped s k ((slice_index s.words k + 1) % 2 ^ 64) id [] (drawn v k (slice_index s.words k)) keeps

-- seat j takes the first tile of hand k, which is its own or another's
abbrev pub taking : ℕ → ℕ → Event
taking j k = cond (eqb j k) (Pop k) (Steal j k)

-- one state comes from another by seat j's taking from hand k, and the board's rule holds of it
pub record IsTaking (d : Dealt) (s t : State ℕ (List Share)) (j k : ℕ) : Type 0 where
  pub rule : Shares d t
  pub permits : Permits (core_at d s) (taking j k)
  pub is_after : core_at d t ≡ after (core_at d s) (taking j k)

-- a draw by a seat at work, whose view is its share, on a hand that it hasn't found empty
abbrev pub DrawsAreEvents : Type 0
DrawsAreEvents = (d : Dealt) (s : State ℕ (List Share)) (id k : ℕ) (x : Share) → Shares d s → get_elem? s.views id ≡ some (x ∷ []) → k < d.workers → late d k x.draws ≡ 0
    → IsTaking d s (after_draw s id (x ∷ []) k) x.seat k

-- what seats do at a board: the one at a place of the views gives its first share to a new seat; it draws on a hand; it takes in the shares of the one at another place
pub data Change : Type 0 where
  splits : ℕ → Change
  draws : ℕ → ℕ → Change
  joins : ℕ → ℕ → Change

-- the view at a place, and the number of its first share
abbrev pub view_at : State ℕ (List Share) → ℕ → List Share
view_at s id = slice_index_or s.views id []

abbrev pub seat_in : List Share → ℕ
seat_in [] = 0
seat_in (x ∷ xs) = x.seat

-- what comes of it
abbrev pub changed : State ℕ (List Share) → Change → State ℕ (List Share)
changed s (splits id) = record { words = s.words; homes = s.homes; views = slice_set s.views id (others (view_at s id)) ++ first_share (view_at s id) ∷ [] }
changed s (draws id k) = after_draw s id (view_at s id) k
changed s (joins id other) = record { words = s.words; homes = s.homes; views = slice_set (slice_set s.views id (both (view_at s id) (view_at s other))) other [] }

-- when it may be done: the seats are there; one that draws has its own share alone, and hasn't found the hand empty; a seat takes in another's shares
abbrev pub May : Dealt → State ℕ (List Share) → Change → Type 0
May d s (splits id) = id < length s.views
May d s (draws id k) = (id < length s.views) × ((x : Share) × (view_at s id ≡ x ∷ []) × (late d k x.draws ≡ 0)) × (k < d.workers)
May d s (joins id other) = (id < length s.views) × (other < length s.views) × (other ≢ id)

-- the core's events in it: a draw is one, and nothing else is
abbrev pub events_in : State ℕ (List Share) → Change → List Event
events_in s (splits id) = []
events_in s (draws id k) = taking (seat_in (view_at s id)) k ∷ []
events_in s (joins id other) = []

-- the same for changes one after another
abbrev pub changed_all : State ℕ (List Share) → List Change → State ℕ (List Share)
changed_all s [] = s
changed_all s (c ∷ cs) = changed_all (changed s c) cs

abbrev pub MayAll : Dealt → State ℕ (List Share) → List Change → Type 0
MayAll d s [] = Unit {0}
MayAll d s (c ∷ cs) = May d s c × MayAll d (changed s c) cs

abbrev pub events_in_all : State ℕ (List Share) → List Change → List Event
events_in_all s [] = []
events_in_all s (c ∷ cs) = events_in s c ++ events_in_all (changed s c) cs

-- a board's words and its one view, before any change
abbrev pub opened_at : Dealt → State ℕ (List Share)
opened_at d = opening (replicate d.workers 0) [] (fresh 0 d.workers)

-- whatever seats do at a board, the core's state is what the events in it make of the dealt tiles
abbrev pub BoardsAreCores : Type 0
BoardsAreCores = (d : Dealt) (changes : List Change) → 1 ≤ d.workers → d.tiles + d.workers < 18446744073709551615 → MayAll d (opened_at d) changes
    → PermitsAll (dealt (numbers d.tiles) d.workers) (events_in_all (opened_at d) changes)
    × (core_at d (changed_all (opened_at d) changes) ≡ after_all (dealt (numbers d.tiles) d.workers) (events_in_all (opened_at d) changes))
