-- Boards, and seats at them.
use Rattle.std.specs.Prelude.{◌≡◌, ℕ, zero, suc, ◌+◌, ◌%◌, ◌<◌, ◌≤◌, List, [], ◌∷◌, ◌++◌, length, map, slice_index_or, vec_capacity, Option, Some, None}
use Rattle.weld_tiles.specs.declared.tile.Tile.{Tile}
use Rattle.weld_board.specs.declared.dealt.Dealt.{Dealt}
use Rattle.weld_board.specs.declared.share.Share.{Share}
use Rattle.weld_board.specs.declared.board.Board.{Board}
use Rattle.weld_board.specs.declared.seat.Seat.{Seat}
use Rattle.weld_board.specs.declared.seats.Seats.{Seats}
use Rattle.weld_board.specs.declared.closing.Taken.{Taken}
use Rattle.weld_board.specs.Draws.{first_of, size_of, tiles_drawn, late}

-- the tiles that were dealt, and to how many workers
abbrev pub board_tiles : Board → List Tile
board_tiles b = b.tiles.items

abbrev pub board_dealt : Board → Dealt
board_dealt b = b.dealt

-- the number of a seat
abbrev pub seat_number : Seat → ℕ
seat_number s = s.number

-- the draws of the first share
abbrev pub draws_in : List Share → List (ℕ × ℕ)
draws_in [] = []
draws_in (s ∷ ss) = s.draws

-- what a seat drew: hands and places, in the order of the draws
abbrev pub draws_of : Seat → List (ℕ × ℕ)
draws_of s = draws_in s.place.me.0

-- the tiles that a seat took, by their numbers among those dealt, in order
abbrev pub taken : Seat → List ℕ
taken s = tiles_drawn s.dealt (draws_of s)

-- the seat has found hand k empty: it drew a place at or past its size
abbrev pub HasFoundEmpty : Seat → ℕ → Type 0
HasFoundEmpty s k = 0 < late s.dealt k (draws_of s)

-- it has found every hand empty
abbrev pub IsEmptied : Seat → Type 0
IsEmptied s = (k : ℕ) → k < s.dealt.workers → HasFoundEmpty s k

-- the hand that comes so many hands after the seat's own
abbrev pub hand_after : Seat → ℕ → ℕ
hand_after s i = (s.number + i) % s.dealt.workers

-- each draw is on a hand
abbrev pub AreOnHands : ℕ → List (ℕ × ℕ) → Type 0
AreOnHands workers [] = Unit {0}
AreOnHands workers (x ∷ xs) = (x.0 < workers) × AreOnHands workers xs

-- a seat of this board: its view is its own share; it has found empty the hands that it has passed, and no other; it drew on hands alone, and took no more tiles than were dealt
pub record Sits (b : Board) (s : Seat) : Type 0 where
  pub table : s.place.table_id ≡ b.table.shared.table_id
  pub dealt : s.dealt ≡ b.dealt
  pub number : s.number < b.dealt.workers
  pub share : s.place.me ≡ (record { seat = s.number; draws = draws_of s } ∷ [], [])
  pub passes : s.passed ≤ b.dealt.workers
  pub passed : (i : ℕ) → i < s.passed → late s.dealt (hand_after s i) (draws_of s) ≡ 1
  pub ahead : (i : ℕ) → s.passed ≤ i → i < b.dealt.workers → late s.dealt (hand_after s i) (draws_of s) ≡ 0
  pub on_hands : AreOnHands b.dealt.workers (draws_of s)
  pub few : length (taken s) ≤ b.dealt.tiles

-- the seat took the tile at a place of the hand that comes `after` hands behind its own, by its last draw; it has found the hands between empty, and not this one
pub record TakesTile (b : Board) (old new : Seat) (t : Tile) : Type 0 where
  pub after : ℕ
  pub place : ℕ
  pub earlier : List (ℕ × ℕ)
  pub is_hand : after < b.dealt.workers
  pub passed : (i : ℕ) → i < after → HasFoundEmpty new (hand_after new i)
  pub here : late new.dealt (hand_after new after) (draws_of new) ≡ 0
  pub within : place < size_of b.dealt (hand_after new after)
  pub last : draws_of new ≡ (draws_of old ++ earlier) ++ (hand_after new after, place) ∷ []
  pub there : first_of b.dealt (hand_after new after) + place < length (board_tiles b)
  pub tile : t ≡ slice_index_or (board_tiles b) (first_of b.dealt (hand_after new after) + place) t
  pub list : taken new ≡ taken old ++ (first_of b.dealt (hand_after new after) + place) ∷ []

-- what the seat took; or it has found every hand empty, and took nothing
abbrev pub Takes : Board → Seat → Option Tile → Seat → Type 0
Takes b old (Some t) new = TakesTile b old new t
Takes b old None new = IsEmptied new × (taken new ≡ taken old)

-- a list of seats, and how many it has room for
abbrev pub seats_in : Seats → List Seat
seats_in s = s.list.items

abbrev pub seats_room : Seats → ℕ
seats_room s = vec_capacity s.list

-- seats of this board, numbered from k on, that have drawn nothing
abbrev pub AreFresh : Board → ℕ → List Seat → Type 0
AreFresh b k [] = Unit {0}
AreFresh b k (s ∷ ss) = Sits b s × (s.number ≡ k) × (draws_of s ≡ []) × AreFresh b (k + 1) ss

-- the shares of some seats
abbrev pub shares_of : List Seat → List Share
shares_of seats = map (λ s. record { seat = s.number; draws = draws_of s }) seats

-- the numbers below a number
abbrev pub numbers : ℕ → List ℕ
numbers zero = []
numbers (suc n) = numbers n ++ n ∷ []

-- the lists of the tiles that the seats took
abbrev pub lists_taken : Taken → List (List ℕ)
lists_taken t = map (λ (x : Share). tiles_drawn t.dealt x.draws) t.place.me.0
