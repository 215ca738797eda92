-- What a worker has done, after a job more.
use Rattle.std.proofs.Common.{◌≡◌, ℕ, ◌+◌, ◌-◌, ◌<◌, [], ◌∷◌, ◌++◌, length, ap, sym, ◌∙◌, subst, length-append, arith}
use Rattle.weld_tiles.specs.declared.tile.Tile.{Tile}
use Rattle.weld_board.specs.declared.board.Board.{Board}
use Rattle.weld_board.specs.declared.seat.Seat.{Seat}
use Rattle.weld_board.specs.Draws.{first_of}
use Rattle.weld_board.specs.Sitting.{Sits, TakesTile, taken, hand_after, board_tiles, board_dealt}
use Rattle.weld_board.specs.declared.workers.worker.Worker.{Worker}
use Rattle.weld_board.specs.Spans.{IfFault}
use Rattle.weld_board.specs.Work.{AreJobs, HasDone, Works}

-- the tile that a seat took stands for the job of its number
tile_job : (b : Board) (old new : Seat) (t : Tile) → AreJobs (board_tiles b) → (h : TakesTile b old new t) → t.number ≡ first_of (board_dealt b) (hand_after new h.after) + h.place
tile_job b old new t jobs h = ap (λ (u : Tile). u.number) h.tile ∙ jobs (first_of (board_dealt b) (hand_after new h.after) + h.place) t h.there

pub job_there : (b : Board) (old new : Seat) (t : Tile) (count : ℕ) → AreJobs (board_tiles b) → length (board_tiles b) ≡ count → TakesTile b old new t → t.number < count
job_there b old new t count jobs all h = let is = tile_job b old new t jobs h in let there = h.there in omega arith

pub job_taken : (b : Board) (old new : Seat) (t : Tile) → AreJobs (board_tiles b) → TakesTile b old new t → taken new ≡ taken old ++ t.number ∷ []
job_taken b old new t jobs h = h.list ∙ ap (λ k. taken old ++ k ∷ []) (sym (tile_job b old new t jobs h))

pub fewer_left : (b : Board) (old new : Seat) (t : Tile) → AreJobs (board_tiles b) → Sits b new → TakesTile b old new t → (board_dealt b).tiles - length (taken new) < (board_dealt b).tiles - length (taken old)
fewer_left b old new t jobs sits h =
    let few = sits.few in
    let count : length (taken new) ≡ length (taken old ++ t.number ∷ []) = ap length (job_taken b old new t jobs h) in
    let both = length-append (taken old) (t.number ∷ []) in
    omega arith

pub works_on : {P : Type 0} (made : ℕ → ℕ → P → Type 0) (faults : Type 0) (b : Board) (old new : Worker P) (seat : Seat) (t : Tile) → AreJobs (board_tiles b) → Works made faults b old → Sits b seat → TakesTile b old.seat seat t
    → new.seat ≡ seat → HasDone made faults new.stop new.spans.items (taken old.seat ++ t.number ∷ []) → IfFault new.stop faults → Works made faults b new
works_on made faults b old new seat t jobs h sits takes same done fault = record {
  sits = subst (Sits b) (sym same) sits;
  done = subst (HasDone made faults new.stop new.spans.items) (sym (ap taken same ∙ job_taken b old.seat seat t jobs takes)) done;
  fault = fault;
}
