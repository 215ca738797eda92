-- Workers, between two jobs.
use Rattle.std.specs.Prelude.{◌≡◌, ◌≢◌, ℕ, ◌<◌, List, [], length, slice_index_or, Option, Some, None, All}
use Rattle.weld_data.specs.declared.stop.Stop.{Stop}
use Rattle.weld_data.specs.declared.stop.Stop.TheVariants.{Fault, Memory}
use Rattle.weld_tiles.specs.declared.tile.Tile.{Tile}
use Rattle.weld_board.specs.declared.board.Board.{Board}
use Rattle.weld_board.specs.Sitting.{Sits, IsEmptied, taken}
use Rattle.weld_board.specs.declared.workers.span.Span.{Span}
use Rattle.weld_board.specs.declared.workers.worker.Worker.{Worker}
use Rattle.weld_board.specs.Spans.{jobs_in, AreMade, IfFault}

-- the tiles of a board stand for jobs: each has its place as its number
abbrev pub AreJobs : List Tile → Type 0
AreJobs tiles = (k : ℕ) (d : Tile) → k < length tiles → (slice_index_or tiles k d).number ≡ k

module _ {P : Type 0} (made : ℕ → ℕ → P → Type 0) (faults : Type 0) where
  -- where a worker hasn't stopped, it has done the jobs that its seat took, in that order
  abbrev pub HasDone : Option Stop → List (Span P) → List ℕ → Type 0
  HasDone None spans jobs = AreMade made spans × (jobs_in spans ≡ jobs)
  HasDone (Some stop) spans jobs = Unit {0}

  -- a worker at a board: its seat is one of the board's; it has done what it took, or has stopped, by a fault only where the jobs have one
  pub record Works (b : Board) (w : Worker P) : Type 0 where
    pub sits : Sits b w.seat
    pub done : HasDone w.stop w.spans.items (taken w.seat)
    pub fault : IfFault w.stop faults

-- a worker before its first job
pub record IsIdle {P : Type 0} (b : Board) (w : Worker P) : Type 0 where
  pub sits : Sits b w.seat
  pub none_taken : taken w.seat ≡ []
  pub none_made : w.spans.items ≡ []
  pub goes : w.stop ≡ None

-- a worker whose seat has found every hand empty
abbrev pub HasWorked : {P : Type 0} → (ℕ → ℕ → P → Type 0) → Type 0 → Board → Worker P → Type 0
HasWorked made faults b w = Works made faults b w × IsEmptied w.seat

-- nothing has stopped the worker
abbrev pub Goes : {P : Type 0} → Worker P → Type 0
Goes w = w.stop ≡ None

-- a fault hasn't
abbrev pub HasNoFault : {P : Type 0} → Worker P → Type 0
HasNoFault w = w.stop ≢ Some Fault

-- what has stopped some workers: nothing; a fault one of them; or want of memory one of them, and a fault none
abbrev pub Stopped : {P : Type 0} → List (Worker P) → Option Stop → Type 0
Stopped ws None = All Goes ws
Stopped ws (Some Fault) = All HasNoFault ws → ⊥
Stopped ws (Some Memory) = All HasNoFault ws × (All Goes ws → ⊥)
