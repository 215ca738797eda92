-- What is done on rows one after another.
use Rattle.std.specs.Prelude.{◌≡◌, ℕ, zero, suc}
use Rattle.weld_builders.specs.Outcome.{Outcome, done, and_then}
use Rattle.weld_meaning.specs.Thing.{Thing}

-- it is done on the row of a place and on so many in all, up to a fault
abbrev pub done_through : {S : Type 0} → (ℕ → S → Outcome S) → ℕ → ℕ → S → Outcome S
done_through does j zero s = done s
done_through does j (suc n) s = and_then (does j s) (λ t. done_through does (suc j) n t)

-- what lets each be done stands on each of these rows
abbrev pub FitsThrough : {S : Type 0} → (ℕ → S → Outcome S) → (ℕ → S → Type 0) → ℕ → ℕ → S → Type 0
FitsThrough does fits j zero s = Unit {0}
FitsThrough {S} does fits j (suc n) s = fits j s × ((t : S) → does j s ≡ done t → FitsThrough does fits (suc j) n t)

-- so far has it come: the rows that are left make the whole of what is there
pub record HasCome (does : ℕ → Thing → Outcome Thing) (fits : ℕ → Thing → Type 0) (count : ℕ) (start : Thing) (j left : ℕ) (s : Thing) : Type 0 where
  pub fit : FitsThrough does fits j left s
  pub same : done_through does 0 count start ≡ done_through does j left s
