-- What holds of the words and of all views between any two steps.
use Rattle.std.specs.Prelude.{◌≡◌, ℕ, ◌+◌, ◌<◌, ◌≤◌, List, [], ◌∷◌, ◌++◌, length, take, drop}
use Rattle.atomic_table.specs.Table.{State, Me, Step}
use Rattle.weld_board.specs.declared.dealt.Dealt.{Dealt}
use Rattle.weld_board.specs.declared.share.Share.{Share}
use Rattle.weld_board.specs.Weights.{weigh, weigh_below, weigh_words}
use Rattle.weld_board.specs.Draws.{late, weigh_view, drawn}

-- each item of a list is so
abbrev pub Each : {A : Type 0} → (A → Type 0) → List A → Type 0
Each P [] = Unit {0}
Each P (x ∷ xs) = P x × Each P xs

-- a hand for each worker; room for each draw in a word; each seat has one share, and no other number has; the places drawn on a hand are the numbers below its word, each once; no seat found a hand empty twice
pub record Shares (d : Dealt) (s : State ℕ (List Share)) : Type 0 where
  pub hands : length s.words ≡ d.workers
  pub room : d.tiles + d.workers < 18446744073709551615
  pub seats : (f : ℕ → ℕ) → weigh (λ v. weigh (λ (x : Share). f x.seat) v) s.views ≡ weigh_below f d.workers
  pub places : (f : ℕ → ℕ → ℕ) → weigh (weigh_view f) s.views ≡ weigh_words f 0 s.words
  pub late_once : (k : ℕ) → Each (Each (λ (x : Share). late d k x.draws ≤ 1)) s.views

-- what was drawn is among the places below some words
abbrev pub IsBounded : List Share → Type 0
IsBounded v = (words : List ℕ) × ((f : ℕ → ℕ → ℕ) → weigh_view f v ≤ weigh_words f 0 words)

-- what was drawn is all places below some words, each once
abbrev pub IsAll : List Share → Type 0
IsAll v = (words : List ℕ) × ((f : ℕ → ℕ → ℕ) → weigh_view f v ≡ weigh_words f 0 words)

-- a draw found this place of its hand
abbrev pub DrawsPlace : Step ℕ → Me ℕ (List Share) → ℕ → Me ℕ (List Share) → Type 0
DrawsPlace step v n w = (w ≡ (drawn v.0 step.word n, v.1)) × IsBounded w.0

-- a load changes nothing, and shows that the view has all draws
abbrev pub ShowsAll : Step ℕ → Me ℕ (List Share) → ℕ → Me ℕ (List Share) → Type 0
ShowsAll step v n w = (w ≡ v) × IsAll v.0

-- a new seat gets the first share
abbrev pub others : List Share → List Share
others v = drop 1 v

abbrev pub first_share : List Share → List Share
first_share v = take 1 v

-- a seat's shares, before those that another had
abbrev pub both : List Share → List Share → List Share
both v w = w ++ v
