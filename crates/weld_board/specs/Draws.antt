-- What seats drew on hands.
use Rattle.std.specs.Prelude.{ℕ, zero, suc, ◌+◌, cond, eqb, ltb, leb, List, [], ◌∷◌, ◌++◌}
use Rattle.weld_board.specs.Dealing.{start, size}
use Rattle.weld_board.specs.declared.dealt.Dealt.{Dealt}
use Rattle.weld_board.specs.declared.share.Share.{Share}
use Rattle.weld_board.specs.Weights.{weigh}

-- the number of the first tile of hand k, and how many it has
abbrev pub first_of : Dealt → ℕ → ℕ
first_of d k = start d.tiles d.workers k

abbrev pub size_of : Dealt → ℕ → ℕ
size_of d k = size d.tiles d.workers k

-- the tiles drawn, by their numbers, in the order of the draws: those at the places below the size of their hand
abbrev pub tiles_drawn : Dealt → List (ℕ × ℕ) → List ℕ
tiles_drawn d [] = []
tiles_drawn d (x ∷ xs) = cond (ltb x.1 (size_of d x.0)) ((first_of d x.0 + x.1) ∷ []) [] ++ tiles_drawn d xs

-- 1 for a place of hand k at or past its size, which shows the hand empty
abbrev pub late_at : Dealt → ℕ → ℕ → ℕ → ℕ
late_at d k hand place = cond (eqb hand k) (cond (leb (size_of d k) place) 1 0) 0

-- how often hand k was found empty
abbrev pub late : Dealt → ℕ → List (ℕ × ℕ) → ℕ
late d k draws = weigh (λ x. late_at d k x.0 x.1) draws

-- shares without a draw, of so many seats from number k on
abbrev pub fresh : ℕ → ℕ → List Share
fresh k zero = []
fresh k (suc n) = record { seat = k; draws = [] } ∷ fresh (k + 1) n

-- what some draws, the draws of some shares, and those of all views weigh
abbrev pub weigh_draws : (ℕ → ℕ → ℕ) → List (ℕ × ℕ) → ℕ
weigh_draws f draws = weigh (λ x. f x.0 x.1) draws

abbrev pub weigh_view : (ℕ → ℕ → ℕ) → List Share → ℕ
weigh_view f view = weigh (λ s. weigh_draws f s.draws) view

-- the draw of a place of a hand, behind those of the first share
abbrev pub drawn : List Share → ℕ → ℕ → List Share
drawn [] k place = []
drawn (s ∷ ss) k place = record { seat = s.seat; draws = s.draws ++ (k, place) ∷ [] } ∷ ss
