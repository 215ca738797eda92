use Rattle.std.proofs.Common.{◌≡◌, ℕ, ◌<◌, pos, get_or}
use Rattle.weld_blocks.specs.Turned.{words_in}
use Rattle.weld_blocks.proofs.turning.put_row.Given as goal

abbrev pub invariant-loop-k : goal.invariant-loop-k
invariant-loop-k l = (j : ℕ) → j < l.k → get_or l.row j (pos 0) ≡ get_or (words_in l.columns l.place) j (pos 0)
