use Rattle.std.proofs.Common.{◌≡◌, ◌++◌, [], List, ℕ, length}
use Rattle.weld_values.specs.Tokens.{after_blanks}
use Rattle.weld_values.proofs.piece.before_bracket.Given as goal

abbrev pub invariant-loop-last : goal.invariant-loop-last
invariant-loop-last l = (back : List ℕ) × (l.text ≡ l.rest ++ back) × (after_blanks back ≡ [])

abbrev pub decreases-loop-last : goal.decreases-loop-last
decreases-loop-last l = length l.rest
