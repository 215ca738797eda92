-- Parts of lists of numbers.
use Rattle.std.proofs.Common.{◌≡◌, ℕ, ◌+◌, ◌-◌, ◌<◌, ℤ, pos, List, take, drop, map, sym, ap, ◌∙◌, arith}
use Rattle.std.specs.List.{drop-map}
use Rattle.std.proofs.lemmas.List.{get_or-take, get_or-drop, take-map}
use Rattle.weld_lanes.specs.Answers.{at}
use Rattle.weld_lanes.specs.Blocks.{ArePart}

-- a number of a part that was taken
pub part_number : {T : Type 0} (f : T → ℤ) (xs : List T) (from n j : ℕ) → j < n → at (map f (take n (drop from xs))) j ≡ at (map f xs) (from + j)
part_number f xs from n j less =
    ap (λ (ys : List ℤ). at ys j) (sym (take-map f n (drop from xs)) ∙ ap (take n) (sym (drop-map f from xs)))
    ∙ get_or-take n (drop from (map f xs)) j (pos 0) less
    ∙ get_or-drop from (map f xs) j (pos 0)

pub part_taken : {T : Type 0} (f : T → ℤ) (xs : List T) (from count : ℕ) → ArePart (λ j. at (map f xs) (from + j)) (map f (take (from + count - from) (drop from xs))) count
part_taken f xs from count = record { each = λ j less. part_number f xs from (from + count - from) j (omega arith) }
