-- What the callers of these tests compute.
use Rattle.std.specs.Prelude.{ℕ, pos, List, map}
use Rattle.std.specs.List.{range_with_len}
use Rattle.weld_data.specs.declared.kind.Kind.TheVariants as kinds
use Rattle.weld_data.specs.Value.{Value, number}

-- the numbers below n, each as its own key and value
abbrev pub small_numbers : ℕ → List (Value × Value)
small_numbers n = map (λ (k : ℕ). (number kinds.U8 (pos k), number kinds.U8 (pos k))) (range_with_len 0 n)
