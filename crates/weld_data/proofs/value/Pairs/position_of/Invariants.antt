use Rattle.std.proofs.Common.{◌≡◌, ℕ, ◌-◌, ◌<◌, ◌≤◌, length, slice_get, Some}
use Rattle.weld_data.specs.Value.{Value}
use Rattle.weld_data.specs.View.{view_val}
use Rattle.weld_data.specs.Order.{KeyLess}
use Rattle.weld_data.proofs.value.Pairs.position_of.Given as goal

abbrev pub invariant-loop-low : goal.invariant-loop-low
invariant-loop-low l = record {
  ordered : l.low ≤ l.high;
  within : l.high ≤ length l.self;
  below : (i : ℕ) (e : Value × Value) → i < l.low → slice_get l.self i ≡ Some e → KeyLess e.0 (view_val l.key);
  above : (i : ℕ) (e : Value × Value) → l.high ≤ i → slice_get l.self i ≡ Some e → KeyLess (view_val l.key) e.0;
}

abbrev pub decreases-loop-low : goal.decreases-loop-low
decreases-loop-low l = l.high - l.low
