-- Entries whose keys are not told apart.
use Rattle.std.specs.Prelude.{◌≡◌, ◌<◌, ◌-◌, length, ℕ, List, Some, slice_get, All}
use Rattle.weld_data.specs.Value.{Value}
use Rattle.std.specs.Ordering.{MatchOrdering}
use Rattle.std.specs.declared.cmp.Ordering.{Ordering}
use Rattle.weld_data.specs.Order.{KeyLess, KeyType, HasKeyType}

-- two entries have one key
abbrev pub HaveOneKey : List (Value × Value) → Type 0
HaveOneKey es = (i : ℕ) × (j : ℕ) × (e : Value × Value) × (f : Value × Value) × (i < j) × (slice_get es i ≡ Some e) × (slice_get es j ≡ Some f) × (e.0 ≡ f.0)

-- all keys are of one key type
abbrev pub HaveOneKeyType : List (Value × Value) → Type 0
HaveOneKeyType es = (t : KeyType) × All (λ (e : Value × Value). HasKeyType t e.0) es

-- the last entry has the key
abbrev pub IsLast : List (Value × Value) → Value → Type 0
IsLast es key = (e : Value × Value) × (0 < length es) × (slice_get es (length es - 1) ≡ Some e) × (e.0 ≡ key)

-- how the last key stands to this one; no key is less
abbrev pub LastStands : Ordering → List (Value × Value) → Value → Type 0
LastStands order es key = MatchOrdering order (All (λ (e : Value × Value). KeyLess e.0 key) es) (IsLast es key) ((k : Value) × IsLast es k × KeyLess key k)
