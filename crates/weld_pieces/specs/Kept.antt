-- How a part is kept: all of it but what was merged. It says which items the part takes, and what it starts as.
use Rattle.std.specs.Prelude.{◌≡◌, ℕ, zero, suc, Option, Some, None, List, [], ◌∷◌}
use Rattle.weld_data.specs.declared.kind.Kind.{Kind}
use Rattle.weld_data.specs.declared.kind.Kind.TheVariants as kinds
use Rattle.weld_data.specs.declared.op.MergeOp.{MergeOp}
use Rattle.weld_data.specs.Kind.{InRange, IsNarrow}
use Rattle.weld_data.specs.Value.{Value, number, list, struct, dict, Values, no_values, and_value}
use Rattle.weld_data.specs.Order.{IsKey}
use Rattle.weld_builders.specs.Part.{start_part, list_shape, total_shape, totals_shape, cells_shape, keyed_shape, groups_shape}
use Rattle.weld_builders.specs.Builder.{Builder, one_part, parts, Builders, no_builders, and_builder, Item, item, in_field}

mutual
  -- numbers of a kind or values; an operator and a kind, or one for each field, with the number of cells; how keys are kept
  pub data Kept : Type 0 where
    kept_list : Option Kind → Kept
    kept_total : MergeOp → Kind → Kept
    kept_totals : MergeOp → List Kind → Kept
    kept_cells : MergeOp → Kind → ℕ → Kept
    kept_keyed : Option Kind → MergeOp → Kind → Kept
    kept_groups : Option Kind → Option Kind → Kept
    kept_struct : Kepts → Kept

  pub data Kepts : Type 0 where
    no_kepts : Kepts
    and_kept : Kept → Kepts → Kepts

-- the part that has nothing merged
abbrev mutual
  pub started : Kept → Builder
  started (kept_list kind) = one_part (start_part list_shape)
  started (kept_total op kind) = one_part (start_part (total_shape op kind))
  started (kept_totals op ks) = one_part (start_part (totals_shape op ks))
  started (kept_cells op kind n) = one_part (start_part (cells_shape op kind n))
  started (kept_keyed key op kind) = one_part (start_part (keyed_shape op kind))
  started (kept_groups key kind) = one_part (start_part groups_shape)
  started (kept_struct ks) = parts (all_started ks)

  pub all_started : Kepts → Builders
  all_started no_kepts = no_builders
  all_started (and_kept k ks) = and_builder (started k) (all_started ks)

-- ---- items

-- a number of the kind, in its range
abbrev pub IsNumberOf : Kind → Value → Type 0
IsNumberOf kind (number k x) = (k ≡ kind) × InRange kind x
IsNumberOf kind (list vs) = ⊥
IsNumberOf kind (struct vs) = ⊥
IsNumberOf kind (dict es) = ⊥

-- such a number, or any value
abbrev pub IsKeptAs : Option Kind → Value → Type 0
IsKeptAs (Some kind) v = IsNumberOf kind v
IsKeptAs None v = Unit {0}

-- a number of the kind, or any value that may be a key
abbrev pub IsKeptKey : Option Kind → Value → Type 0
IsKeptKey (Some kind) v = IsNumberOf kind v
IsKeptKey None v = IsKey v

-- a number of its kind for each field
abbrev pub AreNumbersOf : List Kind → Values → Type 0
AreNumbersOf [] no_values = Unit {0}
AreNumbersOf [] (and_value v vs) = ⊥
AreNumbersOf (k ∷ ks) no_values = ⊥
AreNumbersOf (k ∷ ks) (and_value v vs) = IsNumberOf k v × AreNumbersOf ks vs

-- a struct of such
abbrev pub IsStructOfNumbers : List Kind → Value → Type 0
IsStructOfNumbers ks (number k x) = ⊥
IsStructOfNumbers ks (list vs) = ⊥
IsStructOfNumbers ks (struct vs) = AreNumbersOf ks vs
IsStructOfNumbers ks (dict es) = ⊥

-- keys that are kept as numbers are of a kind whose numbers lie within an i64
abbrev pub IsNarrowKey : Option Kind → Type 0
IsNarrowKey (Some kind) = IsNarrow kind
IsNarrowKey None = Unit {0}

-- a struct of two fields that are so
abbrev pub ArePair : (Value → Type 0) → (Value → Type 0) → Values → Type 0
ArePair P Q no_values = ⊥
ArePair P Q (and_value a no_values) = ⊥
ArePair P Q (and_value a (and_value b no_values)) = P a × Q b
ArePair P Q (and_value a (and_value b (and_value c vs))) = ⊥

abbrev pub IsPair : (Value → Type 0) → (Value → Type 0) → Value → Type 0
IsPair P Q (number k x) = ⊥
IsPair P Q (list vs) = ⊥
IsPair P Q (struct vs) = ArePair P Q vs
IsPair P Q (dict es) = ⊥

-- the item is one that a part takes that is kept so
abbrev mutual
  pub Takes : Kept → Item → Type 0
  Takes (kept_list kind) (item v) = IsKeptAs kind v
  Takes (kept_total op kind) (item v) = IsNumberOf kind v
  Takes (kept_totals op ks) (item v) = IsStructOfNumbers ks v
  Takes (kept_cells op kind n) (item v) = IsPair (IsNumberOf kinds.I64) (IsNumberOf kind) v
  Takes (kept_keyed key op kind) (item v) = IsPair (IsKeptKey key) (IsNumberOf kind) v
  Takes (kept_groups key kind) (item v) = IsPair (IsKeptKey key) (IsKeptAs kind) v
  Takes (kept_struct ks) (item v) = ⊥
  Takes (kept_struct ks) (in_field n i) = TakesInField ks n i
  Takes _ (in_field n i) = ⊥

  pub TakesInField : Kepts → ℕ → Item → Type 0
  TakesInField no_kepts n i = ⊥
  TakesInField (and_kept k ks) zero i = Takes k i
  TakesInField (and_kept k ks) (suc n) i = TakesInField ks n i
