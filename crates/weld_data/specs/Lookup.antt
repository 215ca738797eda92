-- Looking a key up in a dictionary.
use Rattle.std.specs.Prelude.{◌≡◌, ℕ, slice_get, Bool, true, false, ◌&&◌, if◌then◌else◌, List, [], ◌∷◌, Option, Some, None}
use Rattle.std.specs.Ordering.{int_eq}
use Rattle.weld_data.specs.declared.kind.Kind.{Kind}
use Rattle.weld_data.specs.declared.kind.Kind.TheVariants as kinds
use Rattle.weld_data.specs.Value.{Value, number, list, struct, dict, Values, no_values, and_value, Entries, no_entries, and_entry}

-- whether two kinds are the same
abbrev pub same_kind : Kind → Kind → Bool
same_kind kinds.Bool kinds.Bool = true
same_kind kinds.I8 kinds.I8 = true
same_kind kinds.I16 kinds.I16 = true
same_kind kinds.I32 kinds.I32 = true
same_kind kinds.I64 kinds.I64 = true
same_kind kinds.U8 kinds.U8 = true
same_kind kinds.U16 kinds.U16 = true
same_kind kinds.U32 kinds.U32 = true
same_kind kinds.U64 kinds.U64 = true
same_kind _ _ = false

abbrev mutual
  -- whether two values are equal
  pub same_value : Value → Value → Bool
  same_value (number k x) (number m y) = same_kind k m && int_eq x y
  same_value (list xs) (list ys) = same_values xs ys
  same_value (struct xs) (struct ys) = same_values xs ys
  same_value (dict es) (dict fs) = same_entries es fs
  same_value _ _ = false

  pub same_values : Values → Values → Bool
  same_values no_values no_values = true
  same_values (and_value x xs) (and_value y ys) = same_value x y && same_values xs ys
  same_values _ _ = false

  pub same_entries : Entries → Entries → Bool
  same_entries no_entries no_entries = true
  same_entries (and_entry k v es) (and_entry l w fs) = same_value k l && (same_value v w && same_entries es fs)
  same_entries _ _ = false

-- the value of the first entry that has the key
abbrev pub value_of_key : List (Value × Value) → Value → Option Value
value_of_key [] key = None
value_of_key (e ∷ es) key = if same_value e.0 key then Some e.1 else value_of_key es key

-- the entry at the index is the one of the key
pub record IsAt (es : List (Value × Value)) (key : Value) (index : ℕ) (e : Value × Value) : Type 0 where
  pub entry : slice_get es index ≡ Some e
  pub found : value_of_key es key ≡ Some e.1
