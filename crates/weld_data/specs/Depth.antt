-- How deep a value is, by which a recursion over values ends.
use Rattle.std.specs.Prelude.{ℕ, ◌+◌, max, List}
use Rattle.weld_data.specs.Value.{Value, number, list, struct, dict, Values, no_values, and_value, Entries, no_entries, and_entry, values, entries}

abbrev mutual
  pub depth : Value → ℕ
  depth (number k x) = 0
  depth (list vs) = depth_of_values vs
  depth (struct vs) = depth_of_values vs
  depth (dict es) = depth_of_entries es

  pub depth_of_values : Values → ℕ
  depth_of_values no_values = 0
  depth_of_values (and_value v vs) = max (depth v + 1) (depth_of_values vs)

  pub depth_of_entries : Entries → ℕ
  depth_of_entries no_entries = 0
  depth_of_entries (and_entry k v es) = max (depth k + 1) (max (depth v + 1) (depth_of_entries es))

abbrev pub depth_of_list : List Value → ℕ
depth_of_list vs = depth_of_values (values vs)

abbrev pub depth_of_pairs : List (Value × Value) → ℕ
depth_of_pairs es = depth_of_entries (entries es)
