-- One total order of all values, in which dictionaries and groups have their keys.
use Rattle.std.specs.Prelude.{ℤ, pos, List, [], ◌∷◌}
use Rattle.std.specs.Ordering.{int_cmp}
use Rattle.std.specs.Cmp.Lexicographic.{slice_cmp}
use Rattle.std.specs.FinMap.{FinMap}
use Rattle.std.specs.declared.cmp.Ordering.{Ordering}
use Rattle.weld_data.specs.declared.kind.Kind.{Kind}
use Rattle.weld_data.specs.declared.kind.Kind.TheVariants.{Bool, I8, I16, I32, I64, U8, U16, U32, U64}
use Rattle.weld_data.specs.Value.{Value, number, list, struct, dict, Values, no_values, and_value, Entries, no_entries, and_entry}

abbrev pub kind_word : Kind → ℤ
kind_word Bool = pos 0
kind_word I8 = pos 1
kind_word I16 = pos 2
kind_word I32 = pos 3
kind_word I64 = pos 4
kind_word U8 = pos 5
kind_word U16 = pos 6
kind_word U32 = pos 7
kind_word U64 = pos 8

-- a value as numbers, before further ones: its form, and what is in it. Of two values neither's numbers begin the other's
abbrev mutual
  pub words : Value → List ℤ → List ℤ
  words (number k x) rest = pos 0 ∷ kind_word k ∷ x ∷ rest
  words (list vs) rest = pos 1 ∷ words_of_values vs rest
  words (struct vs) rest = pos 2 ∷ words_of_values vs rest
  words (dict es) rest = pos 3 ∷ words_of_entries es rest

  -- 1 stands before each, and 0 behind the last
  pub words_of_values : Values → List ℤ → List ℤ
  words_of_values no_values rest = pos 0 ∷ rest
  words_of_values (and_value v vs) rest = pos 1 ∷ words v (words_of_values vs rest)

  pub words_of_entries : Entries → List ℤ → List ℤ
  words_of_entries no_entries rest = pos 0 ∷ rest
  words_of_entries (and_entry k v es) rest = pos 1 ∷ words k (words v (words_of_entries es rest))

-- how the first value stands to the second: at the first place where their numbers differ, by these
unfoldable pub value_cmp : Value → Value → Ordering
value_cmp x y = slice_cmp int_cmp (words x []) (words y [])

-- finite maps from values
abbrev pub ValueMap : Type 0 → Type 0
ValueMap X = FinMap value_cmp X
