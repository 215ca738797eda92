-- Values of Weld programs as plain data: numbers, lists, structs and dictionaries.
use Rattle.std.specs.Prelude.{◌≡◌, ℤ, List, [], ◌∷◌, refl}
use Rattle.std.proofs.Common.{ap}
use Rattle.weld_data.specs.declared.kind.Kind.{Kind}

mutual
  -- a number with its kind, a list, a struct by its fields, or a dictionary by its entries
  pub data Value : Type 0 where
    number : Kind → ℤ → Value
    list : Values → Value
    struct : Values → Value
    dict : Entries → Value

  -- values, one after another
  pub data Values : Type 0 where
    no_values : Values
    and_value : Value → Values → Values

  -- keys with their values, one after another
  pub data Entries : Type 0 where
    no_entries : Entries
    and_entry : Value → Value → Entries → Entries

abbrev pub ValueList : Type 0
ValueList = List Value

abbrev pub EntryList : Type 0
EntryList = List (Value × Value)

-- `Values` and `Entries` are those lists, under names of their own

abbrev pub values : List Value → Values
values [] = no_values
values (v ∷ vs) = and_value v (values vs)

abbrev pub list_of_values : Values → List Value
list_of_values no_values = []
list_of_values (and_value v vs) = v ∷ list_of_values vs

abbrev pub entries : List (Value × Value) → Entries
entries [] = no_entries
entries (e ∷ es) = and_entry e.0 e.1 (entries es)

abbrev pub list_of_entries : Entries → List (Value × Value)
list_of_entries no_entries = []
list_of_entries (and_entry k v es) = (k, v) ∷ list_of_entries es

pub list_of_values-values : (vs : List Value) → list_of_values (values vs) ≡ vs
list_of_values-values [] = refl
list_of_values-values (v ∷ vs) = ap (λ ws. v ∷ ws) (list_of_values-values vs)

pub values-list_of_values : (vs : Values) → values (list_of_values vs) ≡ vs
values-list_of_values no_values = refl
values-list_of_values (and_value v vs) = ap (and_value v) (values-list_of_values vs)

pub list_of_entries-entries : (es : List (Value × Value)) → list_of_entries (entries es) ≡ es
list_of_entries-entries [] = refl
list_of_entries-entries (e ∷ es) = ap (λ ws. e ∷ ws) (list_of_entries-entries es)

pub entries-list_of_entries : (es : Entries) → entries (list_of_entries es) ≡ es
entries-list_of_entries no_entries = refl
entries-list_of_entries (and_entry k v es) = ap (and_entry k v) (entries-list_of_entries es)
