-- A value coded as a tree of numbers, by which a proof tells values apart.
use Rattle.std.specs.Prelude.{◌≡◌, ℕ, zero, suc, ℤ, pos, negsuc, refl}
use Rattle.std.specs.Coded.{Coded, code_by, coded×, coded_list}
use denote.Struct.Codes.{itself}
use base.Stored.{Gv, gnil, gnum, gcons, num}
use Rattle.weld_data.specs.declared.kind.Kind.{Kind}
use Rattle.weld_data.specs.declared.kind.Kind.TheVariants.{Bool, I8, I16, I32, I64, U8, U16, U32, U64}
use Rattle.weld_data.specs.Value.{Value, ValueList, EntryList, number, list, struct, dict, Values, no_values, and_value, Entries, no_entries, and_entry}

abbrev kind_code : Kind → ℕ
kind_code Bool = 0
kind_code I8 = 1
kind_code I16 = 2
kind_code I32 = 3
kind_code I64 = 4
kind_code U8 = 5
kind_code U16 = 6
kind_code U32 = 7
kind_code U64 = 8

abbrev kind_at : ℕ → Kind
kind_at zero = Bool
kind_at (suc zero) = I8
kind_at (suc (suc zero)) = I16
kind_at (suc (suc (suc zero))) = I32
kind_at (suc (suc (suc (suc zero)))) = I64
kind_at (suc (suc (suc (suc (suc zero))))) = U8
kind_at (suc (suc (suc (suc (suc (suc zero)))))) = U16
kind_at (suc (suc (suc (suc (suc (suc (suc zero))))))) = U32
kind_at (suc (suc (suc (suc (suc (suc (suc (suc n)))))))) = U64

-- a number: its kind and its sign, and its size
abbrev number_code : Kind → ℤ → Gv
number_code k (pos n) = gcons (gnum (kind_code k)) (gcons (gnum 0) (gnum n))
number_code k (negsuc n) = gcons (gnum (kind_code k)) (gcons (gnum 1) (gnum n))

abbrev mutual
  value_code : Value → Gv
  value_code (number k x) = gcons (gnum 0) (number_code k x)
  value_code (list vs) = gcons (gnum 1) (values_code vs)
  value_code (struct vs) = gcons (gnum 2) (values_code vs)
  value_code (dict es) = gcons (gnum 3) (entries_code es)

  values_code : Values → Gv
  values_code no_values = gnil
  values_code (and_value v vs) = gcons (value_code v) (values_code vs)

  entries_code : Entries → Gv
  entries_code no_entries = gnil
  entries_code (and_entry k v es) = gcons (value_code k) (gcons (value_code v) (entries_code es))

abbrev signed_at : ℕ → ℕ → ℤ
signed_at zero n = pos n
signed_at (suc s) n = negsuc n

abbrev first : Gv → Gv
first gnil = gnil
first (gnum n) = gnil
first (gcons a b) = a

abbrev rest : Gv → Gv
rest gnil = gnil
rest (gnum n) = gnil
rest (gcons a b) = b

abbrev number_at : Gv → Value
number_at g = number (kind_at (num (first g))) (signed_at (num (first (rest g))) (num (rest (rest g))))

-- the value of that form
abbrev of_form : ℕ → Value → Value → Value → Value → Value
of_form zero a b c d = a
of_form (suc zero) a b c d = b
of_form (suc (suc zero)) a b c d = c
of_form (suc (suc (suc n))) a b c d = d

abbrev mutual
  value_at : Gv → Value
  value_at gnil = dict no_entries
  value_at (gnum n) = dict no_entries
  value_at (gcons form g) =
      of_form (num form) (number_at g) (list (values_at g)) (struct (values_at g)) (dict (entries_at g))

  values_at : Gv → Values
  values_at gnil = no_values
  values_at (gnum n) = no_values
  values_at (gcons a b) = and_value (value_at a) (values_at b)

  entries_at : Gv → Entries
  entries_at gnil = no_entries
  entries_at (gnum n) = no_entries
  entries_at (gcons a gnil) = no_entries
  entries_at (gcons a (gnum n)) = no_entries
  entries_at (gcons a (gcons b c)) = and_entry (value_at a) (value_at b) (entries_at c)

number_at-number_code : (k : Kind) (x : ℤ) → number_at (number_code k x) ≡ number k x
number_at-number_code Bool (pos n) = refl
number_at-number_code Bool (negsuc n) = refl
number_at-number_code I8 (pos n) = refl
number_at-number_code I8 (negsuc n) = refl
number_at-number_code I16 (pos n) = refl
number_at-number_code I16 (negsuc n) = refl
number_at-number_code I32 (pos n) = refl
number_at-number_code I32 (negsuc n) = refl
number_at-number_code I64 (pos n) = refl
number_at-number_code I64 (negsuc n) = refl
number_at-number_code U8 (pos n) = refl
number_at-number_code U8 (negsuc n) = refl
number_at-number_code U16 (pos n) = refl
number_at-number_code U16 (negsuc n) = refl
number_at-number_code U32 (pos n) = refl
number_at-number_code U32 (negsuc n) = refl
number_at-number_code U64 (pos n) = refl
number_at-number_code U64 (negsuc n) = refl

mutual
  pub value_at-value_code : (v : Value) → value_at (value_code v) ≡ v
  value_at-value_code (number k x) = number_at-number_code k x
  value_at-value_code (list vs) = λ i. list (values_at-values_code vs i)
  value_at-value_code (struct vs) = λ i. struct (values_at-values_code vs i)
  value_at-value_code (dict es) = λ i. dict (entries_at-entries_code es i)

  values_at-values_code : (vs : Values) → values_at (values_code vs) ≡ vs
  values_at-values_code no_values = refl
  values_at-values_code (and_value v vs) = λ i. and_value (value_at-value_code v i) (values_at-values_code vs i)

  entries_at-entries_code : (es : Entries) → entries_at (entries_code es) ≡ es
  entries_at-entries_code no_entries = refl
  entries_at-entries_code (and_entry k v es) =
      λ i. and_entry (value_at-value_code k i) (value_at-value_code v i) (entries_at-entries_code es i)

abbrev pub coded_value : Coded Value
coded_value = code_by Gv itself value_code value_at value_at-value_code

abbrev pub coded_values : Coded ValueList
coded_values = coded_list coded_value

abbrev pub coded_entries : Coded EntryList
coded_entries = coded_list (coded× coded_value coded_value)
