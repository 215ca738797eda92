-- What a text reads as, and why it doesn't.
use Rattle.std.specs.Prelude.{◌≡◌, ◌⊎◌, ℕ, List, []}
use Rattle.std.specs.List.Sorted.{IsPermutation}
use Rattle.weld_data.specs.Kind.{InRange}
use Rattle.weld_data.specs.Value.{Value, number, list, struct, dict, Values, no_values, and_value, Entries, no_entries, and_entry, entries, list_of_entries}
use Rattle.weld_data.specs.Order.{Rises}
use Rattle.weld_sorted.specs.Repeats.{HaveOneKey}
use Rattle.weld_tree.specs.TypeTree.{TypeTree}
use Rattle.weld_values.specs.declared.fault.DataFault.{DataFault}
use Rattle.weld_values.specs.declared.fault.DataFault.TheVariants.{Syntax, Range, Repeat, Memory}
use Rattle.weld_values.specs.Tokens.{after_blanks}
use Rattle.weld_values.specs.Grammar.{At}

-- the whole text is this value of the type when ranges and equal keys are ignored
pub record Spells (text : List ℕ) (t : TypeTree) (raw : Value) : Type 0 where
  pub rest : List ℕ
  pub at : At t raw text rest
  pub ends : after_blanks rest ≡ []

abbrev mutual
  -- each number is in its kind's range
  pub IsInRange : Value → Type 0
  IsInRange (number k x) = InRange k x
  IsInRange (list vs) = AreInRange vs
  IsInRange (struct vs) = AreInRange vs
  IsInRange (dict es) = EntriesInRange es

  pub AreInRange : Values → Type 0
  AreInRange no_values = Unit {0}
  AreInRange (and_value v vs) = IsInRange v × AreInRange vs

  pub EntriesInRange : Entries → Type 0
  EntriesInRange no_entries = Unit {0}
  EntriesInRange (and_entry k v es) = IsInRange k × IsInRange v × EntriesInRange es

abbrev mutual
  -- a dictionary in it has equal keys
  pub RepeatsKey : Value → Type 0
  RepeatsKey (number k x) = ⊥
  RepeatsKey (list vs) = SomeRepeatsKey vs
  RepeatsKey (struct vs) = SomeRepeatsKey vs
  RepeatsKey (dict es) = HaveOneKey (list_of_entries es) ⊎ EntryRepeatsKey es

  pub SomeRepeatsKey : Values → Type 0
  SomeRepeatsKey no_values = ⊥
  SomeRepeatsKey (and_value v vs) = RepeatsKey v ⊎ SomeRepeatsKey vs

  pub EntryRepeatsKey : Entries → Type 0
  EntryRepeatsKey no_entries = ⊥
  EntryRepeatsKey (and_entry k v es) = RepeatsKey v ⊎ EntryRepeatsKey es

abbrev mutual
  -- the value with the entries of each dictionary in the order of their keys; no dictionary stands in a key
  pub Settles : Value → Value → Type 0
  Settles (number k x) w = w ≡ number k x
  Settles (list vs) w = (ws : Values) × (w ≡ list ws) × SettleAll vs ws
  Settles (struct vs) w = (ws : Values) × (w ≡ struct ws) × SettleAll vs ws
  Settles (dict es) w = (fs : Entries) × (gs : List (Value × Value)) × (w ≡ dict (entries gs)) × SettleEntries es fs × IsPermutation (list_of_entries fs) gs × Rises gs

  pub SettleAll : Values → Values → Type 0
  SettleAll no_values ws = ws ≡ no_values
  SettleAll (and_value v vs) ws = (x : Value) × (xs : Values) × (ws ≡ and_value x xs) × Settles v x × SettleAll vs xs

  pub SettleEntries : Entries → Entries → Type 0
  SettleEntries no_entries fs = fs ≡ no_entries
  SettleEntries (and_entry k v es) fs = (x : Value) × (xs : Entries) × (fs ≡ and_entry k x xs) × Settles v x × SettleEntries es xs

-- the text reads as this value of the type
pub record ReadsAs (text : List ℕ) (t : TypeTree) (v : Value) : Type 0 where
  pub raw : Value
  pub spelled : Spells text t raw
  pub in_range : IsInRange raw
  pub settled : Settles raw v

-- the text reads, and some number is out of its kind's range
pub record IsOutOfRange (text : List ℕ) (t : TypeTree) : Type 0 where
  pub raw : Value
  pub spelled : Spells text t raw
  pub out : IsInRange raw → ⊥

-- the text reads, all numbers are in range, and a dictionary has equal keys
pub record HasRepeat (text : List ℕ) (t : TypeTree) : Type 0 where
  pub raw : Value
  pub spelled : Spells text t raw
  pub in_range : IsInRange raw
  pub repeats : RepeatsKey raw

-- why a text does not read as a value of the type: it doesn't even when ranges are ignored; or a number is out of
-- range; or a dictionary has equal keys. Of want of memory nothing is said
abbrev pub WhyNot : List ℕ → TypeTree → DataFault → Type 0
WhyNot text t Syntax = (raw : Value) → Spells text t raw → ⊥
WhyNot text t Range = IsOutOfRange text t
WhyNot text t Repeat = HasRepeat text t
WhyNot text t Memory = Unit {0}
