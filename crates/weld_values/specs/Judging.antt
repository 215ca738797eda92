-- What the readers of this crate tell of what they read.
use Rattle.std.specs.Prelude.{◌≡◌, ◌++◌, ◌⊎◌, ◌<ℤ◌, ◌≤ℤ◌, ◌≤◌, ◌^◌, ℕ, ℤ, pos, neg_ℤ, List, [], ◌∷◌, Some, map, All}
use Rattle.weld_data.specs.Wrapped.{wrapped}
use Rattle.weld_data.specs.declared.kind.Kind.TheVariants.{I8}
use Rattle.weld_data.specs.Value.{Value, Values, and_value, list, values, entries}
use Rattle.weld_tree.specs.TypeTree.{TypeTree, TypeTrees, scalar, vec, struct as struct_of, dict as dict_of, build, no_types, more_types}
use Rattle.weld_values.specs.declared.fault.DataFault.{DataFault}
use Rattle.weld_values.specs.declared.fault.DataFault.TheVariants as faults
use Rattle.weld_values.specs.declared.flaw.Flaw.{Flaw}
use Rattle.weld_values.specs.declared.flaw.Flaw.TheVariants.{Fine, Repeat, Range}
use Rattle.weld_values.specs.Tokens.{byte_at}
use Rattle.weld_values.specs.Grammar.{Part, Listed, Enclosed, AtItems, Fields, At}
use Rattle.weld_values.specs.Reading.{IsInRange, RepeatsKey, Settles, EntriesInRange, EntryRepeatsKey, SettleEntries}
use Rattle.weld_tree.specs.Types.{IsKey}

-- what is wrong with a value as it was read, and else what it settles to
abbrev pub Judged : Flaw → Value → Value → Type 0
Judged Fine raw v = IsInRange raw × Settles raw v
Judged Repeat raw v = IsInRange raw × RepeatsKey raw
Judged Range raw v = IsInRange raw → ⊥

-- the worse of two: a number out of range, then equal keys
abbrev pub worse : Flaw → Flaw → Flaw
worse Fine g = g
worse Repeat Fine = Repeat
worse Repeat Repeat = Repeat
worse Repeat Range = Range
worse Range g = Range

-- a value was read at the front of the text, and this follows
pub record IsRead (R : Part Value) (text : List ℕ) (flaw : Flaw) (v : Value) (rest : List ℕ) : Type 0 where
  pub raw : Value
  pub at : R raw text rest
  pub judged : Judged flaw raw v

-- the same where the value was appended to these ones
pub record IsReadInto (R : Part Value) (text : List ℕ) (flaw : Flaw) (old new : List Value) (rest : List ℕ) : Type 0 where
  pub v : Value
  pub appended : new ≡ old ++ v ∷ []
  pub read : IsRead R text flaw v rest

-- no value stands at the front of the text
abbrev pub IsUnread : {A : Type 0} → Part A → List ℕ → Type 0
IsUnread {A} R text = (x : A) (rest : List ℕ) → R x text rest → ⊥

-- what was read of a list so far, from the first element to the front of the rest
pub record Gathered (R : Part Value) (text rest : List ℕ) (flaw : Flaw) (vs : List Value) : Type 0 where
  pub raws : List Value
  pub found : (zs : List Value) (end : List ℕ) → Listed R zs rest end → Listed R (raws ++ zs) text end
  pub only : (ys : List Value) (end out : List ℕ) → Listed R ys text end → byte_at 93 end ≡ Some out → (zs : List Value) × (ys ≡ raws ++ zs) × Listed R zs rest end
  pub judged : Judged flaw (list (values raws)) (list (values vs))

-- elements were read up to the bracket after them, and this follows
pub record AreListed (R : Part Value) (text : List ℕ) (flaw : Flaw) (vs : List Value) (rest : List ℕ) : Type 0 where
  pub raws : List Value
  pub end : List ℕ
  pub at : Listed R raws text end
  pub closes : byte_at 93 end ≡ Some rest
  pub judged : Judged flaw (list (values raws)) (list (values vs))

-- no elements up to a bracket stand there
abbrev pub AreUnlisted : Part Value → List ℕ → Type 0
AreUnlisted R text = (ys : List Value) (end : List ℕ) (rest : List ℕ) → Listed R ys text end → byte_at 93 end ≡ Some rest → ⊥

-- what stands after an opening bracket was read, and this follows
pub record AreRead (R : Part Value) (text : List ℕ) (flaw : Flaw) (vs : List Value) (rest : List ℕ) : Type 0 where
  pub raws : List Value
  pub at : Enclosed R 93 (byte_at 93 text) raws text rest
  pub judged : Judged flaw (list (values raws)) (list (values vs))

-- no list stands after the opening bracket
abbrev pub AreUnread : Part Value → List ℕ → Type 0
AreUnread R text = (ys : List Value) (rest : List ℕ) → Enclosed R 93 (byte_at 93 text) ys text rest → ⊥

-- these values before those
abbrev pub joined : List Value → Values → Values
joined [] ws = ws
joined (v ∷ vs) ws = and_value v (joined vs ws)

-- what was read of a struct so far, where the fields of the types in `left` are still to come, the first after this byte
pub record FieldsSoFar (ts left : TypeTrees) (lead : ℕ) (text rest : List ℕ) (flaw : Flaw) (vs : List Value) : Type 0 where
  pub raws : List Value
  pub found : (ws : Values) (end : List ℕ) → Fields left lead ws rest end → Fields ts 123 (joined raws ws) text end
  pub only : (us : Values) (end : List ℕ) → Fields ts 123 us text end → (ws : Values) × (us ≡ joined raws ws) × Fields left lead ws rest end
  pub judged : Judged flaw (list (values raws)) (list (values vs))

-- the items of a string were read as these numbers, and this follows
pub record AreItems (text : List ℕ) (items : List ℤ) (rest : List ℕ) : Type 0 where
  pub bytes : List ℕ
  pub at : AtItems bytes text rest
  pub numbers : items ≡ map (λ (b : ℕ). wrapped I8 (pos b)) bytes

-- what was read of a string so far
pub record ItemsSoFar (text rest : List ℕ) (items : List ℤ) : Type 0 where
  pub bytes : List ℕ
  pub found : (bs end : List ℕ) → AtItems bs rest end → AtItems (bytes ++ bs) text end
  pub only : (bs end : List ℕ) → AtItems bs text end → (cs : List ℕ) × (bs ≡ bytes ++ cs) × AtItems cs rest end
  pub numbers : items ≡ map (λ (b : ℕ). wrapped I8 (pos b)) bytes

-- the two numbers are one, or both are greater than any that a kind has without its sign
abbrev pub IsCapped : ℕ → ℕ → Type 0
IsCapped value n = (value ≡ n) ⊎ ((2 ^ 64 ≤ value) × (2 ^ 64 ≤ n))

-- the two numbers are one, or each is less than the least of any kind or greater than the greatest
abbrev pub IsFarOut : ℤ → Type 0
IsFarOut x = (x <ℤ neg_ℤ (pos (2 ^ 63))) ⊎ (pos (2 ^ 64) ≤ℤ x)

abbrev pub IsClamped : ℤ → ℤ → Type 0
IsClamped x z = (x ≡ z) ⊎ (IsFarOut x × IsFarOut z)

-- neither a builder nor a dictionary stands in the type
abbrev mutual
  pub IsPlain : TypeTree → Type 0
  IsPlain (scalar k) = Unit {0}
  IsPlain (vec t) = IsPlain t
  IsPlain (struct_of ts) = ArePlain ts
  IsPlain (dict_of k v) = ⊥
  IsPlain (build b) = ⊥

  pub ArePlain : TypeTrees → Type 0
  ArePlain no_types = Unit {0}
  ArePlain (more_types t ts) = IsPlain t × ArePlain ts

-- the type has no builder in it, and its dictionaries have keys that may be such
abbrev mutual
  pub IsReadable : TypeTree → Type 0
  IsReadable (scalar k) = Unit {0}
  IsReadable (vec t) = IsReadable t
  IsReadable (struct_of ts) = AreReadable ts
  IsReadable (dict_of k v) = IsKey k × IsReadable v
  IsReadable (build b) = ⊥

  pub AreReadable : TypeTrees → Type 0
  AreReadable no_types = Unit {0}
  AreReadable (more_types t ts) = IsReadable t × AreReadable ts

-- the value is spelled as one of the type by some text
abbrev pub IsSpelled : TypeTree → Value → Type 0
IsSpelled t v = (text : List ℕ) × (rest : List ℕ) × At t v text rest

-- what is wrong with entries as they were read, whose keys are of this type, and else what they settle to, in the order of the text
abbrev pub AreJudged : TypeTree → Flaw → List (Value × Value) → List (Value × Value) → Type 0
AreJudged t Fine raws es = EntriesInRange (entries raws) × SettleEntries (entries raws) (entries es) × All (λ (e : Value × Value). IsSpelled t e.0) es
AreJudged t Repeat raws es = EntriesInRange (entries raws) × EntryRepeatsKey (entries raws)
AreJudged t Range raws es = EntriesInRange (entries raws) → ⊥

-- an entry was read at the front of the text, after those that were judged so; what is judged now
pub record IsEntryRead (t : TypeTree) (R : Part (Value × Value)) (text : List ℕ) (before after : Flaw) (old new : List (Value × Value)) (rest : List ℕ) : Type 0 where
  pub raw : Value × Value
  pub at : R raw text rest
  pub judged : (raws : List (Value × Value)) → AreJudged t before raws old → AreJudged t after (raws ++ raw ∷ []) new

-- what was read of a dictionary so far, from the first entry to the front of the rest
pub record EntriesSoFar (t : TypeTree) (R : Part (Value × Value)) (text rest : List ℕ) (flaw : Flaw) (es : List (Value × Value)) : Type 0 where
  pub raws : List (Value × Value)
  pub found : (zs : List (Value × Value)) (end : List ℕ) → Listed R zs rest end → Listed R (raws ++ zs) text end
  pub only : (ys : List (Value × Value)) (end out : List ℕ) → Listed R ys text end → byte_at 125 end ≡ Some out → (zs : List (Value × Value)) × (ys ≡ raws ++ zs) × Listed R zs rest end
  pub judged : AreJudged t flaw raws es

-- what stands after an opening brace was read as entries, and this follows
pub record EntriesRead (t : TypeTree) (R : Part (Value × Value)) (text : List ℕ) (flaw : Flaw) (es : List (Value × Value)) (rest : List ℕ) : Type 0 where
  pub raws : List (Value × Value)
  pub at : Enclosed R 125 (byte_at 125 text) raws text rest
  pub judged : AreJudged t flaw raws es

-- no entries stand after the opening brace
abbrev pub EntriesUnread : Part (Value × Value) → List ℕ → Type 0
EntriesUnread R text = (ys : List (Value × Value)) (rest : List ℕ) → Enclosed R 125 (byte_at 125 text) ys text rest → ⊥

-- a reason why a text is no scalar: only its form or its range can be one
abbrev pub IsOfCell : DataFault → Type 0
IsOfCell faults.Syntax = Unit {0}
IsOfCell faults.Range = Unit {0}
IsOfCell faults.Repeat = ⊥
IsOfCell faults.Memory = ⊥
