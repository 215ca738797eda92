-- What reads as a value of a type is of it, dictionaries too.
use Rattle.std.proofs.Common.{inl, inr, sym, ℕ, List, [], ◌∷◌, Option, Some, None, subst, All, arith}
use Rattle.std.proofs.lemmas.List.Elements.{All-cons, All-nil, All-tail}
use Rattle.std.proofs.lemmas.List.Sorted.{All-permutation}
use Rattle.weld_data.specs.Value.{Value, Values, values, Entries, no_entries, and_entry, entries, list_of_entries, list_of_entries-entries}
use Rattle.weld_data.specs.Order.{Rises}
use Rattle.weld_tree.specs.TypeTree.{TypeTree, TypeTrees, scalar, vec, struct as struct_of, dict as dict_of, build, no_types, more_types}
use Rattle.weld_tree.specs.HasValue.{HasValue, HaveValues, AllAre, AllEntriesAre}
use Rattle.weld_values.specs.Tokens.{byte_at}
use Rattle.weld_values.specs.Grammar.{Part, More, Listed, Enclosed, At, AtEntry, AtField, AtStruct, Fields, IsI8}
use Rattle.weld_values.specs.Reading.{IsInRange, AreInRange, EntriesInRange, Settles, SettleAll, SettleEntries, ReadsAs}
use Rattle.weld_values.specs.Judging.{IsPlain, IsReadable, AreReadable}
use Rattle.weld_values.proofs.Readings.{plain_gives, plain_typed}
use Rattle.weld_values.proofs.KeyTypes.{key_plain}

abbrev Gives : Part Value → (Value → Type 0) → Type 0
Gives R P = (raw : Value) (text r : List ℕ) → R raw text r → IsInRange raw → (v : Value) → Settles raw v → P v

more_give : (R : Part Value) (P : Value → Type 0) → Gives R P → (vs : List Value) (text r : List ℕ) → More R vs text r → AreInRange (values vs) → (ws : Values) → SettleAll (values vs) ws → AllAre P ws
more_give R P one [] text r h i ws s = subst (AllAre P) (sym s) tt
more_give R P one (v ∷ vs) text r (start, e, (mid, h, more)) i ws (x, xs, is, s, rest) = subst (AllAre P) (sym is) (one v start mid h i.0 x s, more_give R P one vs mid r more i.1 xs rest)

listed_give : (R : Part Value) (P : Value → Type 0) → Gives R P → (vs : List Value) (text r : List ℕ) → Listed R vs text r → AreInRange (values vs) → (ws : Values) → SettleAll (values vs) ws → AllAre P ws
listed_give R P one [] text r h i ws s = elim h [ ]
listed_give R P one (v ∷ vs) text r (mid, h, more) i ws (x, xs, is, s, rest) = subst (AllAre P) (sym is) (one v text mid h i.0 x s, more_give R P one vs mid r more i.1 xs rest)

enclosed_give : (R : Part Value) (P : Value → Type 0) → Gives R P → (c : ℕ) (o : Option (List ℕ)) (vs : List Value) (text r : List ℕ) → Enclosed R c o vs text r → AreInRange (values vs) → (ws : Values) → SettleAll (values vs) ws → AllAre P ws
enclosed_give R P one c (Some after) vs text r h i ws s = subst (AllAre P) (sym (subst (λ (x : List Value). SettleAll (values x) ws) h.0 s)) tt
enclosed_give R P one c None vs text r (end, h, b) i ws s = listed_give R P one vs text end h i ws s

i8_plain : (t : TypeTree) → IsI8 t → IsPlain t
i8_plain (scalar k) n = tt
i8_plain (vec t) n = absurd n
i8_plain (struct_of ts) n = absurd n
i8_plain (dict_of k v) n = absurd n
i8_plain (build b) n = absurd n

vec_gives : (t : TypeTree) → Gives (At t) (HasValue t) → Gives (At (vec t)) (HasValue (vec t))
vec_gives t one raw text r (inl (inner, vs, b, h, e)) = subst (λ (w : Value). IsInRange w → (v : Value) → Settles w v → HasValue (vec t) v) (sym e)
    (λ i v s. subst (HasValue (vec t)) (sym s.1) (enclosed_give (At t) (HasValue t) one 93 (byte_at 93 inner) vs inner r h i s.0 s.2))
vec_gives t one raw text r (inr (n, h)) = plain_gives (vec t) (i8_plain t n) raw text r (inr (n, h))

abbrev GiveFields : Part Values → (Values → Type 0) → Type 0
GiveFields R P = (raws : Values) (text r : List ℕ) → R raws text r → AreInRange raws → (ws : Values) → SettleAll raws ws → P ws

struct_gives : (R : Part Values) (ts : TypeTrees) → GiveFields R (HaveValues ts) → Gives (AtStruct R) (HasValue (struct_of ts))
struct_gives R ts all raw text r (vs, end, h, b, e) = subst (λ (w : Value). IsInRange w → (v : Value) → Settles w v → HasValue (struct_of ts) v) (sym e)
    (λ i v s. subst (HasValue (struct_of ts)) (sym s.1) (all vs text end h i s.0 s.2))

field_gives : (lead : ℕ) (t : TypeTree) (ts : TypeTrees) (S : Part Values) → Gives (At t) (HasValue t) → GiveFields S (HaveValues ts) → GiveFields (AtField lead (At t) S) (HaveValues (more_types t ts))
field_gives lead t ts S one all raws text r (v, ws, start, mid, e, b, h, m) = subst (λ (us : Values). AreInRange us → (xs : Values) → SettleAll us xs → HaveValues (more_types t ts) xs) (sym e)
    (λ i xs s. subst (HaveValues (more_types t ts)) (sym s.2) (one v start mid h i.0 s.0 s.3, all ws mid r m i.1 s.1 s.4))

-- ---- dictionaries

abbrev Keeps : Part Value → (Value → Type 0) → Type 0
Keeps R P = (raw : Value) (text r : List ℕ) → R raw text r → IsInRange raw → P raw

more_entries_give : (R S : Part Value) (P Q : Value → Type 0) → Keeps R P → Gives S Q → (es : List (Value × Value)) (text r : List ℕ) → More (AtEntry R S) es text r → EntriesInRange (entries es) → (fs : Entries) → SettleEntries (entries es) fs → AllEntriesAre P Q fs
more_entries_give R S P Q key one [] text r h i fs s = subst (AllEntriesAre P Q) (sym s) tt
more_entries_give R S P Q key one (e ∷ es) text r (start, c, (mid, (m, st, kr, b, vr), more)) i fs (x, xs, is, s, rest) =
    subst (AllEntriesAre P Q) (sym is) (key e.0 start m kr i.0, one e.1 st mid vr i.1 x s, more_entries_give R S P Q key one es mid r more i.2 xs rest)

listed_entries_give : (R S : Part Value) (P Q : Value → Type 0) → Keeps R P → Gives S Q → (es : List (Value × Value)) (text r : List ℕ) → Listed (AtEntry R S) es text r → EntriesInRange (entries es) → (fs : Entries) → SettleEntries (entries es) fs → AllEntriesAre P Q fs
listed_entries_give R S P Q key one [] text r h i fs s = elim h [ ]
listed_entries_give R S P Q key one (e ∷ es) text r (mid, (m, st, kr, b, vr), more) i fs (x, xs, is, s, rest) =
    subst (AllEntriesAre P Q) (sym is) (key e.0 text m kr i.0, one e.1 st mid vr i.1 x s, more_entries_give R S P Q key one es mid r more i.2 xs rest)

enclosed_entries_give : (R S : Part Value) (P Q : Value → Type 0) → Keeps R P → Gives S Q → (c : ℕ) (o : Option (List ℕ)) (es : List (Value × Value)) (text r : List ℕ) → Enclosed (AtEntry R S) c o es text r → EntriesInRange (entries es) → (fs : Entries) → SettleEntries (entries es) fs → AllEntriesAre P Q fs
enclosed_entries_give R S P Q key one c (Some after) es text r h i fs s = subst (AllEntriesAre P Q) (sym (subst (λ (x : List (Value × Value)). SettleEntries (entries x) fs) h.0 s)) tt
enclosed_entries_give R S P Q key one c None es text r (end, h, b) i fs s = listed_entries_give R S P Q key one es text end h i fs s

abbrev Both : (Value → Type 0) → (Value → Type 0) → Value × Value → Type 0
Both P Q e = P e.0 × Q e.1

to_all : (P Q : Value → Type 0) (fs : Entries) → AllEntriesAre P Q fs → All (Both P Q) (list_of_entries fs)
to_all P Q no_entries h = All-nil (Both P Q)
to_all P Q (and_entry k v fs) h = All-cons (Both P Q) (k, v) (list_of_entries fs) (h.0, h.1) (to_all P Q fs h.2)

from_all : (P Q : Value → Type 0) (gs : List (Value × Value)) → All (Both P Q) gs → AllEntriesAre P Q (entries gs)
from_all P Q [] h = tt
from_all P Q (g ∷ gs) h = let one = h 0 g (omega arith) in (one.0, one.1, from_all P Q gs (All-tail (Both P Q) g gs h))

dict_gives : (k v : TypeTree) → Keeps (At k) (HasValue k) → Gives (At v) (HasValue v) → Gives (At (dict_of k v)) (HasValue (dict_of k v))
dict_gives k v key one raw text r (brace, inner, es, w, b, h, e) = subst (λ (x : Value). IsInRange x → (y : Value) → Settles x y → HasValue (dict_of k v) y) (sym e)
    (λ i y s.
    let all = enclosed_entries_give (At k) (At v) (HasValue k) (HasValue v) key one 125 (byte_at 125 inner) es inner r h i s.0 s.3 in
    let moved = All-permutation (Both (HasValue k) (HasValue v)) (list_of_entries s.0) s.1 s.4 (to_all (HasValue k) (HasValue v) s.0 all) in
    subst (HasValue (dict_of k v)) (sym s.2) (from_all (HasValue k) (HasValue v) s.1 moved, subst Rises (sym (list_of_entries-entries s.1)) s.5))

mutual
  gives : (t : TypeTree) → IsReadable t → Gives (At t) (HasValue t)
  gives (scalar kind) p = plain_gives (scalar kind) tt
  gives (vec t) p = vec_gives t (gives t p)
  gives (struct_of ts) p = struct_gives (Fields ts 123) ts (fields_give ts 123 p)
  gives (dict_of k v) p = dict_gives k v (plain_typed k (key_plain k p.0)) (gives v p.1)
  gives (build b) p = absurd p

  fields_give : (ts : TypeTrees) (lead : ℕ) → AreReadable ts → GiveFields (Fields ts lead) (HaveValues ts)
  fields_give no_types lead p = λ raws text r h i ws s. subst (HaveValues no_types) (sym (subst (λ (x : Values). SettleAll x ws) h.0 s)) tt
  fields_give (more_types t ts) lead p = field_gives lead t ts (Fields ts 44) (gives t p.0) (fields_give ts 44 p.1)

pub read_typed : (text : List ℕ) (t : TypeTree) (v : Value) → IsReadable t → ReadsAs text t v → HasValue t v
read_typed text t v p r = gives t p r.raw text r.spelled.rest r.spelled.at r.in_range v r.settled
