-- A vector is read as a list or as a string.
use Rattle.std.proofs.Common.{◌≡◌, ◌⊎◌, inl, inr, sym, ◌∙◌, ℕ, ℤ, pos, List, [], ◌∷◌, map, Some, None, refl, ap, subst}
use Rattle.weld_data.specs.declared.kind.Kind.TheVariants.{I8}
use Rattle.weld_data.specs.Kind.{InRange}
use Rattle.weld_data.specs.Wrapped.{wrapped}
use Rattle.weld_data.specs.Value.{Value, number, list, values}
use Rattle.weld_tree.specs.TypeTree.{TypeTree, vec}
use Rattle.weld_values.specs.declared.flaw.Flaw.{Flaw}
use Rattle.weld_values.specs.declared.flaw.Flaw.TheVariants.{Fine}
use Rattle.weld_values.specs.Tokens.{byte_at}
use Rattle.weld_values.specs.Grammar.{At, AtList, AtString, Enclosed, IsI8}
use Rattle.weld_values.specs.Reading.{AreInRange, SettleAll}
use Rattle.weld_values.specs.Judging.{IsRead, IsUnread, AreRead, AreUnread, AreItems}
use Rattle.weld_values.proofs.Listings.{some_is, none_is, one_byte}

-- a list that was read
pub list_read : (t : TypeTree) (text inner rest : List ℕ) (f : Flaw) (vs : List Value) → byte_at 91 text ≡ Some inner → AreRead (At t) inner f vs rest → IsRead (At (vec t)) text f (list (values vs)) rest
list_read t text inner rest f vs b r = record { raw = list (values r.raws); at = inl (inner, r.raws, b, r.at, refl); judged = r.judged }

list_only : (t : TypeTree) (text inner : List ℕ) → byte_at 91 text ≡ Some inner → AreUnread (At t) inner → (v : Value) (r : List ℕ) → AtList (At t) v text r ⊎ (IsI8 t × AtString v text r) → ⊥
list_only t text inner b n v r (inl (inner', vs, b', h, e)) =
    n vs r (subst (λ (x : List ℕ). Enclosed (At t) 93 (byte_at 93 x) vs x r) (some_is inner' inner (sym b' ∙ b)) h)
list_only t text inner b n v r (inr h) = one_byte 91 34 text inner h.1.0 refl b h.1.2

pub list_unread : (t : TypeTree) (text inner : List ℕ) → byte_at 91 text ≡ Some inner → AreUnread (At t) inner → IsUnread (At (vec t)) text
list_unread t text inner b n = λ v r h. list_only t text inner b n v r h

-- no bracket
string_only : (t : TypeTree) (text : List ℕ) → byte_at 91 text ≡ None → (v : Value) (r : List ℕ) → AtList (At t) v text r ⊎ (IsI8 t × AtString v text r) → IsI8 t × AtString v text r
string_only t text n v r (inl h) = absurd (none_is h.0 (sym n ∙ h.2))
string_only t text n v r (inr h) = h

pub string_read : (t : TypeTree) (text rest : List ℕ) (f : Flaw) (v : Value) → IsI8 t → IsRead AtString text f v rest → IsRead (At (vec t)) text f v rest
string_read t text rest f v i r = record { raw = r.raw; at = inr (i, r.at); judged = r.judged }

pub string_unread : (t : TypeTree) (text : List ℕ) → byte_at 91 text ≡ None → IsUnread AtString text → IsUnread (At (vec t)) text
string_unread t text n u = λ v r h. u v r (string_only t text n v r h).1

pub neither_read : (t : TypeTree) (text : List ℕ) → byte_at 91 text ≡ None → (IsI8 t → ⊥) → IsUnread (At (vec t)) text
neither_read t text n never = λ v r h. never (string_only t text n v r h).0

-- ---- strings

abbrev pub i8_of : ℕ → Value
i8_of b = number I8 (wrapped I8 (pos b))

bytes_in_range : ((b : ℕ) → InRange I8 (wrapped I8 (pos b))) → (bytes : List ℕ) → AreInRange (values (map i8_of bytes))
bytes_in_range h [] = tt
bytes_in_range h (b ∷ bytes) = (h b, bytes_in_range h bytes)

bytes_settle : (bytes : List ℕ) → SettleAll (values (map i8_of bytes)) (values (map i8_of bytes))
bytes_settle [] = refl
bytes_settle (b ∷ bytes) = (i8_of b, values (map i8_of bytes), refl, refl, bytes_settle bytes)

numbers_map : (bytes : List ℕ) → map (number I8) (map (λ (b : ℕ). wrapped I8 (pos b)) bytes) ≡ map i8_of bytes
numbers_map [] = refl
numbers_map (b ∷ bytes) = ap (λ (x : List Value). i8_of b ∷ x) (numbers_map bytes)

pub items_read : ((b : ℕ) → InRange I8 (wrapped I8 (pos b))) → (text inner rest : List ℕ) (items : List ℤ) → byte_at 34 text ≡ Some inner → AreItems inner items rest → IsRead AtString text Fine (list (values (map (number I8) items))) rest
items_read in_range text inner rest items b a = record {
  raw = list (values (map i8_of a.bytes));
  at = (inner, a.bytes, b, a.at, refl);
  judged = (bytes_in_range in_range a.bytes, (values (map i8_of a.bytes), ap (λ (x : List ℤ). list (values (map (number I8) x))) a.numbers ∙ ap (λ (x : List Value). list (values x)) (numbers_map a.bytes), bytes_settle a.bytes));
}
