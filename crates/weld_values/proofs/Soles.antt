-- A text has at most one value of a type at its front.
use Rattle.std.proofs.Common.{◌≡◌, inl, inr, sym, ◌∙◌, ℕ, Bool, true, false, ◌==◌, cond, List, [], ◌∷◌, Option, Some, None, refl, ap, subst, map, pos}
use Rattle.std.proofs.lemmas.Bool.{eqb-true}
use Rattle.weld_data.specs.declared.kind.Kind.TheVariants.{I8}
use Rattle.weld_data.specs.Wrapped.{wrapped}
use Rattle.weld_data.specs.Value.{Value, Values, number, list, struct, dict, values, entries, and_value}
use Rattle.weld_tree.specs.TypeTree.{TypeTree, TypeTrees, scalar, vec, struct as struct_of, dict as dict_of, build, no_types, more_types}
use Rattle.weld_values.specs.Tokens.{after_byte, byte_at, item_at}
use Rattle.weld_values.specs.Grammar.{Part, More, Listed, Enclosed, AtList, AtItems, AtString, AtEntry, AtDict, NoField, AtField, AtStruct, At, Fields, scalar_at}
use Rattle.weld_values.proofs.Listings.{Sole, found_sole, some_is, none_is, one_byte}

-- two parts at one place are one
one_of : {A : Type 0} (R : Part A) → Sole R → (x y : A) (text text' r s : List ℕ) → text ≡ text' → R x text r → R y text' s → (x ≡ y) × (r ≡ s)
one_of R sole x y text text' r s e h k = sole x y text' r s (subst (λ (t : List ℕ). R x t r) e h) k

closed_more : {A : Type 0} (R : Part A) → Sole R → (c : ℕ) → (44 == c) ≡ false → (xs ys : List A) (text end end' r s : List ℕ) → More R xs text end → byte_at c end ≡ Some r → More R ys text end' → byte_at c end' ≡ Some s → (xs ≡ ys) × (r ≡ s)
closed_more R sole c ne [] [] text end end' r s h b k d = (refl, some_is r s (sym b ∙ ap (byte_at c) (sym h ∙ k) ∙ d))
closed_more R sole c ne [] (y ∷ ys) text end end' r s h b (start, e, one) d = absurd (one_byte 44 c text start r ne e (ap (byte_at c) h ∙ b))
closed_more R sole c ne (x ∷ xs) [] text end end' r s (start, e, one) b k d = absurd (one_byte 44 c text start s ne e (ap (byte_at c) k ∙ d))
closed_more {A} R sole c ne (x ∷ xs) (y ∷ ys) text end end' r s (start, e, (mid, h, more)) b (start', e', (mid', h', more')) d =
    let same : start ≡ start' = some_is start start' (sym e ∙ e') in
    let first = one_of R sole x y start start' mid mid' same h h' in
    let rest = closed_more R sole c ne xs ys mid' end end' r s (subst (λ (t : List ℕ). More R xs t end) first.1 more) b more' d in
    (ap (λ (z : A). z ∷ xs) first.0 ∙ ap (λ (zs : List A). y ∷ zs) rest.0, rest.1)

closed_listed : {A : Type 0} (R : Part A) → Sole R → (c : ℕ) → (44 == c) ≡ false → (xs ys : List A) (text end end' r s : List ℕ) → Listed R xs text end → byte_at c end ≡ Some r → Listed R ys text end' → byte_at c end' ≡ Some s → (xs ≡ ys) × (r ≡ s)
closed_listed R sole c ne [] ys text end end' r s h b k d = elim h [ ]
closed_listed R sole c ne (x ∷ xs) [] text end end' r s h b k d = elim k [ ]
closed_listed {A} R sole c ne (x ∷ xs) (y ∷ ys) text end end' r s (mid, h, more) b (mid', h', more') d =
    let first = sole x y text mid mid' h h' in
    let rest = closed_more R sole c ne xs ys mid' end end' r s (subst (λ (t : List ℕ). More R xs t end) first.1 more) b more' d in
    (ap (λ (z : A). z ∷ xs) first.0 ∙ ap (λ (zs : List A). y ∷ zs) rest.0, rest.1)

pub enclosed_sole : {A : Type 0} (R : Part A) → Sole R → (c : ℕ) → (44 == c) ≡ false → (o : Option (List ℕ)) → Sole (Enclosed R c o)
enclosed_sole R sole c ne (Some after) xs ys text r s h k = (h.0 ∙ sym k.0, sym h.1 ∙ k.1)
enclosed_sole R sole c ne None xs ys text r s (end, h, b) (end', k, d) = closed_listed R sole c ne xs ys text end end' r s h b k d

list_sole : (R : Part Value) → Sole R → Sole (AtList R)
list_sole R sole x y text r s (inner, vs, b, h, e) (inner', vs', b', h', e') =
    let same : inner' ≡ inner = some_is inner' inner (sym b' ∙ b) in
    let both = enclosed_sole R sole 93 refl (byte_at 93 inner) vs vs' inner r s h (subst (λ (t : List ℕ). Enclosed R 93 (byte_at 93 t) vs' t s) same h') in
    (e ∙ ap (λ (ws : List Value). list (values ws)) both.0 ∙ sym e', both.1)

-- ---- strings

quote_by : (byte : ℕ) (bytes rest : List ℕ) (b : Bool) → (byte == 34) ≡ b → cond b (Some bytes) None ≡ Some rest → byte ≡ 34
quote_by byte bytes rest true e h = eqb-true byte 34 e
quote_by byte bytes rest false e h = absurd (none_is rest h)

-- a quote is no item
quote_no_item : (text rest : List ℕ) → after_byte 34 text ≡ Some rest → item_at text ≡ None
unfolding item_at
quote_no_item [] rest h = refl
quote_no_item (byte ∷ bytes) rest h = ap (λ (b : ℕ). item_at (b ∷ bytes)) (quote_by byte bytes rest (byte == 34) refl h)

items_sole : Sole AtItems
items_sole [] [] text r s h k = (refl, some_is r s (sym h ∙ k))
items_sole [] (y ∷ ys) text r s h (mid, e, k) = absurd (none_is (y, mid) (sym (quote_no_item text r h) ∙ e))
items_sole (x ∷ xs) [] text r s (mid, e, h) k = absurd (none_is (x, mid) (sym (quote_no_item text s k) ∙ e))
items_sole (x ∷ xs) (y ∷ ys) text r s (mid, e, h) (mid', e', k) =
    let same = some_is (x, mid) (y, mid') (sym e ∙ e') in
    let rest = items_sole xs ys mid' r s (subst (λ (t : List ℕ). AtItems xs t r) (ap (λ (p : ℕ × List ℕ). p.1) same) h) k in
    (ap (λ (z : ℕ). z ∷ xs) (ap (λ (p : ℕ × List ℕ). p.0) same) ∙ ap (λ (zs : List ℕ). y ∷ zs) rest.0, rest.1)

pub string_sole : Sole AtString
string_sole x y text r s (inner, bytes, b, h, e) (inner', bytes', b', h', e') =
    let same : inner' ≡ inner = some_is inner' inner (sym b' ∙ b) in
    let both = items_sole bytes bytes' inner r s h (subst (λ (t : List ℕ). AtItems bytes' t s) same h') in
    (e ∙ ap (λ (bs : List ℕ). list (values (map (λ (n : ℕ). number I8 (wrapped I8 (pos n))) bs))) both.0 ∙ sym e', both.1)

vec_sole : (t : TypeTree) → Sole (At t) → Sole (At (vec t))
vec_sole t sole x y text r s (inl h) (inl k) = list_sole (At t) sole x y text r s h k
vec_sole t sole x y text r s (inl h) (inr k) = absurd (one_byte 91 34 text h.0 k.1.0 refl h.2 k.1.2)
vec_sole t sole x y text r s (inr h) (inl k) = absurd (one_byte 91 34 text k.0 h.1.0 refl k.2 h.1.2)
vec_sole t sole x y text r s (inr h) (inr k) = string_sole x y text r s h.1 k.1

-- ---- structs and dictionaries

struct_sole : (R : Part Values) → Sole R → Sole (AtStruct R)
struct_sole R sole x y text r s (vs, end, h, b, e) (vs', end', h', b', e') =
    let both = sole vs vs' text end end' h h' in
    (e ∙ ap struct both.0 ∙ sym e', some_is r s (sym b ∙ ap (byte_at 125) both.1 ∙ b'))

no_field_sole : Sole NoField
no_field_sole x y text r s h k = (h.0 ∙ sym k.0, sym h.1 ∙ k.1)

field_sole : (lead : ℕ) (R : Part Value) (S : Part Values) → Sole R → Sole S → Sole (AtField lead R S)
field_sole lead R S one more x y text r s (v, ws, start, mid, e, b, h, m) (v', ws', start', mid', e', b', h', m') =
    let same : start ≡ start' = some_is start start' (sym b ∙ b') in
    let first = one_of R one v v' start start' mid mid' same h h' in
    let rest = one_of S more ws ws' mid mid' r s first.1 m m' in
    (e ∙ ap (λ (z : Value). and_value z ws) first.0 ∙ ap (and_value v') rest.0 ∙ sym e', rest.1)

pub entry_sole : (R S : Part Value) → Sole R → Sole S → Sole (AtEntry R S)
entry_sole R S one two x y text r s (mid, start, h, b, m) (mid', start', h', b', m') =
    let first = one x.0 y.0 text mid mid' h h' in
    let same : start ≡ start' = some_is start start' (sym b ∙ ap (byte_at 58) first.1 ∙ b') in
    let rest = one_of S two x.1 y.1 start start' r s same m m' in
    (ap (λ (k : Value). (k, x.1)) first.0 ∙ ap (λ (v : Value). (y.0, v)) rest.0, rest.1)

dict_sole : (R S : Part Value) → Sole R → Sole S → Sole (AtDict R S)
dict_sole R S one two x y text r s (brace, inner, es, w, b, h, e) (brace', inner', es', w', b', h', e') =
    let same : brace ≡ brace' = some_is brace brace' (sym w ∙ w') in
    let inside : inner' ≡ inner = some_is inner' inner (sym b' ∙ ap (byte_at 123) (sym same) ∙ b) in
    let both = enclosed_sole (AtEntry R S) (entry_sole R S one two) 125 refl (byte_at 125 inner) es es' inner r s h (subst (λ (t : List ℕ). Enclosed (AtEntry R S) 125 (byte_at 125 t) es' t s) inside h') in
    (e ∙ ap (λ (fs : List (Value × Value)). dict (entries fs)) both.0 ∙ sym e', both.1)

mutual
  pub at_sole : (t : TypeTree) → Sole (At t)
  at_sole (scalar kind) = found_sole (scalar_at kind)
  at_sole (vec t) = vec_sole t (at_sole t)
  at_sole (struct_of ts) = struct_sole (Fields ts 123) (fields_sole ts 123)
  at_sole (dict_of k v) = dict_sole (At k) (At v) (at_sole k) (at_sole v)
  at_sole (build b) = λ x y text r s h k. absurd h

  pub fields_sole : (ts : TypeTrees) (lead : ℕ) → Sole (Fields ts lead)
  fields_sole no_types lead = no_field_sole
  fields_sole (more_types t ts) lead = field_sole lead (At t) (Fields ts 44) (at_sole t) (fields_sole ts 44)
