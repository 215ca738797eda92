-- Values without dictionaries stand at the front of a text too where more text follows it, if that begins with a byte that is no
-- digit; so do lists of them.
use Rattle.std.proofs.Common.{◌≡◌, sym, ◌∙◌, inl, inr, ℕ, ◌+◌, ◌*◌, ◌==◌, nat_le, ◌&&◌, cond, Bool, true, false, List, [], ◌∷◌, ◌++◌, Option, Some, None, refl, ap, subst}
use Rattle.std.proofs.lemmas.Bool.{and_parts, both_ways}
use Rattle.std.specs.List.{list_all}
use Rattle.std.specs.Option.{option_map}
use Rattle.weld_data.specs.declared.kind.Kind.{Kind}
use Rattle.weld_data.specs.declared.kind.Kind.TheVariants.{Bool as BoolKind, I8, I16, I32, I64, U8, U16, U32, U64}
use Rattle.weld_data.specs.Value.{Value, Values}
use Rattle.weld_tree.specs.TypeTree.{TypeTree, TypeTrees, scalar, vec, struct as struct_of, dict as dict_of, build, no_types, more_types, pack}
use Rattle.weld_values.specs.Tokens.{is_digit, after_blanks, after_byte, byte_at, hex_digit, hex_byte, hex_at, escape_at, item_at, integer_at}
use Rattle.weld_values.specs.Grammar.{Part, More, Listed, Enclosed, AtItems, At, Fields, truth_at, number_at, scalar_at}
use Rattle.weld_values.specs.Pieces.{Separated, is_scalar, is_row}
use Rattle.weld_values.specs.Judging.{IsPlain, ArePlain}
use Rattle.weld_values.proofs.Cuts.{after_bare, byte_carried, byte_at_carried, byte_at_end, scalar_carried, listed_then, with_kind, no_integer, no_truth}
use Rattle.weld_values.proofs.Listings.{some_is, none_is}
use Rattle.weld_values.proofs.Shrinks.{map_some}

scalar_plain : (t : TypeTree) → is_scalar t ≡ true → IsPlain t
scalar_plain (scalar k) e = tt
scalar_plain (vec t) e = absurd (both_ways false refl e)
scalar_plain (struct_of ts) e = absurd (both_ways false refl e)
scalar_plain (dict_of k v) e = absurd (both_ways false refl e)
scalar_plain (build b) e = absurd (both_ways false refl e)

-- a list of scalars
pub row_plain : (t : TypeTree) → is_row t ≡ true → IsPlain t
row_plain (scalar k) e = tt
row_plain (vec t) e = scalar_plain t e
row_plain (struct_of ts) e = absurd (both_ways false refl e)
row_plain (dict_of k v) e = absurd (both_ways false refl e)
row_plain (build b) e = absurd (both_ways false refl e)

-- a struct of scalars and of lists of them
pub rows_plain : (ts : List TypeTree) → list_all is_row ts ≡ true → ArePlain (pack ts)
rows_plain [] e = tt
rows_plain (t ∷ ts) e =
    let both = and_parts (is_row t) (list_all is_row ts) e in
    (row_plain t both.0, rows_plain ts both.1)

-- ---- the items of a string

-- what is found at the front of a text is found where more follows it
abbrev pub Stays : ℕ → List ℕ → List ℕ → Option (ℕ × List ℕ) → Option (ℕ × List ℕ) → Type 0
Stays b r w short long = short ≡ Some (b, r) → long ≡ Some (b, r ++ w)

stays_here : (c : ℕ) (rest w : List ℕ) (b : ℕ) (r : List ℕ) → Stays b r w (Some (c, rest)) (Some (c, rest ++ w))
stays_here c rest w b r e = ap (λ (p : ℕ × List ℕ). Some (p.0, p.1 ++ w)) (some_is (c, rest) (b, r) e)

stays_none : (w : List ℕ) (b : ℕ) (r : List ℕ) → Stays b r w None None
stays_none w b r e = absurd (none_is (b, r) e)

stays_either : (w : List ℕ) (b : ℕ) (r : List ℕ) (t : Bool) (x y u v : Option (ℕ × List ℕ)) → Stays b r w x u → Stays b r w y v → Stays b r w (cond t x y) (cond t u v)
stays_either w b r true x y u v f g = f
stays_either w b r false x y u v f g = g

hex_by : (high low : Option ℕ) (rest w : List ℕ) (b : ℕ) (r : List ℕ) → Stays b r w (hex_byte high low rest) (hex_byte high low (rest ++ w))
hex_by (Some high) (Some low) rest w b r = stays_here (high * 16 + low) rest w b r
hex_by (Some high) None rest w b r = stays_none w b r
hex_by None low rest w b r = stays_none w b r

hex_carried : (text w : List ℕ) (b : ℕ) (r : List ℕ) → Stays b r w (hex_at text) (hex_at (text ++ w))
hex_carried [] w b r e = absurd (none_is (b, r) e)
hex_carried (high ∷ []) w b r e = absurd (none_is (b, r) e)
hex_carried (high ∷ low ∷ rest) w b r e = hex_by (hex_digit high) (hex_digit low) rest w b r e

escape_carried : (text w : List ℕ) (b : ℕ) (r : List ℕ) → Stays b r w (escape_at text) (escape_at (text ++ w))
escape_carried [] w b r e = absurd (none_is (b, r) e)
escape_carried (c ∷ rest) w b r e =
    stays_either w b r (c == 34) _ _ _ _ (stays_here 34 rest w b r)
    (stays_either w b r (c == 92) _ _ _ _ (stays_here 92 rest w b r)
    (stays_either w b r (c == 110) _ _ _ _ (stays_here 10 rest w b r)
    (stays_either w b r (c == 116) _ _ _ _ (stays_here 9 rest w b r)
    (stays_either w b r (c == 120) _ _ _ _ (hex_carried rest w b r) (stays_none w b r))))) e

item_carried : (text w : List ℕ) (b : ℕ) (r : List ℕ) → Stays b r w (item_at text) (item_at (text ++ w))
unfolding item_at
item_carried [] w b r e = absurd (none_is (b, r) e)
item_carried (c ∷ rest) w b r e =
    stays_either w b r (c == 92) _ _ _ _ (escape_carried rest w b r)
    (stays_either w b r (c == 34) _ _ _ _ (stays_none w b r)
    (stays_either w b r (nat_le 32 c && nat_le c 126) _ _ _ _ (stays_here c rest w b r) (stays_none w b r))) e

items_carried : (bytes text rest w : List ℕ) → AtItems bytes text rest → AtItems bytes (text ++ w) (rest ++ w)
items_carried [] text rest w h = byte_carried 34 text rest w h
items_carried (b ∷ bytes) text rest w (mid, i, more) = (mid ++ w, item_carried text w b mid i, items_carried bytes mid rest w more)

-- ---- no value is blank

byte_bare : (byte : ℕ) (text rest : List ℕ) → byte_at byte text ≡ Some rest → after_blanks text ≡ [] → ⊥
unfolding byte_at
byte_bare byte text rest h e = none_is rest (sym (ap (after_byte byte) e) ∙ h)

number_bare : (k : Kind) (text : List ℕ) (v : Value) (r : List ℕ) → number_at k text ≡ Some (v, r) → after_blanks text ≡ [] → ⊥
number_bare k text v r h e =
    let m = map_some (with_kind k) (integer_at []) (v, r) (ap (λ (x : List ℕ). option_map (with_kind k) (integer_at x)) (sym e) ∙ h) in
    no_integer m.0.0 m.0.1 m.1

scalar_bare : (k : Kind) (text : List ℕ) (v : Value) (r : List ℕ) → scalar_at k text ≡ Some (v, r) → after_blanks text ≡ [] → ⊥
unfolding scalar_at
scalar_bare BoolKind text v r h e = no_truth v r (ap truth_at (sym e) ∙ h)
scalar_bare I8 text v r h e = number_bare I8 text v r h e
scalar_bare I16 text v r h e = number_bare I16 text v r h e
scalar_bare I32 text v r h e = number_bare I32 text v r h e
scalar_bare I64 text v r h e = number_bare I64 text v r h e
scalar_bare U8 text v r h e = number_bare U8 text v r h e
scalar_bare U16 text v r h e = number_bare U16 text v r h e
scalar_bare U32 text v r h e = number_bare U32 text v r h e
scalar_bare U64 text v r h e = number_bare U64 text v r h e

fields_bare : (ts : TypeTrees) (vs : Values) (text end r : List ℕ) → Fields ts 123 vs text end → byte_at 125 end ≡ Some r → after_blanks text ≡ [] → ⊥
fields_bare no_types vs text end r h c e = byte_bare 125 text r (ap (byte_at 125) h.1 ∙ c) e
fields_bare (more_types t ts) vs text end r (v, ws, start, mid, s, b, h, more) c e = byte_bare 123 text start b e

plain_bare : (t : TypeTree) → IsPlain t → (v : Value) (text r : List ℕ) → At t v text r → after_blanks text ≡ [] → ⊥
plain_bare (scalar k) p v text r h e = scalar_bare k text v r h e
plain_bare (vec t) p v text r (inl (inner, vs, opens, enclosed, same)) e = byte_bare 91 text inner opens e
plain_bare (vec t) p v text r (inr (i, (inner, bytes, opens, items, same))) e = byte_bare 34 text inner opens e
plain_bare (struct_of ts) p v text r (vs, end, h, c, s) e = fields_bare ts vs text end r h c e
plain_bare (dict_of k u) p v text r h e = absurd p
plain_bare (build b) p v text r h e = absurd p

-- what stands at the front of a text stands there too where such text follows it
abbrev pub Carries : Part Value → Type 0
Carries R = (v : Value) (text r : List ℕ) (s : ℕ) (q : List ℕ) → is_digit s ≡ false → R v text r → R v (text ++ s ∷ q) (r ++ s ∷ q)

more_carried : (R : Part Value) → Carries R → (vs : List Value) (text end : List ℕ) (s : ℕ) (q : List ℕ) → is_digit s ≡ false → More R vs text end → More R vs (text ++ s ∷ q) (end ++ s ∷ q)
more_carried R one [] text end s q d h = ap (λ (x : List ℕ). x ++ s ∷ q) h
more_carried R one (v ∷ vs) text end s q d (start, c, (mid, r, more)) = (start ++ s ∷ q, byte_at_carried 44 text start (s ∷ q) c, (mid ++ s ∷ q, one v start mid s q d r, more_carried R one vs mid end s q d more))

pub list_carried : (R : Part Value) → Carries R → (vs : List Value) (text end : List ℕ) (s : ℕ) (q : List ℕ) → is_digit s ≡ false → Listed R vs text end → Listed R vs (text ++ s ∷ q) (end ++ s ∷ q)
list_carried R one [] text end s q d h = elim h [ ]
list_carried R one (v ∷ vs) text end s q d (mid, r, more) = (mid ++ s ∷ q, one v text mid s q d r, more_carried R one vs mid end s q d more)

unended_by : (byte : ℕ) (text w bare : List ℕ) → after_blanks text ≡ bare → (bare ≡ [] → ⊥) → after_byte byte bare ≡ None → after_byte byte (after_blanks (text ++ w)) ≡ None
unended_by byte text w [] e some h = absurd (some refl)
unended_by byte text w (b ∷ bs) e some h = ap (after_byte byte) (after_bare text w b bs e) ∙ no_byte bs w (b == byte) h
  where
    no_byte : (bs w : List ℕ) (t : Bool) → cond t (Some bs) None ≡ None → cond t (Some (bs ++ w)) None ≡ None
    no_byte bs w true h = absurd (none_is bs (sym h))
    no_byte bs w false h = refl

-- no closing bracket comes first where some value does
unended : (byte : ℕ) (text w : List ℕ) → (after_blanks text ≡ [] → ⊥) → byte_at byte text ≡ None → byte_at byte (text ++ w) ≡ None
unfolding byte_at
unended byte text w some h = unended_by byte text w (after_blanks text) refl some h

abbrev pub Bares : Part Value → Type 0
Bares R = (v : Value) (text r : List ℕ) → R v text r → after_blanks text ≡ [] → ⊥

listed_bare : (R : Part Value) → Bares R → (vs : List Value) (text end : List ℕ) → Listed R vs text end → after_blanks text ≡ [] → ⊥
listed_bare R some [] text end h e = elim h [ ]
listed_bare R some (v ∷ vs) text end (mid, r, more) e = some v text mid r e

enclosed_carried : (R : Part Value) → Carries R → Bares R → (vs : List Value) (text r : List ℕ) (s : ℕ) (q : List ℕ) (o : Option (List ℕ)) → is_digit s ≡ false → byte_at 93 text ≡ o → Enclosed R 93 o vs text r → Enclosed R 93 (byte_at 93 (text ++ s ∷ q)) vs (text ++ s ∷ q) (r ++ s ∷ q)
enclosed_carried R one some vs text r s q (Some after) d b (none, e) =
    subst (λ (o : Option (List ℕ)). Enclosed R 93 o vs (text ++ s ∷ q) (r ++ s ∷ q)) (sym (byte_at_carried 93 text after (s ∷ q) b)) (none, ap (λ (x : List ℕ). x ++ s ∷ q) e)
enclosed_carried R one some vs text r s q None d b (end, l, c) =
    subst (λ (o : Option (List ℕ)). Enclosed R 93 o vs (text ++ s ∷ q) (r ++ s ∷ q)) (sym (unended 93 text (s ∷ q) (listed_bare R some vs text end l) b)) (end ++ s ∷ q, list_carried R one vs text end s q d l, byte_at_carried 93 end r (s ∷ q) c)

mutual
  pub plain_carried : (t : TypeTree) → IsPlain t → Carries (At t)
  plain_carried (scalar k) f v text r s q d h = scalar_carried k text s q v r d h
  plain_carried (vec t) f v text r s q d (inl (inner, vs, opens, enclosed, e)) = inl (inner ++ s ∷ q, vs, byte_at_carried 91 text inner (s ∷ q) opens, enclosed_carried (At t) (plain_carried t f) (plain_bare t f) vs inner r s q (byte_at 93 inner) d refl enclosed, e)
  plain_carried (vec t) f v text r s q d (inr (i, (inner, bytes, opens, items, e))) = inr (i, (inner ++ s ∷ q, bytes, byte_at_carried 34 text inner (s ∷ q) opens, items_carried bytes inner r (s ∷ q) items, e))
  plain_carried (struct_of ts) f v text r s q d (vs, end, h, c, e) = (vs, end ++ s ∷ q, fields_carried ts f 123 vs text end s q d h, byte_at_carried 125 end r (s ∷ q) c, e)
  plain_carried (dict_of k u) f v text r s q d h = absurd f
  plain_carried (build b) f v text r s q d h = absurd f

  fields_carried : (ts : TypeTrees) → ArePlain ts → (lead : ℕ) (vs : Values) (text r : List ℕ) (s : ℕ) (q : List ℕ) → is_digit s ≡ false → Fields ts lead vs text r → Fields ts lead vs (text ++ s ∷ q) (r ++ s ∷ q)
  fields_carried no_types f lead vs text r s q d h = (h.0, ap (λ (x : List ℕ). x ++ s ∷ q) h.1)
  fields_carried (more_types t ts) f lead vs text r s q d (v, ws, start, mid, e, b, h, m) =
      (v, ws, start ++ s ∷ q, mid ++ s ∷ q, e, byte_at_carried lead text start (s ∷ q) b, plain_carried t f.0 v start mid s q d h, fields_carried ts f.1 44 ws mid r s q d m)

-- two texts of such values with a comma between them
pub plain_join : (t : TypeTree) → IsPlain t → (p q : List ℕ) (vs ws : List Value) → Separated (At t) vs p → Separated (At t) ws q → Separated (At t) (vs ++ ws) (p ++ 44 ∷ q)
plain_join t f p q vs ws (mid, h, blank) (end, l, last) =
    (end, listed_then (At t) vs ws (p ++ 44 ∷ q) (mid ++ 44 ∷ q) q end (list_carried (At t) (plain_carried t f) vs p mid 44 q refl h) (byte_at_end 44 mid q refl blank) l, last)
