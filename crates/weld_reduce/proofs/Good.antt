-- Trees of a part whose numbers are all in their ranges, and whose fields are fields.
use Rattle.std.proofs.Common.{◌≡◌, refl, ap, ◌∙◌, ◌++◌, ℕ, IsTrue, Bool, true, false, cond, Option, Some, None, List, [], ◌∷◌}
use Rattle.weld_tree.specs.declared.place.Place.{Place}
use Rattle.weld_grammar.specs.declared.terminals.class.Class.{Class}
use Rattle.weld_grammar.specs.declared.terminals.class.Class.TheVariants as classes
use Rattle.weld_grammar.specs.declared.terminals.token.Token.{Token}
use Rattle.weld_grammar.specs.declared.terminal.Terminal.{Terminal}
use Rattle.weld_grammar.specs.declared.terminal.Terminal.TheVariants.{Sign, Fixed, Field}
use Rattle.weld_grammar.specs.declared.item.Item.TheVariants.{One, Part as OfRule, Optional, Repeated}
use Rattle.weld_grammar.specs.Grammar.{Part, item, all_of, one_of, body, is_of}
use Rattle.weld_grammar.specs.Derivation.{Tree, leaf, node, empty, pair, here, there, yield, IsOf}
use Rattle.weld_tokens.specs.Order.{out_of_range}
use Rattle.weld_tokens.specs.Words.{class_of}
use Rattle.weld_spell.specs.Seen.{seen}
use Rattle.weld_spell.specs.Ranges.{or_else, is_minused, out_of_range_in}
use Rattle.weld_reduce.specs.Forms.{is_field}
use Rattle.weld_reduce.specs.Programs.{AreOfTheirClasses}
use Rattle.weld_reduce.proofs.Nameless.{nameless_terminal, nameless_item, nameless_items, nameless_part, table, both_left, both_right}

-- where a field is wanted, the token's bytes are one
abbrev pub is_well_read : Terminal → Token → Bool
is_well_read Field t = is_field (class_of t.word)
is_well_read _ t = true

-- the token is the terminal's, no number out of its range, and a field where one is wanted
pub record Fit (negative : Bool) (a : Terminal) (t : Token) : Type 0 where
  pub is : IsTrue (is_of a t.class)
  pub ranged : out_of_range t.class negative t.word ≡ false
  pub read : is_well_read a t ≡ true

-- a tree of the part, all of whose tokens fit, where `negative` says that the part is what stands behind a minus
abbrev pub Good : Bool → Part → Tree Token → Type 0
Good negative (item (One a)) (leaf t) = Fit negative a t
Good negative (item (OfRule r)) (node t) = Good (is_minused r) (body r) t
Good negative (item (Optional r)) empty = Unit {0}
Good negative (item (Optional r)) (here t) = Good false (item (OfRule r)) t
Good negative (item (Repeated r)) empty = Unit {0}
Good negative (item (Repeated r)) (pair t u) = Good false (item (OfRule r)) t × Good false (item (Repeated r)) u
Good negative (all_of []) empty = Unit {0}
Good negative (all_of (i ∷ rest)) (pair t u) = Good false (item i) t × Good false (all_of rest) u
Good negative (one_of (i ∷ rest)) (here t) = Good negative (item i) t
Good negative (one_of (i ∷ rest)) (there t) = Good negative (one_of rest) t
Good _ _ _ = ⊥

no_first : (a b : Option Place) → or_else a b ≡ None → a ≡ None
no_first None b e = refl
no_first (Some x) b e = e

no_second : (a b : Option Place) → or_else a b ≡ None → b ≡ None
no_second None b e = e
no_second (Some x) b e = absurd (cc)

not_refused : (b : Bool) (place : Place) → cond b (Some place) None ≡ None → b ≡ false
not_refused true place e = absurd (cc)
not_refused false place e = refl

each : (ts us : List Token) → AreOfTheirClasses (ts ++ us) → AreOfTheirClasses ts × AreOfTheirClasses us
each [] us k = (tt, k)
each (t ∷ ts) us k = let l = each ts us k.1 in ((k.0, l.0), l.1)

field_class : (c : Class) → IsTrue (is_of Field c) → is_field (Some c) ≡ true
field_class classes.Field h = refl
field_class _ h = absurd (cc)

well_read : (a : Terminal) (t : Token) → IsTrue (is_of a t.class) → class_of t.word ≡ Some t.class → is_well_read a t ≡ true
well_read Field t h k = ap is_field k ∙ field_class t.class h
well_read _ t h k = refl

pub good : (negative : Bool) (p : Part) (t : Tree Token) → IsOf p (seen t) → out_of_range_in negative p t ≡ None → AreOfTheirClasses (yield t) → Good negative p t
good negative (item (One a)) (leaf t) h e k = record { is = h; ranged = not_refused (out_of_range t.class negative t.word) t.place e; read = well_read a t h k.0 }
good negative (item (OfRule r)) (node t) h e k = good (is_minused r) (body r) t h e k
good negative (item (Optional r)) empty h e k = tt
good negative (item (Optional r)) (here t) h e k = good false (item (OfRule r)) t h e k
good negative (item (Repeated r)) empty h e k = tt
good negative (item (Repeated r)) (pair t u) h e k = let l = each (yield t) (yield u) k in (good false (item (OfRule r)) t h.0 (no_first _ _ e) l.0, good false (item (Repeated r)) u h.1 (no_second _ _ e) l.1)
good negative (all_of []) empty h e k = tt
good negative (all_of (i ∷ rest)) (pair t u) h e k = let l = each (yield t) (yield u) k in (good false (item i) t h.0 (no_first _ _ e) l.0, good false (all_of rest) u h.1 (no_second _ _ e) l.1)
good negative (one_of (i ∷ rest)) (here t) h e k = good negative (item i) t h e k
good negative (one_of (i ∷ rest)) (there t) h e k = good negative (one_of rest) t h.0 e k
good _ _ _ h e k = absurd h

-- ---- types have no numbers and no fields

in_sign : (negative : Bool) (a : Terminal) (c : Class) (word : List ℕ) → nameless_terminal a ≡ true → IsTrue (is_of a c) → out_of_range c negative word ≡ false
in_sign negative (Sign a) classes.Int word e h = absurd (cc)
in_sign negative (Sign a) classes.Long word e h = absurd (cc)
in_sign negative (Sign a) _ word e h = refl
in_sign negative (Fixed a) classes.Int word e h = absurd (cc)
in_sign negative (Fixed a) classes.Long word e h = absurd (cc)
in_sign negative (Fixed a) _ word e h = refl
in_sign negative _ c word e h = absurd (cc)

no_field : (a : Terminal) (t : Token) → nameless_terminal a ≡ true → is_well_read a t ≡ true
no_field Field t e = absurd (cc)
no_field _ t e = refl

pub numberless : (negative : Bool) (p : Part) (t : Tree Token) → IsOf p (seen t) → nameless_part p ≡ true → Good negative p t
numberless negative (item (One a)) (leaf t) h e = record { is = h; ranged = in_sign negative a t.class t.word e h; read = no_field a t e }
numberless negative (item (OfRule r)) (node t) h e = numberless (is_minused r) (body r) t h (table r e)
numberless negative (item (Optional r)) empty h e = tt
numberless negative (item (Optional r)) (here t) h e = numberless false (item (OfRule r)) t h e
numberless negative (item (Repeated r)) empty h e = tt
numberless negative (item (Repeated r)) (pair t u) h e = (numberless false (item (OfRule r)) t h.0 e, numberless false (item (Repeated r)) u h.1 e)
numberless negative (all_of []) empty h e = tt
numberless negative (all_of (i ∷ rest)) (pair t u) h e = (numberless false (item i) t h.0 (both_left (nameless_item i) (nameless_items rest) e), numberless false (all_of rest) u h.1 (both_right (nameless_item i) (nameless_items rest) e))
numberless negative (one_of (i ∷ rest)) (here t) h e = numberless negative (item i) t h (both_left (nameless_item i) (nameless_items rest) e)
numberless negative (one_of (i ∷ rest)) (there t) h e = numberless negative (one_of rest) t h.0 (both_right (nameless_item i) (nameless_items rest) e)
numberless _ _ _ h e = absurd h
