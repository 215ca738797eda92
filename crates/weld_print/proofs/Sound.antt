-- What is asked of the trees that printed text is read as: they are of their rules, no name in them is refused, and no number is out of its range.
use Rattle.std.proofs.Common.{◌≡◌, Bool, true, false, not, ◌&&◌, Option, Some, None, List, [], ◌∷◌, ℕ, refl, sym, ap, subst, ◌∙◌}
use Rattle.std.proofs.lemmas.Bool.{and_parts}
use Rattle.weld_tree.specs.declared.place.Place.{Place}
use Rattle.weld_grammar.specs.declared.terminals.class.Class.{Class}
use Rattle.weld_grammar.specs.declared.terminals.class.Class.TheVariants as classes
use Rattle.weld_grammar.specs.declared.terminals.token.Token.{Token}
use Rattle.weld_grammar.specs.declared.terminals.symbol.Symbol.TheVariants as s
use Rattle.weld_grammar.specs.declared.terminals.reserved.Reserved.TheVariants as reserves
use Rattle.weld_grammar.specs.declared.terminal.Terminal.{Terminal}
use Rattle.weld_grammar.specs.declared.terminal.Terminal.TheVariants.{Sign, Fixed, Word, Name, Number, Field, Chars}
use Rattle.weld_grammar.specs.declared.rule.Rule.{Rule}
use Rattle.weld_grammar.specs.declared.rule.Rule.TheVariants as r
use Rattle.weld_grammar.specs.declared.item.Item.{Item}
use Rattle.weld_grammar.specs.declared.item.Item.TheVariants.{One, Part as OfRule, Optional, Repeated}
use Rattle.weld_grammar.specs.Grammar.{Part, item, all_of, one_of, body, is_of}
use Rattle.weld_grammar.specs.Derivation.{Tree, leaf, node, empty, pair, here, there, yield, Unbegun, IsOf}
use Rattle.weld_spell.specs.Seen.{seen}
use Rattle.weld_tokens.specs.Order.{out_of_range}
use Rattle.weld_spell.specs.ProgramOf.{Bound}
use Rattle.weld_spell.specs.Names.{Refused, bears, reserved, misnamed, misnamed_token, none, by_let, by_for, by_iterate, by_params, Binding, binding_of, name_of, with_params}
use Rattle.weld_spell.specs.Names.{or_else as first_name}
use Rattle.weld_spell.specs.Ranges.{or_else as first_place, refused_number, is_minused, out_of_range_in}

-- ---- tokens

abbrev pub unreserved : Class → Bool
unreserved (classes.Reserved w) = false
unreserved _ = true

abbrev pub named_right : Terminal → Token → List (List ℕ) → Bool
named_right Name x zs = bears zs x.word
named_right Word x zs = unreserved x.class
named_right _ x zs = true

-- the token is the terminal, its name isn't refused, and its number is in its range
abbrev pub fine : Bool → Terminal → Token → List (List ℕ) → Bool
fine negative a x zs = is_of a x.class && (named_right a x zs && not (out_of_range x.class negative x.word))

-- ---- trees

-- the tree is one of the part, each of its tokens fine in its scope
abbrev pub Sound : Bool → Binding → Part → Tree Token → List (List ℕ) → Type 0
Sound negative by_let (all_of items) (pair l (pair w (pair note (pair q (pair v (pair m (pair b end))))))) zs =
    Sound false none (item (One (Fixed reserves.Let))) l zs × (Sound false none (item (One Word)) w zs × (Sound false none (item (Optional r.Note)) note zs × (Sound false none (item (One (Sign s.Equals))) q zs
    × (Sound false none (item (OfRule r.Or)) v zs × (Sound false none (item (One (Sign s.Semicolon))) m zs × (Sound false none (item (OfRule r.Expr)) b (name_of w ∷ zs) × Sound false none (all_of []) end zs))))))
Sound negative by_for (all_of items) (pair w (pair a (pair l (pair c (pair t (pair d (pair i (pair x (pair j (pair y (pair k (pair z (pair m (pair b end)))))))))))))) zs =
    Sound false none (item (One (Fixed reserves.For))) w zs × (Sound false none (item (One (Sign s.LeftParen))) a zs × (Sound false none (item (OfRule r.Rows)) l zs × (Sound false none (item (One (Sign s.Comma))) c zs × (Sound false none (item (OfRule r.Expr)) t zs
    × (Sound false none (item (One (Sign s.Comma))) d zs × (Sound false none (item (One (Sign s.Bar))) i zs × (Sound false none (item (OfRule r.Bind)) x zs × (Sound false none (item (One (Sign s.Comma))) j zs × (Sound false none (item (OfRule r.Bind)) y zs
    × (Sound false none (item (One (Sign s.Comma))) k zs × (Sound false none (item (OfRule r.Bind)) z zs × (Sound false none (item (One (Sign s.Bar))) m zs × Sound false none (all_of (OfRule r.Expr ∷ One (Sign s.RightParen) ∷ [])) (pair b end) (name_of z ∷ name_of y ∷ name_of x ∷ zs)))))))))))))
Sound negative by_iterate (all_of items) (pair w (pair a (pair t (pair c (pair i (pair x (pair m (pair b end)))))))) zs =
    Sound false none (item (One (Fixed reserves.Iterate))) w zs × (Sound false none (item (One (Sign s.LeftParen))) a zs × (Sound false none (item (OfRule r.Expr)) t zs × (Sound false none (item (One (Sign s.Comma))) c zs × (Sound false none (item (One (Sign s.Bar))) i zs
    × (Sound false none (item (OfRule r.Bind)) x zs × (Sound false none (item (One (Sign s.Bar))) m zs × Sound false none (all_of (OfRule r.Expr ∷ One (Sign s.RightParen) ∷ [])) (pair b end) (name_of x ∷ zs)))))))
Sound negative by_params (all_of items) (pair a (pair p (pair more (pair z (pair b end))))) zs =
    Sound false none (item (One (Sign s.Bar))) a zs × (Sound false none (item (OfRule r.Param)) p zs × (Sound false none (item (Repeated r.NextParam)) more zs × (Sound false none (item (One (Sign s.Bar))) z zs
    × (Sound false none (item (OfRule r.Expr)) b (with_params more (name_of p ∷ zs)) × Sound false none (all_of []) end zs))))
Sound negative none (all_of []) empty zs = Unit {0}
Sound negative none (all_of (i ∷ rest)) (pair t u) zs = Sound false none (item i) t zs × Sound false none (all_of rest) u zs
Sound negative by (item (One a)) (leaf x) zs = fine negative a x zs ≡ true
Sound negative by (item (OfRule q)) (node t) zs = Sound (is_minused q) (binding_of q) (body q) t zs
Sound negative by (item (Optional q)) empty zs = Unit {0}
Sound negative by (item (Optional q)) (here t) zs = Sound false none (item (OfRule q)) t zs
Sound negative by (item (Repeated q)) empty zs = Unit {0}
Sound negative by (item (Repeated q)) (pair t u) zs = Sound false none (item (OfRule q)) t zs × Sound false none (item (Repeated q)) u zs
Sound negative by (one_of (i ∷ rest)) (here t) zs = Sound negative none (item i) t zs
Sound negative by (one_of (i ∷ rest)) (there t) zs = Sound negative none (one_of rest) t zs × Unbegun i (yield (seen t))
Sound _ _ _ _ _ = ⊥

-- the names in scope
abbrev pub words : List Bound → List (List ℕ)
words [] = []
words (b ∷ bounds) = b.bytes ∷ words bounds

-- a rule opens to the same behind a minus
pub resets : (q : Rule) (t : Tree Token) (zs : List (List ℕ)) → Sound false none (item (OfRule q)) t zs → Sound true none (item (OfRule q)) t zs
resets q (node t) zs h = h
resets q _ zs h = absurd (assumption)

-- ---- types and what merges have neither names nor numbers

abbrev pub plain : Rule → Bool
plain r.AnyType = true
plain r.VecType = true
plain r.StructType = true
plain r.NextType = true
plain r.DictType = true
plain r.ListType = true
plain r.TotalType = true
plain r.KeyedType = true
plain r.CellsType = true
plain r.GroupsType = true
plain r.ListWord = true
plain r.GroupsWord = true
plain r.MergeOp = true
plain r.Kind = true
plain r.IntKind = true
plain _ = false

abbrev plain_terminal : Terminal → Bool
plain_terminal (Sign a) = true
plain_terminal (Fixed a) = true
plain_terminal _ = false

abbrev plain_item : Item → Bool
plain_item (One a) = plain_terminal a
plain_item (OfRule q) = plain q
plain_item (Optional q) = plain q
plain_item (Repeated q) = plain q

abbrev plain_items : List Item → Bool
plain_items [] = true
plain_items (i ∷ rest) = plain_item i && plain_items rest

abbrev plain_part : Part → Bool
plain_part (item i) = plain_item i
plain_part (all_of is) = plain_items is
plain_part (one_of is) = plain_items is

record Opens (q : Rule) : Type 0 where
  part : plain_part (body q) ≡ true
  binds : binding_of q ≡ none

opens : (q : Rule) → plain q ≡ true → Opens q
opens r.AnyType h = record { part = refl; binds = refl }
opens r.VecType h = record { part = refl; binds = refl }
opens r.StructType h = record { part = refl; binds = refl }
opens r.NextType h = record { part = refl; binds = refl }
opens r.DictType h = record { part = refl; binds = refl }
opens r.ListType h = record { part = refl; binds = refl }
opens r.TotalType h = record { part = refl; binds = refl }
opens r.KeyedType h = record { part = refl; binds = refl }
opens r.CellsType h = record { part = refl; binds = refl }
opens r.GroupsType h = record { part = refl; binds = refl }
opens r.ListWord h = record { part = refl; binds = refl }
opens r.GroupsWord h = record { part = refl; binds = refl }
opens r.MergeOp h = record { part = refl; binds = refl }
opens r.Kind h = record { part = refl; binds = refl }
opens r.IntKind h = record { part = refl; binds = refl }
opens _ h = absurd (let bad : false ≡ true = h in cc)

plain_fine : (negative : Bool) (a : Terminal) (x : Token) (zs : List (List ℕ)) → plain_terminal a ≡ true → is_of a x.class ≡ true → fine negative a x zs ≡ true
plain_fine negative a x zs p h = by a x.class p h
  where
    by : (a : Terminal) (c : Class) → plain_terminal a ≡ true → is_of a c ≡ true → (is_of a c && (named_right a x zs && not (out_of_range c negative x.word))) ≡ true
    by (Sign b) (classes.Symbol d) p h = ap (λ (t : Bool). t && true) h
    by (Fixed b) (classes.Reserved d) p h = ap (λ (t : Bool). t && true) h
    by _ _ p h = absurd (cc)

rule_sound : (q : Rule) (t : Tree Token) (zs : List (List ℕ)) → binding_of q ≡ none → Sound (is_minused q) none (body q) t zs → Sound (is_minused q) (binding_of q) (body q) t zs
rule_sound q t zs e h = subst (λ (by : Binding). Sound (is_minused q) by (body q) t zs) (sym e) h

-- a tree of a part without names and numbers is sound in every scope
plain_sound : (negative : Bool) (p : Part) (t : Tree Token) (zs : List (List ℕ)) → plain_part p ≡ true → IsOf p (seen t) → Sound negative none p t zs
plain_sound negative (item (One a)) (leaf x) zs p h = plain_fine negative a x zs p h
plain_sound negative (item (OfRule q)) (node t) zs p h = let o = opens q p in rule_sound q t zs o.binds (plain_sound (is_minused q) (body q) t zs o.part h)
plain_sound negative (item (Optional q)) empty zs p h = tt
plain_sound negative (item (Optional q)) (here t) zs p h = plain_sound false (item (OfRule q)) t zs p h
plain_sound negative (item (Repeated q)) empty zs p h = tt
plain_sound negative (item (Repeated q)) (pair t u) zs p h = (plain_sound false (item (OfRule q)) t zs p h.0, plain_sound false (item (Repeated q)) u zs p h.1)
plain_sound negative (all_of []) empty zs p h = tt
plain_sound negative (all_of (i ∷ rest)) (pair t u) zs p h = let k = and_parts (plain_item i) (plain_items rest) p in (plain_sound false (item i) t zs k.0 h.0, plain_sound false (all_of rest) u zs k.1 h.1)
plain_sound negative (one_of (i ∷ rest)) (here t) zs p h = plain_sound negative (item i) t zs (and_parts (plain_item i) (plain_items rest) p).0 h
plain_sound negative (one_of (i ∷ rest)) (there t) zs p h = (plain_sound negative (one_of rest) t zs (and_parts (plain_item i) (plain_items rest) p).1 h.0, h.1)
plain_sound negative _ _ zs p h = absurd (assumption)

pub type_sound : (t : Tree Token) (zs : List (List ℕ)) → IsOf (item (OfRule r.AnyType)) (seen t) → Sound false none (item (OfRule r.AnyType)) t zs
type_sound t zs h = plain_sound false (item (OfRule r.AnyType)) t zs refl h

pub op_sound : (t : Tree Token) (zs : List (List ℕ)) → IsOf (item (OfRule r.MergeOp)) (seen t) → Sound false none (item (OfRule r.MergeOp)) t zs
op_sound t zs h = plain_sound false (item (OfRule r.MergeOp)) t zs refl h
