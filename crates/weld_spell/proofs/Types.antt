-- The type that is too large, by the tokens and by their tree: a written one, or one in the brackets of a builder's type.
use Rattle.std.proofs.Common.{◌≡◌, refl, Bool, true, false, not, cond, Option, Some, None, List, [], ◌∷◌, ◌++◌, ap, sym, subst, ◌∙◌, append_assoc}
use Rattle.std.proofs.lemmas.Bool.{false≢true}
use Rattle.weld_tree.specs.declared.place.Place.{Place}
use Rattle.weld_grammar.specs.declared.terminals.symbol.Symbol.{Symbol}
use Rattle.weld_grammar.specs.declared.terminals.symbol.Symbol.TheVariants as s
use Rattle.weld_grammar.specs.declared.terminals.reserved.Reserved.{Reserved}
use Rattle.weld_grammar.specs.declared.terminals.reserved.Reserved.TheVariants as w
use Rattle.weld_grammar.specs.declared.terminals.class.Class.{Class}
use Rattle.weld_grammar.specs.declared.terminals.class.Class.TheVariants as classes
use Rattle.weld_grammar.specs.declared.terminals.token.Token.{Token}
use Rattle.weld_grammar.specs.declared.terminal.Terminal.{Terminal}
use Rattle.weld_grammar.specs.declared.terminal.Terminal.TheVariants.{Sign, Fixed, Word, Name, Number, Field, Chars}
use Rattle.weld_grammar.specs.declared.rule.Rule.{Rule}
use Rattle.weld_grammar.specs.declared.rule.Rule.TheVariants as r
use Rattle.weld_grammar.specs.declared.item.Item.{Item}
use Rattle.weld_grammar.specs.declared.item.Item.TheVariants.{One, Part as OfRule, Optional}
use Rattle.weld_grammar.specs.Grammar.{item, all_of, body, is_of}
use Rattle.weld_grammar.specs.Derivation.{Tree, leaf, node, pair, here, there, yield, IsOf}
use Rattle.weld_spell.specs.Seen.{seen}
use Rattle.weld_spell.specs.TypeOf.{type_of}
use Rattle.weld_tokens.specs.TokenLimits.{is_opening}
use Rattle.weld_tokens.specs.Lists.{is_colon, is_bracket, builds_one, builds_two, behind_commas, first_place, first_of, type_too_large, in_brackets, type_behind, first_type_too_large}
use Rattle.weld_spell.specs.Measures.{place_in, fits as type_fits, if_large}
use Rattle.weld_spell.proofs.Terminals.{of_sign, of_fixed, rule_begun}
use Rattle.weld_spell.proofs.Passing.{passed, at_comma, at_none}
use Rattle.weld_spell.proofs.Scans.{Search, by_tokens, by_tree, Unopened, Sane, Flow, Specials, headed, search-found, fits, ends_word}
use Rattle.weld_spell.proofs.Sizes.{too-large}

-- ---- the first of two places

first-left : (a : Option Place) → first_of None a ≡ a
first-left a = refl

first-right : (a : Option Place) → first_of a None ≡ a
first-right None = refl
first-right (Some p) = refl

first_assoc : (a b c : Option Place) → first_of a (first_of b c) ≡ first_of (first_of a b) c
first_assoc None b c = refl
first_assoc (Some p) b c = refl

-- ---- what is looked for

-- what stands at the first of some tokens
abbrev pub standing : List Token → Option Place
standing [] = None
standing (t ∷ ts) = type_behind t.class ts

-- what a rule adds: a written type, and also the types in the brackets of a builder's type
abbrev pub own : Rule → Tree Token → Option Place
own r.Note (pair c (pair t rest)) = if_large t
own r.Param (pair w (pair c (pair t rest))) = if_large t
own r.ListBuild (pair w (pair b (pair t rest))) = if_large t
own r.TotalBuild (pair w (pair b (pair t rest))) = if_large t
own r.KeyedBuild (pair w (pair b (pair t (pair c (pair u rest))))) = first_of (if_large t) (if_large u)
own r.CellsBuild (pair w (pair b (pair t rest))) = if_large t
own r.GroupsBuild (pair w (pair b (pair t (pair c (pair u rest))))) = first_of (if_large t) (if_large u)
own r.ListType (pair w (pair b (pair t rest))) = if_large t
own r.TotalType (pair w (pair b (pair t rest))) = if_large t
own r.KeyedType (pair w (pair b (pair t (pair c (pair u rest))))) = first_of (if_large t) (if_large u)
own r.CellsType (pair w (pair b (pair t rest))) = if_large t
own r.GroupsType (pair w (pair b (pair t (pair c (pair u rest))))) = first_of (if_large t) (if_large u)
own _ t = None

abbrev pub adds : Rule → Bool
adds r.Note = true
adds r.Param = true
adds r.ListBuild = true
adds r.TotalBuild = true
adds r.KeyedBuild = true
adds r.CellsBuild = true
adds r.GroupsBuild = true
adds r.ListType = true
adds r.TotalType = true
adds r.KeyedType = true
adds r.CellsType = true
adds r.GroupsType = true
adds _ = false

-- the words of builders, which are no part but of these
abbrev pub is_builder_word : Rule → Bool
is_builder_word r.ListWord = true
is_builder_word r.GroupsWord = true
is_builder_word _ = false

abbrev pub is_plain_word : Reserved → Bool
is_plain_word w.Vecbuilder = false
is_plain_word w.Appender = false
is_plain_word w.Merger = false
is_plain_word w.Dictmerger = false
is_plain_word w.Vecmerger = false
is_plain_word w.Groupbuilder = false
is_plain_word w.Groupmerger = false
is_plain_word _ = true

abbrev pub is_plain : Terminal → Bool
is_plain (Sign s.Colon) = false
is_plain (Fixed a) = is_plain_word a
is_plain Word = false
is_plain _ = true

abbrev pub types : Search
types = record { join = first_of; at = standing; own = own; plain = is_plain; special = adds; barred = is_builder_word }

-- a class at which no written type stands
record Silent (c : Class) : Type 0 where
  pub colon : is_colon c ≡ false
  pub one : builds_one c ≡ false
  pub two : builds_two c ≡ false

none_at : (c : Class) (ts : List Token) → Silent c → type_behind c ts ≡ None
none_at c ts h =
    ap (λ b. cond b (type_too_large ts) (cond (builds_one c) (in_brackets false ts) (cond (builds_two c) (in_brackets true ts) None))) h.colon
    ∙ ap (λ b. cond b (in_brackets false ts) (cond (builds_two c) (in_brackets true ts) None)) h.one
    ∙ ap (λ b. cond b (in_brackets true ts) None) h.two

silent_symbol : (a : Symbol) → is_plain (Sign a) ≡ true → Silent (classes.Symbol a)
silent_symbol s.Colon e = absurd (false≢true e)
silent_symbol _ e = record { colon = refl; one = refl; two = refl }

silent_word : (a : Reserved) → is_plain_word a ≡ true → Silent (classes.Reserved a)
silent_word w.Vecbuilder e = absurd (false≢true e)
silent_word w.Appender e = absurd (false≢true e)
silent_word w.Merger e = absurd (false≢true e)
silent_word w.Dictmerger e = absurd (false≢true e)
silent_word w.Vecmerger e = absurd (false≢true e)
silent_word w.Groupbuilder e = absurd (false≢true e)
silent_word w.Groupmerger e = absurd (false≢true e)
silent_word _ e = record { colon = refl; one = refl; two = refl }

silent : (a : Terminal) (c : Class) → is_plain a ≡ true → is_of a c ≡ true → Silent c
silent (Sign a) c e h = let P : Class → Type 0 = Silent in subst P (sym (of_sign a c h)) (silent_symbol a e)
silent (Fixed a) c e h = let P : Class → Type 0 = Silent in subst P (sym (of_fixed a c h)) (silent_word a e)
silent Word c e h = absurd (false≢true e)
silent Name classes.Name e h = record { colon = refl; one = refl; two = refl }
silent Number classes.Int e h = record { colon = refl; one = refl; two = refl }
silent Number classes.Long e h = record { colon = refl; one = refl; two = refl }
silent Field classes.Field e h = record { colon = refl; one = refl; two = refl }
silent Chars classes.Chars e h = record { colon = refl; one = refl; two = refl }
silent _ _ e h = absurd (false≢true h)

no_colon : (c : Class) → is_of Word c ≡ true → is_colon c ≡ false
no_colon (classes.Reserved a) h = refl
no_colon classes.Name h = refl
no_colon _ h = absurd (false≢true h)

no_bracket : (c : Class) → is_opening c ≡ false → is_bracket c ≡ false
no_bracket (classes.Symbol s.LeftBracket) e = absurd (false≢true (sym e))
no_bracket (classes.Symbol _) e = refl
no_bracket _ e = refl

none_in : (two : Bool) (ts : List Token) → Unopened ts → in_brackets two ts ≡ None
none_in two [] u = refl
none_in two (t ∷ ts) u = ap (λ b. cond b (first_of (type_too_large ts) (cond two (type_too_large (behind_commas false 1 0 ts)) None)) None) (no_bracket t.class u)

either_none : (b : Bool) (o p : Option Place) → o ≡ None → p ≡ None → cond b o p ≡ None
either_none true o p e f = e
either_none false o p e f = f

-- nothing stands at a word that is named: no bracket comes behind it
none_word : (x : Token) (ts : List Token) → is_of Word x.class ≡ true → Unopened ts → standing (x ∷ ts) ≡ None
none_word x ts h u =
    ap (λ b. cond b (type_too_large ts) (cond (builds_one x.class) (in_brackets false ts) (cond (builds_two x.class) (in_brackets true ts) None))) (no_colon x.class h)
    ∙ either_none (builds_one x.class) (in_brackets false ts) (cond (builds_two x.class) (in_brackets true ts) None) (none_in false ts u)
    (either_none (builds_two x.class) (in_brackets true ts) None (none_in true ts u) refl)

own-none : (q : Rule) (t : Tree Token) → adds q ≡ false → own q t ≡ None
own-none r.Note t e = absurd (false≢true (sym e))
own-none r.Param t e = absurd (false≢true (sym e))
own-none r.ListBuild t e = absurd (false≢true (sym e))
own-none r.TotalBuild t e = absurd (false≢true (sym e))
own-none r.KeyedBuild t e = absurd (false≢true (sym e))
own-none r.CellsBuild t e = absurd (false≢true (sym e))
own-none r.GroupsBuild t e = absurd (false≢true (sym e))
own-none r.ListType t e = absurd (false≢true (sym e))
own-none r.TotalType t e = absurd (false≢true (sym e))
own-none r.KeyedType t e = absurd (false≢true (sym e))
own-none r.CellsType t e = absurd (false≢true (sym e))
own-none r.GroupsType t e = absurd (false≢true (sym e))
own-none _ t e = refl

table : (q : Rule) → adds q ≡ false → is_builder_word q ≡ false → fits types (ends_word q) (body q) ≡ true
table r.Note e f = absurd (false≢true (sym e))
table r.Param e f = absurd (false≢true (sym e))
table r.ListBuild e f = absurd (false≢true (sym e))
table r.TotalBuild e f = absurd (false≢true (sym e))
table r.KeyedBuild e f = absurd (false≢true (sym e))
table r.CellsBuild e f = absurd (false≢true (sym e))
table r.GroupsBuild e f = absurd (false≢true (sym e))
table r.ListType e f = absurd (false≢true (sym e))
table r.TotalType e f = absurd (false≢true (sym e))
table r.KeyedType e f = absurd (false≢true (sym e))
table r.CellsType e f = absurd (false≢true (sym e))
table r.GroupsType e f = absurd (false≢true (sym e))
table r.ListWord e f = absurd (false≢true (sym f))
table r.GroupsWord e f = absurd (false≢true (sym f))
table _ e f = refl

sane : Sane types
sane = record {
  assoc = first_assoc;
  left = first-left;
  right = first-right;
  at_plain = λ a x ts e h. none_at x.class ts (silent a x.class e h);
  at_word = none_word;
  own_none = own-none;
  table = table;
}

-- ---- written types

cond-not : (b : Bool) (x : Option Place) → cond (not b) x None ≡ cond b None x
cond-not true x = refl
cond-not false x = refl

-- a type by its tokens
large : (t : Tree Token) (ts : List Token) → IsOf (item (OfRule r.AnyType)) (seen t) → type_too_large (yield t ++ ts) ≡ if_large t
large t ts h =
    let b = rule_begun r.AnyType t h in
    ap (λ z. cond z (first_place (yield t ++ ts)) None) (too-large t ts h)
    ∙ cond-not (type_fits (type_of t)) (first_place (yield t ++ ts))
    ∙ ap (λ z. cond (type_fits (type_of t)) None z) (ap (λ z. first_place (z ++ ts)) b.is ∙ sym (ap place_in b.is))

large_first : (t u : Tree Token) (rest : List Token) → IsOf (item (OfRule r.AnyType)) (seen t) → type_too_large ((yield t ++ yield u) ++ rest) ≡ if_large t
large_first t u rest h = ap type_too_large (append_assoc (yield t) (yield u) rest) ∙ large t (yield u ++ rest) h

at_colon : (c : Token) (t u : Tree Token) (rest : List Token) → is_of (Sign s.Colon) c.class ≡ true → IsOf (item (OfRule r.AnyType)) (seen t) → standing (c ∷ ((yield t ++ yield u) ++ rest)) ≡ if_large t
at_colon c t u rest e h = ap (λ k. type_behind k ((yield t ++ yield u) ++ rest)) (of_sign s.Colon c.class e) ∙ large_first t u rest h

-- one type in the brackets of a builder
one_built : (x y : Token) (t u : Tree Token) (rest : List Token) → is_colon x.class ≡ false → builds_one x.class ≡ true → is_of (Sign s.LeftBracket) y.class ≡ true → IsOf (item (OfRule r.AnyType)) (seen t)
    → standing (x ∷ y ∷ ((yield t ++ yield u) ++ rest)) ≡ if_large t
one_built x y t u rest e f g h =
    let ts = (yield t ++ yield u) ++ rest in
    ap (λ b. cond b (type_too_large (y ∷ ts)) (cond (builds_one x.class) (in_brackets false (y ∷ ts)) (cond (builds_two x.class) (in_brackets true (y ∷ ts)) None))) e
    ∙ ap (λ b. cond b (in_brackets false (y ∷ ts)) (cond (builds_two x.class) (in_brackets true (y ∷ ts)) None)) f
    ∙ ap (λ b. cond b (first_of (type_too_large ts) None) None) (ap is_bracket (of_sign s.LeftBracket y.class g))
    ∙ first-right (type_too_large ts)
    ∙ large_first t u rest h

-- two of them
two_built : (x y c : Token) (t u v : Tree Token) (rest : List Token) → is_colon x.class ≡ false → builds_one x.class ≡ false → builds_two x.class ≡ true → is_of (Sign s.LeftBracket) y.class ≡ true → IsOf (item (OfRule r.AnyType)) (seen t) → is_of (Sign s.Comma) c.class ≡ true → IsOf (item (OfRule r.AnyType)) (seen u)
    → standing (x ∷ y ∷ ((yield t ++ (c ∷ (yield u ++ yield v))) ++ rest)) ≡ first_of (if_large t) (if_large u)
two_built x y c t u v rest e f g i h j k =
    let ts = (yield t ++ (c ∷ (yield u ++ yield v))) ++ rest in
    let behind : behind_commas false 1 0 ts ≡ (yield u ++ yield v) ++ rest =
    ap (behind_commas false 1 0) (append_assoc (yield t) (c ∷ (yield u ++ yield v)) rest)
    ∙ passed r.AnyType t false 1 (c ∷ ((yield u ++ yield v) ++ rest)) refl h refl
    ∙ at_comma false 0 c ((yield u ++ yield v) ++ rest) (of_sign s.Comma c.class j)
    ∙ at_none false ((yield u ++ yield v) ++ rest) in
    ap (λ b. cond b (type_too_large (y ∷ ts)) (cond (builds_one x.class) (in_brackets false (y ∷ ts)) (cond (builds_two x.class) (in_brackets true (y ∷ ts)) None))) e
    ∙ ap (λ b. cond b (in_brackets false (y ∷ ts)) (cond (builds_two x.class) (in_brackets true (y ∷ ts)) None)) f
    ∙ ap (λ b. cond b (in_brackets true (y ∷ ts)) None) g
    ∙ ap (λ b. cond b (first_of (type_too_large ts) (type_too_large (behind_commas false 1 0 ts))) None) (ap is_bracket (of_sign s.LeftBracket y.class i))
    ∙ ap (λ z. first_of z (type_too_large (behind_commas false 1 0 ts))) (large_first t (pair (leaf c) (pair u v)) rest h)
    ∙ ap (λ z. first_of (if_large t) (type_too_large z)) behind
    ∙ ap (first_of (if_large t)) (large_first u v rest k)

-- what the word of a builder shows
record Builds (c : Class) (one two : Bool) : Type 0 where
  pub colon : is_colon c ≡ false
  pub ones : builds_one c ≡ one
  pub twos : builds_two c ≡ two

builds : (a : Reserved) (x : Token) (one two : Bool) → is_of (Fixed a) x.class ≡ true → Builds (classes.Reserved a) one two → Builds x.class one two
builds a x one two h b = let P : Class → Type 0 = λ c. Builds c one two in subst P (sym (of_fixed a x.class h)) b

special_one : (q : Rule) (wt : Tree Token) (x y : Token) (t u : Tree Token) (row : List Item) → yield wt ≡ x ∷ [] → by_tree types (item (OfRule q)) (node (pair wt (pair (leaf y) (pair t u)))) ≡ first_of (if_large t) (by_tree types (all_of row) (pair (leaf y) (pair t u)))
    → Builds x.class true false → is_of (Sign s.LeftBracket) y.class ≡ true → IsOf (item (OfRule r.AnyType)) (seen t) → Flow types false (all_of row) (pair (leaf y) (pair t u)) → Flow types false (item (OfRule q)) (node (pair wt (pair (leaf y) (pair t u))))
special_one q wt x y t u row e f b g h fl =
    headed types sane (item (OfRule q)) wt (pair (leaf y) (pair t u)) x row (if_large t) e f (λ rest. one_built x y t u rest b.colon b.ones g h) fl

special_two : (q : Rule) (wt : Tree Token) (x y c : Token) (t u v : Tree Token) (row : List Item) → yield wt ≡ x ∷ [] → by_tree types (item (OfRule q)) (node (pair wt (pair (leaf y) (pair t (pair (leaf c) (pair u v)))))) ≡ first_of (first_of (if_large t) (if_large u)) (by_tree types (all_of row) (pair (leaf y) (pair t (pair (leaf c) (pair u v)))))
    → Builds x.class false true → is_of (Sign s.LeftBracket) y.class ≡ true → IsOf (item (OfRule r.AnyType)) (seen t) → is_of (Sign s.Comma) c.class ≡ true → IsOf (item (OfRule r.AnyType)) (seen u) → Flow types false (all_of row) (pair (leaf y) (pair t (pair (leaf c) (pair u v))))
    → Flow types false (item (OfRule q)) (node (pair wt (pair (leaf y) (pair t (pair (leaf c) (pair u v))))))
special_two q wt x y c t u v row e f b g h j k fl =
    headed types sane (item (OfRule q)) wt (pair (leaf y) (pair t (pair (leaf c) (pair u v)))) x row (first_of (if_large t) (if_large u)) e f (λ rest. two_built x y c t u v rest b.colon b.ones b.twos g h j k) fl

special_param : (x c : Token) (t u : Tree Token) → is_of Word x.class ≡ true → is_of (Sign s.Colon) c.class ≡ true → IsOf (item (OfRule r.AnyType)) (seen t) → Flow types false (all_of (OfRule r.AnyType ∷ [])) (pair t u) → Flow types false (item (OfRule r.Param)) (node (pair (leaf x) (pair (leaf c) (pair t u))))
special_param x c t u e f h fl rest g =
    let ts = (yield t ++ yield u) ++ rest in
    ap (λ z. first_of z (first_of (standing (c ∷ ts)) (by_tokens types ts))) (none_word x (c ∷ ts) e (ap is_opening (of_sign s.Colon c.class f)))
    ∙ ap (λ z. first_of z (by_tokens types ts)) (at_colon c t u rest f h)
    ∙ ap (first_of (if_large t)) (fl rest (λ z. absurd (false≢true z)))
    ∙ first_assoc (if_large t) (by_tree types (all_of (OfRule r.AnyType ∷ [])) (pair t u)) (by_tokens types rest)

abbrev row_one : List Item
row_one = One (Sign s.LeftBracket) ∷ OfRule r.AnyType ∷ One (Sign s.RightBracket) ∷ []

abbrev row_two : List Item
row_two = One (Sign s.LeftBracket) ∷ OfRule r.AnyType ∷ One (Sign s.Comma) ∷ OfRule r.AnyType ∷ One (Sign s.RightBracket) ∷ []

abbrev row_op : List Item → List Item
row_op rest = One (Sign s.LeftBracket) ∷ OfRule r.AnyType ∷ One (Sign s.Comma) ∷ OfRule r.MergeOp ∷ One (Sign s.RightBracket) ∷ rest

abbrev row_keyed : List Item
row_keyed = One (Sign s.LeftBracket) ∷ OfRule r.AnyType ∷ One (Sign s.Comma) ∷ OfRule r.AnyType ∷ One (Sign s.Comma) ∷ OfRule r.MergeOp ∷ One (Sign s.RightBracket) ∷ []

special : Specials types
special r.Note (pair (leaf c) (pair t u)) e h first second =
    headed types sane (item (OfRule r.Note)) (leaf c) (pair t u) c (OfRule r.AnyType ∷ []) (if_large t) refl refl (λ rest. at_colon c t u rest h.0 h.1.0) (first (OfRule r.AnyType ∷ []) h.1 refl)
special r.Param (pair (leaf x) (pair (leaf c) (pair t u))) e h first second = special_param x c t u h.0 h.1.0 h.1.1.0 (second (OfRule r.AnyType ∷ []) h.1.1 refl)
special r.ListBuild (pair (node (here (leaf x))) (pair (leaf y) (pair t u))) e h first second =
    special_one r.ListBuild (node (here (leaf x))) x y t u row_one refl refl (builds w.Vecbuilder x true false h.0 (record { colon = refl; ones = refl; twos = refl })) h.1.0 h.1.1.0 (first row_one h.1 refl)
special r.ListBuild (pair (node (there (here (leaf x)))) (pair (leaf y) (pair t u))) e h first second =
    special_one r.ListBuild (node (there (here (leaf x)))) x y t u row_one refl refl (builds w.Appender x true false h.0.0 (record { colon = refl; ones = refl; twos = refl })) h.1.0 h.1.1.0 (first row_one h.1 refl)
special r.TotalBuild (pair (leaf x) (pair (leaf y) (pair t u))) e h first second =
    special_one r.TotalBuild (leaf x) x y t u (row_op (Optional r.Start ∷ [])) refl refl (builds w.Merger x true false h.0 (record { colon = refl; ones = refl; twos = refl })) h.1.0 h.1.1.0 (first (row_op (Optional r.Start ∷ [])) h.1 refl)
special r.KeyedBuild (pair (leaf x) (pair (leaf y) (pair t (pair (leaf c) (pair u v))))) e h first second =
    special_two r.KeyedBuild (leaf x) x y c t u v row_keyed refl refl (builds w.Dictmerger x false true h.0 (record { colon = refl; ones = refl; twos = refl })) h.1.0 h.1.1.0 h.1.1.1.0 h.1.1.1.1.0 (first row_keyed h.1 refl)
special r.CellsBuild (pair (leaf x) (pair (leaf y) (pair t u))) e h first second =
    special_one r.CellsBuild (leaf x) x y t u (row_op (OfRule r.Start ∷ [])) refl refl (builds w.Vecmerger x true false h.0 (record { colon = refl; ones = refl; twos = refl })) h.1.0 h.1.1.0 (first (row_op (OfRule r.Start ∷ [])) h.1 refl)
special r.GroupsBuild (pair (node (here (leaf x))) (pair (leaf y) (pair t (pair (leaf c) (pair u v))))) e h first second =
    special_two r.GroupsBuild (node (here (leaf x))) x y c t u v row_two refl refl (builds w.Groupbuilder x false true h.0 (record { colon = refl; ones = refl; twos = refl })) h.1.0 h.1.1.0 h.1.1.1.0 h.1.1.1.1.0 (first row_two h.1 refl)
special r.GroupsBuild (pair (node (there (here (leaf x)))) (pair (leaf y) (pair t (pair (leaf c) (pair u v))))) e h first second =
    special_two r.GroupsBuild (node (there (here (leaf x)))) x y c t u v row_two refl refl (builds w.Groupmerger x false true h.0.0 (record { colon = refl; ones = refl; twos = refl })) h.1.0 h.1.1.0 h.1.1.1.0 h.1.1.1.1.0 (first row_two h.1 refl)
special r.ListType (pair (node (here (leaf x))) (pair (leaf y) (pair t u))) e h first second =
    special_one r.ListType (node (here (leaf x))) x y t u row_one refl refl (builds w.Vecbuilder x true false h.0 (record { colon = refl; ones = refl; twos = refl })) h.1.0 h.1.1.0 (first row_one h.1 refl)
special r.ListType (pair (node (there (here (leaf x)))) (pair (leaf y) (pair t u))) e h first second =
    special_one r.ListType (node (there (here (leaf x)))) x y t u row_one refl refl (builds w.Appender x true false h.0.0 (record { colon = refl; ones = refl; twos = refl })) h.1.0 h.1.1.0 (first row_one h.1 refl)
special r.TotalType (pair (leaf x) (pair (leaf y) (pair t u))) e h first second =
    special_one r.TotalType (leaf x) x y t u (row_op []) refl refl (builds w.Merger x true false h.0 (record { colon = refl; ones = refl; twos = refl })) h.1.0 h.1.1.0 (first (row_op []) h.1 refl)
special r.KeyedType (pair (leaf x) (pair (leaf y) (pair t (pair (leaf c) (pair u v))))) e h first second =
    special_two r.KeyedType (leaf x) x y c t u v row_keyed refl refl (builds w.Dictmerger x false true h.0 (record { colon = refl; ones = refl; twos = refl })) h.1.0 h.1.1.0 h.1.1.1.0 h.1.1.1.1.0 (first row_keyed h.1 refl)
special r.CellsType (pair (leaf x) (pair (leaf y) (pair t u))) e h first second =
    special_one r.CellsType (leaf x) x y t u (row_op []) refl refl (builds w.Vecmerger x true false h.0 (record { colon = refl; ones = refl; twos = refl })) h.1.0 h.1.1.0 (first (row_op []) h.1 refl)
special r.GroupsType (pair (node (here (leaf x))) (pair (leaf y) (pair t (pair (leaf c) (pair u v))))) e h first second =
    special_two r.GroupsType (node (here (leaf x))) x y c t u v row_two refl refl (builds w.Groupbuilder x false true h.0 (record { colon = refl; ones = refl; twos = refl })) h.1.0 h.1.1.0 h.1.1.1.0 h.1.1.1.1.0 (first row_two h.1 refl)
special r.GroupsType (pair (node (there (here (leaf x)))) (pair (leaf y) (pair t (pair (leaf c) (pair u v))))) e h first second =
    special_two r.GroupsType (node (there (here (leaf x)))) x y c t u v row_two refl refl (builds w.Groupmerger x false true h.0.0 (record { colon = refl; ones = refl; twos = refl })) h.1.0 h.1.1.0 h.1.1.1.0 h.1.1.1.1.0 (first row_two h.1 refl)
special r.Note _ e h first second = absurd (assumption)
special r.Param _ e h first second = absurd (assumption)
special r.ListBuild _ e h first second = absurd (assumption)
special r.TotalBuild _ e h first second = absurd (assumption)
special r.KeyedBuild _ e h first second = absurd (assumption)
special r.CellsBuild _ e h first second = absurd (assumption)
special r.GroupsBuild _ e h first second = absurd (assumption)
special r.ListType _ e h first second = absurd (assumption)
special r.TotalType _ e h first second = absurd (assumption)
special r.KeyedType _ e h first second = absurd (assumption)
special r.CellsType _ e h first second = absurd (assumption)
special r.GroupsType _ e h first second = absurd (assumption)
special _ t e h first second = absurd (false≢true e)

by-tokens : (ts : List Token) → first_type_too_large ts ≡ by_tokens types ts
by-tokens [] = refl
by-tokens (t ∷ ts) = ap (first_of (type_behind t.class ts)) (by-tokens ts)

-- the law, but for the types in the brackets of builders' types, which the tree's measure leaves out
pub types-found : (t : Tree Token) → IsOf (item (OfRule r.Program)) (seen t) → first_type_too_large (yield t) ≡ by_tree types (item (OfRule r.Program)) t
types-found t h = by-tokens (yield t) ∙ search-found types sane special r.Program t refl h
