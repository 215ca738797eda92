-- A place that is looked for token by token, by what stands at each, and by the tree, rule by rule: both find the same.
use Rattle.std.proofs.Common.{◌≡◌, refl, Bool, true, false, not, ◌&&◌, ◌||◌, Option, None, List, [], ◌∷◌, ◌++◌, ap, sym, subst, ◌∙◌, append_assoc, append-nil}
use Rattle.std.proofs.lemmas.Bool.{false≢true, not-true, and_parts}
use Rattle.weld_tree.specs.declared.place.Place.{Place}
use Rattle.weld_grammar.specs.declared.terminals.symbol.Symbol.TheVariants as s
use Rattle.weld_grammar.specs.declared.terminals.class.Class.TheVariants as classes
use Rattle.weld_grammar.specs.declared.terminals.token.Token.{Token}
use Rattle.weld_grammar.specs.declared.terminal.Terminal.{Terminal}
use Rattle.weld_grammar.specs.declared.terminal.Terminal.TheVariants.{Sign, Word}
use Rattle.weld_grammar.specs.declared.rule.Rule.{Rule}
use Rattle.weld_grammar.specs.declared.rule.Rule.TheVariants as r
use Rattle.weld_grammar.specs.declared.item.Item.{Item}
use Rattle.weld_grammar.specs.declared.item.Item.TheVariants.{One, Part as OfRule, Optional, Repeated}
use Rattle.weld_grammar.specs.Grammar.{Part, item, all_of, one_of, body, is_of}
use Rattle.weld_grammar.specs.Derivation.{Tree, leaf, node, empty, pair, here, there, yield, IsOf}
use Rattle.weld_spell.specs.Seen.{seen}
use Rattle.weld_tokens.specs.TokenLimits.{is_opening}
use Rattle.weld_spell.proofs.Terminals.{of_sign}

-- ---- what is looked for

-- how two finds are joined; what stands at the first of some tokens; what a rule adds to its parts; the terminals at which nothing stands;
-- the rules that add something, and those that are no part of others but theirs
pub record Search : Type 0 where
  pub join : Option Place → Option Place → Option Place
  pub at : List Token → Option Place
  pub own : Rule → Tree Token → Option Place
  pub plain : Terminal → Bool
  pub special : Rule → Bool
  pub barred : Rule → Bool

-- token by token
abbrev pub by_tokens : Search → List Token → Option Place
by_tokens l [] = None
by_tokens l (t ∷ ts) = l.join (l.at (t ∷ ts)) (by_tokens l ts)

-- by the tree
abbrev pub by_tree : Search → Part → Tree Token → Option Place
by_tree l (item (OfRule q)) (node t) = l.join (l.own q t) (by_tree l (body q) t)
by_tree l (item (Optional q)) (here t) = by_tree l (item (OfRule q)) t
by_tree l (item (Repeated q)) (pair t u) = l.join (by_tree l (item (OfRule q)) t) (by_tree l (item (Repeated q)) u)
by_tree l (all_of (i ∷ rest)) (pair t u) = l.join (by_tree l (item i) t) (by_tree l (all_of rest) u)
by_tree l (one_of (i ∷ rest)) (here t) = by_tree l (item i) t
by_tree l (one_of (i ∷ rest)) (there t) = by_tree l (one_of rest) t
by_tree l p t = None

-- ---- the test of the table

-- no bracket opens at the first of these tokens
abbrev pub Unopened : List Token → Type 0
Unopened [] = Unit {0}
Unopened (x ∷ xs) = is_opening x.class ≡ false

abbrev is_word : Terminal → Bool
is_word Word = true
is_word _ = false

-- the rule's trees may end with a word
abbrev pub ends_word : Rule → Bool
ends_word r.Bind = true
ends_word _ = false

-- no bracket opens behind a row, `shut` says the same of what comes behind it
abbrev shut_by : Item → Bool → Bool
shut_by (One (Sign a)) shut = not (is_opening (classes.Symbol a))
shut_by (Optional r.Note) shut = shut
shut_by _ shut = false

abbrev shut_row : Bool → List Item → Bool
shut_row shut [] = shut
shut_row shut (i ∷ rest) = shut_by i (shut_row shut rest)

abbrev pub fits_item : Search → Bool → Item → Bool
fits_item l shut (One a) = l.plain a || (is_word a && shut)
fits_item l shut (OfRule q) = not (l.barred q) && (shut || not (ends_word q))
fits_item l shut (Optional q) = not (l.barred q) && not (ends_word q)
fits_item l shut (Repeated q) = not (l.barred q) && not (ends_word q)

abbrev pub fits_row : Search → Bool → List Item → Bool
fits_row l shut [] = true
fits_row l shut (i ∷ rest) = fits_item l (shut_row shut rest) i && fits_row l shut rest

abbrev pub fits_each : Search → Bool → List Item → Bool
fits_each l shut [] = true
fits_each l shut (i ∷ rest) = fits_item l shut i && fits_each l shut rest

abbrev pub fits : Search → Bool → Part → Bool
fits l shut (item i) = fits_item l shut i
fits l shut (all_of s) = fits_row l shut s
fits l shut (one_of s) = fits_each l shut s

pub record Sane (l : Search) : Type 0 where
  pub assoc : (a b c : Option Place) → l.join a (l.join b c) ≡ l.join (l.join a b) c
  pub left : (a : Option Place) → l.join None a ≡ a
  pub right : (a : Option Place) → l.join a None ≡ a
  pub at_plain : (a : Terminal) (x : Token) (ts : List Token) → l.plain a ≡ true → is_of a x.class ≡ true → l.at (x ∷ ts) ≡ None
  pub at_word : (x : Token) (ts : List Token) → is_of Word x.class ≡ true → Unopened ts → l.at (x ∷ ts) ≡ None
  pub own_none : (q : Rule) (t : Tree Token) → l.special q ≡ false → l.own q t ≡ None
  pub table : (q : Rule) → l.special q ≡ false → l.barred q ≡ false → fits l (ends_word q) (body q) ≡ true

-- ---- trees

-- what is found in a tree and behind it
abbrev pub Flow : Search → Bool → Part → Tree Token → Type 0
Flow l shut p t = (rest : List Token) → (shut ≡ true → Unopened rest) → by_tokens l (yield t ++ rest) ≡ l.join (by_tree l p t) (by_tokens l rest)

-- rows behind the first of a tree's two parts, and behind the next
abbrev pub Tail : Search → Tree Token → Type 0
Tail l (pair a t) = (row : List Item) → IsOf (all_of row) (seen t) → fits_row l false row ≡ true → Flow l false (all_of row) t
Tail l _ = Unit {0}

abbrev pub SecondTail : Search → Tree Token → Type 0
SecondTail l (pair a t) = Tail l t
SecondTail l _ = Unit {0}

-- the rules that add something
abbrev pub Specials : Search → Type 0
Specials l = (q : Rule) (t : Tree Token) → l.special q ≡ true → IsOf (body q) (seen t) → Tail l t → SecondTail l t → Flow l false (item (OfRule q)) (node t)

in_row : (l : Search) → Sane l → (t u : Tree Token) (a b : Option Place) (rest : List Token) → by_tokens l (yield t ++ (yield u ++ rest)) ≡ l.join a (by_tokens l (yield u ++ rest)) → by_tokens l (yield u ++ rest) ≡ l.join b (by_tokens l rest)
    → by_tokens l ((yield t ++ yield u) ++ rest) ≡ l.join (l.join a b) (by_tokens l rest)
in_row l h t u a b rest e f = ap (by_tokens l) (append_assoc (yield t) (yield u) rest) ∙ e ∙ ap (l.join a) f ∙ h.assoc a b (by_tokens l rest)

-- a rule that adds what stands at its first token
pub headed : (l : Search) → Sane l → (p : Part) (w u : Tree Token) (x : Token) (row : List Item) (o : Option Place) → yield w ≡ x ∷ [] → by_tree l p (node (pair w u)) ≡ l.join o (by_tree l (all_of row) u)
    → ((rest : List Token) → l.at (x ∷ (yield u ++ rest)) ≡ o) → Flow l false (all_of row) u → Flow l false p (node (pair w u))
headed l h p w u x row o e k a f rest g =
    ap (λ z. by_tokens l ((z ++ yield u) ++ rest)) e
    ∙ ap (λ z. l.join z (by_tokens l (yield u ++ rest))) (a rest)
    ∙ ap (l.join o) (f rest (λ z. absurd (false≢true z)))
    ∙ h.assoc o (by_tree l (all_of row) u) (by_tokens l rest)
    ∙ ap (λ z. l.join z (by_tokens l rest)) (sym k)

shut_item : (i : Item) (t : Tree Token) (shut : Bool) (ts : List Token) → IsOf (item i) (seen t) → shut_by i shut ≡ true → (shut ≡ true → Unopened ts) → Unopened (yield t ++ ts)
shut_item (One (Sign a)) (leaf x) shut ts h e k = ap is_opening (of_sign a x.class h) ∙ not-true (is_opening (classes.Symbol a)) e
shut_item (One (Sign a)) _ shut ts h e k = absurd h
shut_item (Optional r.Note) empty shut ts h e k = k e
shut_item (Optional r.Note) (here (node (pair (leaf c) t))) shut ts h e k = ap is_opening (of_sign s.Colon c.class h.0)
shut_item (Optional r.Note) _ shut ts h e k = absurd (assumption)
shut_item _ _ shut ts h e k = absurd (false≢true e)

shut_behind : (row : List Item) (u : Tree Token) (shut : Bool) (rest : List Token) → IsOf (all_of row) (seen u) → shut_row shut row ≡ true → (shut ≡ true → Unopened rest) → Unopened (yield u ++ rest)
shut_behind [] empty shut rest h e k = k e
shut_behind (i ∷ row) (pair t u) shut rest h e k =
    let P : List Token → Type 0 = Unopened in
    subst P (sym (append_assoc (yield t) (yield u) rest)) (shut_item i t (shut_row shut row) (yield u ++ rest) h.0 e (λ z. shut_behind row u shut rest h.1 z k))
shut_behind _ _ shut rest h e k = absurd h

at_terminal : (l : Search) → Sane l → (a : Terminal) (x : Token) (shut : Bool) → is_of a x.class ≡ true → fits_item l shut (One a) ≡ true → Flow l shut (item (One a)) (leaf x)
at_terminal l h a x shut k e rest g = ap (λ z. l.join z (by_tokens l rest)) (cases a (l.plain a) refl shut k e g)
  where
    cases : (a : Terminal) (b : Bool) → l.plain a ≡ b → (shut : Bool) → is_of a x.class ≡ true → (b || (is_word a && shut)) ≡ true → (shut ≡ true → Unopened rest) → l.at (x ∷ rest) ≡ None
    cases a true w shut k e g = h.at_plain a x rest w k
    cases Word false w true k e g = h.at_word x rest k (g refl)
    cases Word false w false k e g = absurd (false≢true e)
    cases _ false w shut k e g = absurd (false≢true e)

-- a rule that adds nothing, or one that adds something
at_rule : (l : Search) → Sane l → Specials l → (q : Rule) (t : Tree Token) (shut : Bool) → IsOf (body q) (seen t) → fits_item l shut (OfRule q) ≡ true → (fits l (ends_word q) (body q) ≡ true → Flow l (ends_word q) (body q) t) → Tail l t → SecondTail l t
    → Flow l shut (item (OfRule q)) (node t)
at_rule l h sp q t shut k e f first second rest g =
    let both = and_parts (not (l.barred q)) (shut || not (ends_word q)) e in
    cases (l.special q) refl (not-true (l.barred q) both.0) (λ w. g (ends shut (ends_word q) both.1 w))
  where
    ends : (a b : Bool) → (a || not b) ≡ true → b ≡ true → a ≡ true
    ends true b e w = refl
    ends false true e w = absurd (false≢true e)
    ends false false e w = w

    cases : (b : Bool) → l.special q ≡ b → l.barred q ≡ false → (ends_word q ≡ true → Unopened rest) → by_tokens l (yield t ++ rest) ≡ l.join (l.join (l.own q t) (by_tree l (body q) t)) (by_tokens l rest)
    cases true w v m = sp q t w k first second rest (λ z. absurd (false≢true z))
    cases false w v m =
        f (h.table q w v) rest m
        ∙ ap (λ z. l.join z (by_tokens l rest)) (sym (h.left (by_tree l (body q) t)) ∙ ap (λ z. l.join z (by_tree l (body q) t)) (sym (h.own_none q t w)))

mutual
  flow : (l : Search) → Sane l → Specials l → (p : Part) (t : Tree Token) (shut : Bool) → IsOf p (seen t) → fits l shut p ≡ true → Flow l shut p t
  flow l h sp (item (One a)) (leaf x) shut k e = at_terminal l h a x shut k e
  flow l h sp (item (OfRule q)) (node t) shut k e = at_rule l h sp q t shut k e (λ m. flow l h sp (body q) t (ends_word q) k m) (tail l h sp t) (second_tail l h sp t)
  flow l h sp (item (Optional q)) empty shut k e = λ rest g. sym (h.left (by_tokens l rest))
  flow l h sp (item (Optional q)) (here t) shut k e = λ rest g. flow l h sp (item (OfRule q)) t false k e rest (λ z. absurd (false≢true z))
  flow l h sp (item (Repeated q)) empty shut k e = λ rest g. sym (h.left (by_tokens l rest))
  flow l h sp (item (Repeated q)) (pair t u) shut k e = λ rest g.
      in_row l h t u (by_tree l (item (OfRule q)) t) (by_tree l (item (Repeated q)) u) rest
      (flow l h sp (item (OfRule q)) t false k.0 e (yield u ++ rest) (λ z. absurd (false≢true z)))
      (flow l h sp (item (Repeated q)) u shut k.1 e rest g)
  flow l h sp (all_of []) empty shut k e = λ rest g. sym (h.left (by_tokens l rest))
  flow l h sp (all_of (i ∷ row)) (pair t u) shut k e = λ rest g.
      let both = and_parts (fits_item l (shut_row shut row) i) (fits_row l shut row) e in
      in_row l h t u (by_tree l (item i) t) (by_tree l (all_of row) u) rest
      (flow l h sp (item i) t (shut_row shut row) k.0 both.0 (yield u ++ rest) (λ z. shut_behind row u shut rest k.1 z g))
      (flow l h sp (all_of row) u shut k.1 both.1 rest g)
  flow l h sp (one_of (i ∷ rest)) (here t) shut k e = flow l h sp (item i) t shut k (and_parts (fits_item l shut i) (fits_each l shut rest) e).0
  flow l h sp (one_of (i ∷ rest)) (there t) shut k e = flow l h sp (one_of rest) t shut k.0 (and_parts (fits_item l shut i) (fits_each l shut rest) e).1
  flow l h sp _ _ shut k e = absurd k

  tail : (l : Search) → Sane l → Specials l → (t : Tree Token) → Tail l t
  tail l h sp (pair a t) = λ row k e. flow l h sp (all_of row) t false k e
  tail l h sp _ = tt

  second_tail : (l : Search) → Sane l → Specials l → (t : Tree Token) → SecondTail l t
  second_tail l h sp (pair a t) = tail l h sp t
  second_tail l h sp _ = tt

-- both find the same
pub search-found : (l : Search) → Sane l → Specials l → (q : Rule) (t : Tree Token) → fits_item l false (OfRule q) ≡ true → IsOf (item (OfRule q)) (seen t) → by_tokens l (yield t) ≡ by_tree l (item (OfRule q)) t
search-found l h sp q t e k =
    ap (by_tokens l) (sym (append-nil (yield t))) ∙ flow l h sp (item (OfRule q)) t false k e [] (λ z. tt) ∙ h.right (by_tree l (item (OfRule q)) t)
