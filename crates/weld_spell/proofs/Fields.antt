-- The field or leg that is one too many, by the tokens and by their tree.
use Rattle.std.proofs.Common.{◌≡◌, refl, ℕ, zero, suc, ◌<◌, ltb, ◌⊎◌, inl, inr, Bool, true, false, ◌&&◌, ◌||◌, cond, eqb, Option, Some, None, List, [], ◌∷◌, ◌++◌, ap, sym, subst, ◌∙◌, append_assoc, arith}
use Rattle.std.proofs.lemmas.Bool.{false≢true, ltb-true, lt-ltb, eqb-true, eq-eqb, and_parts, and_from, or_left, or_right, cases_lt}
use Rattle.std.proofs.Math.Dec.{eqb-suc-zero}
use Rattle.weld_tree.specs.declared.place.Place.{Place}
use Rattle.weld_grammar.specs.declared.terminals.symbol.Symbol.{Symbol}
use Rattle.weld_grammar.specs.declared.terminals.symbol.Symbol.TheVariants as s
use Rattle.weld_grammar.specs.declared.terminals.reserved.Reserved.{Reserved}
use Rattle.weld_grammar.specs.declared.terminals.reserved.Reserved.TheVariants as w
use Rattle.weld_grammar.specs.declared.terminals.class.Class.{Class}
use Rattle.weld_grammar.specs.declared.terminals.class.Class.TheVariants as classes
use Rattle.weld_grammar.specs.declared.terminals.token.Token.{Token}
use Rattle.weld_grammar.specs.declared.terminal.Terminal.{Terminal}
use Rattle.weld_grammar.specs.declared.terminal.Terminal.TheVariants.{Sign, Fixed, Word, Name, Number, Field, Chars}
use Rattle.weld_grammar.specs.declared.rule.Rule.{Rule}
use Rattle.weld_grammar.specs.declared.rule.Rule.TheVariants as r
use Rattle.weld_grammar.specs.declared.item.Item.{Item}
use Rattle.weld_grammar.specs.declared.item.Item.TheVariants.{One, Part as OfRule, Optional, Repeated}
use Rattle.weld_grammar.specs.Grammar.{Part, item, all_of, one_of, body, is_of}
use Rattle.weld_grammar.specs.Derivation.{Tree, leaf, node, empty, pair, here, there, yield, IsOf}
use Rattle.weld_spell.specs.Seen.{seen}
use Rattle.weld_tokens.specs.Depth.{earlier, is_before}
use Rattle.weld_tokens.specs.Lists.{is_brace, is_zip, is_paren, behind_commas, first_place, legs_behind, first_field_too_many, field_too_many}
use Rattle.weld_tokens.specs.Lists.{item_too_many as at_tokens}
use Rattle.weld_tokens.specs.TokenLimits.{is_opening, is_closing}
use Rattle.weld_spell.specs.Measures.{place_in, further_behind, item_too_many, items_too_many}
use Rattle.weld_spell.specs.Measures.{field_too_many as by_its_tree}
use Rattle.weld_spell.proofs.Terminals.{of_sign, of_fixed, rule_begun}
use Rattle.weld_spell.proofs.Passing.{quiet, passed, at_comma, at_end, at_none}
use Rattle.weld_spell.proofs.Scans.{Search, by_tokens, by_tree, Unopened, Sane, Specials, headed, search-found, fits, ends_word}

-- ---- the earlier of two places

earlier-left : (a : Option Place) → earlier None a ≡ a
earlier-left None = refl
earlier-left (Some p) = refl

earlier-right : (a : Option Place) → earlier a None ≡ a
earlier-right None = refl
earlier-right (Some p) = refl

-- where a place stands before another
abbrev Before : Place → Place → Type 0
Before p q = (p.line < q.line) ⊎ ((p.line ≡ q.line) × (p.column < q.column))

before-true : (p q : Place) → is_before p q ≡ true → Before p q
before-true p q e = cases (ltb p.line q.line) refl e
  where
    cases : (b : Bool) → ltb p.line q.line ≡ b → (b || (eqb p.line q.line && ltb p.column q.column)) ≡ true → Before p q
    cases true w g = inl (ltb-true p.line q.line w)
    cases false w g = let both = and_parts (eqb p.line q.line) (ltb p.column q.column) g in inr (eqb-true p.line q.line both.0, ltb-true p.column q.column both.1)

true-before : (p q : Place) → Before p q → is_before p q ≡ true
true-before p q h =
    elim h as (λ _. is_before p q ≡ true) [
      | inl e ↦ or_left (ltb p.line q.line) (eqb p.line q.line && ltb p.column q.column) (lt-ltb p.line q.line e)
      | inr e ↦ or_right (ltb p.line q.line) (eqb p.line q.line && ltb p.column q.column) (and_from (eqb p.line q.line) (ltb p.column q.column) (eq-eqb p.line q.line e.0) (lt-ltb p.column q.column e.1))
    ]

before_both : (p q k : Place) → Before p q → Before q k → Before p k
before_both p q k f g =
    elim f as (λ _. Before p k) [
      | inl e ↦ elim g as (λ _. Before p k) [ inl d ↦ inl (omega arith) | inr d ↦ let m = d.0 in inl (omega arith) ]
      | inr e ↦ let n = e.0 in let o = e.1 in elim g as (λ _. Before p k) [ inl d ↦ inl (omega arith) | inr d ↦ let m = d.0 in let x = d.1 in inr (omega arith, omega arith) ]
    ]

-- what is before a place is before each that isn't before that
before_apart : (p q k : Place) → Before k p → (Before q p → ⊥) → Before k q
before_apart p q k f g =
    elim (cases_lt q.line p.line) as (λ _. Before k q) [
      | inl a ↦ absurd (g (inl a))
      | inr a ↦ elim (cases_lt p.line q.line) as (λ _. Before k q) [
        | inl b ↦ before_both k p q f (inl b)
        | inr b ↦ elim (cases_lt q.column p.column) as (λ _. Before k q) [
          | inl c ↦ absurd (g (inr (let same : q.line ≡ p.line = omega arith in same, c)))
          | inr c ↦ elim f as (λ _. Before k q) [
            | inl d ↦ inl (omega arith)
            | inr d ↦ let m = d.0 in let n = d.1 in inr (omega arith, omega arith)
          ]
        ]
      ]
    ]

earlier_assoc : (a b c : Option Place) → earlier a (earlier b c) ≡ earlier (earlier a b) c
earlier_assoc None b c = earlier-left (earlier b c) ∙ ap (λ z. earlier z c) (sym (earlier-left b))
earlier_assoc (Some p) None c = ap (earlier (Some p)) (earlier-left c)
earlier_assoc (Some p) (Some q) None = sym (earlier-right (earlier (Some p) (Some q)))
earlier_assoc (Some p) (Some q) (Some k) = cases (is_before q p) (is_before k q) refl refl
  where
    none : (b : Bool) → is_before k p ≡ b → is_before q p ≡ false → is_before k q ≡ false → is_before k p ≡ false
    none true w e f = absurd (false≢true (sym f ∙ true-before k q (before_apart p q k (before-true k p w) (λ h. false≢true (sym e ∙ true-before q p h)))))
    none false w e f = w

    cases : (a b : Bool) → is_before q p ≡ a → is_before k q ≡ b → earlier (Some p) (earlier (Some q) (Some k)) ≡ earlier (earlier (Some p) (Some q)) (Some k)
    cases true true e f =
        ap (λ z. earlier (Some p) (cond z (Some k) (Some q))) f
        ∙ ap (λ z. cond z (Some k) (Some p)) (true-before k p (before_both k q p (before-true k q f) (before-true q p e)))
        ∙ sym (ap (λ z. cond z (Some k) (Some q)) f)
        ∙ sym (ap (λ z. earlier (cond z (Some q) (Some p)) (Some k)) e)
    cases true false e f =
        ap (λ z. earlier (Some p) (cond z (Some k) (Some q))) f
        ∙ ap (λ z. cond z (Some q) (Some p)) e
        ∙ sym (ap (λ z. cond z (Some k) (Some q)) f)
        ∙ sym (ap (λ z. earlier (cond z (Some q) (Some p)) (Some k)) e)
    cases false true e f = ap (λ z. earlier (Some p) (cond z (Some k) (Some q))) f ∙ sym (ap (λ z. earlier (cond z (Some q) (Some p)) (Some k)) e)
    cases false false e f =
        ap (λ z. earlier (Some p) (cond z (Some k) (Some q))) f
        ∙ ap (λ z. cond z (Some q) (Some p)) e
        ∙ sym (ap (λ z. cond z (Some k) (Some p)) (none (is_before k p) refl e f))
        ∙ sym (ap (λ z. earlier (cond z (Some q) (Some p)) (Some k)) e)

-- ---- what is looked for

abbrev is_plain : Terminal → Bool
is_plain (Sign s.LeftBrace) = false
is_plain (Fixed w.Zip) = false
is_plain Word = false
is_plain _ = true

abbrev adds : Rule → Bool
adds r.MakeStruct = true
adds r.StructType = true
adds r.Zip = true
adds _ = false

abbrev fields : Search
fields = record { join = earlier; at = at_tokens; own = item_too_many; plain = is_plain; special = adds; barred = λ q. false }

plain_symbol : (a : Symbol) → is_plain (Sign a) ≡ true → is_brace (classes.Symbol a) ≡ false
plain_symbol s.LeftBrace e = absurd (false≢true e)
plain_symbol _ e = refl

plain_word : (a : Reserved) → is_plain (Fixed a) ≡ true → is_zip (classes.Reserved a) ≡ false
plain_word w.Zip e = absurd (false≢true e)
plain_word _ e = refl

-- nothing stands at a token that is no brace and no `zip`
none_at : (x : Token) (ts : List Token) → is_brace x.class ≡ false → is_zip x.class ≡ false → at_tokens (x ∷ ts) ≡ None
none_at x ts e f =
    ap (λ b. cond b (first_place (behind_commas false 16 0 ts)) (cond (is_zip x.class) (legs_behind ts) None)) e
    ∙ ap (λ b. cond b (legs_behind ts) None) f

neither : (a : Terminal) (c : Class) → is_plain a ≡ true → is_of a c ≡ true → (is_brace c ≡ false) × (is_zip c ≡ false)
neither (Sign a) c e h = (ap is_brace (of_sign a c h) ∙ plain_symbol a e, ap is_zip (of_sign a c h))
neither (Fixed a) c e h = (ap is_brace (of_fixed a c h), ap is_zip (of_fixed a c h) ∙ plain_word a e)
neither Word c e h = absurd (false≢true e)
neither Name classes.Name e h = (refl, refl)
neither Number classes.Int e h = (refl, refl)
neither Number classes.Long e h = (refl, refl)
neither Field classes.Field e h = (refl, refl)
neither Chars classes.Chars e h = (refl, refl)
neither _ _ e h = absurd (false≢true h)

none_plain : (a : Terminal) (x : Token) (ts : List Token) → is_plain a ≡ true → is_of a x.class ≡ true → at_tokens (x ∷ ts) ≡ None
none_plain a x ts e h = let both = neither a x.class e h in none_at x ts both.0 both.1

no_brace : (c : Class) → is_of Word c ≡ true → is_brace c ≡ false
no_brace (classes.Reserved a) h = refl
no_brace classes.Name h = refl
no_brace _ h = absurd (false≢true h)

no_paren : (c : Class) → is_opening c ≡ false → is_paren c ≡ false
no_paren (classes.Symbol s.LeftParen) e = absurd (false≢true (sym e))
no_paren (classes.Symbol _) e = refl
no_paren _ e = refl

no_legs : (ts : List Token) → Unopened ts → legs_behind ts ≡ None
no_legs [] u = refl
no_legs (t ∷ ts) u = ap (λ b. cond b (first_place (behind_commas false 16 0 ts)) None) (no_paren t.class u)

either_none : (b : Bool) (o : Option Place) → o ≡ None → cond b o None ≡ None
either_none true o e = e
either_none false o e = refl

-- nothing stands at a word that is named: no parenthesis comes behind it
none_word : (x : Token) (ts : List Token) → is_of Word x.class ≡ true → Unopened ts → at_tokens (x ∷ ts) ≡ None
none_word x ts h u =
    ap (λ b. cond b (first_place (behind_commas false 16 0 ts)) (cond (is_zip x.class) (legs_behind ts) None)) (no_brace x.class h)
    ∙ either_none (is_zip x.class) (legs_behind ts) (no_legs ts u)

own-none : (q : Rule) (t : Tree Token) → adds q ≡ false → item_too_many q t ≡ None
own-none r.MakeStruct t e = absurd (false≢true (sym e))
own-none r.StructType t e = absurd (false≢true (sym e))
own-none r.Zip t e = absurd (false≢true (sym e))
own-none _ t e = refl

table : (q : Rule) → adds q ≡ false → fits fields (ends_word q) (body q) ≡ true
table r.MakeStruct e = absurd (false≢true (sym e))
table r.StructType e = absurd (false≢true (sym e))
table r.Zip e = absurd (false≢true (sym e))
table _ e = refl

sane : Sane fields
sane = record {
  assoc = earlier_assoc;
  left = earlier-left;
  right = earlier-right;
  at_plain = none_plain;
  at_word = none_word;
  own_none = own-none;
  table = λ q e f. table q e;
}

-- ---- lists

-- the first token of a list's item
first_in : (q : Rule) (t : Tree Token) (ts : List Token) → IsOf (item (OfRule q)) (seen t) → first_place (yield t ++ ts) ≡ place_in (yield t)
first_in q t ts h =
    let b = rule_begun q t h in
    ap (λ z. first_place (z ++ ts)) b.is ∙ sym (ap place_in b.is)

-- further items behind their commas: what their rule opens to
record Further (next q : Rule) : Type 0 where
  pub opens : body next ≡ all_of (One (Sign s.Comma) ∷ OfRule q ∷ [])
  pub calm : quiet q ≡ true

record Opened (q : Rule) (t : Tree Token) : Type 0 where
  pub comma : Token
  pub inner : Tree Token
  pub is : t ≡ pair (leaf comma) (pair inner empty)
  pub class : comma.class ≡ classes.Symbol s.Comma
  pub tree_of : IsOf (item (OfRule q)) (seen inner)

opened : (q : Rule) (t : Tree Token) → IsOf (all_of (One (Sign s.Comma) ∷ OfRule q ∷ [])) (seen t) → Opened q t
opened q (pair (leaf c) (pair u empty)) h = record { comma = c; inner = u; is = refl; class = of_sign s.Comma c.class h.0; tree_of = h.1.0 }
opened q _ h = absurd (assumption)

-- behind a comma: the next item, or the one that is meant
behind : (q : Rule) (c : Token) (u more : Tree Token) (n : ℕ) (rest : List Token) → quiet q ≡ true → IsOf (item (OfRule q)) (seen u) → ((m : ℕ) → first_place (behind_commas false (suc m) 0 rest) ≡ further_behind m more)
    → first_place (behind_commas false n 0 (yield u ++ rest)) ≡ further_behind n (pair (node (pair (leaf c) (pair u empty))) more)
behind q c u more zero rest e h f = ap first_place (at_none false (yield u ++ rest)) ∙ first_in q u rest h
behind q c u more (suc n) rest e h f = ap first_place (passed q u false (suc n) rest e h (eqb-suc-zero n)) ∙ f n

none_behind : (n : ℕ) → further_behind n empty ≡ None
none_behind zero = refl
none_behind (suc n) = refl

chain : (next q : Rule) (more : Tree Token) (n : ℕ) (b : Token) (ts : List Token) → Further next q → IsOf (item (Repeated next)) (seen more) → is_closing b.class ≡ true
    → first_place (behind_commas false (suc n) 0 (yield more ++ b ∷ ts)) ≡ further_behind n more
chain next q empty n b ts f h e = ap first_place (at_end false (suc n) b ts (eqb-suc-zero n) e) ∙ sym (none_behind n)
chain next q (pair (node t) more) n b ts f h e =
    let P : Part → Type 0 = λ p. IsOf p (seen t) in
    let o = opened q t (subst P f.opens h.0) in
    let Q : Tree Token → Type 0 = λ z. first_place (behind_commas false (suc n) 0 ((yield z ++ yield more) ++ b ∷ ts)) ≡ further_behind n (pair (node z) more) in
    subst Q (sym o.is)
    (ap (λ z. first_place (behind_commas false (suc n) 0 (o.comma ∷ z))) (append_assoc (yield o.inner ++ []) (yield more) (b ∷ ts) ∙ append_assoc (yield o.inner) [] (yield more ++ b ∷ ts))
    ∙ ap first_place (at_comma false n o.comma (yield o.inner ++ (yield more ++ b ∷ ts)) o.class)
    ∙ behind q o.comma o.inner more n (yield more ++ b ∷ ts) f.calm o.tree_of (λ m. chain next q more m b ts f h.1 e))
chain next q _ n b ts f h e = absurd (assumption)

-- an item and further ones, up to the bracket that closes
row_of : (next q : Rule) (t more : Tree Token) (n : ℕ) (b : Token) (rest : List Token) → Further next q → IsOf (item (OfRule q)) (seen t) → IsOf (item (Repeated next)) (seen more) → is_closing b.class ≡ true
    → first_place (behind_commas false (suc n) 0 ((yield t ++ (yield more ++ b ∷ [])) ++ rest)) ≡ further_behind n more
row_of next q t more n b rest f h k e =
    ap (λ z. first_place (behind_commas false (suc n) 0 z)) (append_assoc (yield t) (yield more ++ b ∷ []) rest ∙ ap (λ z. yield t ++ z) (append_assoc (yield more) (b ∷ []) rest))
    ∙ ap first_place (passed q t false (suc n) (yield more ++ b ∷ rest) f.calm h (eqb-suc-zero n))
    ∙ chain next q more n b rest f k e

exprs : Further r.NextExpr r.Expr
exprs = record { opens = refl; calm = refl }

types : Further r.NextType r.AnyType
types = record { opens = refl; calm = refl }

legs : Further r.NextLeg r.Leg
legs = record { opens = refl; calm = refl }

-- ---- the rules of lists

in_braces : (next q : Rule) (a : Token) (t more : Tree Token) (b : Token) (rest : List Token) → Further next q → is_of (Sign s.LeftBrace) a.class ≡ true → IsOf (item (OfRule q)) (seen t) → IsOf (item (Repeated next)) (seen more) → is_of (Sign s.RightBrace) b.class ≡ true
    → at_tokens (a ∷ ((yield t ++ (yield more ++ b ∷ [])) ++ rest)) ≡ further_behind 15 more
in_braces next q a t more b rest f g h k e =
    let ts = (yield t ++ (yield more ++ b ∷ [])) ++ rest in
    ap (λ z. cond z (first_place (behind_commas false 16 0 ts)) (cond (is_zip a.class) (legs_behind ts) None)) (ap is_brace (of_sign s.LeftBrace a.class g))
    ∙ row_of next q t more 15 b rest f h k (ap is_closing (of_sign s.RightBrace b.class e))

in_zip : (z a c b : Token) (t u more : Tree Token) (rest : List Token) → is_of (Fixed w.Zip) z.class ≡ true → is_of (Sign s.LeftParen) a.class ≡ true → IsOf (item (OfRule r.Leg)) (seen t) → is_of (Sign s.Comma) c.class ≡ true → IsOf (item (OfRule r.Leg)) (seen u) → IsOf (item (Repeated r.NextLeg)) (seen more) → is_of (Sign s.RightParen) b.class ≡ true
    → at_tokens (z ∷ a ∷ ((yield t ++ (c ∷ (yield u ++ (yield more ++ b ∷ [])))) ++ rest)) ≡ further_behind 14 more
in_zip z a c b t u more rest e1 e2 h e3 k m e4 =
    let ts = (yield t ++ (c ∷ (yield u ++ (yield more ++ b ∷ [])))) ++ rest in
    let is = of_fixed w.Zip z.class e1 in
    ap (λ y. cond y (first_place (behind_commas false 16 0 (a ∷ ts))) (cond (is_zip z.class) (legs_behind (a ∷ ts)) None)) (ap is_brace is)
    ∙ ap (λ y. cond y (legs_behind (a ∷ ts)) None) (ap is_zip is)
    ∙ ap (λ y. cond y (first_place (behind_commas false 16 0 ts)) None) (ap is_paren (of_sign s.LeftParen a.class e2))
    ∙ ap (λ y. first_place (behind_commas false 16 0 y)) (append_assoc (yield t) (c ∷ (yield u ++ (yield more ++ b ∷ []))) rest)
    ∙ ap first_place (passed r.Leg t false 16 (c ∷ ((yield u ++ (yield more ++ b ∷ [])) ++ rest)) refl h refl)
    ∙ ap first_place (at_comma false 15 c ((yield u ++ (yield more ++ b ∷ [])) ++ rest) (of_sign s.Comma c.class e3))
    ∙ row_of r.NextLeg r.Leg u more 14 b rest legs k m (ap is_closing (of_sign s.RightParen b.class e4))

special : Specials fields
special r.MakeStruct (pair (leaf a) (pair t (pair more (pair (leaf b) empty)))) e h first second =
    let row : List Item = OfRule r.Expr ∷ Repeated r.NextExpr ∷ One (Sign s.RightBrace) ∷ [] in
    headed fields sane (item (OfRule r.MakeStruct)) (leaf a) (pair t (pair more (pair (leaf b) empty))) a row (further_behind 15 more) refl refl
    (λ rest. in_braces r.NextExpr r.Expr a t more b rest exprs h.0 h.1.0 h.1.1.0 h.1.1.1.0) (first row h.1 refl)
special r.StructType (pair (leaf a) (pair t (pair more (pair (leaf b) empty)))) e h first second =
    let row : List Item = OfRule r.AnyType ∷ Repeated r.NextType ∷ One (Sign s.RightBrace) ∷ [] in
    headed fields sane (item (OfRule r.StructType)) (leaf a) (pair t (pair more (pair (leaf b) empty))) a row (further_behind 15 more) refl refl
    (λ rest. in_braces r.NextType r.AnyType a t more b rest types h.0 h.1.0 h.1.1.0 h.1.1.1.0) (first row h.1 refl)
special r.Zip (pair (leaf z) (pair (leaf a) (pair t (pair (leaf c) (pair u (pair more (pair (leaf b) empty))))))) e h first second =
    let row : List Item = One (Sign s.LeftParen) ∷ OfRule r.Leg ∷ One (Sign s.Comma) ∷ OfRule r.Leg ∷ Repeated r.NextLeg ∷ One (Sign s.RightParen) ∷ [] in
    headed fields sane (item (OfRule r.Zip)) (leaf z) (pair (leaf a) (pair t (pair (leaf c) (pair u (pair more (pair (leaf b) empty)))))) z row (further_behind 14 more) refl refl
    (λ rest. in_zip z a c b t u more rest h.0 h.1.0 h.1.1.0 h.1.1.1.0 h.1.1.1.1.0 h.1.1.1.1.1.0 h.1.1.1.1.1.1.0) (first row h.1 refl)
special r.MakeStruct _ e h first second = absurd (assumption)
special r.StructType _ e h first second = absurd (assumption)
special r.Zip _ e h first second = absurd (assumption)
special _ t e h first second = absurd (false≢true e)

-- ---- the law

folded : (found : Option Place) (ts : List Token) → field_too_many found ts ≡ earlier found (by_tokens fields ts)
folded found [] = sym (earlier-right found)
folded found (t ∷ ts) = folded (earlier found (at_tokens (t ∷ ts))) ts ∙ sym (earlier_assoc found (at_tokens (t ∷ ts)) (by_tokens fields ts))

both_earlier : (a b c d : Option Place) → a ≡ b → c ≡ d → earlier a c ≡ earlier b d
both_earlier a b c d e f = ap (λ z. earlier z c) e ∙ ap (earlier b) f

same_found : (p : Part) (t : Tree Token) → by_tree fields p t ≡ items_too_many p t
same_found (item (OfRule q)) (node t) = ap (earlier (item_too_many q t)) (same_found (body q) t)
same_found (item (Optional q)) (here t) = same_found (item (OfRule q)) t
same_found (item (Repeated q)) (pair t u) = both_earlier (by_tree fields (item (OfRule q)) t) (items_too_many (item (OfRule q)) t) (by_tree fields (item (Repeated q)) u) (items_too_many (item (Repeated q)) u) (same_found (item (OfRule q)) t) (same_found (item (Repeated q)) u)
same_found (all_of (i ∷ rest)) (pair t u) = both_earlier (by_tree fields (item i) t) (items_too_many (item i) t) (by_tree fields (all_of rest) u) (items_too_many (all_of rest) u) (same_found (item i) t) (same_found (all_of rest) u)
same_found (one_of (i ∷ rest)) (here t) = same_found (item i) t
same_found (one_of (i ∷ rest)) (there t) = same_found (one_of rest) t
same_found _ _ = refl

pub fields-by-the-tree : (t : Tree Token) → IsOf (item (OfRule r.Program)) (seen t) → first_field_too_many (yield t) ≡ by_its_tree t
fields-by-the-tree t h = folded None (yield t) ∙ earlier-left (by_tokens fields (yield t)) ∙ search-found fields sane special r.Program t refl h ∙ same_found (item (OfRule r.Program)) t
