-- Expressions read from their printed text, and how one rule's tree stands in the trees of the rules above it.
use Rattle.std.proofs.Common.{◌≡◌, ℕ, ◌≤◌, Bool, false, List, [], ◌∷◌, ◌++◌, refl, sym, ap, subst, ◌∙◌, append-nil, arith}
use Rattle.weld_data.specs.declared.op.BinOp.{BinOp}
use Rattle.weld_data.specs.declared.op.BinOp.TheVariants as ops
use Rattle.weld_tree.specs.declared.place.Place.{Place}
use Rattle.weld_tree.specs.ExprTree.{ExprTree, At, one, field, Two, two, binary, and, or}
use Rattle.weld_tree.specs.declared.known.Known.TheVariants.{Blank}
use Rattle.weld_tree.specs.Blank.{bare, blank_at}
use Rattle.weld_grammar.specs.declared.terminals.class.Class.{Class}
use Rattle.weld_grammar.specs.declared.terminals.class.Class.TheVariants as classes
use Rattle.weld_grammar.specs.declared.terminals.symbol.Symbol.TheVariants.{Dot, Plus, Minus, Star, Slash, Percent, EqualsEquals, BangEquals, Less, LessEquals, Greater, GreaterEquals, AndAnd, BarBar}
use Rattle.weld_grammar.specs.declared.terminals.token.Token.{Token}
use Rattle.weld_tokens.specs.Literals.{field_value}
use Rattle.weld_tokens.specs.Tokens.{next_place}
use Rattle.weld_grammar.specs.declared.rule.Rule.{Rule}
use Rattle.weld_grammar.specs.declared.rule.Rule.TheVariants as r
use Rattle.weld_grammar.specs.declared.item.Item.{Item}
use Rattle.weld_grammar.specs.declared.item.Item.TheVariants.{One, Part as OfRule, Repeated}
use Rattle.weld_grammar.specs.declared.terminal.Terminal.TheVariants.{Number}
use Rattle.weld_grammar.specs.Grammar.{item}
use Rattle.weld_grammar.specs.Derivation.{Tree, leaf, node, empty, pair, here, there, yield, Unbegun, IsOf}
use Rattle.weld_spell.specs.Seen.{seen}
use Rattle.weld_spell.specs.ProgramOf.{Bound, Spelled, node_at, expr_of, or_of, and_of, equality_of, relation_of, sum_of, product_of, unary_of, primary_of, fields_of}
use Rattle.weld_print.specs.PrintText.{op_between}
use Rattle.weld_spell.specs.Names.{none as no_binding}
use Rattle.weld_print.proofs.Sound.{Sound, words}
use Rattle.weld_print.proofs.Symbols.{Follows, plus, minus, star, slash, percent, equals_equals, bang_equals, less, less_equals, greater, greater_equals, and_and, bar_bar}
use Rattle.weld_print.proofs.Reading.{Run, token, one_spaced, join, AreSome, tokens_spaced}
use Rattle.weld_print.proofs.Scenes.{Scene}

-- ---- what tokens begin with

-- the first is neither `iter`, `zip` nor a bar
pub record Fair (cs : List Class) : Type 0 where
  pub iter : Unbegun (OfRule r.Iter) cs
  pub zip : Unbegun (OfRule r.Zip) cs
  pub bars : Unbegun (OfRule r.WithoutParams) cs
  pub bar : Unbegun (OfRule r.WithParams) cs

-- nor `let`
pub record Unlet (cs : List Class) : Type 0 where
  pub fair : Fair cs
  pub unlet : Unbegun (OfRule r.Let) cs

-- nor a sign
pub record Plain (cs : List Class) : Type 0 where
  pub unlet : Unlet cs
  pub minus : Unbegun (OfRule r.Minus) cs
  pub bang : Unbegun (OfRule r.Not) cs

pub unbegun : (i : Item) (xs ys : List Class) → Unbegun i xs → Unbegun i (xs ++ ys)
unbegun i [] ys h = absurd h
unbegun i (x ∷ xs) ys h = h

pub fair_more : (xs ys : List Class) → Fair xs → Fair (xs ++ ys)
fair_more xs ys f = record { iter = unbegun (OfRule r.Iter) xs ys f.iter; zip = unbegun (OfRule r.Zip) xs ys f.zip; bars = unbegun (OfRule r.WithoutParams) xs ys f.bars; bar = unbegun (OfRule r.WithParams) xs ys f.bar }

pub unlet_more : (xs ys : List Class) → Unlet xs → Unlet (xs ++ ys)
unlet_more xs ys u = record { fair = fair_more xs ys u.fair; unlet = unbegun (OfRule r.Let) xs ys u.unlet }

-- ---- spaces

nil_left : (xs ys : List Token) → xs ++ ys ≡ [] → xs ≡ []
nil_left [] ys e = refl
nil_left (x ∷ xs) ys e = absurd (let bad : x ∷ (xs ++ ys) ≡ [] = e in cc)

nil_right : (xs ys : List Token) → xs ++ ys ≡ [] → ys ≡ []
nil_right [] ys e = e
nil_right (x ∷ xs) ys e = absurd (let bad : x ∷ (xs ++ ys) ≡ [] = e in cc)

seen_none : (t : Tree Token) → yield t ≡ [] → yield (seen t) ≡ []
seen_none (leaf x) e = absurd (let bad : x ∷ [] ≡ [] = e in cc)
seen_none (node t) e = seen_none t e
seen_none empty e = refl
seen_none (pair t u) e = (λ i. seen_none t (nil_left (yield t) (yield u) e) i ++ seen_none u (nil_right (yield t) (yield u) e) i)
seen_none (here t) e = seen_none t e
seen_none (there t) e = seen_none t e

pub are_some : (t : Tree Token) → Fair (yield (seen t)) → AreSome (yield t)
are_some t f = by_tokens (yield t) (seen_none t)
  where
    by_tokens : (ts : List Token) → (ts ≡ [] → yield (seen t) ≡ []) → AreSome ts
    by_tokens [] e = absurd (subst (λ (cs : List Class). Fair cs) (e refl) f).iter
    by_tokens (x ∷ xs) e = tt

pub spaced : (place : Place) (text : List ℕ) (t : Tree Token) (here : Place) (rest : List ℕ) → Fair (yield (seen t)) → Run (next_place place 32) text (yield t) here rest → Run place (32 ∷ text) (yield t) here rest
spaced place text t to rest f b = tokens_spaced place text (yield t) to rest (are_some t f) b

-- ---- expressions

-- tokens at the front of a text that stands at a place derive the rule, by a tree that is the expression up to places
-- and numbers
pub record Read (rule : Rule) (of : Tree Token → List Bound → ℕ → Spelled) (first : List Class → Type 0) (e : ExprTree) (s : Scene) (n : ℕ) (place : Place) (text rest : List ℕ) : Type 0 where
  pub tree : Tree Token
  pub here : Place
  pub is_of : Sound false no_binding (item (OfRule rule)) tree (words s.bounds)
  pub begins : Run place text (yield tree) here rest
  pub same : bare (of tree s.bounds n).expr s.numbers ≡ bare e s.scope
  pub grows : n ≤ (of tree s.bounds n).next
  pub opens : first (yield (seen tree))

-- a field access: where its `.` stands, and its number
pub record FieldStep : Type 0 where
  pub dot : Place
  pub word : List ℕ
  pub at : Place

abbrev pub dot_token : FieldStep → Token
dot_token f = token (46 ∷ []) (classes.Symbol Dot) f.dot

abbrev pub field_token : FieldStep → Token
field_token f = token f.word classes.Field f.at

abbrev pub field_tree : FieldStep → Tree Token
field_tree f = node (pair (leaf (dot_token f)) (pair (leaf (field_token f)) empty))

-- the tree of field accesses
abbrev pub fields_tree : List FieldStep → Tree Token
fields_tree [] = empty
fields_tree (f ∷ fs) = pair (field_tree f) (fields_tree fs)

pub fields_are : (zs : List (List ℕ)) (fs : List FieldStep) → Sound false no_binding (item (Repeated r.FieldPart)) (fields_tree fs) zs
fields_are zs [] = tt
fields_are zs (f ∷ fs) = ((refl, (refl, tt)), fields_are zs fs)

pub fields_yield : (fs : List FieldStep) (f : FieldStep) → yield (fields_tree (fs ++ (f ∷ []))) ≡ yield (fields_tree fs) ++ (dot_token f ∷ field_token f ∷ [])
fields_yield [] f = refl
fields_yield (g ∷ fs) f = ap (λ (ts : List Token). dot_token g ∷ field_token g ∷ ts) (fields_yield fs f)

pub fields_last : (fs : List FieldStep) (f : FieldStep) (base : ExprTree) → fields_of (fields_tree (fs ++ (f ∷ []))) base ≡ one (record { place = f.dot; ty = Blank }) (field (field_value f.word)) (fields_of (fields_tree fs) base)
fields_last [] f base = refl
fields_last (g ∷ fs) f base = fields_last fs f (one (record { place = g.dot; ty = Blank }) (field (field_value g.word)) base)

-- the same of a form that stands by itself with field accesses behind it; its first token is no number where
-- `natural` doesn't say so, and no `=` stands at the front of the text
pub record PostRead (natural : Bool) (e : ExprTree) (s : Scene) (n : ℕ) (place : Place) (text rest : List ℕ) : Type 0 where
  pub base : Tree Token
  pub fields : List FieldStep
  pub here : Place
  pub base_of : Sound false no_binding (item (OfRule r.Primary)) base (words s.bounds)
  pub begins : Run place text (yield base ++ (yield (fields_tree fields) ++ [])) here rest
  pub same : bare (fields_of (fields_tree fields) (primary_of base s.bounds n).expr) s.numbers ≡ bare e s.scope
  pub grows : n ≤ (primary_of base s.bounds n).next
  pub opens : Plain (yield (seen base))
  pub unnumbered : natural ≡ false → Unbegun (One Number) (yield (seen base))
  pub clear : Follows 33 text

abbrev pub ExprRead : ExprTree → Scene → ℕ → Place → List ℕ → List ℕ → Type 0
ExprRead = Read r.Expr expr_of Fair

abbrev pub OrRead : ExprTree → Scene → ℕ → Place → List ℕ → List ℕ → Type 0
OrRead = Read r.Or or_of Unlet

abbrev pub UnaryRead : ExprTree → Scene → ℕ → Place → List ℕ → List ℕ → Type 0
UnaryRead = Read r.Unary unary_of Unlet

-- a rule that may stand alone under another
raised : (lower upper : Rule) (of_lower of_upper : Tree Token → List Bound → ℕ → Spelled)
    → ((t : Tree Token) (zs : List (List ℕ)) → Sound false no_binding (item (OfRule lower)) t zs → Sound false no_binding (item (OfRule upper)) (node (pair t (pair empty empty))) zs)
    → ((t : Tree Token) (bounds : List Bound) (n : ℕ) → of_upper (node (pair t (pair empty empty))) bounds n ≡ of_lower t bounds n)
    → {e : ExprTree} {s : Scene} {n : ℕ} {place : Place} {text rest : List ℕ} → Read lower of_lower Unlet e s n place text rest → Read upper of_upper Unlet e s n place text rest
raised lower upper of_lower of_upper is_of of {e} {s} {n} {place} {text} {rest} x = record {
  tree = node (pair x.tree (pair empty empty));
  here = x.here;
  is_of = is_of x.tree (words s.bounds) x.is_of;
  begins = subst (λ (ts : List Token). Run place text ts x.here rest) (sym (append-nil (yield x.tree))) x.begins;
  same = ap (λ (p : Spelled). bare p.expr s.numbers) (of x.tree s.bounds n) ∙ x.same;
  grows = subst (λ (p : Spelled). n ≤ p.next) (sym (of x.tree s.bounds n)) x.grows;
  opens = unlet_more (yield (seen x.tree)) [] x.opens;
}

unary_as_product : {e : ExprTree} {s : Scene} {n : ℕ} {place : Place} {text rest : List ℕ} → Read r.Unary unary_of Unlet e s n place text rest → Read r.Product product_of Unlet e s n place text rest
unary_as_product x = raised r.Unary r.Product unary_of product_of (λ t zs h. (h, (tt, tt))) (λ t bounds n. refl) x

product_as_sum : {e : ExprTree} {s : Scene} {n : ℕ} {place : Place} {text rest : List ℕ} → Read r.Product product_of Unlet e s n place text rest → Read r.Sum sum_of Unlet e s n place text rest
product_as_sum x = raised r.Product r.Sum product_of sum_of (λ t zs h. (h, (tt, tt))) (λ t bounds n. refl) x

sum_as_relation : {e : ExprTree} {s : Scene} {n : ℕ} {place : Place} {text rest : List ℕ} → Read r.Sum sum_of Unlet e s n place text rest → Read r.Relation relation_of Unlet e s n place text rest
sum_as_relation x = raised r.Sum r.Relation sum_of relation_of (λ t zs h. (h, (tt, tt))) (λ t bounds n. refl) x

relation_as_equality : {e : ExprTree} {s : Scene} {n : ℕ} {place : Place} {text rest : List ℕ} → Read r.Relation relation_of Unlet e s n place text rest → Read r.Equality equality_of Unlet e s n place text rest
relation_as_equality x = raised r.Relation r.Equality relation_of equality_of (λ t zs h. (h, (tt, tt))) (λ t bounds n. refl) x

equality_as_and : {e : ExprTree} {s : Scene} {n : ℕ} {place : Place} {text rest : List ℕ} → Read r.Equality equality_of Unlet e s n place text rest → Read r.And and_of Unlet e s n place text rest
equality_as_and x = raised r.Equality r.And equality_of and_of (λ t zs h. (h, (tt, tt))) (λ t bounds n. refl) x

and_as_or : {e : ExprTree} {s : Scene} {n : ℕ} {place : Place} {text rest : List ℕ} → Read r.And and_of Unlet e s n place text rest → Read r.Or or_of Unlet e s n place text rest
and_as_or x = raised r.And r.Or and_of or_of (λ t zs h. (h, (tt, tt))) (λ t bounds n. refl) x

sum_as_or : {e : ExprTree} {s : Scene} {n : ℕ} {place : Place} {text rest : List ℕ} → Read r.Sum sum_of Unlet e s n place text rest → OrRead e s n place text rest
sum_as_or x = and_as_or (equality_as_and (relation_as_equality (sum_as_relation x)))

pub unary_as_or : {e : ExprTree} {s : Scene} {n : ℕ} {place : Place} {text rest : List ℕ} → UnaryRead e s n place text rest → OrRead e s n place text rest
unary_as_or x = sum_as_or (product_as_sum (unary_as_product x))

pub or_as_expr : {e : ExprTree} {s : Scene} {n : ℕ} {place : Place} {text rest : List ℕ} → OrRead e s n place text rest → ExprRead e s n place text rest
or_as_expr x = record {
  tree = node (there (here x.tree));
  here = x.here;
  is_of = (x.is_of, x.opens.unlet);
  begins = x.begins;
  same = x.same;
  grows = x.grows;
  opens = x.opens.fair;
}

unfoldable pub post_as_unary : {natural : Bool} {e : ExprTree} {s : Scene} {n : ℕ} {place : Place} {text rest : List ℕ} → PostRead natural e s n place text rest → UnaryRead e s n place text rest
post_as_unary {s = s} x =
    let cs = yield (seen x.base) in
    let ds = yield (seen (fields_tree x.fields)) ++ [] in
    record {
      tree = node (there (there (here (node (pair x.base (pair (fields_tree x.fields) empty))))));
      here = x.here;
      is_of = (((x.base_of, (fields_are (words s.bounds) x.fields, tt)), unbegun (OfRule r.Not) cs ds x.opens.bang), unbegun (OfRule r.Minus) cs ds x.opens.minus);
      begins = x.begins;
      same = x.same;
      grows = x.grows;
      opens = unlet_more cs ds x.opens.unlet;
    }

-- ---- operators

-- no tokens at the ends of the parts of a row
ends_nil : (ts us : List Token) (x : Token) → ts ++ (((x ∷ (us ++ [])) ++ []) ++ []) ≡ ts ++ ((x ∷ []) ++ us)
ends_nil ts us x = ap (λ (k : List Token). ts ++ k) (append-nil ((x ∷ (us ++ [])) ++ []) ∙ append-nil (x ∷ (us ++ [])) ∙ ap (λ (k : List Token). x ∷ k) (append-nil us))

-- a tree with one operator: how its operands and its operator stand under the rule, and what it spells
binary_read : (lower upper : Rule) (of_lower of_upper : Tree Token → List Bound → ℕ → Spelled) (op : Two) (sign : Tree Token) (x : Token) → yield sign ≡ x ∷ []
    → ((t u : Tree Token) (zs : List (List ℕ)) → Sound false no_binding (item (OfRule lower)) t zs → Sound false no_binding (item (OfRule lower)) u zs → Sound false no_binding (item (OfRule upper)) (node (pair t (pair (pair (node (pair sign (pair u empty))) empty) empty))) zs)
    → ((t u : Tree Token) (bounds : List Bound) (n : ℕ) → of_upper (node (pair t (pair (pair (node (pair sign (pair u empty))) empty) empty))) bounds n ≡ record { expr = two (node_at sign) op (of_lower t bounds n).expr (of_lower u bounds (of_lower t bounds n).next).expr; next = (of_lower u bounds (of_lower t bounds n).next).next })
    → (a : At) {e f : ExprTree} {s : Scene} {n : ℕ} {place : Place} {text rest last end : List ℕ} {mid : Place}
    → (t : Read lower of_lower Unlet e s n place text rest) → Run t.here rest (x ∷ []) mid last → Read lower of_lower Unlet f s (of_lower t.tree s.bounds n).next mid last end
    → Read upper of_upper Unlet (two a op e f) s n place text end
binary_read lower upper of_lower of_upper op sign x yields is_of of a {e} {f} {s} {n} {place} {text} {rest} {last} {end} {mid} t b u =
    let tree = node (pair t.tree (pair (pair (node (pair sign (pair u.tree empty))) empty) empty)) in
    let all = join place text (yield t.tree) ((x ∷ []) ++ yield u.tree) t.here rest u.here end t.begins (join t.here rest (x ∷ []) (yield u.tree) mid last u.here end b u.begins) in
    let tokens : yield t.tree ++ (((yield sign ++ (yield u.tree ++ [])) ++ []) ++ []) ≡ yield t.tree ++ ((x ∷ []) ++ yield u.tree) = ap (λ (ts : List Token). yield t.tree ++ (((ts ++ (yield u.tree ++ [])) ++ []) ++ [])) yields ∙ ends_nil (yield t.tree) (yield u.tree) x in
    record {
      tree = tree;
      here = u.here;
      is_of = is_of t.tree u.tree (words s.bounds) t.is_of u.is_of;
      begins = subst (λ (ts : List Token). Run place text ts u.here end) (sym tokens) all;
      same = ap (λ (p : Spelled). bare p.expr s.numbers) (of t.tree u.tree s.bounds n) ∙ (λ i. two blank_at op (t.same i) (u.same i));
      grows = subst (λ (p : Spelled). n ≤ p.next) (sym (of t.tree u.tree s.bounds n)) (let low = t.grows in let high = u.grows in omega arith);
      opens = unlet_more (yield (seen t.tree)) _ t.opens;
    }

-- a binary operator between operands, with a space on both sides of it
pub operator_read : (op : BinOp) (a : At) {e f : ExprTree} {s : Scene} {n : ℕ} {place : Place} {text last end : List ℕ} → (t : UnaryRead e s n place text (op_between op ++ last)) → ((p : Place) → UnaryRead f s (unary_of t.tree s.bounds n).next p (32 ∷ last) end) → OrRead (two a (binary op) e f) s n place text end
unfolding raised unary_as_product product_as_sum sum_as_relation relation_as_equality equality_as_and and_as_or sum_as_or
operator_read ops.Add a {last = last} t u =
    let o = one_spaced t.here (plus (32 ∷ last)) in
    let sign = (node (here (leaf (token (43 ∷ []) (classes.Symbol Plus) o.at)))) in
    (and_as_or (equality_as_and (relation_as_equality (sum_as_relation (binary_read r.Product r.Sum product_of sum_of (binary ops.Add) sign (token (43 ∷ []) (classes.Symbol Plus) o.at) refl (λ x y zs h i. (h, (((refl, (i, tt)), tt), tt))) (λ x y bounds n. refl) a (unary_as_product t) o.begins (unary_as_product (u o.here)))))))
operator_read ops.Sub a {last = last} t u =
    let o = one_spaced t.here (minus (32 ∷ last)) in
    let sign = (node (there (here (leaf (token (45 ∷ []) (classes.Symbol Minus) o.at))))) in
    (and_as_or (equality_as_and (relation_as_equality (sum_as_relation (binary_read r.Product r.Sum product_of sum_of (binary ops.Sub) sign (token (45 ∷ []) (classes.Symbol Minus) o.at) refl (λ x y zs h i. (h, ((((refl, refl), (i, tt)), tt), tt))) (λ x y bounds n. refl) a (unary_as_product t) o.begins (unary_as_product (u o.here)))))))
operator_read ops.Mul a {last = last} t u =
    let o = one_spaced t.here (star (32 ∷ last)) in
    let sign = (node (here (leaf (token (42 ∷ []) (classes.Symbol Star) o.at)))) in
    (and_as_or (equality_as_and (relation_as_equality (sum_as_relation (product_as_sum (binary_read r.Unary r.Product unary_of product_of (binary ops.Mul) sign (token (42 ∷ []) (classes.Symbol Star) o.at) refl (λ x y zs h i. (h, (((refl, (i, tt)), tt), tt))) (λ x y bounds n. refl) a t o.begins (u o.here)))))))
operator_read ops.Div a {last = last} t u =
    let o = one_spaced t.here (slash (32 ∷ last)) in
    let sign = (node (there (here (leaf (token (47 ∷ []) (classes.Symbol Slash) o.at))))) in
    (and_as_or (equality_as_and (relation_as_equality (sum_as_relation (product_as_sum (binary_read r.Unary r.Product unary_of product_of (binary ops.Div) sign (token (47 ∷ []) (classes.Symbol Slash) o.at) refl (λ x y zs h i. (h, ((((refl, refl), (i, tt)), tt), tt))) (λ x y bounds n. refl) a t o.begins (u o.here)))))))
operator_read ops.Rem a {last = last} t u =
    let o = one_spaced t.here (percent (32 ∷ last)) in
    let sign = (node (there (there (here (leaf (token (37 ∷ []) (classes.Symbol Percent) o.at)))))) in
    (and_as_or (equality_as_and (relation_as_equality (sum_as_relation (product_as_sum (binary_read r.Unary r.Product unary_of product_of (binary ops.Rem) sign (token (37 ∷ []) (classes.Symbol Percent) o.at) refl (λ x y zs h i. (h, (((((refl, refl), refl), (i, tt)), tt), tt))) (λ x y bounds n. refl) a t o.begins (u o.here)))))))
operator_read ops.Eq a {last = last} t u =
    let o = one_spaced t.here (equals_equals (32 ∷ last)) in
    let sign = (node (here (leaf (token (61 ∷ 61 ∷ []) (classes.Symbol EqualsEquals) o.at)))) in
    (and_as_or (equality_as_and (binary_read r.Relation r.Equality relation_of equality_of (binary ops.Eq) sign (token (61 ∷ 61 ∷ []) (classes.Symbol EqualsEquals) o.at) refl (λ x y zs h i. (h, (((refl, (i, tt)), tt), tt))) (λ x y bounds n. refl) a (sum_as_relation (product_as_sum (unary_as_product t))) o.begins (sum_as_relation (product_as_sum (unary_as_product (u o.here)))))))
operator_read ops.Ne a {last = last} t u =
    let o = one_spaced t.here (bang_equals (32 ∷ last)) in
    let sign = (node (there (here (leaf (token (33 ∷ 61 ∷ []) (classes.Symbol BangEquals) o.at))))) in
    (and_as_or (equality_as_and (binary_read r.Relation r.Equality relation_of equality_of (binary ops.Ne) sign (token (33 ∷ 61 ∷ []) (classes.Symbol BangEquals) o.at) refl (λ x y zs h i. (h, ((((refl, refl), (i, tt)), tt), tt))) (λ x y bounds n. refl) a (sum_as_relation (product_as_sum (unary_as_product t))) o.begins (sum_as_relation (product_as_sum (unary_as_product (u o.here)))))))
operator_read ops.Lt a {last = last} t u =
    let o = one_spaced t.here (less (32 ∷ last) refl) in
    let sign = (node (here (leaf (token (60 ∷ []) (classes.Symbol Less) o.at)))) in
    (and_as_or (equality_as_and (relation_as_equality (binary_read r.Sum r.Relation sum_of relation_of (binary ops.Lt) sign (token (60 ∷ []) (classes.Symbol Less) o.at) refl (λ x y zs h i. (h, (((refl, (i, tt)), tt), tt))) (λ x y bounds n. refl) a (product_as_sum (unary_as_product t)) o.begins (product_as_sum (unary_as_product (u o.here)))))))
operator_read ops.Le a {last = last} t u =
    let o = one_spaced t.here (less_equals (32 ∷ last)) in
    let sign = (node (there (here (leaf (token (60 ∷ 61 ∷ []) (classes.Symbol LessEquals) o.at))))) in
    (and_as_or (equality_as_and (relation_as_equality (binary_read r.Sum r.Relation sum_of relation_of (binary ops.Le) sign (token (60 ∷ 61 ∷ []) (classes.Symbol LessEquals) o.at) refl (λ x y zs h i. (h, ((((refl, refl), (i, tt)), tt), tt))) (λ x y bounds n. refl) a (product_as_sum (unary_as_product t)) o.begins (product_as_sum (unary_as_product (u o.here)))))))
operator_read ops.Gt a {last = last} t u =
    let o = one_spaced t.here (greater (32 ∷ last) refl) in
    let sign = (node (there (there (here (leaf (token (62 ∷ []) (classes.Symbol Greater) o.at)))))) in
    (and_as_or (equality_as_and (relation_as_equality (binary_read r.Sum r.Relation sum_of relation_of (binary ops.Gt) sign (token (62 ∷ []) (classes.Symbol Greater) o.at) refl (λ x y zs h i. (h, (((((refl, refl), refl), (i, tt)), tt), tt))) (λ x y bounds n. refl) a (product_as_sum (unary_as_product t)) o.begins (product_as_sum (unary_as_product (u o.here)))))))
operator_read ops.Ge a {last = last} t u =
    let o = one_spaced t.here (greater_equals (32 ∷ last)) in
    let sign = (node (there (there (there (here (leaf (token (62 ∷ 61 ∷ []) (classes.Symbol GreaterEquals) o.at))))))) in
    (and_as_or (equality_as_and (relation_as_equality (binary_read r.Sum r.Relation sum_of relation_of (binary ops.Ge) sign (token (62 ∷ 61 ∷ []) (classes.Symbol GreaterEquals) o.at) refl (λ x y zs h i. (h, ((((((refl, refl), refl), refl), (i, tt)), tt), tt))) (λ x y bounds n. refl) a (product_as_sum (unary_as_product t)) o.begins (product_as_sum (unary_as_product (u o.here)))))))

pub and_read : (a : At) {e f : ExprTree} {s : Scene} {n : ℕ} {place : Place} {text last end : List ℕ} → (t : UnaryRead e s n place text (32 ∷ 38 ∷ 38 ∷ 32 ∷ last)) → ((p : Place) → UnaryRead f s (unary_of t.tree s.bounds n).next p (32 ∷ last) end) → OrRead (two a and e f) s n place text end
unfolding raised unary_as_product product_as_sum sum_as_relation relation_as_equality equality_as_and and_as_or sum_as_or
and_read a {last = last} t u =
    let o = one_spaced t.here (and_and (32 ∷ last)) in
    let sign = leaf (token (38 ∷ 38 ∷ []) (classes.Symbol AndAnd) o.at) in
    (and_as_or (binary_read r.Equality r.And equality_of and_of and sign (token (38 ∷ 38 ∷ []) (classes.Symbol AndAnd) o.at) refl (λ x y zs h i. (h, (((refl, (i, tt)), tt), tt))) (λ x y bounds n. refl) a (relation_as_equality (sum_as_relation (product_as_sum (unary_as_product t)))) o.begins (relation_as_equality (sum_as_relation (product_as_sum (unary_as_product (u o.here)))))))

pub or_read : (a : At) {e f : ExprTree} {s : Scene} {n : ℕ} {place : Place} {text last end : List ℕ} → (t : UnaryRead e s n place text (32 ∷ 124 ∷ 124 ∷ 32 ∷ last)) → ((p : Place) → UnaryRead f s (unary_of t.tree s.bounds n).next p (32 ∷ last) end) → OrRead (two a or e f) s n place text end
unfolding raised unary_as_product product_as_sum sum_as_relation relation_as_equality equality_as_and and_as_or sum_as_or
or_read a {last = last} t u =
    let o = one_spaced t.here (bar_bar (32 ∷ last)) in
    let sign = leaf (token (124 ∷ 124 ∷ []) (classes.Symbol BarBar) o.at) in
    (binary_read r.And r.Or and_of or_of or sign (token (124 ∷ 124 ∷ []) (classes.Symbol BarBar) o.at) refl (λ x y zs h i. (h, (((refl, (i, tt)), tt), tt))) (λ x y bounds n. refl) a (equality_as_and (relation_as_equality (sum_as_relation (product_as_sum (unary_as_product t))))) o.begins (equality_as_and (relation_as_equality (sum_as_relation (product_as_sum (unary_as_product (u o.here)))))))
