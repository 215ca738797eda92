-- The forms of expressions read from their printed text.
use Rattle.std.proofs.Common.{◌≡◌, ℕ, ◌<◌, ◌≤◌, ◌^◌, Bool, true, false, not, ◌&&◌, List, [], ◌∷◌, ◌++◌, refl, sym, ap, subst, ◌∙◌, append_assoc, append-nil, arith, codes}
use Rattle.std.specs.Fmt.{decimal}
use Rattle.std.proofs.lemmas.Bool.{both_ways}
use Rattle.weld_data.specs.declared.kind.Kind.{Kind}
use Rattle.weld_data.specs.declared.kind.Kind.TheVariants as kinds
use Rattle.weld_data.specs.Kind.{IsInteger}
use Rattle.weld_tree.specs.declared.place.Place.{Place}
use Rattle.weld_tree.specs.ExprTree.{ExprTree, At, leaf as leaf_at, one, two, three, many, let_in, loop, iterate, int, truth, chars, name, fresh, neg, not as bang, cast, len, field, finish, started, look_up, key_exists, merge, if_else, select, slice}
use Rattle.weld_tree.specs.Program.{IsScoped}
use Rattle.weld_tree.specs.Blank.{bare, blank_at}
use Rattle.weld_grammar.specs.declared.terminals.class.Class.{Class}
use Rattle.weld_grammar.specs.declared.terminals.class.Class.TheVariants as classes
use Rattle.weld_grammar.specs.declared.terminals.symbol.Symbol.TheVariants.{LeftParen, RightParen, Comma, Bang, Minus}
use Rattle.weld_grammar.specs.declared.terminals.reserved.Reserved.TheVariants as w
use Rattle.weld_grammar.specs.declared.terminals.token.Token.{Token}
use Rattle.weld_grammar.specs.ReservedWords.{reserved_text}
use Rattle.weld_tokens.specs.Tokens.{next_place}
use Rattle.weld_tokens.specs.Literals.{value_behind}
use Rattle.weld_grammar.specs.declared.rule.Rule.TheVariants as r
use Rattle.weld_grammar.specs.declared.item.Item.TheVariants.{One as OneOf, Part as OfRule}
use Rattle.weld_grammar.specs.declared.terminal.Terminal.TheVariants.{Number}
use Rattle.weld_grammar.specs.Grammar.{item}
use Rattle.weld_grammar.specs.Derivation.{Tree, leaf, node, empty, pair, here, there, yield, Unbegun, IsOf}
use Rattle.weld_spell.specs.Seen.{seen}
use Rattle.weld_spell.specs.ProgramOf.{expr_of, primary_of}
use Rattle.weld_print.specs.Operands.{in_parens, in_parens_behind_minus, is_natural_or_field, value_in_parens}
use Rattle.weld_print.specs.PrintText.{parens, expr_text}
use Rattle.weld_spell.specs.Names.{none as no_binding}
use Rattle.weld_print.proofs.Sound.{Sound, words, resets}
use Rattle.weld_print.proofs.Lexemes.{Stops, reserved_lexeme, field_lexeme, value_of_decimal}
use Rattle.weld_print.proofs.Symbols.{Follows, left_paren, right_paren, comma, dot, bang as bang_sign, minus}
use Rattle.weld_print.proofs.Reading.{Run, token, join, one_token}
use Rattle.weld_print.proofs.Scenes.{Scene, Agrees, agrees_more}
use Rattle.weld_print.proofs.Levels.{Plain, unbegun, spaced, Read, PostRead, ExprRead, OrRead, UnaryRead, FieldStep, dot_token, field_token, fields_tree, fields_yield, fields_last, unary_as_or, or_as_expr, post_as_unary}

-- ---- what is read of an expression, wherever it stands

abbrev pub AsExpr : List ℕ → ExprTree → Type 0
AsExpr names e = (s : Scene) (n : ℕ) → Agrees names s n → IsScoped e s.scope → (place : Place) (rest : List ℕ) → Stops rest → ExprRead e s n place (expr_text names e ++ rest) rest

abbrev pub AsOr : List ℕ → ExprTree → Type 0
AsOr names e = (s : Scene) (n : ℕ) → Agrees names s n → IsScoped e s.scope → (place : Place) (rest : List ℕ) → Stops rest → OrRead e s n place (expr_text names e ++ rest) rest

abbrev pub AsUnary : List ℕ → ExprTree → Type 0
AsUnary names e = (s : Scene) (n : ℕ) → Agrees names s n → IsScoped e s.scope → (place : Place) (rest : List ℕ) → Stops rest → UnaryRead e s n place (expr_text names e ++ rest) rest

abbrev pub AsPost : List ℕ → ExprTree → Type 0
AsPost names e = (s : Scene) (n : ℕ) → Agrees names s n → IsScoped e s.scope → (place : Place) (rest : List ℕ) → Stops rest → PostRead (is_natural_or_field e) e s n place (expr_text names e ++ rest) rest

-- as the rules allow it without parentheses
pub record Reads (names : List ℕ) (e : ExprTree) : Type 0 where
  pub expr : AsExpr names e
  pub or_level : value_in_parens e ≡ false → AsOr names e
  pub post : in_parens e ≡ false → AsPost names e

pub of_post : (names : List ℕ) (e : ExprTree) → AsPost names e → Reads names e
of_post names e p = record {
  expr = λ s n a i place rest st. or_as_expr (unary_as_or (post_as_unary (p s n a i place rest st)));
  or_level = λ h s n a i place rest st. unary_as_or (post_as_unary (p s n a i place rest st));
  post = λ h. p;
}

pub of_unary : (names : List ℕ) (e : ExprTree) → in_parens e ≡ true → AsUnary names e → Reads names e
of_unary names e h u = record {
  expr = λ s n a i place rest st. or_as_expr (unary_as_or (u s n a i place rest st));
  or_level = λ g s n a i place rest st. unary_as_or (u s n a i place rest st);
  post = λ g. absurd (both_ways (in_parens e) g h);
}

pub of_or : (names : List ℕ) (e : ExprTree) → in_parens e ≡ true → AsOr names e → Reads names e
of_or names e h u = record {
  expr = λ s n a i place rest st. or_as_expr (u s n a i place rest st);
  or_level = λ g. u;
  post = λ g. absurd (both_ways (in_parens e) g h);
}

pub of_let : (names : List ℕ) (e : ExprTree) → in_parens e ≡ true → value_in_parens e ≡ true → AsExpr names e → Reads names e
of_let names e h k u = record {
  expr = u;
  or_level = λ g. absurd (both_ways (value_in_parens e) g k);
  post = λ g. absurd (both_ways (in_parens e) g h);
}

-- ---- other texts

pub reexpr : {e : ExprTree} {s : Scene} {n : ℕ} {place : Place} {text other rest : List ℕ} → text ≡ other → ExprRead e s n place other rest → ExprRead e s n place text rest
reexpr {e} {s} {n} {place} {text} {other} {rest} q x = subst (λ (t : List ℕ). ExprRead e s n place t rest) (sym q) x

pub reor : {e : ExprTree} {s : Scene} {n : ℕ} {place : Place} {text other rest : List ℕ} → text ≡ other → OrRead e s n place other rest → OrRead e s n place text rest
reor {e} {s} {n} {place} {text} {other} {rest} q x = subst (λ (t : List ℕ). OrRead e s n place t rest) (sym q) x

pub reunary : {e : ExprTree} {s : Scene} {n : ℕ} {place : Place} {text other rest : List ℕ} → text ≡ other → UnaryRead e s n place other rest → UnaryRead e s n place text rest
reunary {e} {s} {n} {place} {text} {other} {rest} q x = subst (λ (t : List ℕ). UnaryRead e s n place t rest) (sym q) x

pub repost : {natural : Bool} {e : ExprTree} {s : Scene} {n : ℕ} {place : Place} {text other rest : List ℕ} → text ≡ other → PostRead natural e s n place other rest → PostRead natural e s n place text rest
repost {natural} {e} {s} {n} {place} {text} {other} {rest} q x = subst (λ (t : List ℕ). PostRead natural e s n place t rest) (sym q) x

-- behind a space
pub expr_spaced : {e : ExprTree} {s : Scene} {n : ℕ} {place : Place} {text rest : List ℕ} → ExprRead e s n (next_place place 32) text rest → ExprRead e s n place (32 ∷ text) rest
expr_spaced {place = place} {text = text} {rest = rest} x = record { tree = x.tree; here = x.here; is_of = x.is_of; begins = spaced place text x.tree x.here rest x.opens x.begins; same = x.same; grows = x.grows; opens = x.opens }

pub or_spaced : {e : ExprTree} {s : Scene} {n : ℕ} {place : Place} {text rest : List ℕ} → OrRead e s n (next_place place 32) text rest → OrRead e s n place (32 ∷ text) rest
or_spaced {place = place} {text = text} {rest = rest} x = record { tree = x.tree; here = x.here; is_of = x.is_of; begins = spaced place text x.tree x.here rest x.opens.fair x.begins; same = x.same; grows = x.grows; opens = x.opens }

pub unary_spaced : {e : ExprTree} {s : Scene} {n : ℕ} {place : Place} {text rest : List ℕ} → UnaryRead e s n (next_place place 32) text rest → UnaryRead e s n place (32 ∷ text) rest
unary_spaced {place = place} {text = text} {rest = rest} x = record { tree = x.tree; here = x.here; is_of = x.is_of; begins = spaced place text x.tree x.here rest x.opens.fair x.begins; same = x.same; grows = x.grows; opens = x.opens }

-- a form that stands by itself
pub primary_as_post : {natural : Bool} {e : ExprTree} {s : Scene} {n : ℕ} {place : Place} {text rest : List ℕ} → (x : Read r.Primary primary_of Plain e s n place text rest) → (natural ≡ false → Unbegun (OneOf Number) (yield (seen x.tree))) → Follows 33 text → PostRead natural e s n place text rest
primary_as_post {place = place} {text = text} {rest = rest} x number clear = record {
  base = x.tree;
  fields = [];
  here = x.here;
  base_of = x.is_of;
  begins = subst (λ (ts : List Token). Run place text ts x.here rest) (sym (append-nil (yield x.tree))) x.begins;
  same = x.same;
  grows = x.grows;
  opens = x.opens;
  unnumbered = number;
  clear = clear;
}

-- an expression in parentheses
in_paren : (names : List ℕ) (e : ExprTree) (natural : Bool) → Reads names e → (s : Scene) (n : ℕ) → Agrees names s n → IsScoped e s.scope → (place : Place) (rest : List ℕ) → PostRead natural e s n place ((codes "(" ++ expr_text names e ++ codes ")") ++ rest) rest
in_paren names e natural x s n a i place rest =
    let inner = expr_text names e ++ (41 ∷ rest) in
    let o = one_token place (left_paren inner) in
    let t = x.expr s n a i o.here (41 ∷ rest) refl in
    let c = one_token t.here (right_paren rest) in
    let q : (codes "(" ++ expr_text names e ++ codes ")") ++ rest ≡ 40 ∷ inner = simp append_assoc in
    let whole : Read r.Primary primary_of Plain e s n place (40 ∷ inner) rest = record {
      tree = node (there (there (there (there (there (here (node (pair (leaf (token (40 ∷ []) (classes.Symbol LeftParen) o.at)) (pair (t.tree) (pair (leaf (token (41 ∷ []) (classes.Symbol RightParen) c.at)) empty))))))))));
      here = c.here;
      is_of = ((((((refl, (t.is_of, (refl, tt))), refl), refl), refl), refl), refl);
      begins = join place (40 ∷ inner) _ _ o.here inner c.here rest o.begins (join o.here inner (yield t.tree) _ t.here (41 ∷ rest) c.here rest t.begins c.begins);
      same = t.same;
      grows = t.grows;
      opens = (record { unlet = record { fair = record { iter = refl; zip = refl; bars = refl; bar = refl }; unlet = refl }; minus = refl; bang = refl });
    } in
    repost q (primary_as_post whole (λ h. refl) refl)

-- an operand, in parentheses where it is said so
pub operand : (names : List ℕ) (e : ExprTree) (b : Bool) → Reads names e → (b ≡ false → in_parens e ≡ false) → (s : Scene) (n : ℕ) → Agrees names s n → IsScoped e s.scope → (place : Place) (rest : List ℕ) → Stops rest
    → PostRead (not b && is_natural_or_field e) e s n place (parens b (expr_text names e) ++ rest) rest
operand names e true x bare s n a i place rest st = in_paren names e false x s n a i place rest
operand names e false x bare s n a i place rest st = x.post (bare refl) s n a i place rest st

-- the value of a `let`, in parentheses where it is one
pub value_read : (names : List ℕ) (e : ExprTree) (b : Bool) → b ≡ value_in_parens e → Reads names e → (s : Scene) (n : ℕ) → Agrees names s n → IsScoped e s.scope → (place : Place) (rest : List ℕ) → Stops rest
    → OrRead e s n place (parens b (expr_text names e) ++ rest) rest
value_read names e true is x s n a i place rest st = unary_as_or (post_as_unary (in_paren names e false x s n a i place rest))
value_read names e false is x s n a i place rest st = x.or_level (sym is) s n a i place rest st

-- ---- forms of one part

not_false : (b : Bool) → (not b && false) ≡ false
not_false true = refl
not_false false = refl

not_and : (b : Bool) → (not b && b) ≡ false
not_and true = refl
not_and false = refl

-- behind a `-`
minus_bare : (e : ExprTree) → in_parens_behind_minus e ≡ false → in_parens e ≡ false
minus_bare (leaf_at a (int k x)) h = absurd (let bad : true ≡ false = h in cc)
minus_bare (leaf_at a (truth b)) h = refl
minus_bare (leaf_at a (chars bs)) h = refl
minus_bare (leaf_at a (name s)) h = refl
minus_bare (leaf_at a (fresh b)) h = refl
minus_bare (one a neg e) h = absurd (let bad : true ≡ false = h in cc)
minus_bare (one a bang e) h = absurd (let bad : true ≡ false = h in cc)
minus_bare (one a (cast k) e) h = refl
minus_bare (one a len e) h = refl
minus_bare (one a (field m) e) h = refl
minus_bare (one a finish e) h = refl
minus_bare (one a (started b) e) h = refl
minus_bare (two a t e f) h = h
minus_bare (three a t e f g) h = refl
minus_bare (many a m es) h = refl
minus_bare (let_in a b e f) h = h
minus_bare (loop a ls e b m x f) h = refl
minus_bare (iterate a e b f) h = refl

minus_natural : (e : ExprTree) → (not (in_parens_behind_minus e) && is_natural_or_field e) ≡ false
minus_natural (leaf_at a (int k x)) = refl
minus_natural (leaf_at a (truth b)) = refl
minus_natural (leaf_at a (chars bs)) = refl
minus_natural (leaf_at a (name s)) = refl
minus_natural (leaf_at a (fresh b)) = refl
minus_natural (one a neg e) = refl
minus_natural (one a bang e) = refl
minus_natural (one a (cast k) e) = refl
minus_natural (one a len e) = refl
minus_natural (one a (field m) e) = not_and (is_natural_or_field e)
minus_natural (one a finish e) = refl
minus_natural (one a (started b) e) = refl
minus_natural (two a t e f) = not_false (in_parens_behind_minus (two a t e f))
minus_natural (three a t e f g) = refl
minus_natural (many a m es) = refl
minus_natural (let_in a b e f) = refl
minus_natural (loop a ls e b m x f) = refl
minus_natural (iterate a e b f) = refl

-- no tokens behind those of the last part
nil_end : (place : Place) (text : List ℕ) (ts : List Token) (here : Place) (rest : List ℕ) → Run place text ts here rest → Run place text (ts ++ []) here rest
nil_end place text ts to rest b = subst (λ (x : List Token). Run place text x to rest) (sym (append-nil ts)) b

pub neg_reads : (names : List ℕ) (a : At) (e : ExprTree) → Reads names e → AsUnary names (one a neg e)
unfolding post_as_unary
neg_reads names a e x s n g i place rest st =
    let inner = parens (in_parens_behind_minus e) (expr_text names e) ++ rest in
    let o = one_token place (minus inner) in
    let y = operand names e (in_parens_behind_minus e) x (minus_bare e) s n g i o.here rest st in
    let u = post_as_unary y in
    let q : expr_text names (one a neg e) ++ rest ≡ 45 ∷ inner = ap (λ (t : List ℕ). 45 ∷ (t ++ rest)) (append-nil (parens (in_parens_behind_minus e) (expr_text names e))) in
    let number : Unbegun (OneOf Number) (yield (seen u.tree)) = unbegun (OneOf Number) (yield (seen y.base)) (yield (seen (fields_tree y.fields)) ++ []) (y.unnumbered (minus_natural e)) in
    reunary q (record {
      tree = node (here (node (pair (leaf (token (45 ∷ []) (classes.Symbol Minus) o.at)) (pair (node (there (here u.tree))) empty))));
      here = u.here;
      is_of = (refl, ((resets r.Unary u.tree (words s.bounds) u.is_of, number), tt));
      begins = join place (45 ∷ inner) _ _ o.here inner u.here rest o.begins (nil_end _ _ _ _ _ u.begins);
      same = ap (λ (t : ExprTree). one blank_at neg t) u.same;
      grows = u.grows;
      opens = (record { fair = record { iter = refl; zip = refl; bars = refl; bar = refl }; unlet = refl });
    })

pub not_reads : (names : List ℕ) (a : At) (e : ExprTree) → Reads names e → AsUnary names (one a bang e)
not_reads names a e x s n g i place rest st =
    let inner = parens (in_parens e) (expr_text names e) ++ rest in
    let y : (p : Place) → PostRead (not (in_parens e) && is_natural_or_field e) e s n p inner rest = λ p. operand names e (in_parens e) x (λ h. h) s n g i p rest st in
    let o = one_token place (bang_sign inner (y place).clear) in
    let u = post_as_unary (y o.here) in
    let q : expr_text names (one a bang e) ++ rest ≡ 33 ∷ inner = ap (λ (t : List ℕ). 33 ∷ (t ++ rest)) (append-nil (parens (in_parens e) (expr_text names e))) in
    reunary q (record {
      tree = node (there (here (node (pair (leaf (token (33 ∷ []) (classes.Symbol Bang) o.at)) (pair (u.tree) empty)))));
      here = u.here;
      is_of = ((refl, (u.is_of, tt)), refl);
      begins = join place (33 ∷ inner) _ _ o.here inner u.here rest o.begins (nil_end _ _ _ _ _ u.begins);
      same = ap (λ (t : ExprTree). one blank_at bang t) u.same;
      grows = u.grows;
      opens = (record { fair = record { iter = refl; zip = refl; bars = refl; bar = refl }; unlet = refl });
    })

regroup : (xs ys zs : List Token) → xs ++ (ys ++ zs) ≡ (xs ++ (ys ++ [])) ++ zs
regroup xs ys zs = ap (λ (t : List Token). xs ++ (t ++ zs)) (sym (append-nil ys)) ∙ sym (append_assoc xs (ys ++ []) zs)

-- a field access
pub field_reads : (names : List ℕ) (a : At) (k : ℕ) (e : ExprTree) → k < 10 ^ 9 → Reads names e → AsPost names (one a (field k) e)
field_reads names a k e small x s n g i place rest st =
    let last = 36 ∷ (decimal k ++ rest) in
    let y = operand names e (in_parens e) x (λ h. h) s n g i place (46 ∷ last) refl in
    let d = one_token y.here (dot last) in
    let f = one_token d.here (field_lexeme k rest small st) in
    let z : FieldStep = record { dot = d.at; word = 36 ∷ decimal k; at = f.at } in
    let q : expr_text names (one a (field k) e) ++ rest ≡ parens (in_parens e) (expr_text names e) ++ (46 ∷ last) = append_assoc (parens (in_parens e) (expr_text names e)) (46 ∷ 36 ∷ decimal k) rest in
    let ts = yield y.base ++ (yield (fields_tree y.fields) ++ []) in
    let all = join place _ ts (dot_token z ∷ field_token z ∷ []) y.here (46 ∷ last) f.here rest y.begins (join y.here (46 ∷ last) _ _ d.here last f.here rest d.begins f.begins) in
    let tokens : yield y.base ++ (yield (fields_tree (y.fields ++ (z ∷ []))) ++ []) ≡ ts ++ (dot_token z ∷ field_token z ∷ []) =
    ap (λ (us : List Token). yield y.base ++ us) (append-nil (yield (fields_tree (y.fields ++ (z ∷ [])))) ∙ fields_yield y.fields z) ∙ regroup (yield y.base) (yield (fields_tree y.fields)) (dot_token z ∷ field_token z ∷ []) in
    let number : ℕ = k in
    let value : value_behind 0 (decimal k) ≡ k = value_of_decimal k (omega arith) in
    repost q (record {
      base = y.base;
      fields = y.fields ++ (z ∷ []);
      here = f.here;
      base_of = y.base_of;
      begins = subst (λ (us : List Token). Run place (parens (in_parens e) (expr_text names e) ++ (46 ∷ last)) us f.here rest) (sym tokens) all;
      same = ap (λ (t : ExprTree). bare t s.numbers) (fields_last y.fields z (primary_of y.base s.bounds n).expr) ∙ (λ j. one blank_at (field (value j)) (y.same j));
      grows = y.grows;
      opens = y.opens;
      unnumbered = λ h. y.unnumbered (ap (λ (b : Bool). not (in_parens e) && b) h ∙ not_false (in_parens e));
      clear = y.clear;
    })

-- ---- arguments

-- a token `(` and an expression, or a comma, a space and an expression
pub record ArgRead (b : ℕ) (c : Class) (e : ExprTree) (s : Scene) (n : ℕ) (place : Place) (text rest : List ℕ) : Type 0 where
  pub at : Place
  pub here : Place
  pub tree : Tree Token
  pub is_of : Sound false no_binding (item (OfRule r.Expr)) tree (words s.bounds)
  pub begins : Run place text (token (b ∷ []) c at ∷ yield tree) here rest
  pub same : bare (expr_of tree s.bounds n).expr s.numbers ≡ bare e s.scope
  pub grows : n ≤ (expr_of tree s.bounds n).next

pub first_arg : (names : List ℕ) (e : ExprTree) → Reads names e → (s : Scene) (n : ℕ) → Agrees names s n → IsScoped e s.scope → (place : Place) (rest : List ℕ) → Stops rest → ArgRead 40 (classes.Symbol LeftParen) e s n place (40 ∷ (expr_text names e ++ rest)) rest
first_arg names e x s n g i place rest st =
    let text = expr_text names e ++ rest in
    let o = one_token place (left_paren text) in
    let t = x.expr s n g i o.here rest st in
    record { at = o.at; here = t.here; tree = t.tree; is_of = t.is_of; begins = join place (40 ∷ text) _ (yield t.tree) o.here text t.here rest o.begins t.begins; same = t.same; grows = t.grows }

pub next_arg : (names : List ℕ) (e : ExprTree) → Reads names e → (s : Scene) (n : ℕ) → Agrees names s n → IsScoped e s.scope → (place : Place) (rest : List ℕ) → Stops rest → ArgRead 44 (classes.Symbol Comma) e s n place (44 ∷ 32 ∷ (expr_text names e ++ rest)) rest
next_arg names e x s n g i place rest st =
    let text = expr_text names e ++ rest in
    let o = one_token place (comma (32 ∷ text)) in
    let t = expr_spaced (x.expr s n g i (next_place o.here 32) rest st) in
    record { at = o.at; here = t.here; tree = t.tree; is_of = t.is_of; begins = join place (44 ∷ 32 ∷ text) _ (yield t.tree) o.here (32 ∷ text) t.here rest o.begins t.begins; same = t.same; grows = t.grows }

-- ---- forms with a word

pub if_reads : (names : List ℕ) (a : At) (e f g : ExprTree) → Reads names e → Reads names f → Reads names g → AsPost names (three a if_else e f g)
if_reads names m e f g x y z s n a i place rest st =
    let k = one_token place (reserved_lexeme w.If (40 ∷ (expr_text names e ++ (44 ∷ 32 ∷ (expr_text names f ++ (44 ∷ 32 ∷ (expr_text names g ++ (41 ∷ rest))))))) refl) in
    let t = first_arg names e x s n a i.0 k.here (44 ∷ 32 ∷ (expr_text names f ++ (44 ∷ 32 ∷ (expr_text names g ++ (41 ∷ rest))))) refl in
    let n1 = (expr_of t.tree s.bounds n).next in
    let a1 = agrees_more names s n n1 t.grows a in
    let u = next_arg names f y s n1 a1 i.1 t.here (44 ∷ 32 ∷ (expr_text names g ++ (41 ∷ rest))) refl in
    let n2 = (expr_of u.tree s.bounds n1).next in
    let a2 = agrees_more names s n1 n2 u.grows a1 in
    let v = next_arg names g z s n2 a2 i.2 u.here (41 ∷ rest) refl in
    let c = one_token v.here (right_paren rest) in
    let q : expr_text names (three m if_else e f g) ++ rest ≡ reserved_text w.If ++ (40 ∷ (expr_text names e ++ (44 ∷ 32 ∷ (expr_text names f ++ (44 ∷ 32 ∷ (expr_text names g ++ (41 ∷ rest))))))) = simp append_assoc in
    let whole : Read r.Primary primary_of Plain (three m if_else e f g) s n place (reserved_text w.If ++ (40 ∷ (expr_text names e ++ (44 ∷ 32 ∷ (expr_text names f ++ (44 ∷ 32 ∷ (expr_text names g ++ (41 ∷ rest)))))))) rest = record {
      tree = node (there (there (there (there (there (there (there (there (here (node (pair (leaf (token (reserved_text w.If) (classes.Reserved w.If) k.at)) (pair (leaf (token (40 ∷ []) (classes.Symbol LeftParen) t.at)) (pair (t.tree) (pair (leaf (token (44 ∷ []) (classes.Symbol Comma) u.at)) (pair (u.tree) (pair (leaf (token (44 ∷ []) (classes.Symbol Comma) v.at)) (pair (v.tree) (pair (leaf (token (41 ∷ []) (classes.Symbol RightParen) c.at)) empty))))))))))))))))));
      here = c.here;
      is_of = (((((((((refl, (refl, (t.is_of, (refl, (u.is_of, (refl, (v.is_of, (refl, tt)))))))), refl), refl), refl), refl), refl), refl), refl), refl);
      begins = join place _ _ _ k.here (40 ∷ (expr_text names e ++ (44 ∷ 32 ∷ (expr_text names f ++ (44 ∷ 32 ∷ (expr_text names g ++ (41 ∷ rest))))))) c.here rest k.begins (join _ _ _ _ t.here (44 ∷ 32 ∷ (expr_text names f ++ (44 ∷ 32 ∷ (expr_text names g ++ (41 ∷ rest))))) c.here rest t.begins (join _ _ _ _ u.here (44 ∷ 32 ∷ (expr_text names g ++ (41 ∷ rest))) c.here rest u.begins (join _ _ _ _ v.here (41 ∷ rest) c.here rest v.begins c.begins)));
      same = (λ j. three blank_at if_else (t.same j) (u.same j) (v.same j));
      grows = (let g1 = t.grows in let g2 = u.grows in let g3 = v.grows in omega arith);
      opens = (record { unlet = record { fair = record { iter = refl; zip = refl; bars = refl; bar = refl }; unlet = refl }; minus = refl; bang = refl });
    } in
    repost q (primary_as_post whole (λ h. refl) refl)

pub select_reads : (names : List ℕ) (a : At) (e f g : ExprTree) → Reads names e → Reads names f → Reads names g → AsPost names (three a select e f g)
select_reads names m e f g x y z s n a i place rest st =
    let k = one_token place (reserved_lexeme w.Select (40 ∷ (expr_text names e ++ (44 ∷ 32 ∷ (expr_text names f ++ (44 ∷ 32 ∷ (expr_text names g ++ (41 ∷ rest))))))) refl) in
    let t = first_arg names e x s n a i.0 k.here (44 ∷ 32 ∷ (expr_text names f ++ (44 ∷ 32 ∷ (expr_text names g ++ (41 ∷ rest))))) refl in
    let n1 = (expr_of t.tree s.bounds n).next in
    let a1 = agrees_more names s n n1 t.grows a in
    let u = next_arg names f y s n1 a1 i.1 t.here (44 ∷ 32 ∷ (expr_text names g ++ (41 ∷ rest))) refl in
    let n2 = (expr_of u.tree s.bounds n1).next in
    let a2 = agrees_more names s n1 n2 u.grows a1 in
    let v = next_arg names g z s n2 a2 i.2 u.here (41 ∷ rest) refl in
    let c = one_token v.here (right_paren rest) in
    let q : expr_text names (three m select e f g) ++ rest ≡ reserved_text w.Select ++ (40 ∷ (expr_text names e ++ (44 ∷ 32 ∷ (expr_text names f ++ (44 ∷ 32 ∷ (expr_text names g ++ (41 ∷ rest))))))) = simp append_assoc in
    let whole : Read r.Primary primary_of Plain (three m select e f g) s n place (reserved_text w.Select ++ (40 ∷ (expr_text names e ++ (44 ∷ 32 ∷ (expr_text names f ++ (44 ∷ 32 ∷ (expr_text names g ++ (41 ∷ rest)))))))) rest = record {
      tree = node (there (there (there (there (there (there (there (there (there (here (node (pair (leaf (token (reserved_text w.Select) (classes.Reserved w.Select) k.at)) (pair (leaf (token (40 ∷ []) (classes.Symbol LeftParen) t.at)) (pair (t.tree) (pair (leaf (token (44 ∷ []) (classes.Symbol Comma) u.at)) (pair (u.tree) (pair (leaf (token (44 ∷ []) (classes.Symbol Comma) v.at)) (pair (v.tree) (pair (leaf (token (41 ∷ []) (classes.Symbol RightParen) c.at)) empty)))))))))))))))))));
      here = c.here;
      is_of = ((((((((((refl, (refl, (t.is_of, (refl, (u.is_of, (refl, (v.is_of, (refl, tt)))))))), refl), refl), refl), refl), refl), refl), refl), refl), refl);
      begins = join place _ _ _ k.here (40 ∷ (expr_text names e ++ (44 ∷ 32 ∷ (expr_text names f ++ (44 ∷ 32 ∷ (expr_text names g ++ (41 ∷ rest))))))) c.here rest k.begins (join _ _ _ _ t.here (44 ∷ 32 ∷ (expr_text names f ++ (44 ∷ 32 ∷ (expr_text names g ++ (41 ∷ rest))))) c.here rest t.begins (join _ _ _ _ u.here (44 ∷ 32 ∷ (expr_text names g ++ (41 ∷ rest))) c.here rest u.begins (join _ _ _ _ v.here (41 ∷ rest) c.here rest v.begins c.begins)));
      same = (λ j. three blank_at select (t.same j) (u.same j) (v.same j));
      grows = (let g1 = t.grows in let g2 = u.grows in let g3 = v.grows in omega arith);
      opens = (record { unlet = record { fair = record { iter = refl; zip = refl; bars = refl; bar = refl }; unlet = refl }; minus = refl; bang = refl });
    } in
    repost q (primary_as_post whole (λ h. refl) refl)

pub look_up_reads : (names : List ℕ) (a : At) (e f : ExprTree) → Reads names e → Reads names f → AsPost names (two a look_up e f)
look_up_reads names m e f x y s n a i place rest st =
    let k = one_token place (reserved_lexeme w.Lookup (40 ∷ (expr_text names e ++ (44 ∷ 32 ∷ (expr_text names f ++ (41 ∷ rest))))) refl) in
    let t = first_arg names e x s n a i.0 k.here (44 ∷ 32 ∷ (expr_text names f ++ (41 ∷ rest))) refl in
    let n1 = (expr_of t.tree s.bounds n).next in
    let a1 = agrees_more names s n n1 t.grows a in
    let u = next_arg names f y s n1 a1 i.1 t.here (41 ∷ rest) refl in
    let c = one_token u.here (right_paren rest) in
    let q : expr_text names (two m look_up e f) ++ rest ≡ reserved_text w.Lookup ++ (40 ∷ (expr_text names e ++ (44 ∷ 32 ∷ (expr_text names f ++ (41 ∷ rest))))) = simp append_assoc in
    let whole : Read r.Primary primary_of Plain (two m look_up e f) s n place (reserved_text w.Lookup ++ (40 ∷ (expr_text names e ++ (44 ∷ 32 ∷ (expr_text names f ++ (41 ∷ rest)))))) rest = record {
      tree = node (there (there (there (there (there (there (there (there (there (there (here (node (pair (leaf (token (reserved_text w.Lookup) (classes.Reserved w.Lookup) k.at)) (pair (leaf (token (40 ∷ []) (classes.Symbol LeftParen) t.at)) (pair (t.tree) (pair (leaf (token (44 ∷ []) (classes.Symbol Comma) u.at)) (pair (u.tree) (pair (leaf (token (41 ∷ []) (classes.Symbol RightParen) c.at)) empty))))))))))))))))));
      here = c.here;
      is_of = (((((((((((refl, (refl, (t.is_of, (refl, (u.is_of, (refl, tt)))))), refl), refl), refl), refl), refl), refl), refl), refl), refl), refl);
      begins = join place _ _ _ k.here (40 ∷ (expr_text names e ++ (44 ∷ 32 ∷ (expr_text names f ++ (41 ∷ rest))))) c.here rest k.begins (join _ _ _ _ t.here (44 ∷ 32 ∷ (expr_text names f ++ (41 ∷ rest))) c.here rest t.begins (join _ _ _ _ u.here (41 ∷ rest) c.here rest u.begins c.begins));
      same = (λ j. two blank_at look_up (t.same j) (u.same j));
      grows = (let g1 = t.grows in let g2 = u.grows in omega arith);
      opens = (record { unlet = record { fair = record { iter = refl; zip = refl; bars = refl; bar = refl }; unlet = refl }; minus = refl; bang = refl });
    } in
    repost q (primary_as_post whole (λ h. refl) refl)

pub key_exists_reads : (names : List ℕ) (a : At) (e f : ExprTree) → Reads names e → Reads names f → AsPost names (two a key_exists e f)
key_exists_reads names m e f x y s n a i place rest st =
    let k = one_token place (reserved_lexeme w.Keyexists (40 ∷ (expr_text names e ++ (44 ∷ 32 ∷ (expr_text names f ++ (41 ∷ rest))))) refl) in
    let t = first_arg names e x s n a i.0 k.here (44 ∷ 32 ∷ (expr_text names f ++ (41 ∷ rest))) refl in
    let n1 = (expr_of t.tree s.bounds n).next in
    let a1 = agrees_more names s n n1 t.grows a in
    let u = next_arg names f y s n1 a1 i.1 t.here (41 ∷ rest) refl in
    let c = one_token u.here (right_paren rest) in
    let q : expr_text names (two m key_exists e f) ++ rest ≡ reserved_text w.Keyexists ++ (40 ∷ (expr_text names e ++ (44 ∷ 32 ∷ (expr_text names f ++ (41 ∷ rest))))) = simp append_assoc in
    let whole : Read r.Primary primary_of Plain (two m key_exists e f) s n place (reserved_text w.Keyexists ++ (40 ∷ (expr_text names e ++ (44 ∷ 32 ∷ (expr_text names f ++ (41 ∷ rest)))))) rest = record {
      tree = node (there (there (there (there (there (there (there (there (there (there (there (here (node (pair (leaf (token (reserved_text w.Keyexists) (classes.Reserved w.Keyexists) k.at)) (pair (leaf (token (40 ∷ []) (classes.Symbol LeftParen) t.at)) (pair (t.tree) (pair (leaf (token (44 ∷ []) (classes.Symbol Comma) u.at)) (pair (u.tree) (pair (leaf (token (41 ∷ []) (classes.Symbol RightParen) c.at)) empty)))))))))))))))))));
      here = c.here;
      is_of = ((((((((((((refl, (refl, (t.is_of, (refl, (u.is_of, (refl, tt)))))), refl), refl), refl), refl), refl), refl), refl), refl), refl), refl), refl);
      begins = join place _ _ _ k.here (40 ∷ (expr_text names e ++ (44 ∷ 32 ∷ (expr_text names f ++ (41 ∷ rest))))) c.here rest k.begins (join _ _ _ _ t.here (44 ∷ 32 ∷ (expr_text names f ++ (41 ∷ rest))) c.here rest t.begins (join _ _ _ _ u.here (41 ∷ rest) c.here rest u.begins c.begins));
      same = (λ j. two blank_at key_exists (t.same j) (u.same j));
      grows = (let g1 = t.grows in let g2 = u.grows in omega arith);
      opens = (record { unlet = record { fair = record { iter = refl; zip = refl; bars = refl; bar = refl }; unlet = refl }; minus = refl; bang = refl });
    } in
    repost q (primary_as_post whole (λ h. refl) refl)

pub len_reads : (names : List ℕ) (a : At) (e : ExprTree) → Reads names e → AsPost names (one a len e)
len_reads names m e x s n a i place rest st =
    let k = one_token place (reserved_lexeme w.Len (40 ∷ (expr_text names e ++ (41 ∷ rest))) refl) in
    let t = first_arg names e x s n a i k.here (41 ∷ rest) refl in
    let c = one_token t.here (right_paren rest) in
    let q : expr_text names (one m len e) ++ rest ≡ reserved_text w.Len ++ (40 ∷ (expr_text names e ++ (41 ∷ rest))) = simp append_assoc in
    let whole : Read r.Primary primary_of Plain (one m len e) s n place (reserved_text w.Len ++ (40 ∷ (expr_text names e ++ (41 ∷ rest)))) rest = record {
      tree = node (there (there (there (there (there (there (there (there (there (there (there (there (here (node (pair (leaf (token (reserved_text w.Len) (classes.Reserved w.Len) k.at)) (pair (leaf (token (40 ∷ []) (classes.Symbol LeftParen) t.at)) (pair (t.tree) (pair (leaf (token (41 ∷ []) (classes.Symbol RightParen) c.at)) empty))))))))))))))))));
      here = c.here;
      is_of = (((((((((((((refl, (refl, (t.is_of, (refl, tt)))), refl), refl), refl), refl), refl), refl), refl), refl), refl), refl), refl), refl);
      begins = join place _ _ _ k.here (40 ∷ (expr_text names e ++ (41 ∷ rest))) c.here rest k.begins (join _ _ _ _ t.here (41 ∷ rest) c.here rest t.begins c.begins);
      same = (λ j. one blank_at len (t.same j));
      grows = t.grows;
      opens = (record { unlet = record { fair = record { iter = refl; zip = refl; bars = refl; bar = refl }; unlet = refl }; minus = refl; bang = refl });
    } in
    repost q (primary_as_post whole (λ h. refl) refl)

pub slice_reads : (names : List ℕ) (a : At) (e f g : ExprTree) → Reads names e → Reads names f → Reads names g → AsPost names (three a slice e f g)
slice_reads names m e f g x y z s n a i place rest st =
    let k = one_token place (reserved_lexeme w.Slice (40 ∷ (expr_text names e ++ (44 ∷ 32 ∷ (expr_text names f ++ (44 ∷ 32 ∷ (expr_text names g ++ (41 ∷ rest))))))) refl) in
    let t = first_arg names e x s n a i.0 k.here (44 ∷ 32 ∷ (expr_text names f ++ (44 ∷ 32 ∷ (expr_text names g ++ (41 ∷ rest))))) refl in
    let n1 = (expr_of t.tree s.bounds n).next in
    let a1 = agrees_more names s n n1 t.grows a in
    let u = next_arg names f y s n1 a1 i.1 t.here (44 ∷ 32 ∷ (expr_text names g ++ (41 ∷ rest))) refl in
    let n2 = (expr_of u.tree s.bounds n1).next in
    let a2 = agrees_more names s n1 n2 u.grows a1 in
    let v = next_arg names g z s n2 a2 i.2 u.here (41 ∷ rest) refl in
    let c = one_token v.here (right_paren rest) in
    let q : expr_text names (three m slice e f g) ++ rest ≡ reserved_text w.Slice ++ (40 ∷ (expr_text names e ++ (44 ∷ 32 ∷ (expr_text names f ++ (44 ∷ 32 ∷ (expr_text names g ++ (41 ∷ rest))))))) = simp append_assoc in
    let whole : Read r.Primary primary_of Plain (three m slice e f g) s n place (reserved_text w.Slice ++ (40 ∷ (expr_text names e ++ (44 ∷ 32 ∷ (expr_text names f ++ (44 ∷ 32 ∷ (expr_text names g ++ (41 ∷ rest)))))))) rest = record {
      tree = node (there (there (there (there (there (there (there (there (there (there (there (there (there (here (node (pair (leaf (token (reserved_text w.Slice) (classes.Reserved w.Slice) k.at)) (pair (leaf (token (40 ∷ []) (classes.Symbol LeftParen) t.at)) (pair (t.tree) (pair (leaf (token (44 ∷ []) (classes.Symbol Comma) u.at)) (pair (u.tree) (pair (leaf (token (44 ∷ []) (classes.Symbol Comma) v.at)) (pair (v.tree) (pair (leaf (token (41 ∷ []) (classes.Symbol RightParen) c.at)) empty)))))))))))))))))))))));
      here = c.here;
      is_of = ((((((((((((((refl, (refl, (t.is_of, (refl, (u.is_of, (refl, (v.is_of, (refl, tt)))))))), refl), refl), refl), refl), refl), refl), refl), refl), refl), refl), refl), refl), refl);
      begins = join place _ _ _ k.here (40 ∷ (expr_text names e ++ (44 ∷ 32 ∷ (expr_text names f ++ (44 ∷ 32 ∷ (expr_text names g ++ (41 ∷ rest))))))) c.here rest k.begins (join _ _ _ _ t.here (44 ∷ 32 ∷ (expr_text names f ++ (44 ∷ 32 ∷ (expr_text names g ++ (41 ∷ rest))))) c.here rest t.begins (join _ _ _ _ u.here (44 ∷ 32 ∷ (expr_text names g ++ (41 ∷ rest))) c.here rest u.begins (join _ _ _ _ v.here (41 ∷ rest) c.here rest v.begins c.begins)));
      same = (λ j. three blank_at slice (t.same j) (u.same j) (v.same j));
      grows = (let g1 = t.grows in let g2 = u.grows in let g3 = v.grows in omega arith);
      opens = (record { unlet = record { fair = record { iter = refl; zip = refl; bars = refl; bar = refl }; unlet = refl }; minus = refl; bang = refl });
    } in
    repost q (primary_as_post whole (λ h. refl) refl)

pub merge_reads : (names : List ℕ) (a : At) (e f : ExprTree) → Reads names e → Reads names f → AsPost names (two a merge e f)
merge_reads names m e f x y s n a i place rest st =
    let k = one_token place (reserved_lexeme w.Merge (40 ∷ (expr_text names e ++ (44 ∷ 32 ∷ (expr_text names f ++ (41 ∷ rest))))) refl) in
    let t = first_arg names e x s n a i.0 k.here (44 ∷ 32 ∷ (expr_text names f ++ (41 ∷ rest))) refl in
    let n1 = (expr_of t.tree s.bounds n).next in
    let a1 = agrees_more names s n n1 t.grows a in
    let u = next_arg names f y s n1 a1 i.1 t.here (41 ∷ rest) refl in
    let c = one_token u.here (right_paren rest) in
    let q : expr_text names (two m merge e f) ++ rest ≡ reserved_text w.Merge ++ (40 ∷ (expr_text names e ++ (44 ∷ 32 ∷ (expr_text names f ++ (41 ∷ rest))))) = simp append_assoc in
    let whole : Read r.Primary primary_of Plain (two m merge e f) s n place (reserved_text w.Merge ++ (40 ∷ (expr_text names e ++ (44 ∷ 32 ∷ (expr_text names f ++ (41 ∷ rest)))))) rest = record {
      tree = node (there (there (there (there (there (there (there (there (there (there (there (there (there (there (here (node (pair (leaf (token (reserved_text w.Merge) (classes.Reserved w.Merge) k.at)) (pair (leaf (token (40 ∷ []) (classes.Symbol LeftParen) t.at)) (pair (t.tree) (pair (leaf (token (44 ∷ []) (classes.Symbol Comma) u.at)) (pair (u.tree) (pair (leaf (token (41 ∷ []) (classes.Symbol RightParen) c.at)) empty))))))))))))))))))))));
      here = c.here;
      is_of = (((((((((((((((refl, (refl, (t.is_of, (refl, (u.is_of, (refl, tt)))))), refl), refl), refl), refl), refl), refl), refl), refl), refl), refl), refl), refl), refl), refl);
      begins = join place _ _ _ k.here (40 ∷ (expr_text names e ++ (44 ∷ 32 ∷ (expr_text names f ++ (41 ∷ rest))))) c.here rest k.begins (join _ _ _ _ t.here (44 ∷ 32 ∷ (expr_text names f ++ (41 ∷ rest))) c.here rest t.begins (join _ _ _ _ u.here (41 ∷ rest) c.here rest u.begins c.begins));
      same = (λ j. two blank_at merge (t.same j) (u.same j));
      grows = (let g1 = t.grows in let g2 = u.grows in omega arith);
      opens = (record { unlet = record { fair = record { iter = refl; zip = refl; bars = refl; bar = refl }; unlet = refl }; minus = refl; bang = refl });
    } in
    repost q (primary_as_post whole (λ h. refl) refl)

pub finish_reads : (names : List ℕ) (a : At) (e : ExprTree) → Reads names e → AsPost names (one a finish e)
finish_reads names m e x s n a i place rest st =
    let k = one_token place (reserved_lexeme w.Result (40 ∷ (expr_text names e ++ (41 ∷ rest))) refl) in
    let t = first_arg names e x s n a i k.here (41 ∷ rest) refl in
    let c = one_token t.here (right_paren rest) in
    let q : expr_text names (one m finish e) ++ rest ≡ reserved_text w.Result ++ (40 ∷ (expr_text names e ++ (41 ∷ rest))) = simp append_assoc in
    let whole : Read r.Primary primary_of Plain (one m finish e) s n place (reserved_text w.Result ++ (40 ∷ (expr_text names e ++ (41 ∷ rest)))) rest = record {
      tree = node (there (there (there (there (there (there (there (there (there (there (there (there (there (there (there (here (node (pair (leaf (token (reserved_text w.Result) (classes.Reserved w.Result) k.at)) (pair (leaf (token (40 ∷ []) (classes.Symbol LeftParen) t.at)) (pair (t.tree) (pair (leaf (token (41 ∷ []) (classes.Symbol RightParen) c.at)) empty)))))))))))))))))))));
      here = c.here;
      is_of = ((((((((((((((((refl, (refl, (t.is_of, (refl, tt)))), refl), refl), refl), refl), refl), refl), refl), refl), refl), refl), refl), refl), refl), refl), refl);
      begins = join place _ _ _ k.here (40 ∷ (expr_text names e ++ (41 ∷ rest))) c.here rest k.begins (join _ _ _ _ t.here (41 ∷ rest) c.here rest t.begins c.begins);
      same = (λ j. one blank_at finish (t.same j));
      grows = t.grows;
      opens = (record { unlet = record { fair = record { iter = refl; zip = refl; bars = refl; bar = refl }; unlet = refl }; minus = refl; bang = refl });
    } in
    repost q (primary_as_post whole (λ h. refl) refl)

pub cast_reads : (names : List ℕ) (a : At) (k : Kind) (e : ExprTree) → IsInteger k → Reads names e → AsPost names (one a (cast k) e)
cast_reads names m kinds.Bool e h x s n a i place rest st = absurd h
cast_reads names m kinds.I8 e h x s n a i place rest st =
    let k = one_token place (reserved_lexeme w.I8 (40 ∷ (expr_text names e ++ (41 ∷ rest))) refl) in
    let t = first_arg names e x s n a i k.here (41 ∷ rest) refl in
    let c = one_token t.here (right_paren rest) in
    let q : expr_text names (one m (cast kinds.I8) e) ++ rest ≡ reserved_text w.I8 ++ (40 ∷ (expr_text names e ++ (41 ∷ rest))) = simp append_assoc in
    let whole : Read r.Primary primary_of Plain (one m (cast kinds.I8) e) s n place (reserved_text w.I8 ++ (40 ∷ (expr_text names e ++ (41 ∷ rest)))) rest = record {
      tree = node (there (there (there (there (there (there (there (there (there (there (there (there (there (there (there (there (there (there (here (node (pair (node (here (leaf (token (reserved_text w.I8) (classes.Reserved w.I8) k.at)))) (pair (leaf (token (40 ∷ []) (classes.Symbol LeftParen) t.at)) (pair (t.tree) (pair (leaf (token (41 ∷ []) (classes.Symbol RightParen) c.at)) empty))))))))))))))))))))))));
      here = c.here;
      is_of = (((((((((((((((((((refl, (refl, (t.is_of, (refl, tt)))), refl), refl), refl), refl), refl), refl), refl), refl), refl), refl), refl), refl), refl), refl), refl), refl), refl), refl);
      begins = join place _ _ _ k.here (40 ∷ (expr_text names e ++ (41 ∷ rest))) c.here rest k.begins (join _ _ _ _ t.here (41 ∷ rest) c.here rest t.begins c.begins);
      same = (λ j. one blank_at (cast kinds.I8) (t.same j));
      grows = t.grows;
      opens = (record { unlet = record { fair = record { iter = refl; zip = refl; bars = refl; bar = refl }; unlet = refl }; minus = refl; bang = refl });
    } in
    repost q (primary_as_post whole (λ h. refl) refl)
cast_reads names m kinds.I16 e h x s n a i place rest st =
    let k = one_token place (reserved_lexeme w.I16 (40 ∷ (expr_text names e ++ (41 ∷ rest))) refl) in
    let t = first_arg names e x s n a i k.here (41 ∷ rest) refl in
    let c = one_token t.here (right_paren rest) in
    let q : expr_text names (one m (cast kinds.I16) e) ++ rest ≡ reserved_text w.I16 ++ (40 ∷ (expr_text names e ++ (41 ∷ rest))) = simp append_assoc in
    let whole : Read r.Primary primary_of Plain (one m (cast kinds.I16) e) s n place (reserved_text w.I16 ++ (40 ∷ (expr_text names e ++ (41 ∷ rest)))) rest = record {
      tree = node (there (there (there (there (there (there (there (there (there (there (there (there (there (there (there (there (there (there (here (node (pair (node (there (here (leaf (token (reserved_text w.I16) (classes.Reserved w.I16) k.at))))) (pair (leaf (token (40 ∷ []) (classes.Symbol LeftParen) t.at)) (pair (t.tree) (pair (leaf (token (41 ∷ []) (classes.Symbol RightParen) c.at)) empty))))))))))))))))))))))));
      here = c.here;
      is_of = ((((((((((((((((((((refl, refl), (refl, (t.is_of, (refl, tt)))), refl), refl), refl), refl), refl), refl), refl), refl), refl), refl), refl), refl), refl), refl), refl), refl), refl), refl);
      begins = join place _ _ _ k.here (40 ∷ (expr_text names e ++ (41 ∷ rest))) c.here rest k.begins (join _ _ _ _ t.here (41 ∷ rest) c.here rest t.begins c.begins);
      same = (λ j. one blank_at (cast kinds.I16) (t.same j));
      grows = t.grows;
      opens = (record { unlet = record { fair = record { iter = refl; zip = refl; bars = refl; bar = refl }; unlet = refl }; minus = refl; bang = refl });
    } in
    repost q (primary_as_post whole (λ h. refl) refl)
cast_reads names m kinds.I32 e h x s n a i place rest st =
    let k = one_token place (reserved_lexeme w.I32 (40 ∷ (expr_text names e ++ (41 ∷ rest))) refl) in
    let t = first_arg names e x s n a i k.here (41 ∷ rest) refl in
    let c = one_token t.here (right_paren rest) in
    let q : expr_text names (one m (cast kinds.I32) e) ++ rest ≡ reserved_text w.I32 ++ (40 ∷ (expr_text names e ++ (41 ∷ rest))) = simp append_assoc in
    let whole : Read r.Primary primary_of Plain (one m (cast kinds.I32) e) s n place (reserved_text w.I32 ++ (40 ∷ (expr_text names e ++ (41 ∷ rest)))) rest = record {
      tree = node (there (there (there (there (there (there (there (there (there (there (there (there (there (there (there (there (there (there (here (node (pair (node (there (there (here (leaf (token (reserved_text w.I32) (classes.Reserved w.I32) k.at)))))) (pair (leaf (token (40 ∷ []) (classes.Symbol LeftParen) t.at)) (pair (t.tree) (pair (leaf (token (41 ∷ []) (classes.Symbol RightParen) c.at)) empty))))))))))))))))))))))));
      here = c.here;
      is_of = (((((((((((((((((((((refl, refl), refl), (refl, (t.is_of, (refl, tt)))), refl), refl), refl), refl), refl), refl), refl), refl), refl), refl), refl), refl), refl), refl), refl), refl), refl), refl);
      begins = join place _ _ _ k.here (40 ∷ (expr_text names e ++ (41 ∷ rest))) c.here rest k.begins (join _ _ _ _ t.here (41 ∷ rest) c.here rest t.begins c.begins);
      same = (λ j. one blank_at (cast kinds.I32) (t.same j));
      grows = t.grows;
      opens = (record { unlet = record { fair = record { iter = refl; zip = refl; bars = refl; bar = refl }; unlet = refl }; minus = refl; bang = refl });
    } in
    repost q (primary_as_post whole (λ h. refl) refl)
cast_reads names m kinds.I64 e h x s n a i place rest st =
    let k = one_token place (reserved_lexeme w.I64 (40 ∷ (expr_text names e ++ (41 ∷ rest))) refl) in
    let t = first_arg names e x s n a i k.here (41 ∷ rest) refl in
    let c = one_token t.here (right_paren rest) in
    let q : expr_text names (one m (cast kinds.I64) e) ++ rest ≡ reserved_text w.I64 ++ (40 ∷ (expr_text names e ++ (41 ∷ rest))) = simp append_assoc in
    let whole : Read r.Primary primary_of Plain (one m (cast kinds.I64) e) s n place (reserved_text w.I64 ++ (40 ∷ (expr_text names e ++ (41 ∷ rest)))) rest = record {
      tree = node (there (there (there (there (there (there (there (there (there (there (there (there (there (there (there (there (there (there (here (node (pair (node (there (there (there (here (leaf (token (reserved_text w.I64) (classes.Reserved w.I64) k.at))))))) (pair (leaf (token (40 ∷ []) (classes.Symbol LeftParen) t.at)) (pair (t.tree) (pair (leaf (token (41 ∷ []) (classes.Symbol RightParen) c.at)) empty))))))))))))))))))))))));
      here = c.here;
      is_of = ((((((((((((((((((((((refl, refl), refl), refl), (refl, (t.is_of, (refl, tt)))), refl), refl), refl), refl), refl), refl), refl), refl), refl), refl), refl), refl), refl), refl), refl), refl), refl), refl);
      begins = join place _ _ _ k.here (40 ∷ (expr_text names e ++ (41 ∷ rest))) c.here rest k.begins (join _ _ _ _ t.here (41 ∷ rest) c.here rest t.begins c.begins);
      same = (λ j. one blank_at (cast kinds.I64) (t.same j));
      grows = t.grows;
      opens = (record { unlet = record { fair = record { iter = refl; zip = refl; bars = refl; bar = refl }; unlet = refl }; minus = refl; bang = refl });
    } in
    repost q (primary_as_post whole (λ h. refl) refl)
cast_reads names m kinds.U8 e h x s n a i place rest st =
    let k = one_token place (reserved_lexeme w.U8 (40 ∷ (expr_text names e ++ (41 ∷ rest))) refl) in
    let t = first_arg names e x s n a i k.here (41 ∷ rest) refl in
    let c = one_token t.here (right_paren rest) in
    let q : expr_text names (one m (cast kinds.U8) e) ++ rest ≡ reserved_text w.U8 ++ (40 ∷ (expr_text names e ++ (41 ∷ rest))) = simp append_assoc in
    let whole : Read r.Primary primary_of Plain (one m (cast kinds.U8) e) s n place (reserved_text w.U8 ++ (40 ∷ (expr_text names e ++ (41 ∷ rest)))) rest = record {
      tree = node (there (there (there (there (there (there (there (there (there (there (there (there (there (there (there (there (there (there (here (node (pair (node (there (there (there (there (here (leaf (token (reserved_text w.U8) (classes.Reserved w.U8) k.at)))))))) (pair (leaf (token (40 ∷ []) (classes.Symbol LeftParen) t.at)) (pair (t.tree) (pair (leaf (token (41 ∷ []) (classes.Symbol RightParen) c.at)) empty))))))))))))))))))))))));
      here = c.here;
      is_of = (((((((((((((((((((((((refl, refl), refl), refl), refl), (refl, (t.is_of, (refl, tt)))), refl), refl), refl), refl), refl), refl), refl), refl), refl), refl), refl), refl), refl), refl), refl), refl), refl), refl);
      begins = join place _ _ _ k.here (40 ∷ (expr_text names e ++ (41 ∷ rest))) c.here rest k.begins (join _ _ _ _ t.here (41 ∷ rest) c.here rest t.begins c.begins);
      same = (λ j. one blank_at (cast kinds.U8) (t.same j));
      grows = t.grows;
      opens = (record { unlet = record { fair = record { iter = refl; zip = refl; bars = refl; bar = refl }; unlet = refl }; minus = refl; bang = refl });
    } in
    repost q (primary_as_post whole (λ h. refl) refl)
cast_reads names m kinds.U16 e h x s n a i place rest st =
    let k = one_token place (reserved_lexeme w.U16 (40 ∷ (expr_text names e ++ (41 ∷ rest))) refl) in
    let t = first_arg names e x s n a i k.here (41 ∷ rest) refl in
    let c = one_token t.here (right_paren rest) in
    let q : expr_text names (one m (cast kinds.U16) e) ++ rest ≡ reserved_text w.U16 ++ (40 ∷ (expr_text names e ++ (41 ∷ rest))) = simp append_assoc in
    let whole : Read r.Primary primary_of Plain (one m (cast kinds.U16) e) s n place (reserved_text w.U16 ++ (40 ∷ (expr_text names e ++ (41 ∷ rest)))) rest = record {
      tree = node (there (there (there (there (there (there (there (there (there (there (there (there (there (there (there (there (there (there (here (node (pair (node (there (there (there (there (there (here (leaf (token (reserved_text w.U16) (classes.Reserved w.U16) k.at))))))))) (pair (leaf (token (40 ∷ []) (classes.Symbol LeftParen) t.at)) (pair (t.tree) (pair (leaf (token (41 ∷ []) (classes.Symbol RightParen) c.at)) empty))))))))))))))))))))))));
      here = c.here;
      is_of = ((((((((((((((((((((((((refl, refl), refl), refl), refl), refl), (refl, (t.is_of, (refl, tt)))), refl), refl), refl), refl), refl), refl), refl), refl), refl), refl), refl), refl), refl), refl), refl), refl), refl), refl);
      begins = join place _ _ _ k.here (40 ∷ (expr_text names e ++ (41 ∷ rest))) c.here rest k.begins (join _ _ _ _ t.here (41 ∷ rest) c.here rest t.begins c.begins);
      same = (λ j. one blank_at (cast kinds.U16) (t.same j));
      grows = t.grows;
      opens = (record { unlet = record { fair = record { iter = refl; zip = refl; bars = refl; bar = refl }; unlet = refl }; minus = refl; bang = refl });
    } in
    repost q (primary_as_post whole (λ h. refl) refl)
cast_reads names m kinds.U32 e h x s n a i place rest st =
    let k = one_token place (reserved_lexeme w.U32 (40 ∷ (expr_text names e ++ (41 ∷ rest))) refl) in
    let t = first_arg names e x s n a i k.here (41 ∷ rest) refl in
    let c = one_token t.here (right_paren rest) in
    let q : expr_text names (one m (cast kinds.U32) e) ++ rest ≡ reserved_text w.U32 ++ (40 ∷ (expr_text names e ++ (41 ∷ rest))) = simp append_assoc in
    let whole : Read r.Primary primary_of Plain (one m (cast kinds.U32) e) s n place (reserved_text w.U32 ++ (40 ∷ (expr_text names e ++ (41 ∷ rest)))) rest = record {
      tree = node (there (there (there (there (there (there (there (there (there (there (there (there (there (there (there (there (there (there (here (node (pair (node (there (there (there (there (there (there (here (leaf (token (reserved_text w.U32) (classes.Reserved w.U32) k.at)))))))))) (pair (leaf (token (40 ∷ []) (classes.Symbol LeftParen) t.at)) (pair (t.tree) (pair (leaf (token (41 ∷ []) (classes.Symbol RightParen) c.at)) empty))))))))))))))))))))))));
      here = c.here;
      is_of = (((((((((((((((((((((((((refl, refl), refl), refl), refl), refl), refl), (refl, (t.is_of, (refl, tt)))), refl), refl), refl), refl), refl), refl), refl), refl), refl), refl), refl), refl), refl), refl), refl), refl), refl), refl);
      begins = join place _ _ _ k.here (40 ∷ (expr_text names e ++ (41 ∷ rest))) c.here rest k.begins (join _ _ _ _ t.here (41 ∷ rest) c.here rest t.begins c.begins);
      same = (λ j. one blank_at (cast kinds.U32) (t.same j));
      grows = t.grows;
      opens = (record { unlet = record { fair = record { iter = refl; zip = refl; bars = refl; bar = refl }; unlet = refl }; minus = refl; bang = refl });
    } in
    repost q (primary_as_post whole (λ h. refl) refl)
cast_reads names m kinds.U64 e h x s n a i place rest st =
    let k = one_token place (reserved_lexeme w.U64 (40 ∷ (expr_text names e ++ (41 ∷ rest))) refl) in
    let t = first_arg names e x s n a i k.here (41 ∷ rest) refl in
    let c = one_token t.here (right_paren rest) in
    let q : expr_text names (one m (cast kinds.U64) e) ++ rest ≡ reserved_text w.U64 ++ (40 ∷ (expr_text names e ++ (41 ∷ rest))) = simp append_assoc in
    let whole : Read r.Primary primary_of Plain (one m (cast kinds.U64) e) s n place (reserved_text w.U64 ++ (40 ∷ (expr_text names e ++ (41 ∷ rest)))) rest = record {
      tree = node (there (there (there (there (there (there (there (there (there (there (there (there (there (there (there (there (there (there (here (node (pair (node (there (there (there (there (there (there (there (here (leaf (token (reserved_text w.U64) (classes.Reserved w.U64) k.at))))))))))) (pair (leaf (token (40 ∷ []) (classes.Symbol LeftParen) t.at)) (pair (t.tree) (pair (leaf (token (41 ∷ []) (classes.Symbol RightParen) c.at)) empty))))))))))))))))))))))));
      here = c.here;
      is_of = ((((((((((((((((((((((((((refl, refl), refl), refl), refl), refl), refl), refl), (refl, (t.is_of, (refl, tt)))), refl), refl), refl), refl), refl), refl), refl), refl), refl), refl), refl), refl), refl), refl), refl), refl), refl), refl);
      begins = join place _ _ _ k.here (40 ∷ (expr_text names e ++ (41 ∷ rest))) c.here rest k.begins (join _ _ _ _ t.here (41 ∷ rest) c.here rest t.begins c.begins);
      same = (λ j. one blank_at (cast kinds.U64) (t.same j));
      grows = t.grows;
      opens = (record { unlet = record { fair = record { iter = refl; zip = refl; bars = refl; bar = refl }; unlet = refl }; minus = refl; bang = refl });
    } in
    repost q (primary_as_post whole (λ h. refl) refl)
