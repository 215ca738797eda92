-- Expressions that bind names, lists of expressions and legs, and all expressions, read from their printed text.
use Rattle.std.proofs.Common.{◌≡◌, ℕ, ◌+◌, ◌<◌, ◌≤◌, ◌^◌, Option, Some, None, List, [], ◌∷◌, ◌++◌, refl, sym, ap, subst, append_assoc, append-nil, arith, codes}
use Rattle.weld_tree.specs.declared.place.Place.{Place}
use Rattle.weld_tree.specs.declared.binder.Binder.{Binder}
use Rattle.weld_tree.specs.TypeTree.{TypeTree}
use Rattle.weld_tree.specs.ExprTree.{ExprTree, ExprTrees, At, many, let_in, iterate, no_exprs, more_exprs, make_vec, make_struct}
use Rattle.weld_tree.specs.Program.{AreScoped}
use Rattle.weld_tree.specs.Blank.{bare_all, blank_at, blank_binder, distance}
use Rattle.weld_grammar.specs.declared.terminals.class.Class.TheVariants as classes
use Rattle.weld_grammar.specs.declared.terminals.symbol.Symbol.TheVariants.{LeftParen, RightParen, LeftBracket, RightBracket, LeftBrace, RightBrace, Comma, Semicolon, Colon, Bar, Equals}
use Rattle.weld_grammar.specs.declared.terminals.reserved.Reserved.TheVariants as w
use Rattle.weld_grammar.specs.declared.terminals.token.Token.{Token}
use Rattle.weld_grammar.specs.ReservedWords.{reserved_text}
use Rattle.weld_tokens.specs.Tokens.{next_place}
use Rattle.weld_grammar.specs.declared.rule.Rule.TheVariants as r
use Rattle.weld_grammar.specs.declared.item.Item.TheVariants.{Optional, Repeated}
use Rattle.weld_grammar.specs.Grammar.{item}
use Rattle.weld_grammar.specs.Derivation.{Tree, leaf, node, empty, pair, here, there, yield, IsOf}
use Rattle.weld_spell.specs.Seen.{seen}
use Rattle.weld_spell.specs.ProgramOf.{expr_of, or_of, primary_of}
use Rattle.weld_print.specs.TypeText.{type_text}
use Rattle.weld_print.specs.Operands.{value_in_parens}
use Rattle.weld_print.specs.PrintText.{name_text, note_text, parens, expr_text, exprs_text}
use Rattle.std.specs.Prelude.{false}
use Rattle.weld_spell.specs.Names.{none as no_binding}
use Rattle.weld_print.proofs.Sound.{Sound, words, type_sound}
use Rattle.weld_print.specs.Spellable.{NoteIsSpellable}
use Rattle.weld_print.proofs.Lexemes.{Stops, reserved_lexeme, name_lexeme}
use Rattle.weld_print.proofs.Symbols.{right_paren, left_bracket, right_bracket, left_brace, right_brace, comma, semicolon, colon, bar, equals}
use Rattle.weld_print.proofs.Reading.{Run, none, token, join, OneToken, one_token, one_spaced}
use Rattle.weld_print.proofs.ReadsBackTypes.{type_reads}
use Rattle.weld_print.proofs.Scenes.{Scene, Agrees, agrees_more, bind, agrees_bind}
use Rattle.weld_print.proofs.Levels.{Plain, Read}
use Rattle.weld_print.proofs.Forms.{AsExpr, AsPost, Reads, reexpr, repost, expr_spaced, or_spaced, primary_as_post, value_read, first_arg, next_arg}
use Rattle.weld_print.proofs.Reading.{Run, none, tokens_spaced}
use Rattle.weld_spell.specs.ProgramOf.{note_of, binder_of, next_exprs_of}

-- ---- binders

-- the printed names of these numbers are of few digits
abbrev pub AreSmall : List ℕ → List ℕ → Type 0
AreSmall names [] = Unit {0}
AreSmall names (t ∷ ts) = (distance names t < 2 ^ 64) × AreSmall names ts

pub small_left : (names xs ys : List ℕ) → AreSmall names (xs ++ ys) → AreSmall names xs
small_left names [] ys h = tt
small_left names (x ∷ xs) ys h = (h.0, small_left names xs ys h.1)

pub small_right : (names xs ys : List ℕ) → AreSmall names (xs ++ ys) → AreSmall names ys
small_right names [] ys h = h
small_right names (x ∷ xs) ys h = small_right names xs ys h.1

-- numbers are printed apart
abbrev pub AreApart : List ℕ → Type 0
AreApart names = (s t : ℕ) → distance names s ≡ distance names t → s ≡ t

-- a note, where there is one
pub record NoteRead (note : Option TypeTree) (place : Place) (text rest : List ℕ) : Type 0 where
  pub tree : Tree Token
  pub here : Place
  pub is_of : (zs : List (List ℕ)) → Sound false no_binding (item (Optional r.Note)) tree zs
  pub value : note_of tree ≡ note
  pub begins : Run place text (yield tree) here rest

pub note_stops : (note : Option TypeTree) (rest : List ℕ) → Stops rest → Stops (note_text note ++ rest)
note_stops None rest st = st
note_stops (Some t) rest st = refl

pub note_read : (note : Option TypeTree) → NoteIsSpellable note → (place : Place) (rest : List ℕ) → Stops rest → NoteRead note place (note_text note ++ rest) rest
note_read None h place rest st = record { tree = empty; here = place; is_of = λ zs. tt; value = refl; begins = none }
note_read (Some t) h place rest st =
    let behind = type_text t ++ rest in
    let c = one_token place (colon (32 ∷ behind)) in
    let x = type_reads t h (next_place c.here 32) rest st in
    let y = tokens_spaced c.here behind (yield x.tree) x.here rest x.some x.begins in
    record {
      tree = here (node (pair (leaf (token (58 ∷ []) (classes.Symbol Colon) c.at)) (pair (x.tree) empty)));
      here = x.here;
      is_of = λ zs. (refl, (type_sound x.tree zs x.is_of, tt));
      value = ap (λ (u : TypeTree). Some u) x.value;
      begins = join place (58 ∷ 32 ∷ behind) _ _ c.here (32 ∷ behind) x.here rest c.begins (subst (λ (ts : List Token). Run c.here (32 ∷ behind) ts x.here rest) (sym (append-nil (yield x.tree))) y);
    }

-- a name where it is bound
pub record BinderRead (names : List ℕ) (b : Binder) (place : Place) (text rest : List ℕ) : Type 0 where
  pub at : Place
  pub note : Tree Token
  pub here : Place
  pub is_of : (zs : List (List ℕ)) → Sound false no_binding (item (Optional r.Note)) note zs
  pub value : note_of note ≡ b.note
  pub begins : Run place text (token (name_text names b.sym.0) classes.Name at ∷ yield note) here rest

binder_by : (names : List ℕ) (b : Binder) → NoteIsSpellable b.note → (place : Place) (text rest : List ℕ) → Stops rest → OneToken place (name_text names b.sym.0) classes.Name text (note_text b.note ++ rest) → BinderRead names b place text rest
binder_by names b h place text rest st t =
    let x = note_read b.note h t.here rest st in
    record { at = t.at; note = x.tree; here = x.here; is_of = x.is_of; value = x.value; begins = join place text _ (yield x.tree) t.here (note_text b.note ++ rest) x.here rest t.begins x.begins }

pub binder_read : (names : List ℕ) (b : Binder) → NoteIsSpellable b.note → distance names b.sym.0 < 2 ^ 64 → (place : Place) (rest : List ℕ) → Stops rest → BinderRead names b place (name_text names b.sym.0 ++ (note_text b.note ++ rest)) rest
binder_read names b h small place rest st =
    binder_by names b h place _ rest st (one_token place (name_lexeme (distance names b.sym.0) (note_text b.note ++ rest) small (note_stops b.note rest st)))

pub binder_spaced : (names : List ℕ) (b : Binder) → NoteIsSpellable b.note → distance names b.sym.0 < 2 ^ 64 → (place : Place) (rest : List ℕ) → Stops rest → BinderRead names b place (32 ∷ (name_text names b.sym.0 ++ (note_text b.note ++ rest))) rest
binder_spaced names b h small place rest st =
    binder_by names b h place _ rest st (one_spaced place (name_lexeme (distance names b.sym.0) (note_text b.note ++ rest) small (note_stops b.note rest st)))

-- such a binder is the one it was printed from, up to places and its number
pub same_binder : (b : Binder) (w note : Tree Token) (n : ℕ) → note_of note ≡ b.note → blank_binder (binder_of w note n) ≡ blank_binder b
same_binder b w note n e = ap (λ (x : Option TypeTree). record { sym = record { 0 = 0 }; place = record { line = 0; column = 0 }; note = x; note_place = record { line = 0; column = 0 } }) e

-- ---- forms that bind names

-- texts one after another, however they are grouped
let_text : (k n t q v c f rest : List ℕ) → (k ++ (n ++ t) ++ q ++ v ++ c ++ f) ++ rest ≡ k ++ (n ++ (t ++ (q ++ (v ++ (c ++ (f ++ rest))))))
let_text k n t q v c f rest = simp append_assoc

iterate_text : (k e l n t m f z rest : List ℕ) → (k ++ e ++ l ++ (n ++ t) ++ m ++ f ++ z) ++ rest ≡ k ++ (e ++ (l ++ (n ++ (t ++ (m ++ (f ++ (z ++ rest)))))))
iterate_text k e l n t m f z rest = simp append_assoc

-- the tokens of a `let`
let_tokens : (k b : Token) (note : List Token) (q : Token) (v : List Token) (c : Token) (t : List Token) → (k ∷ []) ++ ((b ∷ note) ++ ((q ∷ []) ++ (v ++ ((c ∷ []) ++ t)))) ≡ k ∷ b ∷ (note ++ (q ∷ (v ++ (c ∷ (t ++ [])))))
let_tokens k b note q v c t = ap (λ (x : List Token). k ∷ b ∷ (note ++ (q ∷ (v ++ (c ∷ x))))) (sym (append-nil t))

-- the tokens of a lambda with one binder, and what stands before and behind it
lambda_tokens : (e : List Token) (c i b : Token) (note : List Token) (m : Token) (t : List Token) (z : Token) → e ++ ((c ∷ []) ++ ((i ∷ []) ++ ((b ∷ note) ++ ((m ∷ []) ++ (t ++ (z ∷ [])))))) ≡ e ++ (c ∷ i ∷ ((b ∷ (note ++ [])) ++ (m ∷ (t ++ (z ∷ [])))))
lambda_tokens e c i b note m t z = ap (λ (x : List Token). e ++ (c ∷ i ∷ b ∷ (x ++ (m ∷ (t ++ (z ∷ [])))))) (sym (append-nil note))

pub let_reads : (names : List ℕ) → AreApart names → (a : At) (b : Binder) (e f : ExprTree) → NoteIsSpellable b.note → distance names b.sym.0 < 2 ^ 64 → Reads names e → Reads names f → AsExpr names (let_in a b e f)
let_reads names apart a b e f h small x y s n g i place rest st =
    let body = expr_text names f ++ rest in
    let value = parens (value_in_parens e) (expr_text names e) ++ (59 ∷ 32 ∷ body) in
    let bind_text = name_text names b.sym.0 ++ (note_text b.note ++ (32 ∷ 61 ∷ 32 ∷ value)) in
    let text = reserved_text w.Let ++ (32 ∷ bind_text) in
    let k = one_token place (reserved_lexeme w.Let (32 ∷ bind_text) refl) in
    let d = binder_spaced names b h small k.here (32 ∷ 61 ∷ 32 ∷ value) refl in
    let q = one_spaced d.here (equals (32 ∷ value) refl) in
    let v = or_spaced (value_read names e (value_in_parens e) refl x s (n + 1) (agrees_more names s n (n + 1) (omega arith) g) i.0 (next_place q.here 32) (59 ∷ 32 ∷ body) refl) in
    let c = one_token v.here (semicolon (32 ∷ body)) in
    let m = (or_of v.tree s.bounds (n + 1)).next in
    let inner = bind names s b.sym.0 n in
    let t = expr_spaced (y.expr inner m (agrees_more names inner (n + 1) m v.grows (agrees_bind names s b.sym.0 n apart small g)) i.1 (next_place c.here 32) rest st) in
    let e1 : expr_text names (let_in a b e f) ++ rest ≡ text = let_text (codes "let ") (name_text names b.sym.0) (note_text b.note) (codes " = ") (parens (value_in_parens e) (expr_text names e)) (codes "; ") (expr_text names f) rest in
    let all = join place text _ _ k.here (32 ∷ bind_text) t.here rest k.begins (join k.here (32 ∷ bind_text) _ _ d.here (32 ∷ 61 ∷ 32 ∷ value) t.here rest d.begins (join d.here _ _ _ q.here (32 ∷ value) t.here rest q.begins (join q.here (32 ∷ value) (yield v.tree) _ v.here (59 ∷ 32 ∷ body) t.here rest v.begins (join v.here _ _ (yield t.tree) c.here (32 ∷ body) t.here rest c.begins t.begins)))) in
    reexpr e1 (record {
      tree = node (here (node (pair (leaf (token (reserved_text w.Let) (classes.Reserved w.Let) k.at)) (pair (leaf (token (name_text names b.sym.0) classes.Name d.at)) (pair (d.note) (pair (leaf (token (61 ∷ []) (classes.Symbol Equals) q.at)) (pair (v.tree) (pair (leaf (token (59 ∷ []) (classes.Symbol Semicolon) c.at)) (pair (t.tree) empty)))))))));
      here = t.here;
      is_of = (refl, (refl, (d.is_of (words s.bounds), (refl, (v.is_of, (refl, (t.is_of, tt)))))));
      begins = subst (λ (ts : List Token). Run place text ts t.here rest) (let_tokens _ _ (yield d.note) _ (yield v.tree) _ (yield t.tree)) all;
      same = (λ j. let_in blank_at (same_binder b (leaf (token (name_text names b.sym.0) classes.Name d.at)) d.note n d.value j) (v.same j) (t.same j));
      grows = (let g1 = v.grows in let g2 = t.grows in omega arith);
      opens = (record { iter = refl; zip = refl; bars = refl; bar = refl });
    })

pub iterate_reads : (names : List ℕ) → AreApart names → (a : At) (e : ExprTree) (b : Binder) (f : ExprTree) → NoteIsSpellable b.note → distance names b.sym.0 < 2 ^ 64 → Reads names e → Reads names f → AsPost names (iterate a e b f)
iterate_reads names apart a e b f h small x y s n g i place rest st =
    let body = expr_text names f ++ (41 ∷ rest) in
    let bind_text = name_text names b.sym.0 ++ (note_text b.note ++ (124 ∷ 32 ∷ body)) in
    let state = expr_text names e ++ (44 ∷ 32 ∷ 124 ∷ bind_text) in
    let text = reserved_text w.Iterate ++ (40 ∷ state) in
    let k = one_token place (reserved_lexeme w.Iterate (40 ∷ state) refl) in
    let t = first_arg names e x s n g i.0 k.here (44 ∷ 32 ∷ 124 ∷ bind_text) refl in
    let c = one_token t.here (comma (32 ∷ 124 ∷ bind_text)) in
    let l = one_spaced c.here (bar bind_text refl) in
    let d = binder_read names b h small l.here (124 ∷ 32 ∷ body) refl in
    let m = one_token d.here (bar (32 ∷ body) refl) in
    let n1 = (expr_of t.tree s.bounds n).next in
    let inner = bind names s b.sym.0 n1 in
    let u = expr_spaced (y.expr inner (n1 + 1) (agrees_bind names s b.sym.0 n1 apart small (agrees_more names s n n1 t.grows g)) i.1 (next_place m.here 32) (41 ∷ rest) refl) in
    let z = one_token u.here (right_paren rest) in
    let e1 : expr_text names (iterate a e b f) ++ rest ≡ text = iterate_text (codes "iterate(") (expr_text names e) (codes ", |") (name_text names b.sym.0) (note_text b.note) (codes "| ") (expr_text names f) (codes ")") rest in
    let last = join d.here (124 ∷ 32 ∷ body) _ _ m.here (32 ∷ body) z.here rest m.begins (join m.here (32 ∷ body) (yield u.tree) _ u.here (41 ∷ rest) z.here rest u.begins z.begins) in
    let lambda = join t.here _ _ _ c.here (32 ∷ 124 ∷ bind_text) z.here rest c.begins (join c.here _ _ _ l.here bind_text z.here rest l.begins (join l.here bind_text _ _ d.here (124 ∷ 32 ∷ body) z.here rest d.begins last)) in
    let all = join place text _ _ k.here (40 ∷ state) z.here rest k.begins (join k.here (40 ∷ state) _ _ t.here _ z.here rest t.begins lambda) in
    let whole : Read r.Primary primary_of Plain (iterate a e b f) s n place text rest = record {
      tree = node (there (there (there (there (there (there (there (there (there (there (there (there (there (there (there (there (there (here (node (pair (leaf (token (reserved_text w.Iterate) (classes.Reserved w.Iterate) k.at)) (pair (leaf (token (40 ∷ []) (classes.Symbol LeftParen) t.at)) (pair (t.tree) (pair (leaf (token (44 ∷ []) (classes.Symbol Comma) c.at)) (pair (leaf (token (124 ∷ []) (classes.Symbol Bar) l.at)) (pair (node (pair (leaf (token (name_text names b.sym.0) classes.Name d.at)) (pair (d.note) empty))) (pair (leaf (token (124 ∷ []) (classes.Symbol Bar) m.at)) (pair (u.tree) (pair (leaf (token (41 ∷ []) (classes.Symbol RightParen) z.at)) empty))))))))))))))))))))))))))));
      here = z.here;
      is_of = ((((((((((((((((((refl, (refl, (t.is_of, (refl, (refl, ((refl, (d.is_of (words s.bounds), tt)), (refl, (u.is_of, (refl, tt))))))))), refl), refl), refl), refl), refl), refl), refl), refl), refl), refl), refl), refl), refl), refl), refl), refl), refl);
      begins = subst (λ (ts : List Token). Run place text (token (reserved_text w.Iterate) (classes.Reserved w.Iterate) k.at ∷ token (40 ∷ []) (classes.Symbol LeftParen) t.at ∷ ts) z.here rest) (lambda_tokens (yield t.tree) _ _ _ (yield d.note) _ (yield u.tree) _) all;
      same = (λ j. iterate blank_at (t.same j) (same_binder b (leaf (token (name_text names b.sym.0) classes.Name d.at)) d.note n1 d.value j) (u.same j));
      grows = (let g1 = t.grows in let g2 = u.grows in omega arith);
      opens = (record { unlet = record { fair = record { iter = refl; zip = refl; bars = refl; bar = refl }; unlet = refl }; minus = refl; bang = refl });
    } in
    repost e1 (primary_as_post whole (λ h. refl) refl)

-- ---- expressions in order

pub record NextRead (es : ExprTrees) (s : Scene) (n : ℕ) (place : Place) (text rest : List ℕ) : Type 0 where
  pub tree : Tree Token
  pub here : Place
  pub is_of : Sound false no_binding (item (Repeated r.NextExpr)) tree (words s.bounds)
  pub begins : Run place text (yield tree) here rest
  pub same : bare_all (next_exprs_of tree s.bounds n).exprs s.numbers ≡ bare_all es s.scope
  pub grows : n ≤ (next_exprs_of tree s.bounds n).next

abbrev pub AsNext : List ℕ → ExprTrees → Type 0
AsNext names es = (s : Scene) (n : ℕ) → Agrees names s n → AreScoped es s.scope → (place : Place) (rest : List ℕ) → Stops rest → NextRead es s n place (exprs_text names (44 ∷ 32 ∷ []) es ++ rest) rest

renext : {es : ExprTrees} {s : Scene} {n : ℕ} {place : Place} {text other rest : List ℕ} → text ≡ other → NextRead es s n place other rest → NextRead es s n place text rest
renext {es} {s} {n} {place} {text} {other} {rest} q x = subst (λ (t : List ℕ). NextRead es s n place t rest) (sym q) x

next_stops : (names : List ℕ) (es : ExprTrees) (rest : List ℕ) → Stops rest → Stops (exprs_text names (44 ∷ 32 ∷ []) es ++ rest)
next_stops names no_exprs rest st = st
next_stops names (more_exprs e es) rest st = refl

-- the tokens of one more
next_tokens : (c : Token) (t us : List Token) → (c ∷ t) ++ us ≡ (c ∷ (t ++ [])) ++ us
next_tokens c t us = ap (λ (x : List Token). c ∷ (x ++ us)) (sym (append-nil t))

pub next_more : (names : List ℕ) (e : ExprTree) (es : ExprTrees) → Reads names e → AsNext names es → AsNext names (more_exprs e es)
next_more names e es x xs s n g i place rest st =
    let further = exprs_text names (44 ∷ 32 ∷ []) es ++ rest in
    let t = next_arg names e x s n g i.0 place further (next_stops names es rest st) in
    let n1 = (expr_of t.tree s.bounds n).next in
    let u = xs s n1 (agrees_more names s n n1 t.grows g) i.1 t.here rest st in
    let text = 44 ∷ 32 ∷ (expr_text names e ++ further) in
    let e1 : exprs_text names (44 ∷ 32 ∷ []) (more_exprs e es) ++ rest ≡ text = simp append_assoc in
    let all = join place text _ (yield u.tree) t.here further u.here rest t.begins u.begins in
    renext e1 (record {
      tree = pair (node (pair (leaf (token (44 ∷ []) (classes.Symbol Comma) t.at)) (pair (t.tree) empty))) u.tree;
      here = u.here;
      is_of = ((refl, (t.is_of, tt)), u.is_of);
      begins = subst (λ (ts : List Token). Run place text ts u.here rest) (next_tokens _ (yield t.tree) (yield u.tree)) all;
      same = (λ j. more_exprs (t.same j) (u.same j));
      grows = (let g1 = t.grows in let g2 = u.grows in omega arith);
    })

pub next_none : (names : List ℕ) → AsNext names no_exprs
next_none names s n g i place rest st = record { tree = empty; here = place; is_of = tt; begins = none; same = refl; grows = omega arith }

pub make_vec_reads : (names : List ℕ) (a : At) (e : ExprTree) (es : ExprTrees) → Reads names e → AsNext names es → AsPost names (many a make_vec (more_exprs e es))
make_vec_reads names a e es x xs s n g i place rest st =
    let further = exprs_text names (44 ∷ 32 ∷ []) es ++ (93 ∷ rest) in
    let inner = expr_text names e ++ further in
    let o = one_token place (left_bracket inner) in
    let t = x.expr s n g i.0 o.here further (next_stops names es (93 ∷ rest) refl) in
    let n1 = (expr_of t.tree s.bounds n).next in
    let u = xs s n1 (agrees_more names s n n1 t.grows g) i.1 t.here (93 ∷ rest) refl in
    let c = one_token u.here (right_bracket rest) in
    let e1 : expr_text names (many a make_vec (more_exprs e es)) ++ rest ≡ 91 ∷ inner = simp append_assoc in
    let all = join place (91 ∷ inner) _ _ o.here inner c.here rest o.begins (join o.here inner (yield t.tree) _ t.here further c.here rest t.begins (join t.here further (yield u.tree) _ u.here (93 ∷ rest) c.here rest u.begins c.begins)) in
    let whole : Read r.Primary primary_of Plain (many a make_vec (more_exprs e es)) s n place (91 ∷ inner) rest = record {
      tree = node (there (there (there (there (there (there (here (node (pair (leaf (token (91 ∷ []) (classes.Symbol LeftBracket) o.at)) (pair (t.tree) (pair (u.tree) (pair (leaf (token (93 ∷ []) (classes.Symbol RightBracket) c.at)) empty))))))))))));
      here = c.here;
      is_of = (((((((refl, (t.is_of, (u.is_of, (refl, tt)))), refl), refl), refl), refl), refl), refl);
      begins = all;
      same = (λ j. many blank_at make_vec (more_exprs (t.same j) (u.same j)));
      grows = (let g1 = t.grows in let g2 = u.grows in omega arith);
      opens = (record { unlet = record { fair = record { iter = refl; zip = refl; bars = refl; bar = refl }; unlet = refl }; minus = refl; bang = refl });
    } in
    repost e1 (primary_as_post whole (λ h. refl) refl)

pub make_struct_reads : (names : List ℕ) (a : At) (e : ExprTree) (es : ExprTrees) → Reads names e → AsNext names es → AsPost names (many a make_struct (more_exprs e es))
make_struct_reads names a e es x xs s n g i place rest st =
    let further = exprs_text names (44 ∷ 32 ∷ []) es ++ (125 ∷ rest) in
    let inner = expr_text names e ++ further in
    let o = one_token place (left_brace inner) in
    let t = x.expr s n g i.0 o.here further (next_stops names es (125 ∷ rest) refl) in
    let n1 = (expr_of t.tree s.bounds n).next in
    let u = xs s n1 (agrees_more names s n n1 t.grows g) i.1 t.here (125 ∷ rest) refl in
    let c = one_token u.here (right_brace rest) in
    let e1 : expr_text names (many a make_struct (more_exprs e es)) ++ rest ≡ 123 ∷ inner = simp append_assoc in
    let all = join place (123 ∷ inner) _ _ o.here inner c.here rest o.begins (join o.here inner (yield t.tree) _ t.here further c.here rest t.begins (join t.here further (yield u.tree) _ u.here (125 ∷ rest) c.here rest u.begins c.begins)) in
    let whole : Read r.Primary primary_of Plain (many a make_struct (more_exprs e es)) s n place (123 ∷ inner) rest = record {
      tree = node (there (there (there (there (there (there (there (here (node (pair (leaf (token (123 ∷ []) (classes.Symbol LeftBrace) o.at)) (pair (t.tree) (pair (u.tree) (pair (leaf (token (125 ∷ []) (classes.Symbol RightBrace) c.at)) empty)))))))))))));
      here = c.here;
      is_of = ((((((((refl, (t.is_of, (u.is_of, (refl, tt)))), refl), refl), refl), refl), refl), refl), refl);
      begins = all;
      same = (λ j. many blank_at make_struct (more_exprs (t.same j) (u.same j)));
      grows = (let g1 = t.grows in let g2 = u.grows in omega arith);
      opens = (record { unlet = record { fair = record { iter = refl; zip = refl; bars = refl; bar = refl }; unlet = refl }; minus = refl; bang = refl });
    } in
    repost e1 (primary_as_post whole (λ h. refl) refl)
