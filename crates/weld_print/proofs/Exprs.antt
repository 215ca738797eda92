-- Legs and loops, and all expressions, read from their printed text.
use Rattle.std.proofs.Common.{◌≡◌, ℕ, ◌+◌, ◌<◌, ◌≤◌, ◌^◌, List, [], ◌∷◌, ◌++◌, refl, sym, ap, subst, append_assoc, append-nil, arith, codes}
use Rattle.weld_data.specs.declared.op.BinOp.{BinOp}
use Rattle.weld_data.specs.declared.op.BinOp.TheVariants as ops
use Rattle.weld_tree.specs.declared.place.Place.{Place}
use Rattle.weld_tree.specs.declared.binder.Binder.{Binder}
use Rattle.weld_tree.specs.ExprTree.{ExprTree, ExprTrees, LegTree, LegTrees, At, leaf as leaf_at, one, two, three, many, let_in, loop, iterate, no_exprs, more_exprs, no_legs, more_legs, whole, strided, Leaf, int, truth, chars, name, fresh, One, neg, not as bang, cast, len, field, finish, started, Two, binary, and, or, look_up, key_exists, merge, Three, if_else, select, slice, Many, make_vec, make_struct}
use Rattle.weld_tree.specs.Program.{LegIsScoped, LegsAreScoped}
use Rattle.weld_tree.specs.Blank.{bare_leg, bare_legs, blank_at, distance}
use Rattle.weld_grammar.specs.declared.terminals.class.Class.TheVariants as classes
use Rattle.weld_grammar.specs.declared.terminals.symbol.Symbol.TheVariants.{LeftParen, RightParen, Comma, Bar}
use Rattle.weld_grammar.specs.declared.terminals.reserved.Reserved.TheVariants as w
use Rattle.weld_grammar.specs.declared.terminals.token.Token.{Token}
use Rattle.weld_grammar.specs.ReservedWords.{reserved_text}
use Rattle.weld_tokens.specs.Tokens.{next_place}
use Rattle.weld_grammar.specs.declared.rule.Rule.TheVariants as r
use Rattle.weld_grammar.specs.declared.item.Item.TheVariants.{Part as OfRule, Repeated}
use Rattle.weld_grammar.specs.Grammar.{item}
use Rattle.weld_grammar.specs.Derivation.{Tree, leaf, node, empty, pair, here, there, yield, Unbegun, IsOf}
use Rattle.weld_spell.specs.Seen.{seen}
use Rattle.weld_spell.specs.ProgramOf.{expr_of, unary_of, primary_of}
use Rattle.weld_print.specs.Operands.{in_parens}
use Rattle.weld_print.specs.PrintText.{name_text, note_text, parens, op_between, expr_text, rows_text, legs_text, leg_text}
use Rattle.std.specs.Prelude.{false}
use Rattle.weld_spell.specs.Names.{none as no_binding}
use Rattle.weld_print.proofs.Sound.{Sound, words}
use Rattle.weld_print.specs.Spellable.{NoteIsSpellable}
use Rattle.weld_print.proofs.Lexemes.{Stops, reserved_lexeme}
use Rattle.weld_print.proofs.Symbols.{left_paren, right_paren, comma, bar}
use Rattle.weld_print.proofs.Reading.{Run, none, token, join, one_token, one_spaced}
use Rattle.weld_print.proofs.Scenes.{Scene, Agrees, agrees_more, bind, agrees_bind}
use Rattle.weld_print.proofs.Levels.{Plain, Read, UnaryRead, post_as_unary, operator_read, and_read, or_read}
use Rattle.weld_print.proofs.Forms.{AsOr, AsPost, Reads, of_post, of_unary, of_or, of_let, reor, repost, expr_spaced, unary_spaced, primary_as_post, operand, first_arg, next_arg}
use Rattle.weld_print.proofs.Builders.{fresh_reads, started_reads, name_reads, truth_reads, chars_reads, int_reads}
use Rattle.weld_print.proofs.Forms.{neg_reads, not_reads, field_reads, if_reads, select_reads, look_up_reads, key_exists_reads, len_reads, slice_reads, merge_reads, finish_reads, cast_reads}
use Rattle.weld_print.proofs.Reading.{Run, none, AreSome, tokens_spaced}
use Rattle.weld_print.specs.Spellable.{LeafIsSpellable, OneIsSpellable, IsSpellable, AreSpellable, LegIsSpellable, LegsAreSpellable}
use Rattle.weld_tree.specs.Program.{LeafIsWellMade, OneIsWellMade, bound, bound_in, bound_in_leg, bound_in_legs, IsWellMade, AreWellMade, LegIsWellMade, LegsAreWellMade, HasLegs}
use Rattle.weld_spell.specs.ProgramOf.{leg_of, next_legs_of, rows_of}
use Rattle.weld_print.proofs.Levels.{are_some}
use Rattle.weld_print.proofs.Binding.{AreSmall, small_left, small_right, AreApart, binder_read, binder_spaced, same_binder, AsNext, next_more, next_none, let_reads, iterate_reads, make_vec_reads, make_struct_reads}

-- ---- legs

pub record LegRead (l : LegTree) (s : Scene) (n : ℕ) (place : Place) (text rest : List ℕ) : Type 0 where
  pub tree : Tree Token
  pub here : Place
  pub is_of : Sound false no_binding (item (OfRule r.Leg)) tree (words s.bounds)
  pub begins : Run place text (yield tree) here rest
  pub same : bare_leg (leg_of tree s.bounds n).leg s.numbers ≡ bare_leg l s.scope
  pub grows : n ≤ (leg_of tree s.bounds n).next
  pub some : AreSome (yield tree)
  pub no_zip : Unbegun (OfRule r.Zip) (yield (seen tree))

abbrev pub AsLeg : List ℕ → LegTree → Type 0
AsLeg names l = (s : Scene) (n : ℕ) → Agrees names s n → LegIsScoped l s.scope → (place : Place) (rest : List ℕ) → Stops rest → LegRead l s n place (leg_text names l ++ rest) rest

pub record LegsRead (ls : LegTrees) (s : Scene) (n : ℕ) (place : Place) (text rest : List ℕ) : Type 0 where
  pub tree : Tree Token
  pub here : Place
  pub is_of : Sound false no_binding (item (Repeated r.NextLeg)) tree (words s.bounds)
  pub begins : Run place text (yield tree) here rest
  pub same : bare_legs (next_legs_of tree s.bounds n).legs s.numbers ≡ bare_legs ls s.scope
  pub grows : n ≤ (next_legs_of tree s.bounds n).next

abbrev pub AsLegs : List ℕ → LegTrees → Type 0
AsLegs names ls = (s : Scene) (n : ℕ) → Agrees names s n → LegsAreScoped ls s.scope → (place : Place) (rest : List ℕ) → Stops rest → LegsRead ls s n place (legs_text names ls ++ rest) rest

pub record RowsRead (ls : LegTrees) (s : Scene) (n : ℕ) (place : Place) (text rest : List ℕ) : Type 0 where
  pub tree : Tree Token
  pub here : Place
  pub is_of : Sound false no_binding (item (OfRule r.Rows)) tree (words s.bounds)
  pub begins : Run place text (yield tree) here rest
  pub same : bare_legs (rows_of tree s.bounds n).legs s.numbers ≡ bare_legs ls s.scope
  pub grows : n ≤ (rows_of tree s.bounds n).next

abbrev pub AsRows : List ℕ → LegTrees → Type 0
AsRows names ls = (s : Scene) (n : ℕ) → Agrees names s n → LegsAreScoped ls s.scope → (place : Place) (rest : List ℕ) → Stops rest → RowsRead ls s n place (rows_text names ls ++ rest) rest

releg : {l : LegTree} {s : Scene} {n : ℕ} {place : Place} {text other rest : List ℕ} → text ≡ other → LegRead l s n place other rest → LegRead l s n place text rest
releg {l} {s} {n} {place} {text} {other} {rest} q x = subst (λ (t : List ℕ). LegRead l s n place t rest) (sym q) x

relegs : {ls : LegTrees} {s : Scene} {n : ℕ} {place : Place} {text other rest : List ℕ} → text ≡ other → LegsRead ls s n place other rest → LegsRead ls s n place text rest
relegs {ls} {s} {n} {place} {text} {other} {rest} q x = subst (λ (t : List ℕ). LegsRead ls s n place t rest) (sym q) x

rerows : {ls : LegTrees} {s : Scene} {n : ℕ} {place : Place} {text other rest : List ℕ} → text ≡ other → RowsRead ls s n place other rest → RowsRead ls s n place text rest
rerows {ls} {s} {n} {place} {text} {other} {rest} q x = subst (λ (t : List ℕ). RowsRead ls s n place t rest) (sym q) x

pub whole_reads : (names : List ℕ) (e : ExprTree) → Reads names e → AsLeg names (whole e)
whole_reads names e x s n g i place rest st =
    let t = x.expr s n g i place rest st in
    record { tree = node (there (here t.tree)); here = t.here; is_of = (t.is_of, t.opens.iter); begins = t.begins; same = ap (λ (u : ExprTree). whole u) t.same; grows = t.grows; some = are_some t.tree t.opens; no_zip = t.opens.zip }

pub strided_reads : (names : List ℕ) (e f g h : ExprTree) → Reads names e → Reads names f → Reads names g → Reads names h → AsLeg names (strided e f g h)
strided_reads names e f g h x y z v s n a i place rest st =
    let last = 44 ∷ 32 ∷ (expr_text names h ++ (41 ∷ rest)) in
    let third = 44 ∷ 32 ∷ (expr_text names g ++ last) in
    let second = 44 ∷ 32 ∷ (expr_text names f ++ third) in
    let first = 40 ∷ (expr_text names e ++ second) in
    let text = reserved_text w.Iter ++ first in
    let k = one_token place (reserved_lexeme w.Iter first refl) in
    let t = first_arg names e x s n a i.0 k.here second refl in
    let n1 = (expr_of t.tree s.bounds n).next in
    let a1 = agrees_more names s n n1 t.grows a in
    let u = next_arg names f y s n1 a1 i.1 t.here third refl in
    let n2 = (expr_of u.tree s.bounds n1).next in
    let a2 = agrees_more names s n1 n2 u.grows a1 in
    let p = next_arg names g z s n2 a2 i.2 u.here last refl in
    let n3 = (expr_of p.tree s.bounds n2).next in
    let a3 = agrees_more names s n2 n3 p.grows a2 in
    let d = next_arg names h v s n3 a3 i.3 p.here (41 ∷ rest) refl in
    let c = one_token d.here (right_paren rest) in
    let q : leg_text names (strided e f g h) ++ rest ≡ text = simp append_assoc in
    let all = join place text _ _ k.here first c.here rest k.begins (join k.here first _ _ t.here second c.here rest t.begins (join t.here second _ _ u.here third c.here rest u.begins (join u.here third _ _ p.here last c.here rest p.begins (join p.here last _ _ d.here (41 ∷ rest) c.here rest d.begins c.begins)))) in
    releg q (record {
      tree = node (here (node (pair (leaf (token (reserved_text w.Iter) (classes.Reserved w.Iter) k.at)) (pair (leaf (token (40 ∷ []) (classes.Symbol LeftParen) t.at)) (pair (t.tree) (pair (leaf (token (44 ∷ []) (classes.Symbol Comma) u.at)) (pair (u.tree) (pair (leaf (token (44 ∷ []) (classes.Symbol Comma) p.at)) (pair (p.tree) (pair (leaf (token (44 ∷ []) (classes.Symbol Comma) d.at)) (pair (d.tree) (pair (leaf (token (41 ∷ []) (classes.Symbol RightParen) c.at)) empty))))))))))));
      here = c.here;
      is_of = (refl, (refl, (t.is_of, (refl, (u.is_of, (refl, (p.is_of, (refl, (d.is_of, (refl, tt))))))))));
      begins = all;
      same = (λ j. strided (t.same j) (u.same j) (p.same j) (d.same j));
      grows = (let g1 = t.grows in let g2 = u.grows in let g3 = p.grows in let g4 = d.grows in omega arith);
      some = tt;
      no_zip = refl;
    })

-- a leg behind a comma and a space
pub record NextLeg (l : LegTree) (s : Scene) (n : ℕ) (place : Place) (text rest : List ℕ) : Type 0 where
  pub at : Place
  pub tree : Tree Token
  pub here : Place
  pub is_of : Sound false no_binding (item (OfRule r.Leg)) tree (words s.bounds)
  pub begins : Run place text (token (44 ∷ []) (classes.Symbol Comma) at ∷ yield tree) here rest
  pub same : bare_leg (leg_of tree s.bounds n).leg s.numbers ≡ bare_leg l s.scope
  pub grows : n ≤ (leg_of tree s.bounds n).next

next_leg : (names : List ℕ) (l : LegTree) → AsLeg names l → (s : Scene) (n : ℕ) → Agrees names s n → LegIsScoped l s.scope → (place : Place) (rest : List ℕ) → Stops rest → NextLeg l s n place (44 ∷ 32 ∷ (leg_text names l ++ rest)) rest
next_leg names l x s n g i place rest st =
    let text = leg_text names l ++ rest in
    let o = one_token place (comma (32 ∷ text)) in
    let t = x s n g i (next_place o.here 32) rest st in
    let b = tokens_spaced o.here text (yield t.tree) t.here rest t.some t.begins in
    record { at = o.at; tree = t.tree; here = t.here; is_of = t.is_of; begins = join place (44 ∷ 32 ∷ text) _ (yield t.tree) o.here (32 ∷ text) t.here rest o.begins b; same = t.same; grows = t.grows }

legs_stop : (names : List ℕ) (ls : LegTrees) (rest : List ℕ) → Stops rest → Stops (legs_text names ls ++ rest)
legs_stop names no_legs rest st = st
legs_stop names (more_legs l ls) rest st = refl

leg_tokens : (c : Token) (t us : List Token) → (c ∷ t) ++ us ≡ (c ∷ (t ++ [])) ++ us
leg_tokens c t us = ap (λ (x : List Token). c ∷ (x ++ us)) (sym (append-nil t))

pub legs_none : (names : List ℕ) → AsLegs names no_legs
legs_none names s n g i place rest st = record { tree = empty; here = place; is_of = tt; begins = none; same = refl; grows = omega arith }

pub legs_more : (names : List ℕ) (l : LegTree) (ls : LegTrees) → AsLeg names l → AsLegs names ls → AsLegs names (more_legs l ls)
legs_more names l ls x xs s n g i place rest st =
    let further = legs_text names ls ++ rest in
    let t = next_leg names l x s n g i.0 place further (legs_stop names ls rest st) in
    let n1 = (leg_of t.tree s.bounds n).next in
    let u = xs s n1 (agrees_more names s n n1 t.grows g) i.1 t.here rest st in
    let text = 44 ∷ 32 ∷ (leg_text names l ++ further) in
    let q : legs_text names (more_legs l ls) ++ rest ≡ text = simp append_assoc in
    let all = join place text _ (yield u.tree) t.here further u.here rest t.begins u.begins in
    relegs q (record {
      tree = pair (node (pair (leaf (token (44 ∷ []) (classes.Symbol Comma) t.at)) (pair (t.tree) empty))) u.tree;
      here = u.here;
      is_of = ((refl, (t.is_of, tt)), u.is_of);
      begins = subst (λ (ts : List Token). Run place text ts u.here rest) (leg_tokens _ (yield t.tree) (yield u.tree)) all;
      same = (λ j. more_legs (t.same j) (u.same j));
      grows = (let g1 = t.grows in let g2 = u.grows in omega arith);
    })

pub rows_one : (names : List ℕ) (l : LegTree) → AsLeg names l → AsRows names (more_legs l no_legs)
rows_one names l x s n g i place rest st =
    let t = x s n g i.0 place rest st in
    record { tree = node (there (here t.tree)); here = t.here; is_of = (t.is_of, t.no_zip); begins = t.begins; same = (λ j. more_legs (t.same j) no_legs); grows = t.grows }

zip_text : (k l c m ls z rest : List ℕ) → (k ++ l ++ (c ++ m ++ ls) ++ z) ++ rest ≡ k ++ (l ++ (c ++ (m ++ (ls ++ (z ++ rest)))))
zip_text k l c m ls z rest = simp append_assoc

pub rows_zip : (names : List ℕ) (l m : LegTree) (ls : LegTrees) → AsLeg names l → AsLeg names m → AsLegs names ls → AsRows names (more_legs l (more_legs m ls))
rows_zip names l m ls x y xs s n g i place rest st =
    let further = legs_text names ls ++ (41 ∷ rest) in
    let second = 44 ∷ 32 ∷ (leg_text names m ++ further) in
    let first = leg_text names l ++ second in
    let text = reserved_text w.Zip ++ (40 ∷ first) in
    let k = one_token place (reserved_lexeme w.Zip (40 ∷ first) refl) in
    let o = one_token k.here (left_paren first) in
    let t = x s n g i.0 o.here second refl in
    let n1 = (leg_of t.tree s.bounds n).next in
    let g1 = agrees_more names s n n1 t.grows g in
    let u = next_leg names m y s n1 g1 i.1.0 t.here further (legs_stop names ls (41 ∷ rest) refl) in
    let n2 = (leg_of u.tree s.bounds n1).next in
    let v = xs s n2 (agrees_more names s n1 n2 u.grows g1) i.1.1 u.here (41 ∷ rest) refl in
    let c = one_token v.here (right_paren rest) in
    let q : rows_text names (more_legs l (more_legs m ls)) ++ rest ≡ text = zip_text (codes "zip(") (leg_text names l) (codes ", ") (leg_text names m) (legs_text names ls) (codes ")") rest in
    let all = join place text _ _ k.here (40 ∷ first) c.here rest k.begins (join k.here (40 ∷ first) _ _ o.here first c.here rest o.begins (join o.here first (yield t.tree) _ t.here second c.here rest t.begins (join t.here second _ _ u.here further c.here rest u.begins (join u.here further (yield v.tree) _ v.here (41 ∷ rest) c.here rest v.begins c.begins)))) in
    rerows q (record {
      tree = node (here (node (pair (leaf (token (reserved_text w.Zip) (classes.Reserved w.Zip) k.at)) (pair (leaf (token (40 ∷ []) (classes.Symbol LeftParen) o.at)) (pair (t.tree) (pair (leaf (token (44 ∷ []) (classes.Symbol Comma) u.at)) (pair (u.tree) (pair (v.tree) (pair (leaf (token (41 ∷ []) (classes.Symbol RightParen) c.at)) empty)))))))));
      here = c.here;
      is_of = (refl, (refl, (t.is_of, (refl, (u.is_of, (v.is_of, (refl, tt)))))));
      begins = all;
      same = (λ j. more_legs (t.same j) (more_legs (u.same j) (v.same j)));
      grows = (let h1 = t.grows in let h2 = u.grows in let h3 = v.grows in omega arith);
    })

-- ---- loops

two_more : (n : ℕ) → n + 1 + 1 ≤ n + 2
two_more n = omega arith

three_more : (n : ℕ) → n + 2 + 1 ≤ n + 3
three_more n = omega arith

loop_grows : (n n1 n2 n3 : ℕ) → n ≤ n1 → n1 ≤ n2 → n2 + 3 ≤ n3 → n ≤ n3
loop_grows n n1 n2 n3 a b c = omega arith

-- texts one after another, however they are grouped
loop_text : (k ls c e l b p d n q x r m f z rest : List ℕ) → (k ++ ls ++ c ++ e ++ l ++ (b ++ p) ++ d ++ (n ++ q) ++ d ++ (x ++ r) ++ m ++ f ++ z) ++ rest
    ≡ k ++ (ls ++ (c ++ (e ++ (l ++ (b ++ (p ++ (d ++ (n ++ (q ++ (d ++ (x ++ (r ++ (m ++ (f ++ (z ++ rest)))))))))))))))
loop_text k ls c e l b p d n q x r m f z rest = simp append_assoc

loop_tokens : (ls : List Token) (c : Token) (ts : List Token) (d i x : Token) (p : List Token) (j y : Token) (q : List Token) (k z : Token) (r : List Token) (m : Token) (b : List Token) (e : Token)
    → ls ++ ((c ∷ ts) ++ ((d ∷ []) ++ ((i ∷ []) ++ ((x ∷ p) ++ ((j ∷ []) ++ ((y ∷ q) ++ ((k ∷ []) ++ ((z ∷ r) ++ ((m ∷ []) ++ (b ++ (e ∷ []))))))))))) ≡ ls ++ (c ∷ (ts ++ (d ∷ i ∷ ((x ∷ (p ++ [])) ++ (j ∷ ((y ∷ (q ++ [])) ++ (k ∷ ((z ∷ (r ++ [])) ++ (m ∷ (b ++ (e ∷ [])))))))))))
loop_tokens ls c ts d i x p j y q k z r m b e =
    (λ o. ls ++ (c ∷ (ts ++ (d ∷ i ∷ ((x ∷ sym (append-nil p) o) ++ (j ∷ ((y ∷ sym (append-nil q) o) ++ (k ∷ ((z ∷ sym (append-nil r) o) ++ (m ∷ (b ++ (e ∷ []))))))))))))

pub loop_reads : (names : List ℕ) → AreApart names → (a : At) (ls : LegTrees) (e : ExprTree) (b m x : Binder) (f : ExprTree) → NoteIsSpellable b.note → NoteIsSpellable m.note → NoteIsSpellable x.note
    → distance names b.sym.0 < 2 ^ 64 → distance names m.sym.0 < 2 ^ 64 → distance names x.sym.0 < 2 ^ 64 → AsRows names ls → Reads names e → Reads names f → AsPost names (loop a ls e b m x f)
loop_reads names apart a ls e b m x f hb hm hx sb sm sx rows re rf s n g i place rest st =
    let body = expr_text names f ++ (41 ∷ rest) in
    let row_text = name_text names x.sym.0 ++ (note_text x.note ++ (124 ∷ 32 ∷ body)) in
    let number_text = name_text names m.sym.0 ++ (note_text m.note ++ (44 ∷ 32 ∷ row_text)) in
    let bind_text = name_text names b.sym.0 ++ (note_text b.note ++ (44 ∷ 32 ∷ number_text)) in
    let builder = 44 ∷ 32 ∷ (expr_text names e ++ (44 ∷ 32 ∷ 124 ∷ bind_text)) in
    let legs = rows_text names ls ++ builder in
    let text = reserved_text w.For ++ (40 ∷ legs) in
    let k = one_token place (reserved_lexeme w.For (40 ∷ legs) refl) in
    let o = one_token k.here (left_paren legs) in
    let l = rows s n g i.0 o.here builder refl in
    let n1 = (rows_of l.tree s.bounds n).next in
    let g1 = agrees_more names s n n1 l.grows g in
    let t = next_arg names e re s n1 g1 i.1 l.here (44 ∷ 32 ∷ 124 ∷ bind_text) refl in
    let n2 = (expr_of t.tree s.bounds n1).next in
    let g2 = agrees_more names s n1 n2 t.grows g1 in
    let d = one_token t.here (comma (32 ∷ 124 ∷ bind_text)) in
    let v = one_spaced d.here (bar bind_text refl) in
    let p = binder_read names b hb sb v.here (44 ∷ 32 ∷ number_text) refl in
    let c1 = one_token p.here (comma (32 ∷ number_text)) in
    let q = binder_spaced names m hm sm c1.here (44 ∷ 32 ∷ row_text) refl in
    let c2 = one_token q.here (comma (32 ∷ row_text)) in
    let y = binder_spaced names x hx sx c2.here (124 ∷ 32 ∷ body) refl in
    let z = one_token y.here (bar (32 ∷ body) refl) in
    let s1 = bind names s b.sym.0 n2 in
    let s2 = bind names s1 m.sym.0 (n2 + 1) in
    let s3 = bind names s2 x.sym.0 (n2 + 2) in
    let a1 = agrees_bind names s b.sym.0 n2 apart sb g2 in
    let a2 = agrees_more names s2 (n2 + 1 + 1) (n2 + 2) (two_more n2) (agrees_bind names s1 m.sym.0 (n2 + 1) apart sm a1) in
    let a3 = agrees_more names s3 (n2 + 2 + 1) (n2 + 3) (three_more n2) (agrees_bind names s2 x.sym.0 (n2 + 2) apart sx a2) in
    let u = expr_spaced (rf.expr s3 (n2 + 3) a3 i.2 (next_place z.here 32) (41 ∷ rest) refl) in
    let c = one_token u.here (right_paren rest) in
    let e1 : expr_text names (loop a ls e b m x f) ++ rest ≡ text = loop_text (codes "for(") (rows_text names ls) (codes ", ") (expr_text names e) (codes ", |") (name_text names b.sym.0) (note_text b.note) (codes ", ") (name_text names m.sym.0) (note_text m.note) (name_text names x.sym.0) (note_text x.note) (codes "| ") (expr_text names f) (codes ")") rest in
    let last = join z.here (32 ∷ body) (yield u.tree) _ u.here (41 ∷ rest) c.here rest u.begins c.begins in
    let third = join c2.here (32 ∷ row_text) _ _ y.here (124 ∷ 32 ∷ body) c.here rest y.begins (join y.here _ _ _ z.here (32 ∷ body) c.here rest z.begins last) in
    let second = join c1.here (32 ∷ number_text) _ _ q.here (44 ∷ 32 ∷ row_text) c.here rest q.begins (join q.here _ _ _ c2.here (32 ∷ row_text) c.here rest c2.begins third) in
    let first = join v.here bind_text _ _ p.here (44 ∷ 32 ∷ number_text) c.here rest p.begins (join p.here _ _ _ c1.here (32 ∷ number_text) c.here rest c1.begins second) in
    let lambda = join t.here _ _ _ d.here (32 ∷ 124 ∷ bind_text) c.here rest d.begins (join d.here _ _ _ v.here bind_text c.here rest v.begins first) in
    let inside = join o.here legs (yield l.tree) _ l.here builder c.here rest l.begins (join l.here builder _ _ t.here _ c.here rest t.begins lambda) in
    let all = join place text _ _ k.here (40 ∷ legs) c.here rest k.begins (join k.here (40 ∷ legs) _ _ o.here legs c.here rest o.begins inside) in
    let whole : Read r.Primary primary_of Plain (loop a ls e b m x f) s n place text rest = record {
      tree = node (there (there (there (there (there (there (there (there (there (there (there (there (there (there (there (there (here (node (pair (leaf (token (reserved_text w.For) (classes.Reserved w.For) k.at)) (pair (leaf (token (40 ∷ []) (classes.Symbol LeftParen) o.at)) (pair (l.tree) (pair (leaf (token (44 ∷ []) (classes.Symbol Comma) t.at)) (pair (t.tree) (pair (leaf (token (44 ∷ []) (classes.Symbol Comma) d.at)) (pair (leaf (token (124 ∷ []) (classes.Symbol Bar) v.at)) (pair (node (pair (leaf (token (name_text names b.sym.0) classes.Name p.at)) (pair (p.note) empty))) (pair (leaf (token (44 ∷ []) (classes.Symbol Comma) c1.at)) (pair (node (pair (leaf (token (name_text names m.sym.0) classes.Name q.at)) (pair (q.note) empty))) (pair (leaf (token (44 ∷ []) (classes.Symbol Comma) c2.at)) (pair (node (pair (leaf (token (name_text names x.sym.0) classes.Name y.at)) (pair (y.note) empty))) (pair (leaf (token (124 ∷ []) (classes.Symbol Bar) z.at)) (pair (u.tree) (pair (leaf (token (41 ∷ []) (classes.Symbol RightParen) c.at)) empty)))))))))))))))))))))))))))))))));
      here = c.here;
      is_of = (((((((((((((((((refl, (refl, (l.is_of, (refl, (t.is_of, (refl, (refl, ((refl, (p.is_of (words s.bounds), tt)), (refl, ((refl, (q.is_of (words s.bounds), tt)), (refl, ((refl, (y.is_of (words s.bounds), tt)), (refl, (u.is_of, (refl, tt))))))))))))))), refl), refl), refl), refl), refl), refl), refl), refl), refl), refl), refl), refl), refl), refl), refl), refl);
      begins = subst (λ (ts : List Token). Run place text (token (reserved_text w.For) (classes.Reserved w.For) k.at ∷ token (40 ∷ []) (classes.Symbol LeftParen) o.at ∷ ts) c.here rest) (loop_tokens (yield l.tree) _ (yield t.tree) _ _ _ (yield p.note) _ _ (yield q.note) _ _ (yield y.note) _ (yield u.tree) _) all;
      same = (λ j. loop blank_at (l.same j) (t.same j) (same_binder b (leaf (token (name_text names b.sym.0) classes.Name p.at)) p.note n2 p.value j) (same_binder m (leaf (token (name_text names m.sym.0) classes.Name q.at)) q.note (n2 + 1) q.value j) (same_binder x (leaf (token (name_text names x.sym.0) classes.Name y.at)) y.note (n2 + 2) y.value j) (u.same j));
      grows = loop_grows n n1 n2 _ l.grows t.grows u.grows;
      opens = (record { unlet = record { fair = record { iter = refl; zip = refl; bars = refl; bar = refl }; unlet = refl }; minus = refl; bang = refl });
    } in
    repost e1 (primary_as_post whole (λ h. refl) refl)

-- ---- all expressions

leaf_reads : (names : List ℕ) (a : At) (l : Leaf) → LeafIsWellMade l → LeafIsSpellable l → Reads names (leaf_at a l)
leaf_reads names a (int k x) m h = int_reads names a k x h m.1
leaf_reads names a (truth b) m h = of_post names _ (truth_reads names a b)
leaf_reads names a (chars bs) m h = of_post names _ (chars_reads names a bs h)
leaf_reads names a (name u) m h = of_post names _ (name_reads names a u)
leaf_reads names a (fresh b) m h = of_post names _ (fresh_reads names a b m h)

one_reads : (names : List ℕ) (a : At) (o : One) (e : ExprTree) → OneIsWellMade o → OneIsSpellable o → Reads names e → Reads names (one a o e)
one_reads names a neg e m h x = of_unary names _ refl (neg_reads names a e x)
one_reads names a bang e m h x = of_unary names _ refl (not_reads names a e x)
one_reads names a (cast k) e m h x = of_post names _ (cast_reads names a k e m x)
one_reads names a len e m h x = of_post names _ (len_reads names a e x)
one_reads names a (field k) e m h x = of_post names _ (field_reads names a k e h x)
one_reads names a finish e m h x = of_post names _ (finish_reads names a e x)
one_reads names a (started b) e m h x = of_post names _ (started_reads names a b e m h x)

op_stops : (op : BinOp) (rest : List ℕ) → Stops (op_between op ++ rest)
op_stops ops.Add rest = refl
op_stops ops.Sub rest = refl
op_stops ops.Mul rest = refl
op_stops ops.Div rest = refl
op_stops ops.Rem rest = refl
op_stops ops.Eq rest = refl
op_stops ops.Ne rest = refl
op_stops ops.Lt rest = refl
op_stops ops.Le rest = refl
op_stops ops.Gt rest = refl
op_stops ops.Ge rest = refl

binary_reads : (names : List ℕ) (a : At) (op : BinOp) (e f : ExprTree) → Reads names e → Reads names f → AsOr names (two a (binary op) e f)
binary_reads names a op e f x y s n g i place rest st =
    let last = parens (in_parens f) (expr_text names f) ++ rest in
    let t = post_as_unary (operand names e (in_parens e) x (λ h. h) s n g i.0 place (op_between op ++ last) (op_stops op last)) in
    let m = (unary_of t.tree s.bounds n).next in
    let u : (p : Place) → UnaryRead f s m p (32 ∷ last) rest = λ p. unary_spaced (post_as_unary (operand names f (in_parens f) y (λ h. h) s m (agrees_more names s n m t.grows g) i.1 (next_place p 32) rest st)) in
    let q : expr_text names (two a (binary op) e f) ++ rest ≡ parens (in_parens e) (expr_text names e) ++ (op_between op ++ last) = simp (append_assoc, append-nil) in
    reor q (operator_read op a t u)

and_reads : (names : List ℕ) (a : At) (e f : ExprTree) → Reads names e → Reads names f → AsOr names (two a and e f)
and_reads names a e f x y s n g i place rest st =
    let last = parens (in_parens f) (expr_text names f) ++ rest in
    let t = post_as_unary (operand names e (in_parens e) x (λ h. h) s n g i.0 place (32 ∷ 38 ∷ 38 ∷ 32 ∷ last) refl) in
    let m = (unary_of t.tree s.bounds n).next in
    let u : (p : Place) → UnaryRead f s m p (32 ∷ last) rest = λ p. unary_spaced (post_as_unary (operand names f (in_parens f) y (λ h. h) s m (agrees_more names s n m t.grows g) i.1 (next_place p 32) rest st)) in
    let q : expr_text names (two a and e f) ++ rest ≡ parens (in_parens e) (expr_text names e) ++ (32 ∷ 38 ∷ 38 ∷ 32 ∷ last) = simp (append_assoc, append-nil) in
    reor q (and_read a t u)

or_reads : (names : List ℕ) (a : At) (e f : ExprTree) → Reads names e → Reads names f → AsOr names (two a or e f)
or_reads names a e f x y s n g i place rest st =
    let last = parens (in_parens f) (expr_text names f) ++ rest in
    let t = post_as_unary (operand names e (in_parens e) x (λ h. h) s n g i.0 place (32 ∷ 124 ∷ 124 ∷ 32 ∷ last) refl) in
    let m = (unary_of t.tree s.bounds n).next in
    let u : (p : Place) → UnaryRead f s m p (32 ∷ last) rest = λ p. unary_spaced (post_as_unary (operand names f (in_parens f) y (λ h. h) s m (agrees_more names s n m t.grows g) i.1 (next_place p 32) rest st)) in
    let q : expr_text names (two a or e f) ++ rest ≡ parens (in_parens e) (expr_text names e) ++ (32 ∷ 124 ∷ 124 ∷ 32 ∷ last) = simp (append_assoc, append-nil) in
    reor q (or_read a t u)

two_reads : (names : List ℕ) (a : At) (t : Two) (e f : ExprTree) → Reads names e → Reads names f → Reads names (two a t e f)
two_reads names a (binary op) e f x y = of_or names _ refl (binary_reads names a op e f x y)
two_reads names a and e f x y = of_or names _ refl (and_reads names a e f x y)
two_reads names a or e f x y = of_or names _ refl (or_reads names a e f x y)
two_reads names a look_up e f x y = of_post names _ (look_up_reads names a e f x y)
two_reads names a key_exists e f x y = of_post names _ (key_exists_reads names a e f x y)
two_reads names a merge e f x y = of_post names _ (merge_reads names a e f x y)

three_reads : (names : List ℕ) (a : At) (t : Three) (e f g : ExprTree) → Reads names e → Reads names f → Reads names g → Reads names (three a t e f g)
three_reads names a if_else e f g x y z = of_post names _ (if_reads names a e f g x y z)
three_reads names a select e f g x y z = of_post names _ (select_reads names a e f g x y z)
three_reads names a slice e f g x y z = of_post names _ (slice_reads names a e f g x y z)

many_reads : (names : List ℕ) (a : At) (m : Many) (e : ExprTree) (es : ExprTrees) → Reads names e → AsNext names es → Reads names (many a m (more_exprs e es))
many_reads names a make_vec e es x xs = of_post names _ (make_vec_reads names a e es x xs)
many_reads names a make_struct e es x xs = of_post names _ (make_struct_reads names a e es x xs)

mutual
  pub reads : (names : List ℕ) → AreApart names → (e : ExprTree) → IsWellMade e → IsSpellable e → AreSmall names (bound e) → Reads names e
  reads names apart (leaf_at a l) m h k = leaf_reads names a l m h
  reads names apart (one a o e) m h k = one_reads names a o e m.0 h.0 (reads names apart e m.1 h.1 k)
  reads names apart (two a t e f) m h k =
      two_reads names a t e f (reads names apart e m.0 h.0 (small_left names (bound e) (bound f) k)) (reads names apart f m.1 h.1 (small_right names (bound e) (bound f) k))
  reads names apart (three a t e f g) m h k =
      let l = small_right names (bound e) (bound f ++ bound g) k in
      three_reads names a t e f g (reads names apart e m.0 h.0 (small_left names (bound e) (bound f ++ bound g) k)) (reads names apart f m.1 h.1 (small_left names (bound f) (bound g) l)) (reads names apart g m.2 h.2 (small_right names (bound f) (bound g) l))
  reads names apart (many a t no_exprs) m h k = absurd m.0
  reads names apart (many a t (more_exprs e es)) m h k =
      many_reads names a t e es (reads names apart e m.1.0 h.0 (small_left names (bound e) (bound_in es) k)) (reads_in names apart es m.1.1 h.1 (small_right names (bound e) (bound_in es) k))
  reads names apart (let_in a b e f) m h k =
      of_let names _ refl refl (let_reads names apart a b e f h.0 k.0 (reads names apart e m.0 h.1 (small_left names (bound e) (bound f) k.1)) (reads names apart f m.1 h.2 (small_right names (bound e) (bound f) k.1)))
  reads names apart (loop a ls e b n x f) m h k =
      let l = small_right names (bound_in_legs ls) (bound e ++ (b.sym.0 ∷ n.sym.0 ∷ x.sym.0 ∷ bound f)) k in
      let j = small_right names (bound e) (b.sym.0 ∷ n.sym.0 ∷ x.sym.0 ∷ bound f) l in
      of_post names _ (loop_reads names apart a ls e b n x f h.2 h.3 h.4 j.0 j.1.0 j.1.1.0
      (reads_rows names apart ls m.0 m.1 h.0 (small_left names (bound_in_legs ls) (bound e ++ (b.sym.0 ∷ n.sym.0 ∷ x.sym.0 ∷ bound f)) k))
      (reads names apart e m.2 h.1 (small_left names (bound e) (b.sym.0 ∷ n.sym.0 ∷ x.sym.0 ∷ bound f) l))
      (reads names apart f m.3 h.5 j.1.1.1))
  reads names apart (iterate a e b f) m h k =
      let l = small_right names (bound e) (b.sym.0 ∷ bound f) k in
      of_post names _ (iterate_reads names apart a e b f h.1 l.0 (reads names apart e m.0 h.0 (small_left names (bound e) (b.sym.0 ∷ bound f) k)) (reads names apart f m.1 h.2 l.1))

  reads_in : (names : List ℕ) → AreApart names → (es : ExprTrees) → AreWellMade es → AreSpellable es → AreSmall names (bound_in es) → AsNext names es
  reads_in names apart no_exprs m h k = next_none names
  reads_in names apart (more_exprs e es) m h k =
      next_more names e es (reads names apart e m.0 h.0 (small_left names (bound e) (bound_in es) k)) (reads_in names apart es m.1 h.1 (small_right names (bound e) (bound_in es) k))

  reads_leg : (names : List ℕ) → AreApart names → (l : LegTree) → LegIsWellMade l → LegIsSpellable l → AreSmall names (bound_in_leg l) → AsLeg names l
  reads_leg names apart (whole e) m h k = whole_reads names e (reads names apart e m h k)
  reads_leg names apart (strided e f g d) m h k =
      let l = small_right names (bound e) (bound f ++ (bound g ++ bound d)) k in
      let j = small_right names (bound f) (bound g ++ bound d) l in
      strided_reads names e f g d (reads names apart e m.0 h.0 (small_left names (bound e) (bound f ++ (bound g ++ bound d)) k)) (reads names apart f m.1 h.1 (small_left names (bound f) (bound g ++ bound d) l)) (reads names apart g m.2 h.2 (small_left names (bound g) (bound d) j)) (reads names apart d m.3 h.3 (small_right names (bound g) (bound d) j))

  reads_legs : (names : List ℕ) → AreApart names → (ls : LegTrees) → LegsAreWellMade ls → LegsAreSpellable ls → AreSmall names (bound_in_legs ls) → AsLegs names ls
  reads_legs names apart no_legs m h k = legs_none names
  reads_legs names apart (more_legs l ls) m h k =
      legs_more names l ls (reads_leg names apart l m.0 h.0 (small_left names (bound_in_leg l) (bound_in_legs ls) k)) (reads_legs names apart ls m.1 h.1 (small_right names (bound_in_leg l) (bound_in_legs ls) k))

  reads_rows : (names : List ℕ) → AreApart names → (ls : LegTrees) → HasLegs ls → LegsAreWellMade ls → LegsAreSpellable ls → AreSmall names (bound_in_legs ls) → AsRows names ls
  reads_rows names apart no_legs some m h k = absurd some
  reads_rows names apart (more_legs l no_legs) some m h k = rows_one names l (reads_leg names apart l m.0 h.0 (small_left names (bound_in_leg l) [] k))
  reads_rows names apart (more_legs l (more_legs p ls)) some m h k =
      let j = small_right names (bound_in_leg l) (bound_in_leg p ++ bound_in_legs ls) k in
      rows_zip names l p ls (reads_leg names apart l m.0 h.0 (small_left names (bound_in_leg l) (bound_in_leg p ++ bound_in_legs ls) k)) (reads_leg names apart p m.1.0 h.1.0 (small_left names (bound_in_leg p) (bound_in_legs ls) j)) (reads_legs names apart ls m.1.1 h.1.1 (small_right names (bound_in_leg p) (bound_in_legs ls) j))
