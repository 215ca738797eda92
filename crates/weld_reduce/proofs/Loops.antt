-- The machine spells the legs of a loop, loops and iterations.
use Rattle.std.proofs.Common.{◌≡◌, refl, ℕ, ◌+◌, false, Some, None, List, [], ◌∷◌, ◌++◌, ap, sym, ◌∙◌, append_assoc, arith}
use Rattle.std.proofs.lemmas.List.{append-nil}
use Rattle.weld_grammar.specs.declared.terminals.symbol.Symbol.TheVariants as s
use Rattle.weld_grammar.specs.declared.terminals.reserved.Reserved.TheVariants as w
use Rattle.weld_grammar.specs.declared.terminals.token.Token.{Token}
use Rattle.weld_tree.specs.ExprTree.{LegTree, LegTrees, loop, iterate, strided, no_legs, more_legs, pack_legs, unpack_legs}
use Rattle.weld_grammar.specs.declared.terminal.Terminal.TheVariants.{Fixed}
use Rattle.weld_grammar.specs.declared.rule.Rule.TheVariants as r
use Rattle.weld_grammar.specs.declared.item.Item.TheVariants.{One, Part as OfRule, Repeated}
use Rattle.weld_grammar.specs.Grammar.{item}
use Rattle.weld_grammar.specs.Derivation.{Tree, leaf, node, empty, pair, here, there}
use Rattle.weld_spell.specs.ProgramOf.{SpelledLeg, node_at, binder_of, bound_as, expr_of, rows_of, next_legs_of, leg_of, primary_of}
use Rattle.weld_spell.specs.Names.{or_else, misnamed, none}
use Rattle.weld_reduce.specs.Values.{token, expr, leg, legs}
use Rattle.weld_reduce.specs.Forms.{at, open_legs}
use Rattle.weld_reduce.specs.States.{State, push, with_values, names_of}
use Rattle.weld_reduce.proofs.Does.{Does, since, opened, kept, first, later, row, no_more, one_more, leads, refuses, or_else-none}
use Rattle.weld_reduce.proofs.Nameless.{silent}
use Rattle.weld_reduce.proofs.Good.{Good}
use Rattle.weld_reduce.proofs.Tokens.{fixed_told, alone, itself, quiet, at_word, hushed, closed, ended}
use Rattle.weld_reduce.proofs.Levels.{with_next, behind, Spells}
use Rattle.weld_reduce.proofs.Binders.{opens, binds}

-- ---- legs

-- the state behind a leg
abbrev pub leg_behind : State → SpelledLeg → State
leg_behind st sp = with_next sp.next (with_values st (legs ((open_legs st.values).0 ++ sp.leg ∷ []) ∷ (open_legs st.values).1))

abbrev pub SpellsLeg : Tree Token → Type 0
SpellsLeg t = (st : State) → Does (item (OfRule r.Leg)) t st (misnamed none (item (OfRule r.Leg)) t (names_of st.scope)) (leg_behind st (leg_of t st.scope st.next))

pub whole_leg : (t : Tree Token) → Spells r.Expr expr_of t → SpellsLeg (node (there (here t)))
whole_leg t k st = opened {mid = behind st (expr_of t st.scope st.next)} (later (first (k st))) (λ z. refl)

pub strided_leg : (head a t c u d v e x q end : Tree Token) → Good false (item (OfRule r.Iter)) (node (pair head (pair a (pair t (pair c (pair u (pair d (pair v (pair e (pair x (pair q end))))))))))) → Spells r.Expr expr_of t → Spells r.Expr expr_of u → Spells r.Expr expr_of v → Spells r.Expr expr_of x → SpellsLeg (node (here (node (pair head (pair a (pair t (pair c (pair u (pair d (pair v (pair e (pair x (pair q end)))))))))))))
strided_leg head a t c u d v e x q end g k1 k2 k3 k4 st =
    let y = fixed_told w.Iter head itself (λ x st. refl) g.0 in
    let st0 = push (token y.is) st in
    let e1 = expr_of t st.scope st.next in
    let st1 = behind st0 e1 in
    let e2 = expr_of u st.scope e1.next in
    let st2 = behind st1 e2 in
    let e3 = expr_of v st.scope e2.next in
    let st3 = behind st2 e3 in
    let e4 = expr_of x st.scope e3.next in
    let st4 = behind st3 e4 in
    opened {mid = push (leg (strided e1.expr e2.expr e3.expr e4.expr)) (with_next e4.next st)} (first (opened (row (y.does st) (row (quiet s.LeftParen a st0 (λ x st. refl) g.1.0) (row (k1 st0) (row (quiet s.Comma c st1 (λ x st. refl) g.1.1.1.0) (row (k2 st1) (row (quiet s.Comma d st2 (λ x st. refl) g.1.1.1.1.1.0) (row (k3 st2) (row (quiet s.Comma e st3 (λ x st. refl) g.1.1.1.1.1.1.1.0) (row (k4 st3) (row (quiet s.RightParen q st4 (λ x st. refl) g.1.1.1.1.1.1.1.1.1.0) (ended end st4 g.1.1.1.1.1.1.1.1.1.1))))))))))) (λ z. refl))) (λ z. refl)

-- further legs
pub no_legs_more : (ls : List LegTree) (st : State) → Does (item (Repeated r.NextLeg)) empty (push (legs ls) st) None (push (legs (ls ++ [])) st)
no_legs_more ls st = leads (no_more r.NextLeg (push (legs ls) st)) (ap (λ k. push (legs k) st) (sym (append-nil ls)))

abbrev pub SpellsLegs : Tree Token → List LegTree → State → Type 0
SpellsLegs t ls st = Does (item (Repeated r.NextLeg)) t (push (legs ls) st) (misnamed none (item (Repeated r.NextLeg)) t (names_of st.scope)) (push (legs (ls ++ unpack_legs (next_legs_of t st.scope st.next).legs)) (with_next (next_legs_of t st.scope st.next).next st))

pub one_leg_more : (c t end more : Tree Token) (ls : List LegTree) (st : State) → Good false (item (OfRule r.NextLeg)) (node (pair c (pair t end))) → SpellsLeg t
    → SpellsLegs more (ls ++ (leg_of t st.scope st.next).leg ∷ []) (with_next (leg_of t st.scope st.next).next st) → SpellsLegs (pair (node (pair c (pair t end))) more) ls st
one_leg_more c t end more ls st g k m =
    let l = leg_of t st.scope st.next in
    let others = next_legs_of more st.scope l.next in
    leads (one_more (kept (row (quiet s.Comma c (push (legs ls) st) (λ x st. refl) g.0) (row (k (push (legs ls) st)) (ended end (push (legs (ls ++ l.leg ∷ [])) (with_next l.next st)) g.1.1))) (λ z. refl)) m)
    (ap (λ k. push (legs k) (with_next others.next st)) (append_assoc ls (l.leg ∷ []) (unpack_legs others.legs)))

-- all legs of a loop, behind its word
abbrev pub SpellsRows : Tree Token → Type 0
SpellsRows t = (x : Token) (st : State) → Does (item (OfRule r.Rows)) t (push (token x) st) (misnamed none (item (OfRule r.Rows)) t (names_of st.scope)) (push (legs (unpack_legs (rows_of t st.scope st.next).legs)) (with_next (rows_of t st.scope st.next).next (push (token x) st)))

pub single : (t : Tree Token) → SpellsLeg t → SpellsRows (node (there (here t)))
single t k x st = kept (later (first (k (push (token x) st)))) (λ z. refl)

pub zipped : (head a t c u more q end : Tree Token) → Good false (item (OfRule r.Zip)) (node (pair head (pair a (pair t (pair c (pair u (pair more (pair q end)))))))) → SpellsLeg t → SpellsLeg u → ((ls : List LegTree) (st : State) → SpellsLegs more ls st) → SpellsRows (node (here (node (pair head (pair a (pair t (pair c (pair u (pair more (pair q end))))))))))
zipped head a t c u more q end g k1 k2 m x st =
    let st0 = push (token x) st in
    let st1 = push (legs []) st0 in
    let l1 = leg_of t st.scope st.next in
    let st2 = push (legs (l1.leg ∷ [])) (with_next l1.next st0) in
    let l2 = leg_of u st.scope l1.next in
    let base = with_next l2.next st0 in
    let st3 = push (legs (l1.leg ∷ l2.leg ∷ [])) base in
    let others = next_legs_of more st.scope l2.next in
    let st4 = push (legs (l1.leg ∷ l2.leg ∷ unpack_legs others.legs)) (with_next others.next st0) in
    kept (first (kept (row (refuses (at_word {next = st1} w.Zip head (λ y z. refl) g.0) (sym (silent (item (One (Fixed w.Zip))) head (names_of st.scope) refl))) (row (quiet s.LeftParen a st1 (λ x st. refl) g.1.0) (row (k1 st1) (row (quiet s.Comma c st2 (λ x st. refl) g.1.1.1.0) (row (k2 st2) (row (m (l1.leg ∷ l2.leg ∷ []) base) (row (quiet s.RightParen q st4 (λ x st. refl) g.1.1.1.1.1.1.0) (ended end st4 g.1.1.1.1.1.1.1)))))))) (λ z. refl))) (λ z. refl)

-- ---- loops

pack-unpack_legs : (ls : LegTrees) → pack_legs (unpack_legs ls) ≡ ls
pack-unpack_legs no_legs = refl
pack-unpack_legs (more_legs l ls) = ap (more_legs l) (pack-unpack_legs ls)

pub for_form : (x y z : Token) (head a l c t d i p e1 j o e2 k n e3 m b f end : Tree Token) → Good false (item (OfRule r.For)) (node (pair head (pair a (pair l (pair c (pair t (pair d (pair i (pair (node (pair (leaf x) (pair p e1))) (pair j (pair (node (pair (leaf y) (pair o e2))) (pair k (pair (node (pair (leaf z) (pair n e3))) (pair m (pair b (pair f end)))))))))))))))) → SpellsRows l → Spells r.Expr expr_of t → Spells r.Expr expr_of b → Spells r.Primary primary_of (node (there (there (there (there (there (there (there (there (there (there (there (there (there (there (there (there (here (node (pair head (pair a (pair l (pair c (pair t (pair d (pair i (pair (node (pair (leaf x) (pair p e1))) (pair j (pair (node (pair (leaf y) (pair o e2))) (pair k (pair (node (pair (leaf z) (pair n e3))) (pair m (pair b (pair f end))))))))))))))))))))))))))))))))))
for_form x y z head a l c t d i p e1 j o e2 k n e3 m b f end g k1 k2 k3 st =
    let v = fixed_told w.For head itself (λ x st. refl) g.0 in
    let st0 = push (token v.is) st in
    let ls = rows_of l st.scope st.next in
    let st1 = push (legs (unpack_legs ls.legs)) (with_next ls.next st0) in
    let builder = expr_of t st.scope ls.next in
    let st2 = behind st1 builder in
    let st3 = opens (leaf x) p st2 in
    let st4 = opens (leaf y) o st3 in
    let st5 = opens (leaf z) n st4 in
    let inner = expr_of b st5.scope st5.next in
    let st6 = behind st5 inner in
    let ending : ℕ → ℕ → State = λ n2 n3.
    let last = expr_of b (bound_as (leaf z) n2 ∷ bound_as (leaf y) (builder.next + 1) ∷ bound_as (leaf x) builder.next ∷ st.scope) n3 in
    push (expr (loop (node_at head) ls.legs builder.expr (binder_of (leaf x) p builder.next) (binder_of (leaf y) o (builder.next + 1)) (binder_of (leaf z) n n2) last.expr)) (with_next last.next st) in
    let two : builder.next + 1 + 1 ≡ builder.next + 2 = omega arith in
    let three : builder.next + 1 + 1 + 1 ≡ builder.next + 3 = omega arith in
    leads (kept (later (later (later (later (later (later (later (later (later (later (later (later (later (later (later (later (first (opened {next = ending (builder.next + 1 + 1) (builder.next + 1 + 1 + 1)} (refuses (row (hushed _ refl (v.does st)) (row (hushed _ refl (quiet s.LeftParen a st0 (λ x st. refl) g.1.0)) (row (k1 v.is st) (row (hushed _ refl (quiet s.Comma c st1 (λ x st. refl) g.1.1.1.0)) (row (k2 st1) (row (hushed _ refl (quiet s.Comma d st2 (λ x st. refl) g.1.1.1.1.1.0)) (row (hushed _ refl (quiet s.Bar i st2 (λ x st. refl) g.1.1.1.1.1.1.0)) (row (binds x p e1 st2 (names_of st.scope) g.1.1.1.1.1.1.1.0) (row (hushed _ refl (quiet s.Comma j st3 (λ x st. refl) g.1.1.1.1.1.1.1.1.0)) (row (binds y o e2 st3 (names_of st.scope) g.1.1.1.1.1.1.1.1.1.0) (row (hushed _ refl (quiet s.Comma k st4 (λ x st. refl) g.1.1.1.1.1.1.1.1.1.1.0)) (row (binds z n e3 st4 (names_of st.scope) g.1.1.1.1.1.1.1.1.1.1.1.0) (row (hushed _ refl (quiet s.Bar m st5 (λ x st. refl) g.1.1.1.1.1.1.1.1.1.1.1.1.0)) (row (k3 st5) (row (hushed _ refl (quiet s.RightParen f st6 (λ x st. refl) g.1.1.1.1.1.1.1.1.1.1.1.1.1.1.0)) (closed end st6 g.1.1.1.1.1.1.1.1.1.1.1.1.1.1.1))))))))))))))))
    (ap (λ q. (or_else (misnamed none (item (OfRule r.Rows)) l (names_of st.scope)) (or_else (misnamed none (item (OfRule r.Expr)) t (names_of st.scope)) (or_else (misnamed none (item (OfRule r.Bind)) (node (pair (leaf x) (pair p e1))) (names_of st.scope)) (or_else (misnamed none (item (OfRule r.Bind)) (node (pair (leaf y) (pair o e2))) (names_of st.scope)) (or_else (misnamed none (item (OfRule r.Bind)) (node (pair (leaf z) (pair n e3))) (names_of st.scope)) q)))))) (or_else-none (misnamed none (item (OfRule r.Expr)) b (z.word ∷ y.word ∷ x.word ∷ names_of st.scope)))))
    (λ q. ap (λ p1. Some (since q (push (expr (loop (at p1) (pack_legs (unpack_legs ls.legs)) builder.expr (binder_of (leaf x) p builder.next) (binder_of (leaf y) o (builder.next + 1)) (binder_of (leaf z) n (builder.next + 1 + 1)) inner.expr)) (with_next inner.next st)))) (alone v)
    ∙ ap (λ k. Some (since q (push (expr (loop (node_at head) k builder.expr (binder_of (leaf x) p builder.next) (binder_of (leaf y) o (builder.next + 1)) (binder_of (leaf z) n (builder.next + 1 + 1)) inner.expr)) (with_next inner.next st)))) (pack-unpack_legs ls.legs)))))))))))))))))))) (λ z. refl))
    (λ i. ending (two i) (three i))

pub iterate_form : (x : Token) (head a t c i p e1 m b f end : Tree Token) → Good false (item (OfRule r.Iterate)) (node (pair head (pair a (pair t (pair c (pair i (pair (node (pair (leaf x) (pair p e1))) (pair m (pair b (pair f end)))))))))) → Spells r.Expr expr_of t → Spells r.Expr expr_of b → Spells r.Primary primary_of (node (there (there (there (there (there (there (there (there (there (there (there (there (there (there (there (there (there (here (node (pair head (pair a (pair t (pair c (pair i (pair (node (pair (leaf x) (pair p e1))) (pair m (pair b (pair f end)))))))))))))))))))))))))))))
iterate_form x head a t c i p e1 m b f end g k1 k2 st =
    let v = fixed_told w.Iterate head itself (λ x st. refl) g.0 in
    let st0 = push (token v.is) st in
    let state = expr_of t st.scope st.next in
    let st1 = behind st0 state in
    let st2 = opens (leaf x) p st1 in
    let inner = expr_of b st2.scope st2.next in
    let st3 = behind st2 inner in
    kept (later (later (later (later (later (later (later (later (later (later (later (later (later (later (later (later (later (first (opened (refuses (row (hushed _ refl (v.does st)) (row (hushed _ refl (quiet s.LeftParen a st0 (λ x st. refl) g.1.0)) (row (k1 st0) (row (hushed _ refl (quiet s.Comma c st1 (λ x st. refl) g.1.1.1.0)) (row (hushed _ refl (quiet s.Bar i st1 (λ x st. refl) g.1.1.1.1.0)) (row (binds x p e1 st1 (names_of st.scope) g.1.1.1.1.1.0) (row (hushed _ refl (quiet s.Bar m st2 (λ x st. refl) g.1.1.1.1.1.1.0)) (row (k2 st2) (row (hushed _ refl (quiet s.RightParen f st3 (λ x st. refl) g.1.1.1.1.1.1.1.1.0)) (closed end st3 g.1.1.1.1.1.1.1.1.1))))))))))
    (ap (λ q. (or_else (misnamed none (item (OfRule r.Expr)) t (names_of st.scope)) (or_else (misnamed none (item (OfRule r.Bind)) (node (pair (leaf x) (pair p e1))) (names_of st.scope)) q))) (or_else-none (misnamed none (item (OfRule r.Expr)) b (x.word ∷ names_of st.scope)))))
    (λ q. ap (λ p1. Some (since q (push (expr (iterate (at p1) state.expr (binder_of (leaf x) p state.next) inner.expr)) (with_next inner.next st)))) (alone v))))))))))))))))))))) (λ z. refl)
