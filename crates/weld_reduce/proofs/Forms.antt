-- The machine spells the forms that stand by themselves and bind no names.
use Rattle.std.proofs.Common.{◌≡◌, refl, false, Some, None, option_and_then, List, [], ◌∷◌, ◌++◌, cond, ap, sym, ◌∙◌, append_assoc}
use Rattle.std.proofs.lemmas.List.{append-nil}
use Rattle.weld_grammar.specs.declared.terminals.symbol.Symbol.TheVariants as s
use Rattle.weld_grammar.specs.declared.terminals.reserved.Reserved.TheVariants as w
use Rattle.weld_grammar.specs.declared.terminals.token.Token.{Token}
use Rattle.weld_tokens.specs.Literals.{literal_value}
use Rattle.weld_tree.specs.ExprTree.{ExprTree, ExprTrees, leaf as leaf_at, one, two, three, many, int, cast, len, finish, look_up, key_exists, merge, if_else, select, slice, make_vec, make_struct, no_exprs, more_exprs, pack_exprs, unpack_exprs}
use Rattle.weld_grammar.specs.declared.terminal.Terminal.TheVariants.{Number}
use Rattle.weld_grammar.specs.declared.rule.Rule.TheVariants as r
use Rattle.weld_grammar.specs.declared.item.Item.TheVariants.{One, Part as OfRule, Repeated}
use Rattle.weld_grammar.specs.Grammar.{item}
use Rattle.weld_grammar.specs.Derivation.{Tree, leaf, node, empty, pair, here, there}
use Rattle.weld_spell.specs.ProgramOf.{first_of, node_at, kind_of_class, expr_of, primary_of, next_exprs_of}
use Rattle.weld_spell.specs.Names.{misnamed, none}
use Rattle.weld_reduce.specs.Values.{Value, token, expr, exprs, top_token, top_exprs}
use Rattle.weld_reduce.specs.Forms.{at}
use Rattle.weld_reduce.specs.States.{State, push, with_values, names_of}
use Rattle.weld_reduce.proofs.Does.{Does, since, shifted, plain, opened, kept, first, later, row, no_more, one_more}
use Rattle.weld_reduce.proofs.Good.{Good}
use Rattle.weld_reduce.proofs.Tokens.{sign_told, fixed_told, alone, itself, quiet, ended}
use Rattle.weld_reduce.proofs.TypeForms.{told_int_kind}
use Rattle.weld_reduce.proofs.Levels.{with_next, behind, Spells, in_range}

-- ---- leaves

pub number : (x : Token) → Good false (item (One Number)) (leaf x) → Spells r.Primary primary_of (node (here (leaf x)))
number x g st =
    opened (first (plain {next = push (token x) st} (λ z. refl)))
    (λ z. ap (λ b. option_and_then (λ vs. Some (with_values (since z st) vs)) (option_and_then (λ e. Some (expr e ∷ st.values)) (cond b (Some (leaf_at (at x.place) (int (kind_of_class x.class) (literal_value false x.word)))) None))) (in_range false x.class x.word g.is g.ranged))

pub string : (x : Token) → Spells r.Primary primary_of (node (there (here (leaf x))))
string x st = kept (later (first (plain (λ z. refl)))) (λ z. refl)

pub true_word : (x : Token) → Spells r.Primary primary_of (node (there (there (here (leaf x)))))
true_word x st = kept (later (later (first (plain (λ z. refl))))) (λ z. refl)

pub false_word : (x : Token) → Spells r.Primary primary_of (node (there (there (there (here (leaf x))))))
false_word x st = kept (later (later (later (first (plain (λ z. refl)))))) (λ z. refl)

pub a_name : (x : Token) → Spells r.Primary primary_of (node (there (there (there (there (here (leaf x)))))))
a_name x st = kept (later (later (later (later (first (shifted (λ z. refl))))))) (λ z. refl)

-- ---- forms of a word or a sign and a number of expressions

pub paren : (q0 t1 q2 end : Tree Token) → Good false (item (OfRule r.Paren)) (node (pair q0 (pair t1 (pair q2 end)))) → Spells r.Expr expr_of t1 → Spells r.Primary primary_of (node (there (there (there (there (there (here (node (pair q0 (pair t1 (pair q2 end)))))))))))
paren q0 t1 q2 end g k1 st =
    let e1 = expr_of t1 st.scope st.next in
    let st1 = behind st e1 in
    kept (later (later (later (later (later (first (kept (row (quiet s.LeftParen q0 st (λ x st. refl) g.0) (row (k1 st) (row (quiet s.RightParen q2 st1 (λ x st. refl) g.1.1.0) (ended end st1 g.1.1.1)))) (λ z. refl)))))))) (λ z. refl)

pub if_form : (a0 q1 t2 q3 t4 q5 t6 q7 end : Tree Token) → Good false (item (OfRule r.If)) (node (pair a0 (pair q1 (pair t2 (pair q3 (pair t4 (pair q5 (pair t6 (pair q7 end))))))))) → Spells r.Expr expr_of t2 → Spells r.Expr expr_of t4 → Spells r.Expr expr_of t6 → Spells r.Primary primary_of (node (there (there (there (there (there (there (there (there (here (node (pair a0 (pair q1 (pair t2 (pair q3 (pair t4 (pair q5 (pair t6 (pair q7 end)))))))))))))))))))
if_form a0 q1 t2 q3 t4 q5 t6 q7 end g k2 k4 k6 st =
    let x0 = fixed_told w.If a0 itself (λ x st. refl) g.0 in
    let st0 = push (token x0.is) st in
    let e2 = expr_of t2 st.scope st.next in
    let st2 = behind st0 e2 in
    let e4 = expr_of t4 st.scope e2.next in
    let st4 = behind st2 e4 in
    let e6 = expr_of t6 st.scope e4.next in
    let st6 = behind st4 e6 in
    kept (later (later (later (later (later (later (later (later (first (opened (row (x0.does st) (row (quiet s.LeftParen q1 st0 (λ x st. refl) g.1.0) (row (k2 st0) (row (quiet s.Comma q3 st2 (λ x st. refl) g.1.1.1.0) (row (k4 st2) (row (quiet s.Comma q5 st4 (λ x st. refl) g.1.1.1.1.1.0) (row (k6 st4) (row (quiet s.RightParen q7 st6 (λ x st. refl) g.1.1.1.1.1.1.1.0) (ended end st6 g.1.1.1.1.1.1.1.1))))))))) (λ z. λ i. Some (since z (push (expr (three (at (first_of (x0.only i))) if_else e2.expr e4.expr e6.expr)) (with_next e6.next st)))))))))))))) (λ z. refl)

pub select_form : (a0 q1 t2 q3 t4 q5 t6 q7 end : Tree Token) → Good false (item (OfRule r.Select)) (node (pair a0 (pair q1 (pair t2 (pair q3 (pair t4 (pair q5 (pair t6 (pair q7 end))))))))) → Spells r.Expr expr_of t2 → Spells r.Expr expr_of t4 → Spells r.Expr expr_of t6 → Spells r.Primary primary_of (node (there (there (there (there (there (there (there (there (there (here (node (pair a0 (pair q1 (pair t2 (pair q3 (pair t4 (pair q5 (pair t6 (pair q7 end))))))))))))))))))))
select_form a0 q1 t2 q3 t4 q5 t6 q7 end g k2 k4 k6 st =
    let x0 = fixed_told w.Select a0 itself (λ x st. refl) g.0 in
    let st0 = push (token x0.is) st in
    let e2 = expr_of t2 st.scope st.next in
    let st2 = behind st0 e2 in
    let e4 = expr_of t4 st.scope e2.next in
    let st4 = behind st2 e4 in
    let e6 = expr_of t6 st.scope e4.next in
    let st6 = behind st4 e6 in
    kept (later (later (later (later (later (later (later (later (later (first (opened (row (x0.does st) (row (quiet s.LeftParen q1 st0 (λ x st. refl) g.1.0) (row (k2 st0) (row (quiet s.Comma q3 st2 (λ x st. refl) g.1.1.1.0) (row (k4 st2) (row (quiet s.Comma q5 st4 (λ x st. refl) g.1.1.1.1.1.0) (row (k6 st4) (row (quiet s.RightParen q7 st6 (λ x st. refl) g.1.1.1.1.1.1.1.0) (ended end st6 g.1.1.1.1.1.1.1.1))))))))) (λ z. λ i. Some (since z (push (expr (three (at (first_of (x0.only i))) select e2.expr e4.expr e6.expr)) (with_next e6.next st))))))))))))))) (λ z. refl)

pub look_up_form : (a0 q1 t2 q3 t4 q5 end : Tree Token) → Good false (item (OfRule r.LookUp)) (node (pair a0 (pair q1 (pair t2 (pair q3 (pair t4 (pair q5 end))))))) → Spells r.Expr expr_of t2 → Spells r.Expr expr_of t4 → Spells r.Primary primary_of (node (there (there (there (there (there (there (there (there (there (there (here (node (pair a0 (pair q1 (pair t2 (pair q3 (pair t4 (pair q5 end)))))))))))))))))))
look_up_form a0 q1 t2 q3 t4 q5 end g k2 k4 st =
    let x0 = fixed_told w.Lookup a0 itself (λ x st. refl) g.0 in
    let st0 = push (token x0.is) st in
    let e2 = expr_of t2 st.scope st.next in
    let st2 = behind st0 e2 in
    let e4 = expr_of t4 st.scope e2.next in
    let st4 = behind st2 e4 in
    kept (later (later (later (later (later (later (later (later (later (later (first (opened (row (x0.does st) (row (quiet s.LeftParen q1 st0 (λ x st. refl) g.1.0) (row (k2 st0) (row (quiet s.Comma q3 st2 (λ x st. refl) g.1.1.1.0) (row (k4 st2) (row (quiet s.RightParen q5 st4 (λ x st. refl) g.1.1.1.1.1.0) (ended end st4 g.1.1.1.1.1.1))))))) (λ z. λ i. Some (since z (push (expr (two (at (first_of (x0.only i))) look_up e2.expr e4.expr)) (with_next e4.next st)))))))))))))))) (λ z. refl)

pub key_exists_form : (a0 q1 t2 q3 t4 q5 end : Tree Token) → Good false (item (OfRule r.KeyExists)) (node (pair a0 (pair q1 (pair t2 (pair q3 (pair t4 (pair q5 end))))))) → Spells r.Expr expr_of t2 → Spells r.Expr expr_of t4 → Spells r.Primary primary_of (node (there (there (there (there (there (there (there (there (there (there (there (here (node (pair a0 (pair q1 (pair t2 (pair q3 (pair t4 (pair q5 end))))))))))))))))))))
key_exists_form a0 q1 t2 q3 t4 q5 end g k2 k4 st =
    let x0 = fixed_told w.Keyexists a0 itself (λ x st. refl) g.0 in
    let st0 = push (token x0.is) st in
    let e2 = expr_of t2 st.scope st.next in
    let st2 = behind st0 e2 in
    let e4 = expr_of t4 st.scope e2.next in
    let st4 = behind st2 e4 in
    kept (later (later (later (later (later (later (later (later (later (later (later (first (opened (row (x0.does st) (row (quiet s.LeftParen q1 st0 (λ x st. refl) g.1.0) (row (k2 st0) (row (quiet s.Comma q3 st2 (λ x st. refl) g.1.1.1.0) (row (k4 st2) (row (quiet s.RightParen q5 st4 (λ x st. refl) g.1.1.1.1.1.0) (ended end st4 g.1.1.1.1.1.1))))))) (λ z. λ i. Some (since z (push (expr (two (at (first_of (x0.only i))) key_exists e2.expr e4.expr)) (with_next e4.next st))))))))))))))))) (λ z. refl)

pub len_form : (a0 q1 t2 q3 end : Tree Token) → Good false (item (OfRule r.Len)) (node (pair a0 (pair q1 (pair t2 (pair q3 end))))) → Spells r.Expr expr_of t2 → Spells r.Primary primary_of (node (there (there (there (there (there (there (there (there (there (there (there (there (here (node (pair a0 (pair q1 (pair t2 (pair q3 end)))))))))))))))))))
len_form a0 q1 t2 q3 end g k2 st =
    let x0 = fixed_told w.Len a0 itself (λ x st. refl) g.0 in
    let st0 = push (token x0.is) st in
    let e2 = expr_of t2 st.scope st.next in
    let st2 = behind st0 e2 in
    kept (later (later (later (later (later (later (later (later (later (later (later (later (first (opened (row (x0.does st) (row (quiet s.LeftParen q1 st0 (λ x st. refl) g.1.0) (row (k2 st0) (row (quiet s.RightParen q3 st2 (λ x st. refl) g.1.1.1.0) (ended end st2 g.1.1.1.1))))) (λ z. λ i. Some (since z (push (expr (one (at (first_of (x0.only i))) len e2.expr)) (with_next e2.next st)))))))))))))))))) (λ z. refl)

pub slice_form : (a0 q1 t2 q3 t4 q5 t6 q7 end : Tree Token) → Good false (item (OfRule r.Slice)) (node (pair a0 (pair q1 (pair t2 (pair q3 (pair t4 (pair q5 (pair t6 (pair q7 end))))))))) → Spells r.Expr expr_of t2 → Spells r.Expr expr_of t4 → Spells r.Expr expr_of t6 → Spells r.Primary primary_of (node (there (there (there (there (there (there (there (there (there (there (there (there (there (here (node (pair a0 (pair q1 (pair t2 (pair q3 (pair t4 (pair q5 (pair t6 (pair q7 end))))))))))))))))))))))))
slice_form a0 q1 t2 q3 t4 q5 t6 q7 end g k2 k4 k6 st =
    let x0 = fixed_told w.Slice a0 itself (λ x st. refl) g.0 in
    let st0 = push (token x0.is) st in
    let e2 = expr_of t2 st.scope st.next in
    let st2 = behind st0 e2 in
    let e4 = expr_of t4 st.scope e2.next in
    let st4 = behind st2 e4 in
    let e6 = expr_of t6 st.scope e4.next in
    let st6 = behind st4 e6 in
    kept (later (later (later (later (later (later (later (later (later (later (later (later (later (first (opened (row (x0.does st) (row (quiet s.LeftParen q1 st0 (λ x st. refl) g.1.0) (row (k2 st0) (row (quiet s.Comma q3 st2 (λ x st. refl) g.1.1.1.0) (row (k4 st2) (row (quiet s.Comma q5 st4 (λ x st. refl) g.1.1.1.1.1.0) (row (k6 st4) (row (quiet s.RightParen q7 st6 (λ x st. refl) g.1.1.1.1.1.1.1.0) (ended end st6 g.1.1.1.1.1.1.1.1))))))))) (λ z. λ i. Some (since z (push (expr (three (at (first_of (x0.only i))) slice e2.expr e4.expr e6.expr)) (with_next e6.next st))))))))))))))))))) (λ z. refl)

pub merge_form : (a0 q1 t2 q3 t4 q5 end : Tree Token) → Good false (item (OfRule r.Merge)) (node (pair a0 (pair q1 (pair t2 (pair q3 (pair t4 (pair q5 end))))))) → Spells r.Expr expr_of t2 → Spells r.Expr expr_of t4 → Spells r.Primary primary_of (node (there (there (there (there (there (there (there (there (there (there (there (there (there (there (here (node (pair a0 (pair q1 (pair t2 (pair q3 (pair t4 (pair q5 end)))))))))))))))))))))))
merge_form a0 q1 t2 q3 t4 q5 end g k2 k4 st =
    let x0 = fixed_told w.Merge a0 itself (λ x st. refl) g.0 in
    let st0 = push (token x0.is) st in
    let e2 = expr_of t2 st.scope st.next in
    let st2 = behind st0 e2 in
    let e4 = expr_of t4 st.scope e2.next in
    let st4 = behind st2 e4 in
    kept (later (later (later (later (later (later (later (later (later (later (later (later (later (later (first (opened (row (x0.does st) (row (quiet s.LeftParen q1 st0 (λ x st. refl) g.1.0) (row (k2 st0) (row (quiet s.Comma q3 st2 (λ x st. refl) g.1.1.1.0) (row (k4 st2) (row (quiet s.RightParen q5 st4 (λ x st. refl) g.1.1.1.1.1.0) (ended end st4 g.1.1.1.1.1.1))))))) (λ z. λ i. Some (since z (push (expr (two (at (first_of (x0.only i))) merge e2.expr e4.expr)) (with_next e4.next st)))))))))))))))))))) (λ z. refl)

pub finish_form : (a0 q1 t2 q3 end : Tree Token) → Good false (item (OfRule r.Finish)) (node (pair a0 (pair q1 (pair t2 (pair q3 end))))) → Spells r.Expr expr_of t2 → Spells r.Primary primary_of (node (there (there (there (there (there (there (there (there (there (there (there (there (there (there (there (here (node (pair a0 (pair q1 (pair t2 (pair q3 end))))))))))))))))))))))
finish_form a0 q1 t2 q3 end g k2 st =
    let x0 = fixed_told w.Result a0 itself (λ x st. refl) g.0 in
    let st0 = push (token x0.is) st in
    let e2 = expr_of t2 st.scope st.next in
    let st2 = behind st0 e2 in
    kept (later (later (later (later (later (later (later (later (later (later (later (later (later (later (later (first (opened (row (x0.does st) (row (quiet s.LeftParen q1 st0 (λ x st. refl) g.1.0) (row (k2 st0) (row (quiet s.RightParen q3 st2 (λ x st. refl) g.1.1.1.0) (ended end st2 g.1.1.1.1))))) (λ z. λ i. Some (since z (push (expr (one (at (first_of (x0.only i))) finish e2.expr)) (with_next e2.next st))))))))))))))))))))) (λ z. refl)

pub cast_form : (a0 q1 t2 q3 end : Tree Token) → Good false (item (OfRule r.Cast)) (node (pair a0 (pair q1 (pair t2 (pair q3 end))))) → Spells r.Expr expr_of t2 → Spells r.Primary primary_of (node (there (there (there (there (there (there (there (there (there (there (there (there (there (there (there (there (there (there (here (node (pair a0 (pair q1 (pair t2 (pair q3 end)))))))))))))))))))))))))
cast_form a0 q1 t2 q3 end g k2 st =
    let x0 = told_int_kind a0 g.0 in
    let st0 = push (token x0.is) st in
    let e2 = expr_of t2 st.scope st.next in
    let st2 = behind st0 e2 in
    kept (later (later (later (later (later (later (later (later (later (later (later (later (later (later (later (later (later (later (first (opened (row (x0.does st) (row (quiet s.LeftParen q1 st0 (λ x st. refl) g.1.0) (row (k2 st0) (row (quiet s.RightParen q3 st2 (λ x st. refl) g.1.1.1.0) (ended end st2 g.1.1.1.1))))) (λ z. λ i. Some (since z (push (expr (one (at (first_of (x0.only i))) (cast (x0.says i)) e2.expr)) (with_next e2.next st)))))))))))))))))))))))) (λ z. refl)

-- ---- lists

pack-unpack_exprs : (es : ExprTrees) → pack_exprs (unpack_exprs es) ≡ es
pack-unpack_exprs no_exprs = refl
pack-unpack_exprs (more_exprs e es) = ap (more_exprs e) (pack-unpack_exprs es)

-- the value stands for these expressions
pub record Holds (v : Value) (es : List ExprTree) : Type 0 where
  pub top : (vs : List Value) → top_exprs (v ∷ vs) ≡ Some (es, vs)

-- behind some expressions of a list come more
pub record More (t : Tree Token) (es : List ExprTree) (v : Value) (st : State) : Type 0 where
  pub value : Value
  pub holds : Holds value (es ++ unpack_exprs (next_exprs_of t st.scope st.next).exprs)
  pub does : Does (item (Repeated r.NextExpr)) t (push v st) (misnamed none (item (Repeated r.NextExpr)) t (names_of st.scope)) (push value (with_next (next_exprs_of t st.scope st.next).next st))

pub next_none : (v : Value) (es : List ExprTree) (st : State) → Holds v es → More empty es v st
next_none v es st h = record { value = v; holds = record { top = λ vs. h.top vs ∙ ap (λ k. Some (k, vs)) (sym (append-nil es)) }; does = no_more r.NextExpr (push v st) }

pub next_more : (c t end u : Tree Token) (v : Value) (es : List ExprTree) (st : State) → Good false (item (OfRule r.NextExpr)) (node (pair c (pair t end))) → Holds v es → Spells r.Expr expr_of t
    → More u (es ++ (expr_of t st.scope st.next).expr ∷ []) (exprs (es ++ (expr_of t st.scope st.next).expr ∷ [])) (with_next (expr_of t st.scope st.next).next st) → More (pair (node (pair c (pair t end))) u) es v st
next_more c t end u v es st g h k m =
    let e = expr_of t st.scope st.next in
    record {
      value = m.value;
      holds = record { top = λ vs. m.holds.top vs ∙ ap (λ k. Some (k, vs)) (append_assoc es (e.expr ∷ []) (unpack_exprs (next_exprs_of u st.scope e.next).exprs)) };
      does = one_more
          (opened (row (quiet s.Comma c (push v st) (λ x st. refl) g.0) (row (k (push v st)) (ended end (behind (push v st) e) g.1.1)))
          (λ z. ap (λ o. option_and_then (λ vs. Some (with_values (since z (with_next e.next st)) vs)) (option_and_then (λ k. Some (exprs (k.0 ++ e.expr ∷ []) ∷ k.1)) o)) (h.top st.values)))
          m.does;
    }

pub make_vec_form : (a t u q end : Tree Token) → Good false (item (OfRule r.MakeVec)) (node (pair a (pair t (pair u (pair q end))))) → Spells r.Expr expr_of t → ((v : Value) (es : List ExprTree) (st : State) → Holds v es → More u es v st) → Spells r.Primary primary_of (node (there (there (there (there (there (there (here (node (pair a (pair t (pair u (pair q end)))))))))))))
make_vec_form a t u q end g k n st =
    let x = sign_told s.LeftBracket a itself (λ x st. refl) g.0 in
    let before = push (token x.is) st in
    let e = expr_of t st.scope st.next in
    let others = next_exprs_of u st.scope e.next in
    let m = n (expr e.expr) (e.expr ∷ []) (with_next e.next before) (record { top = λ vs. refl }) in
    let last = push m.value (with_next others.next before) in
    kept (later (later (later (later (later (later (first (opened (row (x.does st) (row (k before) (row m.does (row (quiet s.RightBracket q last (λ x st. refl) g.1.1.1.0) (ended end last g.1.1.1.1)))))
    (λ z. ap (λ o. option_and_then (λ vs. Some (with_values (since z (with_next others.next st)) vs)) (option_and_then (λ es. option_and_then (λ b. Some (expr (many (at b.0.place) make_vec (pack_exprs es.0)) ∷ b.1)) (top_token es.1)) o)) (m.holds.top (token x.is ∷ st.values))
    ∙ ap (λ p. Some (since z (push (expr (many (at p) make_vec (more_exprs e.expr (pack_exprs (unpack_exprs others.exprs))))) (with_next others.next st)))) (alone x)
    ∙ ap (λ es. Some (since z (push (expr (many (node_at a) make_vec (more_exprs e.expr es))) (with_next others.next st)))) (pack-unpack_exprs others.exprs)))))))))) (λ z. refl)

pub make_struct_form : (a t u q end : Tree Token) → Good false (item (OfRule r.MakeStruct)) (node (pair a (pair t (pair u (pair q end))))) → Spells r.Expr expr_of t → ((v : Value) (es : List ExprTree) (st : State) → Holds v es → More u es v st) → Spells r.Primary primary_of (node (there (there (there (there (there (there (there (here (node (pair a (pair t (pair u (pair q end))))))))))))))
make_struct_form a t u q end g k n st =
    let x = sign_told s.LeftBrace a itself (λ x st. refl) g.0 in
    let before = push (token x.is) st in
    let e = expr_of t st.scope st.next in
    let others = next_exprs_of u st.scope e.next in
    let m = n (expr e.expr) (e.expr ∷ []) (with_next e.next before) (record { top = λ vs. refl }) in
    let last = push m.value (with_next others.next before) in
    kept (later (later (later (later (later (later (later (first (opened (row (x.does st) (row (k before) (row m.does (row (quiet s.RightBrace q last (λ x st. refl) g.1.1.1.0) (ended end last g.1.1.1.1)))))
    (λ z. ap (λ o. option_and_then (λ vs. Some (with_values (since z (with_next others.next st)) vs)) (option_and_then (λ es. option_and_then (λ b. Some (expr (many (at b.0.place) make_struct (pack_exprs es.0)) ∷ b.1)) (top_token es.1)) o)) (m.holds.top (token x.is ∷ st.values))
    ∙ ap (λ p. Some (since z (push (expr (many (at p) make_struct (more_exprs e.expr (pack_exprs (unpack_exprs others.exprs))))) (with_next others.next st)))) (alone x)
    ∙ ap (λ es. Some (since z (push (expr (many (node_at a) make_struct (more_exprs e.expr es))) (with_next others.next st)))) (pack-unpack_exprs others.exprs))))))))))) (λ z. refl)
