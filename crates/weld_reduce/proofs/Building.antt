-- The machine spells builders, some from a starting value.
use Rattle.std.proofs.Common.{refl, false, Some, ap}
use Rattle.weld_grammar.specs.declared.terminals.symbol.Symbol.TheVariants as s
use Rattle.weld_grammar.specs.declared.terminals.reserved.Reserved.TheVariants as w
use Rattle.weld_grammar.specs.declared.terminals.token.Token.{Token}
use Rattle.weld_tree.specs.TypeTree.{list, total, keyed, cells, groups}
use Rattle.weld_tree.specs.ExprTree.{leaf as leaf_at, one, fresh, started}
use Rattle.weld_grammar.specs.declared.rule.Rule.TheVariants as r
use Rattle.weld_grammar.specs.declared.item.Item.TheVariants.{Part as OfRule}
use Rattle.weld_grammar.specs.Grammar.{item}
use Rattle.weld_grammar.specs.Derivation.{Tree, node, empty, pair, here, there}
use Rattle.weld_spell.specs.TypeOf.{type_of, merge_op_of}
use Rattle.weld_spell.specs.ProgramOf.{expr_of, builder_of}
use Rattle.weld_reduce.specs.Values.{token, expr, op}
use Rattle.weld_reduce.specs.Forms.{at}
use Rattle.weld_reduce.specs.States.{push}
use Rattle.weld_reduce.proofs.Does.{since, opened, kept, first, later, row, absent, present}
use Rattle.weld_reduce.proofs.Good.{Good}
use Rattle.weld_reduce.proofs.Tokens.{sign_told, fixed_told, front, alone, itself, quiet, ended}
use Rattle.weld_reduce.proofs.TypeForms.{told_list, told_groups, merge_ops, type_at, spells_type}
use Rattle.weld_reduce.proofs.Levels.{with_next, behind, Spells}

-- a starting value
starts : (a e q end : Tree Token) → Good false (item (OfRule r.Start)) (node (pair a (pair e (pair q end)))) → Spells r.Expr expr_of e → Spells r.Start (λ t. expr_of e) (node (pair a (pair e (pair q end))))
starts a e q end g k st =
    let last = behind st (expr_of e st.scope st.next) in
    kept (row (quiet s.LeftParen a st (λ x st. refl) g.0) (row (k st) (row (quiet s.RightParen q last (λ x st. refl) g.1.1.0) (ended end last g.1.1.1)))) (λ z. refl)

pub list_build : (a0 a1 t2 q3 end : Tree Token) → Good false (item (OfRule r.ListBuild)) (node (pair a0 (pair a1 (pair t2 (pair q3 end))))) → Spells r.Build builder_of (node (here (node (pair a0 (pair a1 (pair t2 (pair q3 end)))))))
list_build a0 a1 t2 q3 end g st =
    let x0 = told_list a0 g.0 in
    let st0 = push (token x0.is) st in
    let x1 = sign_told s.LeftBracket a1 itself (λ x st. refl) g.1.0 in
    let st1 = push (token x1.is) st0 in
    let st2 = push (type_at t2) st1 in
    kept (first (opened (row (x0.does st) (row (x1.does st0) (row (spells_type t2 g.1.1.0 st1) (row (quiet s.RightBracket q3 st2 (λ x st. refl) g.1.1.1.0) (ended end st2 g.1.1.1.1))))) (λ z. ap (λ p. Some (since z (push (expr (leaf_at (at p) (fresh (list (type_of t2))))) st))) (front x0 (pair a1 (pair t2 (pair q3 end))))))) (λ z. refl)

pub total_build : (a0 a1 t2 q3 o4 q5 end : Tree Token) → Good false (item (OfRule r.TotalBuild)) (node (pair a0 (pair a1 (pair t2 (pair q3 (pair o4 (pair q5 (pair empty end)))))))) → Spells r.Build builder_of (node (there (here (node (pair a0 (pair a1 (pair t2 (pair q3 (pair o4 (pair q5 (pair empty end)))))))))))
total_build a0 a1 t2 q3 o4 q5 end g st =
    let x0 = fixed_told w.Merger a0 itself (λ x st. refl) g.0 in
    let st0 = push (token x0.is) st in
    let x1 = sign_told s.LeftBracket a1 itself (λ x st. refl) g.1.0 in
    let st1 = push (token x1.is) st0 in
    let st2 = push (type_at t2) st1 in
    let st4 = push (op (merge_op_of o4)) st2 in
    kept (later (first (opened (row (x0.does st) (row (x1.does st0) (row (spells_type t2 g.1.1.0 st1) (row (quiet s.Comma q3 st2 (λ x st. refl) g.1.1.1.0) (row (merge_ops o4 g.1.1.1.1.0 st2) (row (quiet s.RightBracket q5 st4 (λ x st. refl) g.1.1.1.1.1.0) (row (absent r.Start st4) (ended end st4 g.1.1.1.1.1.1.1)))))))) (λ z. ap (λ p. Some (since z (push (expr (leaf_at (at p) (fresh (total (type_of t2) (merge_op_of o4))))) st))) (front x0 (pair a1 (pair t2 (pair q3 (pair o4 (pair q5 (pair empty end))))))))))) (λ z. refl)

pub total_started : (a0 a1 t2 q3 o4 q5 a e q end1 end : Tree Token) → Good false (item (OfRule r.TotalBuild)) (node (pair a0 (pair a1 (pair t2 (pair q3 (pair o4 (pair q5 (pair (here (node (pair a (pair e (pair q end1))))) end)))))))) → Spells r.Expr expr_of e → Spells r.Build builder_of (node (there (here (node (pair a0 (pair a1 (pair t2 (pair q3 (pair o4 (pair q5 (pair (here (node (pair a (pair e (pair q end1))))) end)))))))))))
total_started a0 a1 t2 q3 o4 q5 a e q end1 end g k st =
    let x0 = fixed_told w.Merger a0 itself (λ x st. refl) g.0 in
    let st0 = push (token x0.is) st in
    let x1 = sign_told s.LeftBracket a1 itself (λ x st. refl) g.1.0 in
    let st1 = push (token x1.is) st0 in
    let st2 = push (type_at t2) st1 in
    let st4 = push (op (merge_op_of o4)) st2 in
    let start = expr_of e st.scope st.next in
    let st6 = behind st4 start in
    kept (later (first (opened (row (x0.does st) (row (x1.does st0) (row (spells_type t2 g.1.1.0 st1) (row (quiet s.Comma q3 st2 (λ x st. refl) g.1.1.1.0) (row (merge_ops o4 g.1.1.1.1.0 st2) (row (quiet s.RightBracket q5 st4 (λ x st. refl) g.1.1.1.1.1.0) (row (present (starts a e q end1 g.1.1.1.1.1.1.0 k st4)) (ended end st6 g.1.1.1.1.1.1.1)))))))) (λ z. ap (λ p. Some (since z (push (expr (one (at p) (started (total (type_of t2) (merge_op_of o4))) start.expr)) (with_next start.next st)))) (alone x0))))) (λ z. refl)

pub keyed_build : (a0 a1 t2 q3 t4 q5 o6 q7 end : Tree Token) → Good false (item (OfRule r.KeyedBuild)) (node (pair a0 (pair a1 (pair t2 (pair q3 (pair t4 (pair q5 (pair o6 (pair q7 end))))))))) → Spells r.Build builder_of (node (there (there (here (node (pair a0 (pair a1 (pair t2 (pair q3 (pair t4 (pair q5 (pair o6 (pair q7 end)))))))))))))
keyed_build a0 a1 t2 q3 t4 q5 o6 q7 end g st =
    let x0 = fixed_told w.Dictmerger a0 itself (λ x st. refl) g.0 in
    let st0 = push (token x0.is) st in
    let x1 = sign_told s.LeftBracket a1 itself (λ x st. refl) g.1.0 in
    let st1 = push (token x1.is) st0 in
    let st2 = push (type_at t2) st1 in
    let st4 = push (type_at t4) st2 in
    let st6 = push (op (merge_op_of o6)) st4 in
    kept (later (later (first (opened (row (x0.does st) (row (x1.does st0) (row (spells_type t2 g.1.1.0 st1) (row (quiet s.Comma q3 st2 (λ x st. refl) g.1.1.1.0) (row (spells_type t4 g.1.1.1.1.0 st2) (row (quiet s.Comma q5 st4 (λ x st. refl) g.1.1.1.1.1.0) (row (merge_ops o6 g.1.1.1.1.1.1.0 st4) (row (quiet s.RightBracket q7 st6 (λ x st. refl) g.1.1.1.1.1.1.1.0) (ended end st6 g.1.1.1.1.1.1.1.1))))))))) (λ z. ap (λ p. Some (since z (push (expr (leaf_at (at p) (fresh (keyed (type_of t2) (type_of t4) (merge_op_of o6))))) st))) (front x0 (pair a1 (pair t2 (pair q3 (pair t4 (pair q5 (pair o6 (pair q7 end))))))))))))) (λ z. refl)

pub cells_started : (a0 a1 t2 q3 o4 q5 a e q end1 end : Tree Token) → Good false (item (OfRule r.CellsBuild)) (node (pair a0 (pair a1 (pair t2 (pair q3 (pair o4 (pair q5 (pair (node (pair a (pair e (pair q end1)))) end)))))))) → Spells r.Expr expr_of e → Spells r.Build builder_of (node (there (there (there (here (node (pair a0 (pair a1 (pair t2 (pair q3 (pair o4 (pair q5 (pair (node (pair a (pair e (pair q end1)))) end)))))))))))))
cells_started a0 a1 t2 q3 o4 q5 a e q end1 end g k st =
    let x0 = fixed_told w.Vecmerger a0 itself (λ x st. refl) g.0 in
    let st0 = push (token x0.is) st in
    let x1 = sign_told s.LeftBracket a1 itself (λ x st. refl) g.1.0 in
    let st1 = push (token x1.is) st0 in
    let st2 = push (type_at t2) st1 in
    let st4 = push (op (merge_op_of o4)) st2 in
    let start = expr_of e st.scope st.next in
    let st6 = behind st4 start in
    kept (later (later (later (first (opened (row (x0.does st) (row (x1.does st0) (row (spells_type t2 g.1.1.0 st1) (row (quiet s.Comma q3 st2 (λ x st. refl) g.1.1.1.0) (row (merge_ops o4 g.1.1.1.1.0 st2) (row (quiet s.RightBracket q5 st4 (λ x st. refl) g.1.1.1.1.1.0) (row (starts a e q end1 g.1.1.1.1.1.1.0 k st4) (ended end st6 g.1.1.1.1.1.1.1)))))))) (λ z. ap (λ p. Some (since z (push (expr (one (at p) (started (cells (type_of t2) (merge_op_of o4))) start.expr)) (with_next start.next st)))) (alone x0))))))) (λ z. refl)

pub groups_build : (a0 a1 t2 q3 t4 q5 end : Tree Token) → Good false (item (OfRule r.GroupsBuild)) (node (pair a0 (pair a1 (pair t2 (pair q3 (pair t4 (pair q5 end))))))) → Spells r.Build builder_of (node (there (there (there (there (here (node (pair a0 (pair a1 (pair t2 (pair q3 (pair t4 (pair q5 end)))))))))))))
groups_build a0 a1 t2 q3 t4 q5 end g st =
    let x0 = told_groups a0 g.0 in
    let st0 = push (token x0.is) st in
    let x1 = sign_told s.LeftBracket a1 itself (λ x st. refl) g.1.0 in
    let st1 = push (token x1.is) st0 in
    let st2 = push (type_at t2) st1 in
    let st4 = push (type_at t4) st2 in
    kept (later (later (later (later (first (opened (row (x0.does st) (row (x1.does st0) (row (spells_type t2 g.1.1.0 st1) (row (quiet s.Comma q3 st2 (λ x st. refl) g.1.1.1.0) (row (spells_type t4 g.1.1.1.1.0 st2) (row (quiet s.RightBracket q5 st4 (λ x st. refl) g.1.1.1.1.1.0) (ended end st4 g.1.1.1.1.1.1))))))) (λ z. ap (λ p. Some (since z (push (expr (leaf_at (at p) (fresh (groups (type_of t2) (type_of t4))))) st))) (front x0 (pair a1 (pair t2 (pair q3 (pair t4 (pair q5 end))))))))))))) (λ z. refl)
