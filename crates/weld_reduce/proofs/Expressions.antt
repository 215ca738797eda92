-- The machine spells each expression.
use Rattle.std.proofs.Common.{refl, true, false, List, [], ◌∷◌, ◌++◌}
use Rattle.weld_grammar.specs.declared.terminals.token.Token.{Token}
use Rattle.weld_tree.specs.ExprTree.{ExprTree, LegTree, two, binary, and, or}
use Rattle.weld_grammar.specs.declared.rule.Rule.TheVariants as r
use Rattle.weld_grammar.specs.declared.item.Item.TheVariants.{Part as OfRule, Repeated}
use Rattle.weld_grammar.specs.Grammar.{item}
use Rattle.weld_grammar.specs.Derivation.{Tree, leaf, node, empty, pair, here, there}
use Rattle.weld_spell.specs.ProgramOf.{node_at, equality_op_of, relation_op_of, sum_op_of, product_op_of, expr_of, or_of, or_parts_of, and_of, and_parts_of, equality_of, equality_parts_of, relation_of, relation_parts_of, sum_of, sum_parts_of, product_of, product_parts_of, unary_of, primary_of, builder_of, leg_of}
use Rattle.weld_spell.specs.Names.{misnamed, none}
use Rattle.weld_reduce.specs.Values.{Value, expr, exprs}
use Rattle.weld_reduce.specs.States.{State, push, names_of}
use Rattle.weld_reduce.proofs.Does.{Does, kept, first, later, row, no_more, one_more}
use Rattle.weld_reduce.proofs.Good.{Good}
use Rattle.weld_reduce.proofs.Tokens.{ended}
use Rattle.weld_reduce.proofs.Levels.{with_next, behind, Spells, or_part, and_part, equality_part, relation_part, sum_part, product_part, fields, negative_number, anywhere, negation, complement}
use Rattle.weld_reduce.proofs.Binders.{let_form}
use Rattle.weld_reduce.proofs.Forms.{number, string, true_word, false_word, a_name, paren, if_form, select_form, look_up_form, key_exists_form, len_form, slice_form, merge_form, finish_form, cast_form, Holds, More, next_none, next_more, make_vec_form, make_struct_form}
use Rattle.weld_reduce.proofs.Loops.{SpellsLeg, SpellsLegs, SpellsRows, whole_leg, strided_leg, no_legs_more, one_leg_more, single, zipped, for_form, iterate_form}
use Rattle.weld_reduce.proofs.Building.{list_build, total_build, total_started, keyed_build, cells_started, groups_build}

mutual
  pub spells_expr : (t : Tree Token) → Good false (item (OfRule r.Expr)) t → Spells r.Expr expr_of t
  spells_expr (node (here (node (pair l (pair (leaf x) (pair note (pair q (pair v (pair m (pair b end)))))))))) g = let_form l x note q v m b end g (spells_or v g.1.1.1.1.0) (spells_expr b g.1.1.1.1.1.1.0)
  spells_expr (node (there (here t))) g = λ st. kept (later (first (spells_or t g st))) (λ z. refl)
  spells_expr _ g = absurd (assumption)

  spells_or : (t : Tree Token) → Good false (item (OfRule r.Or)) t → Spells r.Or or_of t
  spells_or (node (pair t (pair more end))) g = λ st.
      let left = and_of t st.scope st.next in
      let last = or_parts_of more left.expr st.scope left.next in
      kept (row (spells_and t g.0 st) (row (spells_or_parts more left.expr (with_next left.next st) g.1.0) (ended end (behind st last) g.1.1))) (λ z. refl)
  spells_or _ g = absurd (assumption)

  spells_or_parts : (t : Tree Token) (left : ExprTree) (st : State) → Good false (item (Repeated r.OrPart)) t → Does (item (Repeated r.OrPart)) t (push (expr left) st) (misnamed none (item (Repeated r.OrPart)) t (names_of st.scope)) (behind st (or_parts_of t left st.scope st.next))
  spells_or_parts empty left st g = no_more r.OrPart (push (expr left) st)
  spells_or_parts (pair (node (pair o (pair t end))) more) left st g =
      let right = and_of t st.scope st.next in
      one_more (or_part o t end left st g.0 (spells_and t g.0.1.0)) (spells_or_parts more (two (node_at o) or left right.expr) (with_next right.next st) g.1)
  spells_or_parts _ left st g = absurd (assumption)

  spells_and : (t : Tree Token) → Good false (item (OfRule r.And)) t → Spells r.And and_of t
  spells_and (node (pair t (pair more end))) g = λ st.
      let left = equality_of t st.scope st.next in
      let last = and_parts_of more left.expr st.scope left.next in
      kept (row (spells_equality t g.0 st) (row (spells_and_parts more left.expr (with_next left.next st) g.1.0) (ended end (behind st last) g.1.1))) (λ z. refl)
  spells_and _ g = absurd (assumption)

  spells_and_parts : (t : Tree Token) (left : ExprTree) (st : State) → Good false (item (Repeated r.AndPart)) t → Does (item (Repeated r.AndPart)) t (push (expr left) st) (misnamed none (item (Repeated r.AndPart)) t (names_of st.scope)) (behind st (and_parts_of t left st.scope st.next))
  spells_and_parts empty left st g = no_more r.AndPart (push (expr left) st)
  spells_and_parts (pair (node (pair o (pair t end))) more) left st g =
      let right = equality_of t st.scope st.next in
      one_more (and_part o t end left st g.0 (spells_equality t g.0.1.0)) (spells_and_parts more (two (node_at o) and left right.expr) (with_next right.next st) g.1)
  spells_and_parts _ left st g = absurd (assumption)

  spells_equality : (t : Tree Token) → Good false (item (OfRule r.Equality)) t → Spells r.Equality equality_of t
  spells_equality (node (pair t (pair more end))) g = λ st.
      let left = relation_of t st.scope st.next in
      let last = equality_parts_of more left.expr st.scope left.next in
      kept (row (spells_relation t g.0 st) (row (spells_equality_parts more left.expr (with_next left.next st) g.1.0) (ended end (behind st last) g.1.1))) (λ z. refl)
  spells_equality _ g = absurd (assumption)

  spells_equality_parts : (t : Tree Token) (left : ExprTree) (st : State) → Good false (item (Repeated r.EqualityPart)) t → Does (item (Repeated r.EqualityPart)) t (push (expr left) st) (misnamed none (item (Repeated r.EqualityPart)) t (names_of st.scope)) (behind st (equality_parts_of t left st.scope st.next))
  spells_equality_parts empty left st g = no_more r.EqualityPart (push (expr left) st)
  spells_equality_parts (pair (node (pair o (pair t end))) more) left st g =
      let right = relation_of t st.scope st.next in
      one_more (equality_part o t end left st g.0 (spells_relation t g.0.1.0)) (spells_equality_parts more (two (node_at o) (binary (equality_op_of o)) left right.expr) (with_next right.next st) g.1)
  spells_equality_parts _ left st g = absurd (assumption)

  spells_relation : (t : Tree Token) → Good false (item (OfRule r.Relation)) t → Spells r.Relation relation_of t
  spells_relation (node (pair t (pair more end))) g = λ st.
      let left = sum_of t st.scope st.next in
      let last = relation_parts_of more left.expr st.scope left.next in
      kept (row (spells_sum t g.0 st) (row (spells_relation_parts more left.expr (with_next left.next st) g.1.0) (ended end (behind st last) g.1.1))) (λ z. refl)
  spells_relation _ g = absurd (assumption)

  spells_relation_parts : (t : Tree Token) (left : ExprTree) (st : State) → Good false (item (Repeated r.RelationPart)) t → Does (item (Repeated r.RelationPart)) t (push (expr left) st) (misnamed none (item (Repeated r.RelationPart)) t (names_of st.scope)) (behind st (relation_parts_of t left st.scope st.next))
  spells_relation_parts empty left st g = no_more r.RelationPart (push (expr left) st)
  spells_relation_parts (pair (node (pair o (pair t end))) more) left st g =
      let right = sum_of t st.scope st.next in
      one_more (relation_part o t end left st g.0 (spells_sum t g.0.1.0)) (spells_relation_parts more (two (node_at o) (binary (relation_op_of o)) left right.expr) (with_next right.next st) g.1)
  spells_relation_parts _ left st g = absurd (assumption)

  spells_sum : (t : Tree Token) → Good false (item (OfRule r.Sum)) t → Spells r.Sum sum_of t
  spells_sum (node (pair t (pair more end))) g = λ st.
      let left = product_of t st.scope st.next in
      let last = sum_parts_of more left.expr st.scope left.next in
      kept (row (spells_product t g.0 st) (row (spells_sum_parts more left.expr (with_next left.next st) g.1.0) (ended end (behind st last) g.1.1))) (λ z. refl)
  spells_sum _ g = absurd (assumption)

  spells_sum_parts : (t : Tree Token) (left : ExprTree) (st : State) → Good false (item (Repeated r.SumPart)) t → Does (item (Repeated r.SumPart)) t (push (expr left) st) (misnamed none (item (Repeated r.SumPart)) t (names_of st.scope)) (behind st (sum_parts_of t left st.scope st.next))
  spells_sum_parts empty left st g = no_more r.SumPart (push (expr left) st)
  spells_sum_parts (pair (node (pair o (pair t end))) more) left st g =
      let right = product_of t st.scope st.next in
      one_more (sum_part o t end left st g.0 (spells_product t g.0.1.0)) (spells_sum_parts more (two (node_at o) (binary (sum_op_of o)) left right.expr) (with_next right.next st) g.1)
  spells_sum_parts _ left st g = absurd (assumption)

  spells_product : (t : Tree Token) → Good false (item (OfRule r.Product)) t → Spells r.Product product_of t
  spells_product (node (pair t (pair more end))) g = λ st.
      let left = unary_of t st.scope st.next in
      let last = product_parts_of more left.expr st.scope left.next in
      kept (row (spells_unary t g.0 st) (row (spells_product_parts more left.expr (with_next left.next st) g.1.0) (ended end (behind st last) g.1.1))) (λ z. refl)
  spells_product _ g = absurd (assumption)

  spells_product_parts : (t : Tree Token) (left : ExprTree) (st : State) → Good false (item (Repeated r.ProductPart)) t → Does (item (Repeated r.ProductPart)) t (push (expr left) st) (misnamed none (item (Repeated r.ProductPart)) t (names_of st.scope)) (behind st (product_parts_of t left st.scope st.next))
  spells_product_parts empty left st g = no_more r.ProductPart (push (expr left) st)
  spells_product_parts (pair (node (pair o (pair t end))) more) left st g =
      let right = unary_of t st.scope st.next in
      one_more (product_part o t end left st g.0 (spells_unary t g.0.1.0)) (spells_product_parts more (two (node_at o) (binary (product_op_of o)) left right.expr) (with_next right.next st) g.1)
  spells_product_parts _ left st g = absurd (assumption)

  spells_unary : (t : Tree Token) → Good false (item (OfRule r.Unary)) t → Spells r.Unary unary_of t
  spells_unary (node (here (node (pair m (pair (node (here (leaf k))) end))))) g = negative_number m end k g
  spells_unary (node (here (node (pair m (pair (node (there (here t))) end))))) g = negation m t end g (spells_unary t (anywhere true r.Unary t g.1.0))
  spells_unary (node (there (here (node (pair m (pair t end)))))) g = complement m t end g (spells_unary t g.1.0)
  spells_unary (node (there (there (here (node (pair t (pair more end))))))) g = λ st.
      let base = primary_of t st.scope st.next in
      let after_base = with_next base.next st in
      kept (later (later (first (kept (row (spells_primary t g.0 st) (row (fields more base.expr after_base g.1.0) (ended end _ g.1.1))) (λ z. refl))))) (λ z. refl)
  spells_unary _ g = absurd (assumption)

  spells_primary : (t : Tree Token) → Good false (item (OfRule r.Primary)) t → Spells r.Primary primary_of t
  spells_primary (node (here (leaf x))) g = number x g
  spells_primary (node (there (here (leaf x)))) g = string x
  spells_primary (node (there (there (here (leaf x))))) g = true_word x
  spells_primary (node (there (there (there (here (leaf x)))))) g = false_word x
  spells_primary (node (there (there (there (there (here (leaf x))))))) g = a_name x
  spells_primary (node (there (there (there (there (there (here (node (pair q0 (pair t1 (pair q2 end))))))))))) g = paren q0 t1 q2 end g (spells_expr t1 g.1.0)
  spells_primary (node (there (there (there (there (there (there (here (node (pair a (pair t (pair u (pair q end))))))))))))) g = make_vec_form a t u q end g (spells_expr t g.1.0) (λ v es st h. spells_next_exprs u v es st g.1.1.0 h)
  spells_primary (node (there (there (there (there (there (there (there (here (node (pair a (pair t (pair u (pair q end)))))))))))))) g = make_struct_form a t u q end g (spells_expr t g.1.0) (λ v es st h. spells_next_exprs u v es st g.1.1.0 h)
  spells_primary (node (there (there (there (there (there (there (there (there (here (node (pair a0 (pair q1 (pair t2 (pair q3 (pair t4 (pair q5 (pair t6 (pair q7 end))))))))))))))))))) g = if_form a0 q1 t2 q3 t4 q5 t6 q7 end g (spells_expr t2 g.1.1.0) (spells_expr t4 g.1.1.1.1.0) (spells_expr t6 g.1.1.1.1.1.1.0)
  spells_primary (node (there (there (there (there (there (there (there (there (there (here (node (pair a0 (pair q1 (pair t2 (pair q3 (pair t4 (pair q5 (pair t6 (pair q7 end)))))))))))))))))))) g = select_form a0 q1 t2 q3 t4 q5 t6 q7 end g (spells_expr t2 g.1.1.0) (spells_expr t4 g.1.1.1.1.0) (spells_expr t6 g.1.1.1.1.1.1.0)
  spells_primary (node (there (there (there (there (there (there (there (there (there (there (here (node (pair a0 (pair q1 (pair t2 (pair q3 (pair t4 (pair q5 end))))))))))))))))))) g = look_up_form a0 q1 t2 q3 t4 q5 end g (spells_expr t2 g.1.1.0) (spells_expr t4 g.1.1.1.1.0)
  spells_primary (node (there (there (there (there (there (there (there (there (there (there (there (here (node (pair a0 (pair q1 (pair t2 (pair q3 (pair t4 (pair q5 end)))))))))))))))))))) g = key_exists_form a0 q1 t2 q3 t4 q5 end g (spells_expr t2 g.1.1.0) (spells_expr t4 g.1.1.1.1.0)
  spells_primary (node (there (there (there (there (there (there (there (there (there (there (there (there (here (node (pair a0 (pair q1 (pair t2 (pair q3 end))))))))))))))))))) g = len_form a0 q1 t2 q3 end g (spells_expr t2 g.1.1.0)
  spells_primary (node (there (there (there (there (there (there (there (there (there (there (there (there (there (here (node (pair a0 (pair q1 (pair t2 (pair q3 (pair t4 (pair q5 (pair t6 (pair q7 end)))))))))))))))))))))))) g = slice_form a0 q1 t2 q3 t4 q5 t6 q7 end g (spells_expr t2 g.1.1.0) (spells_expr t4 g.1.1.1.1.0) (spells_expr t6 g.1.1.1.1.1.1.0)
  spells_primary (node (there (there (there (there (there (there (there (there (there (there (there (there (there (there (here (node (pair a0 (pair q1 (pair t2 (pair q3 (pair t4 (pair q5 end))))))))))))))))))))))) g = merge_form a0 q1 t2 q3 t4 q5 end g (spells_expr t2 g.1.1.0) (spells_expr t4 g.1.1.1.1.0)
  spells_primary (node (there (there (there (there (there (there (there (there (there (there (there (there (there (there (there (here (node (pair a0 (pair q1 (pair t2 (pair q3 end)))))))))))))))))))))) g = finish_form a0 q1 t2 q3 end g (spells_expr t2 g.1.1.0)
  spells_primary (node (there (there (there (there (there (there (there (there (there (there (there (there (there (there (there (there (here (node (pair h (pair a (pair l (pair c (pair t (pair d (pair i (pair (node (pair (leaf x) (pair p e1))) (pair j (pair (node (pair (leaf y) (pair o e2))) (pair k (pair (node (pair (leaf z) (pair n e3))) (pair m (pair b (pair f end)))))))))))))))))))))))))))))))))) g = for_form x y z h a l c t d i p e1 j o e2 k n e3 m b f end g (spells_rows l g.1.1.0) (spells_expr t g.1.1.1.1.0) (spells_expr b g.1.1.1.1.1.1.1.1.1.1.1.1.1.0)
  spells_primary (node (there (there (there (there (there (there (there (there (there (there (there (there (there (there (there (there (there (here (node (pair h (pair a (pair t (pair c (pair i (pair (node (pair (leaf x) (pair p e1))) (pair m (pair b (pair f end))))))))))))))))))))))))))))) g = iterate_form x h a t c i p e1 m b f end g (spells_expr t g.1.1.0) (spells_expr b g.1.1.1.1.1.1.1.0)
  spells_primary (node (there (there (there (there (there (there (there (there (there (there (there (there (there (there (there (there (there (there (here (node (pair a0 (pair q1 (pair t2 (pair q3 end))))))))))))))))))))))))) g = cast_form a0 q1 t2 q3 end g (spells_expr t2 g.1.1.0)
  spells_primary (node (there (there (there (there (there (there (there (there (there (there (there (there (there (there (there (there (there (there (there (here t))))))))))))))))))))) g = λ st. kept (later (later (later (later (later (later (later (later (later (later (later (later (later (later (later (later (later (later (later (first (spells_builder t g st))))))))))))))))))))) (λ z. refl)
  spells_primary _ g = absurd (assumption)

  spells_builder : (t : Tree Token) → Good false (item (OfRule r.Build)) t → Spells r.Build builder_of t
  spells_builder (node (here (node (pair a0 (pair a1 (pair t2 (pair q3 end))))))) g = list_build a0 a1 t2 q3 end g
  spells_builder (node (there (here (node (pair a0 (pair a1 (pair t2 (pair q3 (pair o4 (pair q5 (pair empty end))))))))))) g = total_build a0 a1 t2 q3 o4 q5 end g
  spells_builder (node (there (here (node (pair a0 (pair a1 (pair t2 (pair q3 (pair o4 (pair q5 (pair (here (node (pair a (pair e (pair q end1))))) end))))))))))) g = total_started a0 a1 t2 q3 o4 q5 a e q end1 end g (spells_expr e g.1.1.1.1.1.1.0.1.0)
  spells_builder (node (there (there (here (node (pair a0 (pair a1 (pair t2 (pair q3 (pair t4 (pair q5 (pair o6 (pair q7 end))))))))))))) g = keyed_build a0 a1 t2 q3 t4 q5 o6 q7 end g
  spells_builder (node (there (there (there (here (node (pair a0 (pair a1 (pair t2 (pair q3 (pair o4 (pair q5 (pair (node (pair a (pair e (pair q end1)))) end))))))))))))) g = cells_started a0 a1 t2 q3 o4 q5 a e q end1 end g (spells_expr e g.1.1.1.1.1.1.0.1.0)
  spells_builder (node (there (there (there (there (here (node (pair a0 (pair a1 (pair t2 (pair q3 (pair t4 (pair q5 end))))))))))))) g = groups_build a0 a1 t2 q3 t4 q5 end g
  spells_builder _ g = absurd (assumption)

  spells_next_exprs : (t : Tree Token) (v : Value) (es : List ExprTree) (st : State) → Good false (item (Repeated r.NextExpr)) t → Holds v es → More t es v st
  spells_next_exprs empty v es st g h = next_none v es st h
  spells_next_exprs (pair (node (pair c (pair t end))) u) v es st g h =
      let e = expr_of t st.scope st.next in
      next_more c t end u v es st g.0 h (spells_expr t g.0.1.0) (spells_next_exprs u (exprs (es ++ e.expr ∷ [])) (es ++ e.expr ∷ []) (with_next e.next st) g.1 (record { top = λ vs. refl }))
  spells_next_exprs _ v es st g h = absurd (assumption)

  spells_rows : (t : Tree Token) → Good false (item (OfRule r.Rows)) t → SpellsRows t
  spells_rows (node (here (node (pair h (pair a (pair t (pair c (pair u (pair more (pair q end)))))))))) g = zipped h a t c u more q end g (spells_leg t g.1.1.0) (spells_leg u g.1.1.1.1.0) (λ ls st. spells_next_legs more ls st g.1.1.1.1.1.0)
  spells_rows (node (there (here t))) g = single t (spells_leg t g)
  spells_rows _ g = absurd (assumption)

  spells_next_legs : (t : Tree Token) (ls : List LegTree) (st : State) → Good false (item (Repeated r.NextLeg)) t → SpellsLegs t ls st
  spells_next_legs empty ls st g = no_legs_more ls st
  spells_next_legs (pair (node (pair c (pair t end))) more) ls st g =
      let l = leg_of t st.scope st.next in
      one_leg_more c t end more ls st g.0 (spells_leg t g.0.1.0) (spells_next_legs more (ls ++ l.leg ∷ []) (with_next l.next st) g.1)
  spells_next_legs _ ls st g = absurd (assumption)

  spells_leg : (t : Tree Token) → Good false (item (OfRule r.Leg)) t → SpellsLeg t
  spells_leg (node (here (node (pair h (pair a (pair t (pair c (pair u (pair d (pair v (pair e (pair x (pair q end))))))))))))) g = strided_leg h a t c u d v e x q end g (spells_expr t g.1.1.0) (spells_expr u g.1.1.1.1.0) (spells_expr v g.1.1.1.1.1.1.0) (spells_expr x g.1.1.1.1.1.1.1.1.0)
  spells_leg (node (there (here t))) g = whole_leg t (spells_expr t g)
  spells_leg _ g = absurd (assumption)
