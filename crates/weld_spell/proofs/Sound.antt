-- What tokens spell is well made, each name is used where its binder binds it, and there are no more binders than tokens.
use Rattle.std.proofs.Common.{◌≡◌, refl, ℕ, ◌+◌, ◌≤◌, true, false, None, List, [], ◌∷◌, ◌++◌, length, All, IsSome, ap, sym, subst, ◌∙◌, append_assoc}
use Rattle.std.proofs.lemmas.List.{append-nil}
use Rattle.std.proofs.lemmas.List.Elements.{All-nil, All-cons}
use Rattle.weld_tree.specs.declared.binder.Binder.{Binder}
use Rattle.weld_tree.specs.ExprTree.{ExprTree, one, two, or, and, binary}
use Rattle.weld_tree.specs.Program.{ProgramTree, IsProgram, bound, bound_in, bound_in_leg, bound_in_legs, syms_of, AreDistinct, IsScoped, IsWellMade, MayBeFresh, HasLegs}
use Rattle.weld_grammar.specs.declared.terminals.token.Token.{Token}
use Rattle.weld_grammar.specs.declared.terminal.Terminal.TheVariants.{Word}
use Rattle.weld_grammar.specs.declared.rule.Rule.TheVariants as r
use Rattle.weld_grammar.specs.declared.item.Item.TheVariants.{One, Part as OfRule, Repeated}
use Rattle.weld_grammar.specs.Grammar.{item}
use Rattle.weld_grammar.specs.Derivation.{Tree, node, empty, pair, here, there, yield, IsOf}
use Rattle.weld_spell.specs.Seen.{seen}
use Rattle.weld_spell.specs.ProgramOf.{Bound, bound_as, node_at, equality_op_of, relation_op_of, sum_op_of, product_op_of, word_of, expr_of, or_of, or_parts_of, and_of, and_parts_of, equality_of, equality_parts_of, relation_of, relation_parts_of, sum_of, sum_parts_of, product_of, product_parts_of, unary_of, primary_of, builder_of, build_of, next_exprs_of, rows_of, next_legs_of, leg_of, fields_of, param_of, param_bound, next_params_of, params_scope, params_behind, program_of}
use Rattle.weld_spell.specs.Spells.{Spells}
use Rattle.weld_spell.specs.Names.{misnamed, none, name_of, with_params, first_misnamed}
use Rattle.weld_spell.specs.Ranges.{number_out_of_range}
use Rattle.weld_spell.proofs.Fine.{names, Covers, covers_none, covers_more, no_name, no_three, no_six, Sound, s_first, s_next, first, next, once, again, now, later, opened, s_opened, sound_in, weight, weight-yield, word_name, word_weight, name_scoped, literal_made, kind_integer, resets, Good, GoodList, GoodLeg, GoodLegs, at_least, few_one, few_two, few_three, few_four, few_list, few_next, few_both, few_kept, few_behind, few_front, few_zip, few_alone, few_line, few_step, few_let, few_for, few_iterate, few_total, few_parameter, few_program, few_limit, few_within, few_inside, few_same, at_word, covers_bound, covers_last}

-- ---- field accesses

bound-fields : (t : Tree Token) (e : ExprTree) → bound (fields_of t e) ≡ bound e
bound-fields (pair (node (pair d (pair k end))) more) base = bound-fields more (one _ _ base)
bound-fields _ base = refl

scoped-fields : (t : Tree Token) (e : ExprTree) (xs : List ℕ) → IsScoped e xs → IsScoped (fields_of t e) xs
scoped-fields (pair (node (pair d (pair k end))) more) base xs h = scoped-fields more (one _ _ base) xs h
scoped-fields _ base xs h = h

made-fields : (t : Tree Token) (e : ExprTree) → IsWellMade e → IsWellMade (fields_of t e)
made-fields (pair (node (pair d (pair k end))) more) base h = made-fields more (one _ _ base) (tt, h)
made-fields _ base h = h

-- builders that may stand without a starting value
fresh_list : (t : Tree Token) → MayBeFresh (build_of (node (here t)))
fresh_list (node (pair w (pair b (pair t end)))) = tt
fresh_list _ = tt

fresh_keyed : (t : Tree Token) → MayBeFresh (build_of (node (there (there (here t)))))
fresh_keyed (node (pair w (pair b (pair t (pair c (pair u (pair d (pair o end)))))))) = tt
fresh_keyed _ = tt

fresh_groups : (t : Tree Token) → MayBeFresh (build_of (node (there (there (there (there t))))))
fresh_groups (here (node (pair w (pair b (pair t (pair c (pair u end))))))) = tt
fresh_groups _ = tt

-- a loop has legs
rows_some : (t : Tree Token) → IsOf (item (OfRule r.Rows)) (seen t) → (scope : List Bound) (n : ℕ) → HasLegs (rows_of t scope n).legs
rows_some (node (here (node (pair w (pair a (pair t (pair c (pair u (pair more end))))))))) h scope n = tt
rows_some (node (there (here t))) h scope n = tt
rows_some _ h scope n = absurd (assumption)

-- ---- rules that bind names

record LetParts (w v b : Tree Token) (scope : List Bound) : Type 0 where
  pub word : IsOf (item (One Word)) (seen w)
  pub value : Sound (item (OfRule r.Or)) v scope
  pub inner : (n : ℕ) → Sound (item (OfRule r.Expr)) b (bound_as w n ∷ scope)

let_parts : (l w note q v m b end : Tree Token) (scope : List Bound) → Sound (item (OfRule r.Let)) (node (pair l (pair w (pair note (pair q (pair v (pair m (pair b end)))))))) scope → LetParts w v b scope
let_parts l w note q v m b end scope h =
    let row = s_opened h refl in
    let behind_word = s_next (s_next row) in
    let behind_value = s_next (s_next behind_word) in
    let n1 = no_name _ _ h.named in
    let n2 = no_name _ _ n1.1 in
    let word = (s_first (s_next row)).tree_of in
    record {
      word = word;
      value = record { shape = s_first behind_value; named = n2.0 };
      inner = λ n. sound_in (item (OfRule r.Expr)) b (bound_as w n ∷ scope) (name_of w ∷ names scope) (ap (λ z. z ∷ names scope) (word_name w word)) (s_first (s_next (s_next behind_value))) n2.1;
    }

record ForParts (l t x y z b : Tree Token) (scope : List Bound) : Type 0 where
  pub first_word : IsOf (item (One Word)) (seen x)
  pub second_word : IsOf (item (One Word)) (seen y)
  pub third_word : IsOf (item (One Word)) (seen z)
  pub rows : Sound (item (OfRule r.Rows)) l scope
  pub builder : Sound (item (OfRule r.Expr)) t scope
  pub inner : (m n k : ℕ) → Sound (item (OfRule r.Expr)) b (bound_as z k ∷ bound_as y n ∷ bound_as x m ∷ scope)

three-names : (x y z : Tree Token) (s : List (List ℕ)) → name_of x ≡ word_of x → name_of y ≡ word_of y → name_of z ≡ word_of z → name_of z ∷ name_of y ∷ name_of x ∷ s ≡ word_of z ∷ word_of y ∷ word_of x ∷ s
three-names x y z s e f g = ap (λ k. k ∷ name_of y ∷ name_of x ∷ s) g ∙ ap (λ k. word_of z ∷ k ∷ name_of x ∷ s) f ∙ ap (λ k. word_of z ∷ word_of y ∷ k ∷ s) e

for_parts : (w a l c t d i x p e1 j y q e2 k z s e3 m b end : Tree Token) (scope : List Bound)
    → Sound (item (OfRule r.For)) (node (pair w (pair a (pair l (pair c (pair t (pair d (pair i (pair (node (pair x (pair p e1))) (pair j (pair (node (pair y (pair q e2))) (pair k (pair (node (pair z (pair s e3))) (pair m (pair b end))))))))))))))) scope
    → ForParts l t x y z b scope
for_parts w a l c t d i x p e1 j y q e2 k z s e3 m b end scope h =
    let from_legs = s_next (s_next (s_opened h refl)) in
    let from_builder = s_next (s_next from_legs) in
    let from_x = s_next (s_next (s_next from_builder)) in
    let from_y = s_next (s_next from_x) in
    let from_z = s_next (s_next from_y) in
    let from_body = s_next (s_next from_z) in
    let zs = names scope in
    let n : (misnamed none (item (OfRule r.Rows)) l zs ≡ None) × (misnamed none (item (OfRule r.Expr)) t zs ≡ None) × (misnamed none (item (OfRule r.Expr)) b (name_of z ∷ name_of y ∷ name_of x ∷ zs) ≡ None) =
    no_six (misnamed none (item (OfRule r.Rows)) l zs) (misnamed none (item (OfRule r.Expr)) t zs) (misnamed none (item (OfRule r.Bind)) (node (pair x (pair p e1))) zs) (misnamed none (item (OfRule r.Bind)) (node (pair y (pair q e2))) zs)
    (misnamed none (item (OfRule r.Bind)) (node (pair z (pair s e3))) zs) (misnamed none (item (OfRule r.Expr)) b (name_of z ∷ name_of y ∷ name_of x ∷ zs)) h.named in
    let x_is : IsOf (item (One Word)) (seen x) = (s_first from_x).tree_of.0 in
    let y_is : IsOf (item (One Word)) (seen y) = (s_first from_y).tree_of.0 in
    let z_is : IsOf (item (One Word)) (seen z) = (s_first from_z).tree_of.0 in
    record {
      first_word = x_is;
      second_word = y_is;
      third_word = z_is;
      rows = record { shape = s_first from_legs; named = n.0 };
      builder = record { shape = s_first from_builder; named = n.1 };
      inner = λ m o k. sound_in (item (OfRule r.Expr)) b (bound_as z k ∷ bound_as y o ∷ bound_as x m ∷ scope) (name_of z ∷ name_of y ∷ name_of x ∷ names scope)
          (three-names x y z (names scope) (word_name x x_is) (word_name y y_is) (word_name z z_is)) (s_first from_body) n.2;
    }

record IterateParts (t x b : Tree Token) (scope : List Bound) : Type 0 where
  pub word : IsOf (item (One Word)) (seen x)
  pub state : Sound (item (OfRule r.Expr)) t scope
  pub inner : (n : ℕ) → Sound (item (OfRule r.Expr)) b (bound_as x n ∷ scope)

iterate_parts : (w a t c i x p e1 m b end : Tree Token) (scope : List Bound)
    → Sound (item (OfRule r.Iterate)) (node (pair w (pair a (pair t (pair c (pair i (pair (node (pair x (pair p e1))) (pair m (pair b end))))))))) scope
    → IterateParts t x b scope
iterate_parts w a t c i x p e1 m b end scope h =
    let from_state = s_next (s_next (s_opened h refl)) in
    let from_x = s_next (s_next (s_next from_state)) in
    let from_body = s_next (s_next from_x) in
    let zs = names scope in
    let n : (misnamed none (item (OfRule r.Expr)) t zs ≡ None) × (misnamed none (item (OfRule r.Bind)) (node (pair x (pair p e1))) zs ≡ None) × (misnamed none (item (OfRule r.Expr)) b (name_of x ∷ zs) ≡ None) =
    no_three (misnamed none (item (OfRule r.Expr)) t zs) (misnamed none (item (OfRule r.Bind)) (node (pair x (pair p e1))) zs) (misnamed none (item (OfRule r.Expr)) b (name_of x ∷ zs)) h.named in
    let x_is : IsOf (item (One Word)) (seen x) = (s_first from_x).tree_of.0 in
    record {
      word = x_is;
      state = record { shape = s_first from_state; named = n.0 };
      inner = λ k. sound_in (item (OfRule r.Expr)) b (bound_as x k ∷ scope) (name_of x ∷ names scope) (ap (λ z. z ∷ names scope) (word_name x x_is)) (s_first from_body) n.2;
    }

-- ---- expressions

mutual
  g_expr : (t : Tree Token) (scope : List Bound) (n : ℕ) (xs : List ℕ) → Sound (item (OfRule r.Expr)) t scope → Covers scope xs → Good (expr_of t scope n).expr xs (weight t)
  g_expr (node (here (node (pair l (pair w (pair note (pair q (pair v (pair m (pair b end)))))))))) scope n xs h c =
      let p = let_parts l w note q v m b end scope (now (opened h refl refl)) in
      let value = or_of v scope (n + 1) in
      let inner = expr_of b (bound_as w n ∷ scope) value.next in
      let g = g_or v scope (n + 1) xs p.value c in
      let k = g_expr b (bound_as w n ∷ scope) value.next (n ∷ xs) (p.inner n) (covers_more scope xs (word_of w) n c) in
      record { scoped = (g.scoped, k.scoped); made = (g.made, k.made); few = few_let (bound value.expr) (bound inner.expr) n (weight l) (weight w) (weight note) (weight q) (weight v) (weight m) (weight b) (weight end) (word_weight w p.word) g.few k.few }
  g_expr (node (there (here t))) scope n xs h c = g_or t scope n xs (now (later (opened h refl refl))) c
  g_expr _ scope n xs h c = record { scoped = tt; made = tt; few = at_least _ }

  g_or : (t : Tree Token) (scope : List Bound) (n : ℕ) (xs : List ℕ) → Sound (item (OfRule r.Or)) t scope → Covers scope xs → Good (or_of t scope n).expr xs (weight t)
  g_or (node (pair t (pair more end))) scope n xs h c =
      let row = opened h refl refl in
      let left = and_of t scope n in
      let g = g_and t scope n xs (first row) c in
      let k = g_or_parts more left.expr scope left.next xs (weight t) (first (next row)) c g in
      record { scoped = k.scoped; made = k.made; few = few_line (length (bound (or_parts_of more left.expr scope left.next).expr)) (weight t) (weight more) (weight end) k.few }
  g_or _ scope n xs h c = record { scoped = tt; made = tt; few = at_least _ }

  g_or_parts : (t : Tree Token) (left : ExprTree) (scope : List Bound) (n : ℕ) (xs : List ℕ) (s : ℕ) → Sound (item (Repeated r.OrPart)) t scope → Covers scope xs → Good left xs s → Good (or_parts_of t left scope n).expr xs (s + weight t)
  g_or_parts (pair (node (pair o (pair t end))) more) left scope n xs s h c l =
      let row = opened (once h) refl refl in
      let right = and_of t scope n in
      let g = g_and t scope n xs (first (next row)) c in
      let k = g_or_parts more (two (node_at o) or left right.expr) scope right.next xs (s + weight t) (again h) c (record { scoped = (l.scoped, g.scoped); made = (l.made, g.made); few = few_both (bound left) (bound right.expr) s (weight t) l.few g.few }) in
      record { scoped = k.scoped; made = k.made; few = few_step _ s (weight o) (weight t) (weight end) (weight more) k.few }
  g_or_parts _ left scope n xs s h c l = record { scoped = l.scoped; made = l.made; few = few_kept (length (bound left)) s _ l.few }

  g_and : (t : Tree Token) (scope : List Bound) (n : ℕ) (xs : List ℕ) → Sound (item (OfRule r.And)) t scope → Covers scope xs → Good (and_of t scope n).expr xs (weight t)
  g_and (node (pair t (pair more end))) scope n xs h c =
      let row = opened h refl refl in
      let left = equality_of t scope n in
      let g = g_equality t scope n xs (first row) c in
      let k = g_and_parts more left.expr scope left.next xs (weight t) (first (next row)) c g in
      record { scoped = k.scoped; made = k.made; few = few_line (length (bound (and_parts_of more left.expr scope left.next).expr)) (weight t) (weight more) (weight end) k.few }
  g_and _ scope n xs h c = record { scoped = tt; made = tt; few = at_least _ }

  g_and_parts : (t : Tree Token) (left : ExprTree) (scope : List Bound) (n : ℕ) (xs : List ℕ) (s : ℕ) → Sound (item (Repeated r.AndPart)) t scope → Covers scope xs → Good left xs s → Good (and_parts_of t left scope n).expr xs (s + weight t)
  g_and_parts (pair (node (pair o (pair t end))) more) left scope n xs s h c l =
      let row = opened (once h) refl refl in
      let right = equality_of t scope n in
      let g = g_equality t scope n xs (first (next row)) c in
      let k = g_and_parts more (two (node_at o) and left right.expr) scope right.next xs (s + weight t) (again h) c (record { scoped = (l.scoped, g.scoped); made = (l.made, g.made); few = few_both (bound left) (bound right.expr) s (weight t) l.few g.few }) in
      record { scoped = k.scoped; made = k.made; few = few_step _ s (weight o) (weight t) (weight end) (weight more) k.few }
  g_and_parts _ left scope n xs s h c l = record { scoped = l.scoped; made = l.made; few = few_kept (length (bound left)) s _ l.few }

  g_equality : (t : Tree Token) (scope : List Bound) (n : ℕ) (xs : List ℕ) → Sound (item (OfRule r.Equality)) t scope → Covers scope xs → Good (equality_of t scope n).expr xs (weight t)
  g_equality (node (pair t (pair more end))) scope n xs h c =
      let row = opened h refl refl in
      let left = relation_of t scope n in
      let g = g_relation t scope n xs (first row) c in
      let k = g_equality_parts more left.expr scope left.next xs (weight t) (first (next row)) c g in
      record { scoped = k.scoped; made = k.made; few = few_line (length (bound (equality_parts_of more left.expr scope left.next).expr)) (weight t) (weight more) (weight end) k.few }
  g_equality _ scope n xs h c = record { scoped = tt; made = tt; few = at_least _ }

  g_equality_parts : (t : Tree Token) (left : ExprTree) (scope : List Bound) (n : ℕ) (xs : List ℕ) (s : ℕ) → Sound (item (Repeated r.EqualityPart)) t scope → Covers scope xs → Good left xs s → Good (equality_parts_of t left scope n).expr xs (s + weight t)
  g_equality_parts (pair (node (pair o (pair t end))) more) left scope n xs s h c l =
      let row = opened (once h) refl refl in
      let right = relation_of t scope n in
      let g = g_relation t scope n xs (first (next row)) c in
      let k = g_equality_parts more (two (node_at o) (binary (equality_op_of o)) left right.expr) scope right.next xs (s + weight t) (again h) c (record { scoped = (l.scoped, g.scoped); made = (l.made, g.made); few = few_both (bound left) (bound right.expr) s (weight t) l.few g.few }) in
      record { scoped = k.scoped; made = k.made; few = few_step _ s (weight o) (weight t) (weight end) (weight more) k.few }
  g_equality_parts _ left scope n xs s h c l = record { scoped = l.scoped; made = l.made; few = few_kept (length (bound left)) s _ l.few }

  g_relation : (t : Tree Token) (scope : List Bound) (n : ℕ) (xs : List ℕ) → Sound (item (OfRule r.Relation)) t scope → Covers scope xs → Good (relation_of t scope n).expr xs (weight t)
  g_relation (node (pair t (pair more end))) scope n xs h c =
      let row = opened h refl refl in
      let left = sum_of t scope n in
      let g = g_sum t scope n xs (first row) c in
      let k = g_relation_parts more left.expr scope left.next xs (weight t) (first (next row)) c g in
      record { scoped = k.scoped; made = k.made; few = few_line (length (bound (relation_parts_of more left.expr scope left.next).expr)) (weight t) (weight more) (weight end) k.few }
  g_relation _ scope n xs h c = record { scoped = tt; made = tt; few = at_least _ }

  g_relation_parts : (t : Tree Token) (left : ExprTree) (scope : List Bound) (n : ℕ) (xs : List ℕ) (s : ℕ) → Sound (item (Repeated r.RelationPart)) t scope → Covers scope xs → Good left xs s → Good (relation_parts_of t left scope n).expr xs (s + weight t)
  g_relation_parts (pair (node (pair o (pair t end))) more) left scope n xs s h c l =
      let row = opened (once h) refl refl in
      let right = sum_of t scope n in
      let g = g_sum t scope n xs (first (next row)) c in
      let k = g_relation_parts more (two (node_at o) (binary (relation_op_of o)) left right.expr) scope right.next xs (s + weight t) (again h) c (record { scoped = (l.scoped, g.scoped); made = (l.made, g.made); few = few_both (bound left) (bound right.expr) s (weight t) l.few g.few }) in
      record { scoped = k.scoped; made = k.made; few = few_step _ s (weight o) (weight t) (weight end) (weight more) k.few }
  g_relation_parts _ left scope n xs s h c l = record { scoped = l.scoped; made = l.made; few = few_kept (length (bound left)) s _ l.few }

  g_sum : (t : Tree Token) (scope : List Bound) (n : ℕ) (xs : List ℕ) → Sound (item (OfRule r.Sum)) t scope → Covers scope xs → Good (sum_of t scope n).expr xs (weight t)
  g_sum (node (pair t (pair more end))) scope n xs h c =
      let row = opened h refl refl in
      let left = product_of t scope n in
      let g = g_product t scope n xs (first row) c in
      let k = g_sum_parts more left.expr scope left.next xs (weight t) (first (next row)) c g in
      record { scoped = k.scoped; made = k.made; few = few_line (length (bound (sum_parts_of more left.expr scope left.next).expr)) (weight t) (weight more) (weight end) k.few }
  g_sum _ scope n xs h c = record { scoped = tt; made = tt; few = at_least _ }

  g_sum_parts : (t : Tree Token) (left : ExprTree) (scope : List Bound) (n : ℕ) (xs : List ℕ) (s : ℕ) → Sound (item (Repeated r.SumPart)) t scope → Covers scope xs → Good left xs s → Good (sum_parts_of t left scope n).expr xs (s + weight t)
  g_sum_parts (pair (node (pair o (pair t end))) more) left scope n xs s h c l =
      let row = opened (once h) refl refl in
      let right = product_of t scope n in
      let g = g_product t scope n xs (first (next row)) c in
      let k = g_sum_parts more (two (node_at o) (binary (sum_op_of o)) left right.expr) scope right.next xs (s + weight t) (again h) c (record { scoped = (l.scoped, g.scoped); made = (l.made, g.made); few = few_both (bound left) (bound right.expr) s (weight t) l.few g.few }) in
      record { scoped = k.scoped; made = k.made; few = few_step _ s (weight o) (weight t) (weight end) (weight more) k.few }
  g_sum_parts _ left scope n xs s h c l = record { scoped = l.scoped; made = l.made; few = few_kept (length (bound left)) s _ l.few }

  g_product : (t : Tree Token) (scope : List Bound) (n : ℕ) (xs : List ℕ) → Sound (item (OfRule r.Product)) t scope → Covers scope xs → Good (product_of t scope n).expr xs (weight t)
  g_product (node (pair t (pair more end))) scope n xs h c =
      let row = opened h refl refl in
      let left = unary_of t scope n in
      let g = g_unary t scope n xs (first row) c in
      let k = g_product_parts more left.expr scope left.next xs (weight t) (first (next row)) c g in
      record { scoped = k.scoped; made = k.made; few = few_line (length (bound (product_parts_of more left.expr scope left.next).expr)) (weight t) (weight more) (weight end) k.few }
  g_product _ scope n xs h c = record { scoped = tt; made = tt; few = at_least _ }

  g_product_parts : (t : Tree Token) (left : ExprTree) (scope : List Bound) (n : ℕ) (xs : List ℕ) (s : ℕ) → Sound (item (Repeated r.ProductPart)) t scope → Covers scope xs → Good left xs s → Good (product_parts_of t left scope n).expr xs (s + weight t)
  g_product_parts (pair (node (pair o (pair t end))) more) left scope n xs s h c l =
      let row = opened (once h) refl refl in
      let right = unary_of t scope n in
      let g = g_unary t scope n xs (first (next row)) c in
      let k = g_product_parts more (two (node_at o) (binary (product_op_of o)) left right.expr) scope right.next xs (s + weight t) (again h) c (record { scoped = (l.scoped, g.scoped); made = (l.made, g.made); few = few_both (bound left) (bound right.expr) s (weight t) l.few g.few }) in
      record { scoped = k.scoped; made = k.made; few = few_step _ s (weight o) (weight t) (weight end) (weight more) k.few }
  g_product_parts _ left scope n xs s h c l = record { scoped = l.scoped; made = l.made; few = few_kept (length (bound left)) s _ l.few }

  g_unary : (t : Tree Token) (scope : List Bound) (n : ℕ) (xs : List ℕ) → Sound (item (OfRule r.Unary)) t scope → Covers scope xs → Good (unary_of t scope n).expr xs (weight t)
  g_unary (node (here (node (pair m (pair (node (here k)) end))))) scope n xs h c =
      let s : Sound (item (OfRule r.Minused)) (node (here k)) scope = first (next (opened (now (opened h refl refl)) refl refl)) in
      record { scoped = tt; made = literal_made true k s.shape.tree_of s.shape.ranged; few = at_least _ }
  g_unary (node (here (node (pair m (pair (node (there (here t))) end))))) scope n xs h c =
      let s : Sound (item (OfRule r.Minused)) (node (there (here t))) scope = first (next (opened (now (opened h refl refl)) refl refl)) in
      let g = g_unary t scope n xs (record { shape = record { tree_of = s.shape.tree_of.0; ranged = resets true r.Unary t ∙ s.shape.ranged }; named = s.named }) c in
      record { scoped = g.scoped; made = (tt, g.made); few = few_behind (length (bound (unary_of t scope n).expr)) (weight m) (weight t) (weight end) g.few }
  g_unary (node (there (here (node (pair m (pair t end)))))) scope n xs h c =
      let g = g_unary t scope n xs (first (next (opened (now (later (opened h refl refl))) refl refl))) c in
      record { scoped = g.scoped; made = (tt, g.made); few = few_behind (length (bound (unary_of t scope n).expr)) (weight m) (weight t) (weight end) g.few }
  g_unary (node (there (there (here (node (pair t (pair more end))))))) scope n xs h c =
      let base = primary_of t scope n in
      let g = g_primary t scope n xs (first (opened (now (later (later (opened h refl refl)))) refl refl)) c in
      record { scoped = scoped-fields more base.expr xs g.scoped; made = made-fields more base.expr g.made; few = few_front (bound (fields_of more base.expr)) (bound base.expr) (weight t) (weight more) (weight end) (bound-fields more base.expr) g.few }
  g_unary _ scope n xs h c = record { scoped = tt; made = tt; few = at_least _ }

  g_primary : (t : Tree Token) (scope : List Bound) (n : ℕ) (xs : List ℕ) → Sound (item (OfRule r.Primary)) t scope → Covers scope xs → Good (primary_of t scope n).expr xs (weight t)
  g_primary (node (here t)) scope n xs h c =
      let s = now (opened h refl refl) in
      record { scoped = tt; made = literal_made false t s.shape.tree_of s.shape.ranged; few = at_least _ }
  g_primary (node (there (here t))) scope n xs h c = record { scoped = tt; made = tt; few = at_least _ }
  g_primary (node (there (there (here t)))) scope n xs h c = record { scoped = tt; made = tt; few = at_least _ }
  g_primary (node (there (there (there (here t))))) scope n xs h c = record { scoped = tt; made = tt; few = at_least _ }
  g_primary (node (there (there (there (there (here t)))))) scope n xs h c = record { scoped = name_scoped t scope xs (now (later (later (later (later (opened h refl refl)))))) c; made = tt; few = at_least _ }
  g_primary (node (there (there (there (there (there (here (node (pair a (pair t end)))))))))) scope n xs h c =
      let row = opened (now (later (later (later (later (later (opened h refl refl))))))) refl refl in
      let g = g_expr t scope n xs (first (next row)) c in
      record { scoped = g.scoped; made = g.made; few = few_behind (length (bound (expr_of t scope n).expr)) (weight a) (weight t) (weight end) g.few }
  g_primary (node (there (there (there (there (there (there (here (node (pair a (pair t (pair more end)))))))))))) scope n xs h c =
      let row = opened (now (later (later (later (later (later (later (opened h refl refl)))))))) refl refl in
      let e = expr_of t scope n in
      let es = next_exprs_of more scope e.next in
      let g = g_expr t scope n xs (first (next row)) c in
      let gs = g_next_exprs more scope e.next xs (first (next (next row))) c in
      record { scoped = (g.scoped, gs.scoped); made = (tt, (g.made, gs.made)); few = few_list (bound e.expr) (bound_in es.exprs) (weight a) (weight t) (weight more) (weight end) g.few gs.few }
  g_primary (node (there (there (there (there (there (there (there (here (node (pair a (pair t (pair more end))))))))))))) scope n xs h c =
      let row = opened (now (later (later (later (later (later (later (later (opened h refl refl))))))))) refl refl in
      let e = expr_of t scope n in
      let es = next_exprs_of more scope e.next in
      let g = g_expr t scope n xs (first (next row)) c in
      let gs = g_next_exprs more scope e.next xs (first (next (next row))) c in
      record { scoped = (g.scoped, gs.scoped); made = (tt, (g.made, gs.made)); few = few_list (bound e.expr) (bound_in es.exprs) (weight a) (weight t) (weight more) (weight end) g.few gs.few }
  g_primary (node (there (there (there (there (there (there (there (there (here (node (pair w (pair a (pair t (pair c (pair u (pair d (pair v end)))))))))))))))))) scope n xs h k =
      let row = opened (now (later (later (later (later (later (later (later (later (opened h refl refl)))))))))) refl refl in
      let e = expr_of t scope n in
      let f = expr_of u scope e.next in
      let g = expr_of v scope f.next in
      let p = g_expr t scope n xs (first (next (next row))) k in
      let q = g_expr u scope e.next xs (first (next (next (next (next row))))) k in
      let s = g_expr v scope f.next xs (first (next (next (next (next (next (next row))))))) k in
      record { scoped = (p.scoped, q.scoped, s.scoped); made = (p.made, q.made, s.made); few = few_three (bound e.expr) (bound f.expr) (bound g.expr) (weight w) (weight a) (weight t) (weight c) (weight u) (weight d) (weight v) (weight end) p.few q.few s.few }
  g_primary (node (there (there (there (there (there (there (there (there (there (here (node (pair w (pair a (pair t (pair c (pair u (pair d (pair v end))))))))))))))))))) scope n xs h k =
      let row = opened (now (later (later (later (later (later (later (later (later (later (opened h refl refl))))))))))) refl refl in
      let e = expr_of t scope n in
      let f = expr_of u scope e.next in
      let g = expr_of v scope f.next in
      let p = g_expr t scope n xs (first (next (next row))) k in
      let q = g_expr u scope e.next xs (first (next (next (next (next row))))) k in
      let s = g_expr v scope f.next xs (first (next (next (next (next (next (next row))))))) k in
      record { scoped = (p.scoped, q.scoped, s.scoped); made = (p.made, q.made, s.made); few = few_three (bound e.expr) (bound f.expr) (bound g.expr) (weight w) (weight a) (weight t) (weight c) (weight u) (weight d) (weight v) (weight end) p.few q.few s.few }
  g_primary (node (there (there (there (there (there (there (there (there (there (there (here (node (pair w (pair a (pair t (pair c (pair u end)))))))))))))))))) scope n xs h k =
      let row = opened (now (later (later (later (later (later (later (later (later (later (later (opened h refl refl)))))))))))) refl refl in
      let e = expr_of t scope n in
      let f = expr_of u scope e.next in
      let p = g_expr t scope n xs (first (next (next row))) k in
      let q = g_expr u scope e.next xs (first (next (next (next (next row))))) k in
      record { scoped = (p.scoped, q.scoped); made = (p.made, q.made); few = few_two (bound e.expr) (bound f.expr) (weight w) (weight a) (weight t) (weight c) (weight u) (weight end) p.few q.few }
  g_primary (node (there (there (there (there (there (there (there (there (there (there (there (here (node (pair w (pair a (pair t (pair c (pair u end))))))))))))))))))) scope n xs h k =
      let row = opened (now (later (later (later (later (later (later (later (later (later (later (later (opened h refl refl))))))))))))) refl refl in
      let e = expr_of t scope n in
      let f = expr_of u scope e.next in
      let p = g_expr t scope n xs (first (next (next row))) k in
      let q = g_expr u scope e.next xs (first (next (next (next (next row))))) k in
      record { scoped = (p.scoped, q.scoped); made = (p.made, q.made); few = few_two (bound e.expr) (bound f.expr) (weight w) (weight a) (weight t) (weight c) (weight u) (weight end) p.few q.few }
  g_primary (node (there (there (there (there (there (there (there (there (there (there (there (there (here (node (pair w (pair a (pair t end)))))))))))))))))) scope n xs h k =
      let row = opened (now (later (later (later (later (later (later (later (later (later (later (later (later (opened h refl refl)))))))))))))) refl refl in
      let p = g_expr t scope n xs (first (next (next row))) k in
      record { scoped = p.scoped; made = (tt, p.made); few = few_one (length (bound (expr_of t scope n).expr)) (weight w) (weight a) (weight t) (weight end) p.few }
  g_primary (node (there (there (there (there (there (there (there (there (there (there (there (there (there (here (node (pair w (pair a (pair t (pair c (pair u (pair d (pair v end))))))))))))))))))))))) scope n xs h k =
      let row = opened (now (later (later (later (later (later (later (later (later (later (later (later (later (later (opened h refl refl))))))))))))))) refl refl in
      let e = expr_of t scope n in
      let f = expr_of u scope e.next in
      let g = expr_of v scope f.next in
      let p = g_expr t scope n xs (first (next (next row))) k in
      let q = g_expr u scope e.next xs (first (next (next (next (next row))))) k in
      let s = g_expr v scope f.next xs (first (next (next (next (next (next (next row))))))) k in
      record { scoped = (p.scoped, q.scoped, s.scoped); made = (p.made, q.made, s.made); few = few_three (bound e.expr) (bound f.expr) (bound g.expr) (weight w) (weight a) (weight t) (weight c) (weight u) (weight d) (weight v) (weight end) p.few q.few s.few }
  g_primary (node (there (there (there (there (there (there (there (there (there (there (there (there (there (there (here (node (pair w (pair a (pair t (pair c (pair u end)))))))))))))))))))))) scope n xs h k =
      let row = opened (now (later (later (later (later (later (later (later (later (later (later (later (later (later (later (opened h refl refl)))))))))))))))) refl refl in
      let e = expr_of t scope n in
      let f = expr_of u scope e.next in
      let p = g_expr t scope n xs (first (next (next row))) k in
      let q = g_expr u scope e.next xs (first (next (next (next (next row))))) k in
      record { scoped = (p.scoped, q.scoped); made = (p.made, q.made); few = few_two (bound e.expr) (bound f.expr) (weight w) (weight a) (weight t) (weight c) (weight u) (weight end) p.few q.few }
  g_primary (node (there (there (there (there (there (there (there (there (there (there (there (there (there (there (there (here (node (pair w (pair a (pair t end))))))))))))))))))))) scope n xs h k =
      let row = opened (now (later (later (later (later (later (later (later (later (later (later (later (later (later (later (later (opened h refl refl))))))))))))))))) refl refl in
      let p = g_expr t scope n xs (first (next (next row))) k in
      record { scoped = p.scoped; made = (tt, p.made); few = few_one (length (bound (expr_of t scope n).expr)) (weight w) (weight a) (weight t) (weight end) p.few }
  g_primary (node (there (there (there (there (there (there (there (there (there (there (there (there (there (there (there (there (here (node (pair w (pair a (pair l (pair c (pair t (pair d (pair i (pair (node (pair x (pair p e1))) (pair j (pair (node (pair y (pair q e2))) (pair k (pair (node (pair z (pair s e3))) (pair m (pair b end))))))))))))))))))))))))))))))))) scope n xs h cover =
      let o = for_parts w a l c t d i x p e1 j y q e2 k z s e3 m b end scope (now (later (later (later (later (later (later (later (later (later (later (later (later (later (later (later (later (opened h refl refl)))))))))))))))))) in
      let legs = rows_of l scope n in
      let builder = expr_of t scope legs.next in
      let inner = expr_of b (bound_as z (builder.next + 2) ∷ bound_as y (builder.next + 1) ∷ bound_as x builder.next ∷ scope) (builder.next + 3) in
      let f = g_rows l scope n xs o.rows cover in
      let g = g_expr t scope legs.next xs o.builder cover in
      let u = g_expr b (bound_as z (builder.next + 2) ∷ bound_as y (builder.next + 1) ∷ bound_as x builder.next ∷ scope) (builder.next + 3) ((builder.next + 2) ∷ (builder.next + 1) ∷ builder.next ∷ xs) (o.inner builder.next (builder.next + 1) (builder.next + 2))
      (covers_more _ _ (word_of z) (builder.next + 2) (covers_more _ _ (word_of y) (builder.next + 1) (covers_more scope xs (word_of x) builder.next cover))) in
      record {
        scoped = (f.scoped, g.scoped, u.scoped);
        made = (rows_some l (o.rows.shape.tree_of) scope n, f.made, g.made, u.made);
        few = few_for (bound_in_legs legs.legs) (bound builder.expr) (bound inner.expr) builder.next (builder.next + 1) (builder.next + 2) (weight w) (weight a) (weight l) (weight c) (weight t) (weight d) (weight i) (weight x) (weight p + weight e1) (weight j) (weight y) (weight q + weight e2) (weight k) (weight z) (weight s + weight e3) (weight m) (weight b) (weight end)
            (word_weight x o.first_word) (word_weight y o.second_word) (word_weight z o.third_word) f.few g.few u.few;
      }
  g_primary (node (there (there (there (there (there (there (there (there (there (there (there (there (there (there (there (there (there (here (node (pair w (pair a (pair t (pair c (pair i (pair (node (pair x (pair p e1))) (pair m (pair b end)))))))))))))))))))))))))))) scope n xs h cover =
      let o = iterate_parts w a t c i x p e1 m b end scope (now (later (later (later (later (later (later (later (later (later (later (later (later (later (later (later (later (later (opened h refl refl))))))))))))))))))) in
      let state = expr_of t scope n in
      let inner = expr_of b (bound_as x state.next ∷ scope) (state.next + 1) in
      let g = g_expr t scope n xs o.state cover in
      let u = g_expr b (bound_as x state.next ∷ scope) (state.next + 1) (state.next ∷ xs) (o.inner state.next) (covers_more scope xs (word_of x) state.next cover) in
      record { scoped = (g.scoped, u.scoped); made = (g.made, u.made); few = few_iterate (bound state.expr) (bound inner.expr) state.next (weight w) (weight a) (weight t) (weight c) (weight i) (weight x) (weight p + weight e1) (weight m) (weight b) (weight end) (word_weight x o.word) g.few u.few }
  g_primary (node (there (there (there (there (there (there (there (there (there (there (there (there (there (there (there (there (there (there (here (node (pair f (pair a (pair t end)))))))))))))))))))))))) scope n xs h k =
      let row = opened (now (later (later (later (later (later (later (later (later (later (later (later (later (later (later (later (later (later (later (opened h refl refl)))))))))))))))))))) refl refl in
      let p = g_expr t scope n xs (first (next (next row))) k in
      record { scoped = p.scoped; made = (kind_integer f, p.made); few = few_one (length (bound (expr_of t scope n).expr)) (weight f) (weight a) (weight t) (weight end) p.few }
  g_primary (node (there (there (there (there (there (there (there (there (there (there (there (there (there (there (there (there (there (there (there (here b))))))))))))))))))))) scope n xs h c = g_builder b scope n xs (now (later (later (later (later (later (later (later (later (later (later (later (later (later (later (later (later (later (later (later (opened h refl refl))))))))))))))))))))) c
  g_primary _ scope n xs h c = record { scoped = tt; made = tt; few = at_least _ }

  g_builder : (t : Tree Token) (scope : List Bound) (n : ℕ) (xs : List ℕ) → Sound (item (OfRule r.Build)) t scope → Covers scope xs → Good (builder_of t scope n).expr xs (weight t)
  g_builder (node (there (here (node (pair w (pair b (pair t (pair c (pair o (pair d (pair (here (node (pair a (pair e end)))) end2))))))))))) scope n xs h k =
      let row = opened (now (later (opened h refl refl))) refl refl in
      let start = first (next (next (next (next (next (next row)))))) in
      let s : Sound (item (OfRule r.Start)) (node (pair a (pair e end))) scope = record { shape = record { tree_of = start.shape.tree_of; ranged = start.shape.ranged }; named = start.named } in
      let p = g_expr e scope n xs (first (next (opened s refl refl))) k in
      record { scoped = p.scoped; made = (tt, p.made); few = few_total (length (bound (expr_of e scope n).expr)) (weight w) (weight b) (weight t) (weight c) (weight o) (weight d) (weight a) (weight e) (weight end) (weight end2) p.few }
  g_builder (node (there (there (there (here (node (pair w (pair b (pair t (pair c (pair o (pair d (pair (node (pair a (pair e end))) end2))))))))))))) scope n xs h k =
      let row = opened (now (later (later (later (opened h refl refl))))) refl refl in
      let p = g_expr e scope n xs (first (next (opened (first (next (next (next (next (next (next row))))))) refl refl))) k in
      record { scoped = p.scoped; made = (tt, p.made); few = few_total (length (bound (expr_of e scope n).expr)) (weight w) (weight b) (weight t) (weight c) (weight o) (weight d) (weight a) (weight e) (weight end) (weight end2) p.few }
  g_builder (node (here t)) scope n xs h k = record { scoped = tt; made = fresh_list t; few = at_least _ }
  g_builder (node (there (there (here t)))) scope n xs h k = record { scoped = tt; made = fresh_keyed t; few = at_least _ }
  g_builder (node (there (there (there (there t))))) scope n xs h k = record { scoped = tt; made = fresh_groups t; few = at_least _ }
  g_builder (node (there (there (there (here t))))) scope n xs h k = let is = h.shape.tree_of in absurd (assumption)
  g_builder _ scope n xs h k = record { scoped = tt; made = tt; few = at_least _ }

  g_next_exprs : (t : Tree Token) (scope : List Bound) (n : ℕ) (xs : List ℕ) → Sound (item (Repeated r.NextExpr)) t scope → Covers scope xs → GoodList (next_exprs_of t scope n).exprs xs (weight t)
  g_next_exprs (pair (node (pair o (pair t end))) more) scope n xs h c =
      let e = expr_of t scope n in
      let es = next_exprs_of more scope e.next in
      let g = g_expr t scope n xs (first (next (opened (once h) refl refl))) c in
      let gs = g_next_exprs more scope e.next xs (again h) c in
      record { scoped = (g.scoped, gs.scoped); made = (g.made, gs.made); few = few_next (bound e.expr) (bound_in es.exprs) (weight o) (weight t) (weight end) (weight more) g.few gs.few }
  g_next_exprs _ scope n xs h c = record { scoped = tt; made = tt; few = at_least _ }

  g_rows : (t : Tree Token) (scope : List Bound) (n : ℕ) (xs : List ℕ) → Sound (item (OfRule r.Rows)) t scope → Covers scope xs → GoodLegs (rows_of t scope n).legs xs (weight t)
  g_rows (node (here (node (pair w (pair a (pair t (pair c (pair u (pair more end))))))))) scope n xs h k =
      let row = opened (now (opened h refl refl)) refl refl in
      let e = leg_of t scope n in
      let f = leg_of u scope e.next in
      let ls = next_legs_of more scope f.next in
      let p = g_leg t scope n xs (first (next (next row))) k in
      let q = g_leg u scope e.next xs (first (next (next (next (next row))))) k in
      let s = g_next_legs more scope f.next xs (first (next (next (next (next (next row)))))) k in
      record { scoped = (p.scoped, (q.scoped, s.scoped)); made = (p.made, (q.made, s.made)); few = few_zip (bound_in_leg e.leg) (bound_in_leg f.leg) (bound_in_legs ls.legs) (weight w) (weight a) (weight t) (weight c) (weight u) (weight more) (weight end) p.few q.few s.few }
  g_rows (node (there (here t))) scope n xs h k =
      let p = g_leg t scope n xs (now (later (opened h refl refl))) k in
      record { scoped = (p.scoped, tt); made = (p.made, tt); few = few_alone (bound_in_leg (leg_of t scope n).leg) (weight t) p.few }
  g_rows _ scope n xs h k = record { scoped = tt; made = tt; few = at_least _ }

  g_next_legs : (t : Tree Token) (scope : List Bound) (n : ℕ) (xs : List ℕ) → Sound (item (Repeated r.NextLeg)) t scope → Covers scope xs → GoodLegs (next_legs_of t scope n).legs xs (weight t)
  g_next_legs (pair (node (pair o (pair t end))) more) scope n xs h c =
      let e = leg_of t scope n in
      let es = next_legs_of more scope e.next in
      let g = g_leg t scope n xs (first (next (opened (once h) refl refl))) c in
      let gs = g_next_legs more scope e.next xs (again h) c in
      record { scoped = (g.scoped, gs.scoped); made = (g.made, gs.made); few = few_next (bound_in_leg e.leg) (bound_in_legs es.legs) (weight o) (weight t) (weight end) (weight more) g.few gs.few }
  g_next_legs _ scope n xs h c = record { scoped = tt; made = tt; few = at_least _ }

  g_leg : (t : Tree Token) (scope : List Bound) (n : ℕ) (xs : List ℕ) → Sound (item (OfRule r.Leg)) t scope → Covers scope xs → GoodLeg (leg_of t scope n).leg xs (weight t)
  g_leg (node (here (node (pair w (pair a (pair t (pair c (pair u (pair d (pair v (pair i (pair x end)))))))))))) scope n xs h k =
      let row = opened (now (opened h refl refl)) refl refl in
      let e = expr_of t scope n in
      let f = expr_of u scope e.next in
      let g = expr_of v scope f.next in
      let y = expr_of x scope g.next in
      let p = g_expr t scope n xs (first (next (next row))) k in
      let q = g_expr u scope e.next xs (first (next (next (next (next row))))) k in
      let s = g_expr v scope f.next xs (first (next (next (next (next (next (next row))))))) k in
      let z = g_expr x scope g.next xs (first (next (next (next (next (next (next (next (next row))))))))) k in
      record { scoped = (p.scoped, q.scoped, s.scoped, z.scoped); made = (p.made, q.made, s.made, z.made); few = few_four (bound e.expr) (bound f.expr) (bound g.expr) (bound y.expr) (weight w) (weight a) (weight t) (weight c) (weight u) (weight d) (weight v) (weight i) (weight x) (weight end) p.few q.few s.few z.few }
  g_leg (node (there (here t))) scope n xs h k =
      let g = g_expr t scope n xs (now (later (opened h refl refl))) k in
      record { scoped = g.scoped; made = g.made; few = g.few }
  g_leg _ scope n xs h k = record { scoped = tt; made = tt; few = at_least _ }

-- ---- parameters

record Parameter (t : Tree Token) (n : ℕ) : Type 0 where
  pub noted : IsSome (param_of t n).note
  pub named : name_of t ≡ (param_bound t n).bytes
  pub few : 1 ≤ weight t

parameter : (t : Tree Token) (n : ℕ) → IsOf (item (OfRule r.Param)) (seen t) → Parameter t n
parameter (node (pair w (pair c (pair t rest)))) n h = record { noted = refl; named = word_name w h.0; few = at_word (weight w) (weight c + (weight t + weight rest)) (word_weight w h.0) }
parameter _ n h = absurd (assumption)

param_number : (t : Tree Token) (n : ℕ) → (param_of t n).sym.0 ≡ n
param_number (node (pair w (pair c (pair t rest)))) n = refl
param_number _ n = refl

bound_number : (t : Tree Token) (n : ℕ) → (param_bound t n).number ≡ n
bound_number (node (pair w rest)) n = refl
bound_number _ n = refl

-- further parameters: the names that they give the scope, its numbers, and the notes
record Parameters (more : Tree Token) (scope : List Bound) (n : ℕ) (xs : List ℕ) : Type 0 where
  pub noted : All {X = Binder} (λ b. IsSome b.note) (next_params_of more n)
  pub named : names (params_scope more scope n) ≡ with_params more (names scope)
  pub covers : Covers (params_scope more scope n) (xs ++ syms_of (next_params_of more n))
  pub few : length (syms_of (next_params_of more n)) ≤ weight more

parameters : (more : Tree Token) (scope : List Bound) (n : ℕ) (xs : List ℕ) → IsOf (item (Repeated r.NextParam)) (seen more) → Covers scope xs → Parameters more scope n xs
parameters (pair (node (pair o (pair t rest))) more) scope n xs h c =
    let p = parameter t n h.0.1.0 in
    let q = parameters more (param_bound t n ∷ scope) (n + 1) (xs ++ n ∷ []) h.1 (covers_last scope xs (param_bound t n) n (bound_number t n) c) in
    let P : List ℕ → Type 0 = Covers (params_scope more (param_bound t n ∷ scope) (n + 1)) in
    record {
      noted = All-cons (λ (b : Binder). IsSome b.note) (param_of t n) (next_params_of more (n + 1)) p.noted q.noted;
      named = q.named ∙ ap (λ z. with_params more (z ∷ names scope)) (sym p.named);
      covers = subst P (append_assoc xs (n ∷ []) (syms_of (next_params_of more (n + 1))) ∙ ap (λ z. xs ++ z ∷ syms_of (next_params_of more (n + 1))) (sym (param_number t n))) q.covers;
      few = few_parameter (length (syms_of (next_params_of more (n + 1)))) (weight o) (weight t) (weight rest) (weight more) p.few q.few;
    }
parameters empty scope n xs h c = record { noted = All-nil (λ (b : Binder). IsSome b.note); named = refl; covers = let P : List ℕ → Type 0 = Covers scope in subst P (sym (append-nil xs)) c; few = at_least _ }
parameters _ scope n xs h c = absurd (assumption)

-- ---- programs

record Kept (p : ProgramTree) (size : ℕ) : Type 0 where
  pub noted : All {X = Binder} (λ b. IsSome b.note) p.params
  pub scoped : IsScoped p.body (syms_of p.params)
  pub made : IsWellMade p.body
  pub few : length (syms_of p.params ++ bound p.body) ≤ size

no_notes : All {X = Binder} (λ b. IsSome b.note) []
no_notes = All-nil (λ (b : Binder). IsSome b.note)

without_params : (e : Tree Token) (size : ℕ) → weight e ≤ size → Sound (item (OfRule r.Expr)) e [] → Kept (record { params = []; body = (expr_of e [] 0).expr }) size
without_params e size w s = let g = g_expr e [] 0 [] s covers_none in record { noted = no_notes; scoped = g.scoped; made = g.made; few = few_within (length (bound (expr_of e [] 0).expr)) (weight e) size g.few w }

with_these : (a p more b e end : Tree Token) → Sound (item (OfRule r.WithParams)) (node (pair a (pair p (pair more (pair b (pair e end)))))) []
    → Kept (record { params = param_of p 0 ∷ next_params_of more 1; body = (expr_of e (params_scope more (param_bound p 0 ∷ []) 1) (params_behind more 1)).expr }) (weight a + (weight p + (weight more + (weight b + (weight e + weight end)))))
with_these a p more b e end s =
    let from_param = s_next (s_opened s refl) in
    let from_more = s_next from_param in
    let from_expr = s_next (s_next from_more) in
    let names_of = no_name _ _ (no_name _ _ s.named).1 in
    let one_is = parameter p 0 (s_first from_param).tree_of in
    let scope = params_scope more (param_bound p 0 ∷ []) 1 in
    let xs = syms_of (next_params_of more 1) in
    let others = parameters more (param_bound p 0 ∷ []) 1 (0 ∷ []) (s_first from_more).tree_of (covers_bound [] [] (param_bound p 0) 0 (bound_number p 0) covers_none) in
    let inner = sound_in (item (OfRule r.Expr)) e scope (with_params more (name_of p ∷ [])) (ap (λ z. with_params more (z ∷ [])) one_is.named ∙ sym others.named) (s_first from_expr) names_of.1 in
    let g = g_expr e scope (params_behind more 1) (0 ∷ xs) inner others.covers in
    let P : ℕ → Type 0 = λ z. IsScoped (expr_of e scope (params_behind more 1)).expr (z ∷ xs) in
    record {
      noted = All-cons (λ (b : Binder). IsSome b.note) (param_of p 0) (next_params_of more 1) one_is.noted others.noted;
      scoped = subst P (sym (param_number p 0)) g.scoped;
      made = g.made;
      few = few_program (param_of p 0).sym.0 xs (bound (expr_of e scope (params_behind more 1)).expr) (weight a) (weight p) (weight more) (weight b) (weight e) (weight end) one_is.few others.few g.few;
    }

kept : (t : Tree Token) → Sound (item (OfRule r.Program)) t [] → Kept (program_of t) (weight t)
kept (node (here (node (pair b (pair e end))))) s = without_params e (weight b + (weight e + weight end)) (few_inside (weight b) (weight e) (weight end)) (first (next (opened (now (opened s refl refl)) refl refl)))
kept (node (there (here (node (pair a (pair p (pair more (pair b (pair e end))))))))) s = with_these a p more b e end (now (later (opened s refl refl)))
kept (node (there (there (here e)))) s = without_params e (weight e) (few_same (weight e)) (now (later (later (opened s refl refl))))
kept _ s = record { noted = no_notes; scoped = tt; made = tt; few = at_least _ }

-- the law of spelling: the binders of a program that tokens spell have numbers of their own
abbrev pub HasDistinct : Type 0
HasDistinct = (ts : List Token) (p : ProgramTree) → Spells ts p → AreDistinct (syms_of p.params ++ bound p.body)

pub spelled-program : HasDistinct → (t : Tree Token) → IsOf (item (OfRule r.Program)) (seen t) → number_out_of_range t ≡ None → first_misnamed t ≡ None → length (yield t) ≤ 16384 → IsProgram (program_of t).params (program_of t).body
spelled-program law t h ranged named few =
    let s : Sound (item (OfRule r.Program)) t [] = record { shape = record { tree_of = h; ranged = ranged }; named = named } in
    let k = kept t s in
    record {
      distinct = law (yield t) (program_of t) (record { tree = t; tree_of = h; tokens = refl; is = refl });
      few = few_limit (length (syms_of (program_of t).params ++ bound (program_of t).body)) (weight t) (length (yield t)) k.few (weight-yield t) few;
      noted = k.noted;
      scoped = k.scoped;
      well_made = k.made;
    }
