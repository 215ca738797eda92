-- Binders are numbered in the order of the text.
use Rattle.std.proofs.Common.{◌≡◌, refl, ℕ, zero, suc, ◌+◌, ◌<◌, List, [], ◌∷◌, ◌++◌, ap, sym, ◌∙◌, subst, arith, add-one, inl, inr}
use Rattle.weld_grammar.specs.declared.terminals.token.Token.{Token}
use Rattle.weld_tree.specs.ExprTree.{ExprTree, one}
use Rattle.weld_tree.specs.Program.{ProgramTree, bound, bound_in, bound_in_leg, bound_in_legs, syms_of, IsOneOf, AreDistinct}
use Rattle.weld_grammar.specs.Derivation.{Tree, node, pair, here, there}
use Rattle.weld_spell.specs.ProgramOf.{Bound, expr_of, or_of, or_parts_of, and_of, and_parts_of, equality_of, equality_parts_of, relation_of, relation_parts_of, sum_of, sum_parts_of, product_of, product_parts_of, unary_of, primary_of, builder_of, next_exprs_of, rows_of, next_legs_of, leg_of, fields_of, param_of, param_bound, next_params_of, params_scope, params_behind, program_of, bound_as}
use Rattle.weld_spell.specs.Spells.{Spells}
use Rattle.weld_spell.specs.Numbers.{count_from}

-- these are the numbers from n on, below m
record Counts (xs : List ℕ) (n m : ℕ) : Type 0 where
  pub many : ℕ
  pub is : xs ≡ count_from n many
  pub next : m ≡ n + many

count-append : (n k l : ℕ) → count_from n k ++ count_from (n + k) l ≡ count_from n (k + l)
count-append n zero l = let e : n + 0 ≡ n = omega arith in let f : 0 + l ≡ l = omega arith in ap (λ z. count_from z l) e ∙ ap (count_from n) (sym f)
count-append n (suc k) l =
    let e : n + suc k ≡ suc n + k = omega arith in
    let f : suc k + l ≡ suc (k + l) = omega arith in
    ap (λ z. n ∷ (count_from (suc n) k ++ count_from z l)) e ∙ ap (λ z. n ∷ z) (count-append (suc n) k l) ∙ ap (count_from n) (sym f)

none : (n : ℕ) → Counts [] n n
none n = record { many = 0; is = refl; next = omega arith }

both : (xs ys : List ℕ) (n m l : ℕ) → Counts xs n m → Counts ys m l → Counts (xs ++ ys) n l
both xs ys n m l a b = record {
  many = a.many + b.many;
  is = ap (λ z. z ++ ys) a.is ∙ ap (λ z. count_from n a.many ++ z) (b.is ∙ ap (λ z. count_from z b.many) a.next) ∙ count-append n a.many b.many;
  next = let e = a.next in let f = b.next in omega arith;
}

cons : (xs : List ℕ) (n m : ℕ) → Counts xs (n + 1) m → Counts (n ∷ xs) n m
cons xs n m a = record { many = suc a.many; is = ap (λ z. n ∷ z) (a.is ∙ ap (λ z. count_from z a.many) (add-one n)); next = let e = a.next in omega arith }

three_more : (xs : List ℕ) (n m : ℕ) → Counts xs (n + 3) m → Counts (n ∷ (n + 1) ∷ (n + 2) ∷ xs) n m
three_more xs n m a =
    let e : n + 1 + 1 ≡ n + 2 = omega arith in
    let f : n + 2 + 1 ≡ n + 3 = omega arith in
    let P : ℕ → Type 0 = λ z. Counts xs z m in
    let Q : ℕ → Type 0 = λ z. Counts ((n + 2) ∷ xs) z m in
    cons ((n + 1) ∷ (n + 2) ∷ xs) n m (cons ((n + 2) ∷ xs) (n + 1) m (subst Q (sym e) (cons xs (n + 2) m (subst P (sym f) a))))

bound-fields : (t : Tree Token) (e : ExprTree) → bound (fields_of t e) ≡ bound e
bound-fields (pair (node (pair d (pair k end))) more) base = bound-fields more (one _ _ base)
bound-fields _ base = refl

same_numbers : (xs ys : List ℕ) (n m : ℕ) → xs ≡ ys → Counts ys n m → Counts xs n m
same_numbers xs ys n m e a = let P : List ℕ → Type 0 = λ z. Counts z n m in subst P (sym e) a

mutual
  c_expr : (t : Tree Token) (scope : List Bound) (n : ℕ) → Counts (bound (expr_of t scope n).expr) n (expr_of t scope n).next
  c_expr (node (here (node (pair l (pair w (pair note (pair q (pair v (pair m (pair b end)))))))))) scope n = let value = or_of v scope (n + 1) in let body = expr_of b (bound_as w n ∷ scope) value.next in cons _ n _ (both (bound value.expr) (bound body.expr) (n + 1) value.next body.next (c_or v scope (n + 1)) (c_expr b (bound_as w n ∷ scope) value.next))
  c_expr (node (there (here t))) scope n = c_or t scope n
  c_expr _ scope n = none n

  c_or : (t : Tree Token) (scope : List Bound) (n : ℕ) → Counts (bound (or_of t scope n).expr) n (or_of t scope n).next
  c_or (node (pair t (pair more end))) scope n = let first = and_of t scope n in c_or_parts more first.expr scope n first.next (c_and t scope n)
  c_or _ scope n = none n

  c_or_parts : (t : Tree Token) (left : ExprTree) (scope : List Bound) (s n : ℕ) → Counts (bound left) s n → Counts (bound (or_parts_of t left scope n).expr) s (or_parts_of t left scope n).next
  c_or_parts (pair (node (pair o (pair t end))) more) left scope s n h = let right = and_of t scope n in c_or_parts more _ scope s right.next (both (bound left) (bound right.expr) s n right.next h (c_and t scope n))
  c_or_parts _ left scope s n h = h

  c_and : (t : Tree Token) (scope : List Bound) (n : ℕ) → Counts (bound (and_of t scope n).expr) n (and_of t scope n).next
  c_and (node (pair t (pair more end))) scope n = let first = equality_of t scope n in c_and_parts more first.expr scope n first.next (c_equality t scope n)
  c_and _ scope n = none n

  c_and_parts : (t : Tree Token) (left : ExprTree) (scope : List Bound) (s n : ℕ) → Counts (bound left) s n → Counts (bound (and_parts_of t left scope n).expr) s (and_parts_of t left scope n).next
  c_and_parts (pair (node (pair o (pair t end))) more) left scope s n h = let right = equality_of t scope n in c_and_parts more _ scope s right.next (both (bound left) (bound right.expr) s n right.next h (c_equality t scope n))
  c_and_parts _ left scope s n h = h

  c_equality : (t : Tree Token) (scope : List Bound) (n : ℕ) → Counts (bound (equality_of t scope n).expr) n (equality_of t scope n).next
  c_equality (node (pair t (pair more end))) scope n = let first = relation_of t scope n in c_equality_parts more first.expr scope n first.next (c_relation t scope n)
  c_equality _ scope n = none n

  c_equality_parts : (t : Tree Token) (left : ExprTree) (scope : List Bound) (s n : ℕ) → Counts (bound left) s n → Counts (bound (equality_parts_of t left scope n).expr) s (equality_parts_of t left scope n).next
  c_equality_parts (pair (node (pair o (pair t end))) more) left scope s n h = let right = relation_of t scope n in c_equality_parts more _ scope s right.next (both (bound left) (bound right.expr) s n right.next h (c_relation t scope n))
  c_equality_parts _ left scope s n h = h

  c_relation : (t : Tree Token) (scope : List Bound) (n : ℕ) → Counts (bound (relation_of t scope n).expr) n (relation_of t scope n).next
  c_relation (node (pair t (pair more end))) scope n = let first = sum_of t scope n in c_relation_parts more first.expr scope n first.next (c_sum t scope n)
  c_relation _ scope n = none n

  c_relation_parts : (t : Tree Token) (left : ExprTree) (scope : List Bound) (s n : ℕ) → Counts (bound left) s n → Counts (bound (relation_parts_of t left scope n).expr) s (relation_parts_of t left scope n).next
  c_relation_parts (pair (node (pair o (pair t end))) more) left scope s n h = let right = sum_of t scope n in c_relation_parts more _ scope s right.next (both (bound left) (bound right.expr) s n right.next h (c_sum t scope n))
  c_relation_parts _ left scope s n h = h

  c_sum : (t : Tree Token) (scope : List Bound) (n : ℕ) → Counts (bound (sum_of t scope n).expr) n (sum_of t scope n).next
  c_sum (node (pair t (pair more end))) scope n = let first = product_of t scope n in c_sum_parts more first.expr scope n first.next (c_product t scope n)
  c_sum _ scope n = none n

  c_sum_parts : (t : Tree Token) (left : ExprTree) (scope : List Bound) (s n : ℕ) → Counts (bound left) s n → Counts (bound (sum_parts_of t left scope n).expr) s (sum_parts_of t left scope n).next
  c_sum_parts (pair (node (pair o (pair t end))) more) left scope s n h = let right = product_of t scope n in c_sum_parts more _ scope s right.next (both (bound left) (bound right.expr) s n right.next h (c_product t scope n))
  c_sum_parts _ left scope s n h = h

  c_product : (t : Tree Token) (scope : List Bound) (n : ℕ) → Counts (bound (product_of t scope n).expr) n (product_of t scope n).next
  c_product (node (pair t (pair more end))) scope n = let first = unary_of t scope n in c_product_parts more first.expr scope n first.next (c_unary t scope n)
  c_product _ scope n = none n

  c_product_parts : (t : Tree Token) (left : ExprTree) (scope : List Bound) (s n : ℕ) → Counts (bound left) s n → Counts (bound (product_parts_of t left scope n).expr) s (product_parts_of t left scope n).next
  c_product_parts (pair (node (pair o (pair t end))) more) left scope s n h = let right = unary_of t scope n in c_product_parts more _ scope s right.next (both (bound left) (bound right.expr) s n right.next h (c_unary t scope n))
  c_product_parts _ left scope s n h = h

  c_unary : (t : Tree Token) (scope : List Bound) (n : ℕ) → Counts (bound (unary_of t scope n).expr) n (unary_of t scope n).next
  c_unary (node (here (node (pair m (pair (node (here k)) end))))) scope n = none n
  c_unary (node (here (node (pair m (pair (node (there (here t))) end))))) scope n = let inner = unary_of t scope n in (c_unary t scope n)
  c_unary (node (there (here (node (pair m (pair t end)))))) scope n = let inner = unary_of t scope n in (c_unary t scope n)
  c_unary (node (there (there (here (node (pair t (pair more end))))))) scope n = let first = primary_of t scope n in same_numbers _ (bound first.expr) n first.next (bound-fields more first.expr) (c_primary t scope n)
  c_unary _ scope n = none n

  c_primary : (t : Tree Token) (scope : List Bound) (n : ℕ) → Counts (bound (primary_of t scope n).expr) n (primary_of t scope n).next
  c_primary (node (here t)) scope n = none n
  c_primary (node (there (here t))) scope n = none n
  c_primary (node (there (there (here t)))) scope n = none n
  c_primary (node (there (there (there (here t))))) scope n = none n
  c_primary (node (there (there (there (there (here t)))))) scope n = none n
  c_primary (node (there (there (there (there (there (here (node (pair a (pair t end)))))))))) scope n = c_expr t scope n
  c_primary (node (there (there (there (there (there (there (here (node (pair a (pair t (pair more end)))))))))))) scope n = let first = expr_of t scope n in let others = next_exprs_of more scope first.next in (both (bound first.expr) _ n first.next _ (c_expr t scope n) (c_next_exprs more scope first.next))
  c_primary (node (there (there (there (there (there (there (there (here (node (pair a (pair t (pair more end))))))))))))) scope n = let first = expr_of t scope n in let others = next_exprs_of more scope first.next in (both (bound first.expr) _ n first.next _ (c_expr t scope n) (c_next_exprs more scope first.next))
  c_primary (node (there (there (there (there (there (there (there (there (here (node (pair w (pair a (pair t (pair c (pair u (pair d (pair v end)))))))))))))))))) scope n = let e = expr_of t scope n in let f = expr_of u scope e.next in let g = expr_of v scope f.next in (both (bound e.expr) _ n e.next _ (c_expr t scope n) (both (bound f.expr) _ e.next f.next _ (c_expr u scope e.next) (c_expr v scope f.next)))
  c_primary (node (there (there (there (there (there (there (there (there (there (here (node (pair w (pair a (pair t (pair c (pair u (pair d (pair v end))))))))))))))))))) scope n = let e = expr_of t scope n in let f = expr_of u scope e.next in let g = expr_of v scope f.next in (both (bound e.expr) _ n e.next _ (c_expr t scope n) (both (bound f.expr) _ e.next f.next _ (c_expr u scope e.next) (c_expr v scope f.next)))
  c_primary (node (there (there (there (there (there (there (there (there (there (there (here (node (pair w (pair a (pair t (pair c (pair u end)))))))))))))))))) scope n = let e = expr_of t scope n in let f = expr_of u scope e.next in (both (bound e.expr) _ n e.next _ (c_expr t scope n) (c_expr u scope e.next))
  c_primary (node (there (there (there (there (there (there (there (there (there (there (there (here (node (pair w (pair a (pair t (pair c (pair u end))))))))))))))))))) scope n = let e = expr_of t scope n in let f = expr_of u scope e.next in (both (bound e.expr) _ n e.next _ (c_expr t scope n) (c_expr u scope e.next))
  c_primary (node (there (there (there (there (there (there (there (there (there (there (there (there (here (node (pair w (pair a (pair t end)))))))))))))))))) scope n = let e = expr_of t scope n in (c_expr t scope n)
  c_primary (node (there (there (there (there (there (there (there (there (there (there (there (there (there (here (node (pair w (pair a (pair t (pair c (pair u (pair d (pair v end))))))))))))))))))))))) scope n = let e = expr_of t scope n in let f = expr_of u scope e.next in let g = expr_of v scope f.next in (both (bound e.expr) _ n e.next _ (c_expr t scope n) (both (bound f.expr) _ e.next f.next _ (c_expr u scope e.next) (c_expr v scope f.next)))
  c_primary (node (there (there (there (there (there (there (there (there (there (there (there (there (there (there (here (node (pair w (pair a (pair t (pair c (pair u end)))))))))))))))))))))) scope n = let e = expr_of t scope n in let f = expr_of u scope e.next in (both (bound e.expr) _ n e.next _ (c_expr t scope n) (c_expr u scope e.next))
  c_primary (node (there (there (there (there (there (there (there (there (there (there (there (there (there (there (there (here (node (pair w (pair a (pair t end))))))))))))))))))))) scope n = let e = expr_of t scope n in (c_expr t scope n)
  c_primary (node (there (there (there (there (there (there (there (there (there (there (there (there (there (there (there (there (here (node (pair w (pair a (pair l (pair c (pair t (pair d (pair i (pair (node (pair x (pair p end))) (pair j (pair (node (pair y (pair q end2))) (pair k (pair (node (pair z (pair r end3))) (pair m (pair b end4))))))))))))))))))))))))))))))))) scope n = let legs = rows_of l scope n in let builder = expr_of t scope legs.next in let body = expr_of b (bound_as z (builder.next + 2) ∷ bound_as y (builder.next + 1) ∷ bound_as x builder.next ∷ scope) (builder.next + 3) in both (bound_in_legs legs.legs) _ n legs.next _ (c_rows l scope n) (both (bound builder.expr) _ legs.next builder.next _ (c_expr t scope legs.next) (three_more (bound body.expr) builder.next body.next (c_expr b (bound_as z (builder.next + 2) ∷ bound_as y (builder.next + 1) ∷ bound_as x builder.next ∷ scope) (builder.next + 3))))
  c_primary (node (there (there (there (there (there (there (there (there (there (there (there (there (there (there (there (there (there (here (node (pair w (pair a (pair t (pair c (pair i (pair (node (pair x (pair p end))) (pair m (pair b end2)))))))))))))))))))))))))))) scope n = let state = expr_of t scope n in let body = expr_of b (bound_as x state.next ∷ scope) (state.next + 1) in both (bound state.expr) _ n state.next _ (c_expr t scope n) (cons (bound body.expr) state.next body.next (c_expr b (bound_as x state.next ∷ scope) (state.next + 1)))
  c_primary (node (there (there (there (there (there (there (there (there (there (there (there (there (there (there (there (there (there (there (here (node (pair k (pair a (pair t end)))))))))))))))))))))))) scope n = let e = expr_of t scope n in (c_expr t scope n)
  c_primary (node (there (there (there (there (there (there (there (there (there (there (there (there (there (there (there (there (there (there (there (here b))))))))))))))))))))) scope n = c_builder b scope n
  c_primary _ scope n = none n

  c_builder : (t : Tree Token) (scope : List Bound) (n : ℕ) → Counts (bound (builder_of t scope n).expr) n (builder_of t scope n).next
  c_builder (node (there (here (node (pair w (pair b (pair t (pair c (pair o (pair d (pair (here (node (pair a (pair e end)))) end2))))))))))) scope n = let start = expr_of e scope n in (c_expr e scope n)
  c_builder (node (there (there (there (here (node (pair w (pair b (pair t (pair c (pair o (pair d (pair (node (pair a (pair e end))) end2))))))))))))) scope n = let start = expr_of e scope n in (c_expr e scope n)
  c_builder t scope n = none n

  c_next_exprs : (t : Tree Token) (scope : List Bound) (n : ℕ) → Counts (bound_in (next_exprs_of t scope n).exprs) n (next_exprs_of t scope n).next
  c_next_exprs (pair (node (pair c (pair t end))) more) scope n = let first = expr_of t scope n in let others = next_exprs_of more scope first.next in (both (bound first.expr) _ n first.next _ (c_expr t scope n) (c_next_exprs more scope first.next))
  c_next_exprs _ scope n = none n

  c_rows : (t : Tree Token) (scope : List Bound) (n : ℕ) → Counts (bound_in_legs (rows_of t scope n).legs) n (rows_of t scope n).next
  c_rows (node (here (node (pair w (pair a (pair t (pair c (pair u (pair more end))))))))) scope n = let first = leg_of t scope n in let second = leg_of u scope first.next in let others = next_legs_of more scope second.next in (both (bound_in_leg first.leg) _ n first.next _ (c_leg t scope n) (both (bound_in_leg second.leg) _ first.next second.next _ (c_leg u scope first.next) (c_next_legs more scope second.next)))
  c_rows (node (there (here t))) scope n = let first = leg_of t scope n in both (bound_in_leg first.leg) [] n first.next first.next (c_leg t scope n) (none first.next)
  c_rows _ scope n = none n

  c_next_legs : (t : Tree Token) (scope : List Bound) (n : ℕ) → Counts (bound_in_legs (next_legs_of t scope n).legs) n (next_legs_of t scope n).next
  c_next_legs (pair (node (pair c (pair t end))) more) scope n = let first = leg_of t scope n in let others = next_legs_of more scope first.next in (both (bound_in_leg first.leg) _ n first.next _ (c_leg t scope n) (c_next_legs more scope first.next))
  c_next_legs _ scope n = none n

  c_leg : (t : Tree Token) (scope : List Bound) (n : ℕ) → Counts (bound_in_leg (leg_of t scope n).leg) n (leg_of t scope n).next
  c_leg (node (here (node (pair w (pair a (pair t (pair c (pair u (pair d (pair v (pair e (pair x end)))))))))))) scope n = let vector = expr_of t scope n in let start = expr_of u scope vector.next in let below = expr_of v scope start.next in let stride = expr_of x scope below.next in (both (bound vector.expr) _ n vector.next _ (c_expr t scope n) (both (bound start.expr) _ vector.next start.next _ (c_expr u scope vector.next) (both (bound below.expr) _ start.next below.next _ (c_expr v scope start.next) (c_expr x scope below.next))))
  c_leg (node (there (here t))) scope n = let vector = expr_of t scope n in (c_expr t scope n)
  c_leg _ scope n = none n

param_number : (t : Tree Token) (n : ℕ) → (param_of t n).sym.0 ≡ n
param_number (node (pair w (pair c (pair t rest)))) n = refl
param_number _ n = refl

c_params : (t : Tree Token) (n : ℕ) → Counts (syms_of (next_params_of t n)) n (params_behind t n)
c_params (pair (node (pair c (pair t rest))) more) n =
    same_numbers _ (n ∷ syms_of (next_params_of more (n + 1))) n (params_behind more (n + 1)) (ap (λ z. z ∷ syms_of (next_params_of more (n + 1))) (param_number t n)) (cons (syms_of (next_params_of more (n + 1))) n (params_behind more (n + 1)) (c_params more (n + 1)))
c_params _ n = none n

-- the binders of a program, in the order of the text
record Numbered (p : ProgramTree) : Type 0 where
  pub many : ℕ
  pub is : syms_of p.params ++ bound p.body ≡ count_from 0 many

numbered : (p : ProgramTree) (m : ℕ) → Counts (syms_of p.params ++ bound p.body) 0 m → Numbered p
numbered p m h = record { many = h.many; is = h.is }

program_numbered : (t : Tree Token) → Numbered (program_of t)
program_numbered (node (here (node (pair b (pair e end))))) = numbered _ _ (c_expr e [] 0)
program_numbered (node (there (here (node (pair a (pair p (pair more (pair b (pair e end))))))))) =
    let params = cons (syms_of (next_params_of more 1)) 0 (params_behind more 1) (c_params more 1) in
    let all = same_numbers ((param_of p 0).sym.0 ∷ syms_of (next_params_of more 1)) (0 ∷ syms_of (next_params_of more 1)) 0 (params_behind more 1) (ap (λ z. z ∷ syms_of (next_params_of more 1)) (param_number p 0)) params in
    numbered _ _ (both _ _ 0 (params_behind more 1) _ all (c_expr e (params_scope more (param_bound p 0 ∷ []) 1) (params_behind more 1)))
program_numbered (node (there (there (here e)))) = numbered _ _ (c_expr e [] 0)
program_numbered _ = numbered _ _ (none 0)

pub spelled_numbered : (ts : List Token) (p : ProgramTree) → Spells ts p → (k : ℕ) × (syms_of p.params ++ bound p.body ≡ count_from 0 k)
spelled_numbered ts p h = let n = program_numbered h.tree in (n.many, ap (λ z. syms_of z.params ++ bound z.body) (sym h.is) ∙ n.is)

below_none : (m n k : ℕ) → m < n → IsOneOf (count_from n k) m → ⊥
below_none m n zero h e = e
below_none m n (suc k) h e = elim e [ inl s ↦ omega arith | inr r ↦ below_none m (suc n) k (omega arith) r ]

count_distinct : (n k : ℕ) → AreDistinct (count_from n k)
count_distinct n zero = tt
count_distinct n (suc k) = ((λ e. below_none n (suc n) k (omega arith) e), count_distinct (suc n) k)

pub spelled_distinct : (ts : List Token) (p : ProgramTree) → Spells ts p → AreDistinct (syms_of p.params ++ bound p.body)
spelled_distinct ts p h = let n = spelled_numbered ts p h in let P : List ℕ → Type 0 = AreDistinct in subst P (sym n.1) (count_distinct 0 n.0)
