-- What the emission of steps rests on.
use Rattle.std.proofs.Common.{◌≡◌, ℕ, suc, ◌<◌, ◌≤◌, ◌==◌, ◌≢◌, Bool, true, false, if◌then◌else◌, List, [], ◌∷◌, ◌++◌, length, Result, Ok, Err, refl, sym, ap, ◌∙◌, subst, append_assoc, length-append, arith}
use Rattle.std.proofs.lemmas.Bool.{eq-eqb, eqb-true}
use Rattle.std.specs.Prelude.{OnOk}
use Rattle.weld_tree.specs.ExprTree.{ExprTree, At, leaf, one, two, three, many, let_in, loop, iterate, ExprTrees, no_exprs, more_exprs, LegTree, whole, strided, LegTrees, no_legs, more_legs, Many, pack_exprs}
use Rattle.weld_tree.specs.ExprFalls.{expr_nodes, leg_nodes}
use Rattle.weld_tree.specs.Program.{ProgramTree, IsProgram, syms_of, loops, loops_in, loops_in_leg, loops_in_legs, bound, bound_in, bound_in_leg, bound_in_legs}
use Rattle.weld_plan.specs.StepTree.{StepTree, compute, apply_many, or_whole, count_exprs, steps_of, all_steps}

no_loop_true : (e : ExprTree) (steps : List StepTree) → loops e ≡ 0 → or_whole e steps ≡ compute e ∷ []
no_loop_true e steps h = ap (λ (b : Bool). if b then compute e ∷ [] else steps) (eq-eqb (loops e) 0 h)

some_loop : (e : ExprTree) (steps : List StepTree) → loops e ≢ 0 → or_whole e steps ≡ steps
some_loop e steps h = by (loops e == 0) refl
  where
    by : (b : Bool) → (loops e == 0) ≡ b → (if b then compute e ∷ [] else steps) ≡ steps
    by true q = absurd (h (eqb-true (loops e) 0 q))
    by false q = refl

pub whole_added : (e : ExprTree) (k : ℕ) → loops e ≡ 0 → steps_of e k ≡ compute e ∷ []
whole_added (leaf a l) k h = refl
whole_added (one a o e) k h = no_loop_true (one a o e) _ h
whole_added (two a o e f) k h = no_loop_true (two a o e f) _ h
whole_added (three a o e f g) k h = no_loop_true (three a o e f g) _ h
whole_added (many a o es) k h = no_loop_true (many a o es) _ h
whole_added (let_in a b e f) k h = no_loop_true (let_in a b e f) _ h
whole_added (loop a ls e b n x f) k h = absurd (omega (arith, h))
whole_added (iterate a e b f) k h = no_loop_true (iterate a e b f) _ h

counted : (es : List ExprTree) → count_exprs (pack_exprs es) ≡ length es
counted [] = refl
counted (e ∷ es) = ap suc (counted es)

many_parts : (a : At) (o : Many) (es : List ExprTree) (k : ℕ) → loops (many a o (pack_exprs es)) ≢ 0 → steps_of (many a o (pack_exprs es)) k ≡ all_steps (pack_exprs es) k ++ apply_many o (length es) ∷ []
many_parts a o es k h = some_loop (many a o (pack_exprs es)) _ h ∙ ap (λ n. all_steps (pack_exprs es) k ++ apply_many o n ∷ []) (counted es)

pub many_added : (a : At) (o : Many) (es : List ExprTree) (k : ℕ) (e : ExprTree) (old between new : List StepTree) (n : ℕ) → e ≡ many a o (pack_exprs es) → loops e ≢ 0 → n ≡ length es → between ≡ old ++ all_steps (pack_exprs es) k → new ≡ between ++ apply_many o n ∷ []
    → new ≡ old ++ steps_of e k
many_added a o es k e old between new n is h m p q =
    q ∙ ap (λ l. l ++ apply_many o n ∷ []) p ∙ append_assoc old (all_steps (pack_exprs es) k) (apply_many o n ∷ [])
    ∙ ap (λ j. old ++ (all_steps (pack_exprs es) k ++ apply_many o j ∷ [])) m
    ∙ ap (λ l. old ++ l) (sym (ap (λ d. steps_of d k) is ∙ many_parts a o es k (subst (λ d. loops d ≢ 0) is h)))

pub some_nodes : (e : ExprTree) → 1 ≤ expr_nodes e
some_nodes (leaf a l) = omega arith
some_nodes (one a o e) = omega arith
some_nodes (two a o e f) = omega arith
some_nodes (three a o e f g) = omega arith
some_nodes (many a o es) = omega arith
some_nodes (let_in a b e f) = omega arith
some_nodes (loop a ls e b n x f) = omega arith
some_nodes (iterate a e b f) = omega arith

pub some_leg_nodes : (l : LegTree) → 1 ≤ leg_nodes l
some_leg_nodes (whole e) = some_nodes e
some_leg_nodes (strided e f g h) = omega (arith, some_nodes e)

mutual
  few : (e : ExprTree) → loops e ≤ length (bound e)
  few (leaf a l) = omega arith
  few (one a o e) = few e
  few (two a o e f) = omega (arith, few e, few f, length-append (bound e) (bound f))
  few (three a o e f g) = omega (arith, few e, few f, few g, length-append (bound e) (bound f ++ bound g), length-append (bound f) (bound g))
  few (many a o es) = few_in es
  few (let_in a b e f) = omega (arith, few e, few f, length-append (bound e) (bound f))
  few (loop a ls e b n x f) =
      omega (arith, few_in_legs ls, few e, few f, length-append (bound_in_legs ls) (bound e ++ (b.sym.0 ∷ n.sym.0 ∷ x.sym.0 ∷ bound f)), length-append (bound e) (b.sym.0 ∷ n.sym.0 ∷ x.sym.0 ∷ bound f))
  few (iterate a e b f) = omega (arith, few e, few f, length-append (bound e) (b.sym.0 ∷ bound f))

  few_in : (es : ExprTrees) → loops_in es ≤ length (bound_in es)
  few_in no_exprs = omega arith
  few_in (more_exprs e es) = omega (arith, few e, few_in es, length-append (bound e) (bound_in es))

  few_in_leg : (l : LegTree) → loops_in_leg l ≤ length (bound_in_leg l)
  few_in_leg (whole e) = few e
  few_in_leg (strided e f g h) =
      omega (arith, few e, few f, few g, few h, length-append (bound e) (bound f ++ (bound g ++ bound h)), length-append (bound f) (bound g ++ bound h), length-append (bound g) (bound h))

  few_in_legs : (ls : LegTrees) → loops_in_legs ls ≤ length (bound_in_legs ls)
  few_in_legs no_legs = omega arith
  few_in_legs (more_legs l ls) = omega (arith, few_in_leg l, few_in_legs ls, length-append (bound_in_leg l) (bound_in_legs ls))

-- what holds on Ok, in other words
pub on_ok : {T F : Type 0} (P Q : Type 0) (r : Result T F) → (P → Q) → OnOk r P → OnOk r Q
on_ok P Q (Ok x) f h = f h
on_ok P Q (Err e) f h = h

-- a program has fewer than 4,294,967,295 loops
pub few_loops : (p : ProgramTree) → IsProgram p.params p.body → loops p.body < 4294967295
few_loops p h = omega (arith, few p.body, h.few, length-append (syms_of p.params) (bound p.body))
