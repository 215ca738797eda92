-- A program has few loops of any form, since each loop binds names.
use Rattle.std.proofs.Common.{◌≡◌, ℕ, ◌+◌, ◌<◌, ◌≤◌, min, if◌then◌else◌, Bool, true, false, ◌∷◌, ◌++◌, length, length-append, arith}
use Rattle.weld_tree.specs.ExprTree.{ExprTree, leaf, one, two, three, many, let_in, loop, iterate, ExprTrees, no_exprs, more_exprs, LegTree, whole, strided, LegTrees, no_legs, more_legs}
use Rattle.weld_tree.specs.Program.{ProgramTree, IsProgram, syms_of, bound, bound_in, bound_in_leg, bound_in_legs}
use Rattle.weld_sizes.specs.Marks.{set_among, marks_by, marks_among, marks_in_leg, marks_in_legs}
use Rattle.weld_sizes.proofs.Left.{set_both}

one_more : (b : Bool) (n : ℕ) → (if b then 1 else 0) + n ≤ 1 + n
one_more true n = omega arith
one_more false n = omega arith

mutual
  few : (form : ExprTree → Bool) (e : ExprTree) → set_among (marks_by form e) ≤ length (bound e)
  few form (leaf a l) = omega arith
  few form (one a o e) = few form e
  few form (two a o e f) = omega (arith, few form e, few form f, set_both (marks_by form e) (marks_by form f), length-append (bound e) (bound f))
  few form (three a o e f g) =
      omega (arith, few form e, few form f, few form g, set_both (marks_by form e) (marks_by form f ++ marks_by form g), set_both (marks_by form f) (marks_by form g), length-append (bound e) (bound f ++ bound g), length-append (bound f) (bound g))
  few form (many a o es) = few_in form es
  few form (let_in a b e f) = omega (arith, few form e, few form f, set_both (marks_by form e) (marks_by form f), length-append (bound e) (bound f))
  few form (loop a ls e b n x f) =
      omega (
        arith,
        few_in_legs form ls,
        few form e,
        few form f,
        one_more (form (loop a ls e b n x f)) (set_among (marks_in_legs form ls ++ (marks_by form e ++ marks_by form f))),
        set_both (marks_in_legs form ls) (marks_by form e ++ marks_by form f),
        set_both (marks_by form e) (marks_by form f),
        length-append (bound_in_legs ls) (bound e ++ (b.sym.0 ∷ n.sym.0 ∷ x.sym.0 ∷ bound f)),
        length-append (bound e) (b.sym.0 ∷ n.sym.0 ∷ x.sym.0 ∷ bound f),
      )
  few form (iterate a e b f) = omega (arith, few form e, few form f, set_both (marks_by form e) (marks_by form f), length-append (bound e) (b.sym.0 ∷ bound f))

  few_in : (form : ExprTree → Bool) (es : ExprTrees) → set_among (marks_among form es) ≤ length (bound_in es)
  few_in form no_exprs = omega arith
  few_in form (more_exprs e es) = omega (arith, few form e, few_in form es, set_both (marks_by form e) (marks_among form es), length-append (bound e) (bound_in es))

  few_in_leg : (form : ExprTree → Bool) (l : LegTree) → set_among (marks_in_leg form l) ≤ length (bound_in_leg l)
  few_in_leg form (whole e) = few form e
  few_in_leg form (strided e f g h) =
      omega (
        arith,
        few form e,
        few form f,
        few form g,
        few form h,
        set_both (marks_by form e) (marks_by form f ++ (marks_by form g ++ marks_by form h)),
        set_both (marks_by form f) (marks_by form g ++ marks_by form h),
        set_both (marks_by form g) (marks_by form h),
        length-append (bound e) (bound f ++ (bound g ++ bound h)),
        length-append (bound f) (bound g ++ bound h),
        length-append (bound g) (bound h),
      )

  few_in_legs : (form : ExprTree → Bool) (ls : LegTrees) → set_among (marks_in_legs form ls) ≤ length (bound_in_legs ls)
  few_in_legs form no_legs = omega arith
  few_in_legs form (more_legs l ls) = omega (arith, few_in_leg form l, few_in_legs form ls, set_both (marks_in_leg form l) (marks_in_legs form ls), length-append (bound_in_leg l) (bound_in_legs ls))

-- a program has fewer than 4,294,967,295 of them
pub few_of : (form : ExprTree → Bool) (p : ProgramTree) → IsProgram p.params p.body → set_among (marks_by form p.body) < 4294967295
few_of form p h = omega (arith, few form p.body, h.few, length-append (syms_of p.params) (bound p.body))

-- so few are counted without a cap
pub capped : (n m : ℕ) → n ≡ min m 18446744073709551615 → m < 4294967295 → n ≡ m
capped n m e l = omega (arith, e, l)
