-- Programs that are the same but for notes are the same up to places, notes and binder numbers.
use Rattle.std.proofs.Common.{◌≡◌, ℕ, List, ◌∷◌, map, refl, sym, ◌∙◌, ap}
use Rattle.weld_tree.specs.ExprTree.{ExprTree, leaf, one, two, three, many, let_in, loop, iterate, ExprTrees, no_exprs, more_exprs, LegTree, whole, strided, LegTrees, no_legs, more_legs}
use Rattle.weld_tree.specs.Program.{ProgramTree, syms_of}
use Rattle.weld_tree.specs.Blank.{blank_at, blank_binder, bare_leaf, bare, bare_all, bare_leg, bare_legs, bare_program, AreSame}
use Rattle.weld_check_types.specs.Unnoted.{unnoted, all_unnoted, leg_unnoted, legs_unnoted, IsSameButNotes}

mutual
  bare_is : (e : ExprTree) (scope : List ℕ) → bare (unnoted e) scope ≡ bare e scope
  bare_is (leaf a l) scope = refl
  bare_is (one a o e) scope = λ i. one blank_at o (bare_is e scope i)
  bare_is (two a t e f) scope = λ i. two blank_at t (bare_is e scope i) (bare_is f scope i)
  bare_is (three a t e f g) scope = λ i. three blank_at t (bare_is e scope i) (bare_is f scope i) (bare_is g scope i)
  bare_is (many a m es) scope = λ i. many blank_at m (bare_all_is es scope i)
  bare_is (let_in a b e f) scope = λ i. let_in blank_at (blank_binder b) (bare_is e scope i) (bare_is f (b.sym.0 ∷ scope) i)
  bare_is (loop a ls e b n x f) scope = λ i.
      loop blank_at (bare_legs_is ls scope i) (bare_is e scope i) (blank_binder b) (blank_binder n) (blank_binder x)
      (bare_is f (x.sym.0 ∷ n.sym.0 ∷ b.sym.0 ∷ scope) i)
  bare_is (iterate a e b f) scope = λ i. iterate blank_at (bare_is e scope i) (blank_binder b) (bare_is f (b.sym.0 ∷ scope) i)

  bare_all_is : (es : ExprTrees) (scope : List ℕ) → bare_all (all_unnoted es) scope ≡ bare_all es scope
  bare_all_is no_exprs scope = refl
  bare_all_is (more_exprs e es) scope = λ i. more_exprs (bare_is e scope i) (bare_all_is es scope i)

  bare_leg_is : (l : LegTree) (scope : List ℕ) → bare_leg (leg_unnoted l) scope ≡ bare_leg l scope
  bare_leg_is (whole e) scope = λ i. whole (bare_is e scope i)
  bare_leg_is (strided e f g h) scope = λ i. strided (bare_is e scope i) (bare_is f scope i) (bare_is g scope i) (bare_is h scope i)

  bare_legs_is : (ls : LegTrees) (scope : List ℕ) → bare_legs (legs_unnoted ls) scope ≡ bare_legs ls scope
  bare_legs_is no_legs scope = refl
  bare_legs_is (more_legs l ls) scope = λ i. more_legs (bare_leg_is l scope i) (bare_legs_is ls scope i)

program_is : (p : ProgramTree) → bare_program (record { params = p.params; body = unnoted p.body }) ≡ bare_program p
program_is p = λ i. record { params = map blank_binder p.params; body = bare_is p.body (syms_of p.params) i }

pub are_same : (p q : ProgramTree) → IsSameButNotes p q → AreSame p q
are_same p q h = sym (program_is p) ∙ ap bare_program h ∙ program_is q
