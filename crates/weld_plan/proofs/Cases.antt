-- The rows of the shared loops of small expressions, worked out by hand, by which the definition is checked.
use Rattle.std.proofs.Common.{◌≡◌, ℕ, false, [], ◌∷◌, refl}
use Rattle.weld_data.specs.Value.{Value, list, values}
use Rattle.weld_tree.specs.declared.binder.Binder.{Binder}
use Rattle.weld_tree.specs.TypeTree.{BuildTree}
use Rattle.weld_tree.specs.ExprTree.{ExprTree, At, leaf, one, two, three, many, loop, iterate, no_exprs, more_exprs, whole, no_legs, more_legs, truth, name, fresh, finish, and, or, if_else, make_struct}
use Rattle.weld_meaning.specs.Thing.{plain}
use Rattle.weld_meaning.specs.Evaluation.{Env}
use Rattle.weld_plan.specs.SharedRows.{shared_rows}

-- name 0 is a vector of four elements, name 1 one of two
abbrev names : Value → Env
names w = (0, plain (list (values (w ∷ w ∷ w ∷ w ∷ [])))) ∷ (1, plain (list (values (w ∷ w ∷ [])))) ∷ []

-- a loop over a name that merges nothing
abbrev over : At → Binder → BuildTree → ℕ → ExprTree
over a b t s = one a finish (loop a (more_legs (whole (leaf a (name s))) no_legs) (leaf a (fresh t)) b b b (leaf a (name b.sym.0)))

abbrev says : At → ExprTree
says a = leaf a (truth false)

one_loop : (a : At) (b : Binder) (t : BuildTree) (w : Value) → shared_rows (over a b t 0) (names w) ≡ 4 ∷ []
one_loop a b t w = refl

-- the last part's first
of_a_struct : (a : At) (b : Binder) (t : BuildTree) (w : Value) → shared_rows (many a make_struct (more_exprs (over a b t 0) (more_exprs (over a b t 1) no_exprs))) (names w) ≡ 2 ∷ 4 ∷ []
of_a_struct a b t w = refl

-- the arm that isn't chosen isn't counted
of_an_if : (a : At) (b : Binder) (t : BuildTree) (w : Value) → shared_rows (three a if_else (says a) (over a b t 0) (over a b t 1)) (names w) ≡ 2 ∷ []
of_an_if a b t w = refl

-- nor a right side that isn't evaluated
of_an_and : (a : At) (b : Binder) (t : BuildTree) (w : Value) → shared_rows (two a and (says a) (over a b t 0)) (names w) ≡ []
of_an_and a b t w = refl

of_an_or : (a : At) (b : Binder) (t : BuildTree) (w : Value) → shared_rows (two a or (says a) (over a b t 0)) (names w) ≡ 4 ∷ []
of_an_or a b t w = refl

-- nor a loop in the body of another, or of an `iterate`
in_a_body : (a : At) (b : Binder) (t : BuildTree) (w : Value) → shared_rows (loop a (more_legs (whole (leaf a (name 1))) no_legs) (leaf a (fresh t)) b b b (over a b t 0)) (names w) ≡ 2 ∷ []
in_a_body a b t w = refl

in_a_turn : (a : At) (b : Binder) (t : BuildTree) (w : Value) → shared_rows (iterate a (says a) b (over a b t 0)) (names w) ≡ []
in_a_turn a b t w = refl
