-- The rows of the shared loops that an evaluation comes to. A loop is shared where it stands in no
-- lambda but the program's own, so each is evaluated once at most.
use Rattle.std.specs.Prelude.{ℕ, Bool, if◌then◌else◌, List, [], ◌∷◌, ◌++◌, length}
use Rattle.weld_data.specs.Value.{Value}
use Rattle.weld_tree.specs.ExprTree.{ExprTree, leaf, one, two, three, many, let_in, loop, iterate, ExprTrees, no_exprs, more_exprs, LegTree, whole, strided, LegTrees, no_legs, more_legs, Two, binary, and, or, look_up, key_exists, merge, Three, if_else, select, slice}
use Rattle.weld_tree.specs.Program.{ProgramTree}
use Rattle.weld_builders.specs.Outcome.{Outcome, done, fault, stuck, and_then}
use Rattle.weld_meaning.specs.Thing.{Thing}
use Rattle.weld_meaning.specs.Evaluation.{Env, truth_of, value_out, rows_of, eval, eval_legs}
use Rattle.weld_meaning.specs.Meaning.{with_arguments}

-- what is behind a result; nothing is behind a fault
abbrev pub if_done : {A : Type 0} → Outcome A → (A → List ℕ) → List ℕ
if_done (done x) f = f x
if_done fault f = []
if_done stuck f = []

-- one of two, as a truth value says
abbrev pub as_says : Outcome Thing → List ℕ → List ℕ → List ℕ
as_says o on off = if_done (and_then (value_out o) truth_of) (λ (c : Bool). if c then on else off)

-- those of a second part, where it is evaluated: that of `&&` where the first is true, that of `||` where it is false
abbrev pub where_reached : Two → Outcome Thing → List ℕ → List ℕ
where_reached (binary op) o rows = rows
where_reached and o rows = as_says o rows []
where_reached or o rows = as_says o [] rows
where_reached look_up o rows = rows
where_reached key_exists o rows = rows
where_reached merge o rows = rows

-- those of a second and a third part: of an `if` those of the arm that its condition chooses
abbrev pub of_arms : Three → Outcome Thing → List ℕ → List ℕ → List ℕ
of_arms if_else o second third = as_says o second third
of_arms select o second third = second ++ third
of_arms slice o second third = second ++ third

abbrev mutual
  -- where the names stand for these things: how many rows each evaluation of a shared loop has, one number for each, those of
  -- a loop's legs and of its builder before its own; of vectors, structs and legs those of the last part first. What stands in
  -- the body of a loop or of an `iterate` isn't shared
  pub shared_rows : ExprTree → Env → List ℕ
  shared_rows (leaf a l) env = []
  shared_rows (one a o e) env = shared_rows e env
  shared_rows (two a o e f) env = shared_rows e env ++ where_reached o (eval e env) (shared_rows f env)
  shared_rows (three a o e f g) env = shared_rows e env ++ of_arms o (eval e env) (shared_rows f env) (shared_rows g env)
  shared_rows (many a o es) env = shared_rows_of_all es env
  shared_rows (let_in a b e f) env = shared_rows e env ++ if_done (eval e env) (λ t. shared_rows f ((b.sym.0, t) ∷ env))
  shared_rows (loop a ls e b n x f) env =
      shared_rows_of_legs ls env ++ (shared_rows e env ++ if_done (and_then (eval_legs ls env) rows_of) (λ (rows : List Value). length rows ∷ []))
  shared_rows (iterate a e b f) env = shared_rows e env

  pub shared_rows_of_all : ExprTrees → Env → List ℕ
  shared_rows_of_all no_exprs env = []
  shared_rows_of_all (more_exprs e es) env = shared_rows_of_all es env ++ shared_rows e env

  pub shared_rows_of_leg : LegTree → Env → List ℕ
  shared_rows_of_leg (whole e) env = shared_rows e env
  shared_rows_of_leg (strided e f g h) env = shared_rows e env ++ (shared_rows f env ++ (shared_rows g env ++ shared_rows h env))

  pub shared_rows_of_legs : LegTrees → Env → List ℕ
  shared_rows_of_legs no_legs env = []
  shared_rows_of_legs (more_legs l ls) env = shared_rows_of_legs ls env ++ shared_rows_of_leg l env

-- those of a program on arguments
abbrev pub program_rows : ProgramTree → List Value → List ℕ
program_rows p vs = shared_rows p.body (with_arguments p.params vs)
