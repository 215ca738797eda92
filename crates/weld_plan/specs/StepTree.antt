-- The steps of a plan as plain data, and those of an expression.
use Rattle.std.specs.Prelude.{ℕ, suc, ◌+◌, ◌==◌, Bool, true, false, if◌then◌else◌, List, [], ◌∷◌, ◌++◌, length}
use Rattle.weld_tree.specs.ExprTree.{ExprTree, leaf, one, two, three, many, let_in, loop, iterate, ExprTrees, no_exprs, more_exprs, LegTree, whole, strided, LegTrees, no_legs, more_legs, Leaf, int, truth, chars, name, fresh, One, neg, not, cast, len, field, finish, started, Two, binary, and, or, look_up, key_exists, merge, Three, if_else, select, slice, Many}
use Rattle.weld_tree.specs.Program.{loops, loops_in_leg, loops_in_legs}

-- a step takes what it needs from a stack of things, the newest first, and leaves its answer there; jumps go forward
pub data StepTree : Type 0 where
  -- an expression without shared loops
  compute : ExprTree → StepTree
  -- the forms on what their parts came to
  apply_one : One → StepTree
  apply_two : Two → StepTree
  apply_three : Three → StepTree
  apply_many : Many → ℕ → StepTree
  -- `&&` and `||`: leaves out so many steps where the first part decides alone
  decide : Two → ℕ → StepTree
  -- leaves out so many steps where the condition is false
  unless : ℕ → StepTree
  -- leaves out so many steps
  skip : ℕ → StepTree
  -- a name, by its number, stands for the newest thing from here on; the newest name goes
  bind : ℕ → StepTree
  unbind : StepTree
  -- a vector, a start, an end and a stride become the vector of a leg
  stride : StepTree
  -- a shared loop, the whole node and its number in the text, over its legs' vectors and its builder
  run_loop : ExprTree → ℕ → StepTree
  -- the turns of an `iterate`, the whole node, from its state
  run_turns : ExprTree → StepTree

-- ---- legs that are read where they stand

abbrev pub is_name : Leaf → Bool
is_name (int k x) = false
is_name (truth b) = false
is_name (chars bs) = false
is_name (name s) = true
is_name (fresh b) = false

abbrev pub is_field : One → Bool
is_field neg = false
is_field not = false
is_field (cast k) = false
is_field len = false
is_field (field n) = true
is_field finish = false
is_field (started b) = false

-- a name, or a field of such
abbrev pub is_path : ExprTree → Bool
is_path (leaf a l) = is_name l
is_path (one a o e) = if is_field o then is_path e else false
is_path (two a o e f) = false
is_path (three a o e f g) = false
is_path (many a o es) = false
is_path (let_in a b e f) = false
is_path (loop a ls e b n x f) = false
is_path (iterate a e b f) = false

-- the leg's vector is no thing of the stack: it is read where it stands
abbrev pub is_read : LegTree → Bool
is_read (whole e) = is_path e
is_read (strided e f g h) = false

-- ---- the steps of an expression

-- the expression as one step where no loop stands in it
abbrev pub or_whole : ExprTree → List StepTree → List StepTree
or_whole e steps = if loops e == 0 then compute e ∷ [] else steps

abbrev pub two_steps : Two → List StepTree → List StepTree → List StepTree
two_steps (binary op) first second = first ++ (second ++ apply_two (binary op) ∷ [])
two_steps and first second = first ++ decide and (length second) ∷ second
two_steps or first second = first ++ decide or (length second) ∷ second
two_steps look_up first second = first ++ (second ++ apply_two look_up ∷ [])
two_steps key_exists first second = first ++ (second ++ apply_two key_exists ∷ [])
two_steps merge first second = first ++ (second ++ apply_two merge ∷ [])

-- the arms of an `if`, of which one is jumped over
abbrev pub arms_steps : List StepTree → List StepTree → List StepTree
arms_steps first second = unless (length first + 1) ∷ (first ++ skip (length second) ∷ second)

abbrev pub three_steps : Three → List StepTree → List StepTree → List StepTree → List StepTree
three_steps if_else first second third = first ++ arms_steps second third
three_steps select first second third = first ++ (second ++ (third ++ apply_three select ∷ []))
three_steps slice first second third = first ++ (second ++ (third ++ apply_three slice ∷ []))

abbrev pub count_exprs : ExprTrees → ℕ
count_exprs no_exprs = 0
count_exprs (more_exprs e es) = suc (count_exprs es)

abbrev mutual
  -- the steps of an expression whose first loop has that number in the text
  pub steps_of : ExprTree → ℕ → List StepTree
  steps_of (leaf a l) k = compute (leaf a l) ∷ []
  steps_of (one a o e) k = or_whole (one a o e) (steps_of e k ++ apply_one o ∷ [])
  steps_of (two a o e f) k = or_whole (two a o e f) (two_steps o (steps_of e k) (steps_of f (k + loops e)))
  steps_of (three a o e f g) k = or_whole (three a o e f g) (three_steps o (steps_of e k) (steps_of f (k + loops e)) (steps_of g (k + loops e + loops f)))
  steps_of (many a o es) k = or_whole (many a o es) (all_steps es k ++ apply_many o (count_exprs es) ∷ [])
  steps_of (let_in a b e f) k = or_whole (let_in a b e f) (steps_of e k ++ bind b.sym.0 ∷ (steps_of f (k + loops e) ++ unbind ∷ []))
  steps_of (loop a ls e b n x f) k = legs_steps ls (k + 1) ++ (steps_of e (k + 1 + loops_in_legs ls) ++ run_loop (loop a ls e b n x f) k ∷ [])
  steps_of (iterate a e b f) k = or_whole (iterate a e b f) (steps_of e k ++ run_turns (iterate a e b f) ∷ [])

  -- the last one's steps first, so that the first one's thing comes to stand on top
  pub all_steps : ExprTrees → ℕ → List StepTree
  all_steps no_exprs k = []
  all_steps (more_exprs e es) k = all_steps es (k + loops e) ++ steps_of e k

  pub leg_steps : LegTree → ℕ → List StepTree
  leg_steps (whole e) k = if is_path e then [] else steps_of e k
  leg_steps (strided e f g h) k =
      steps_of e k ++ (steps_of f (k + loops e) ++ (steps_of g (k + loops e + loops f) ++ (steps_of h (k + loops e + loops f + loops g) ++ stride ∷ [])))

  pub legs_steps : LegTrees → ℕ → List StepTree
  legs_steps no_legs k = []
  legs_steps (more_legs l ls) k = legs_steps ls (k + loops_in_leg l) ++ leg_steps l k
