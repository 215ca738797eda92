-- The names that occur free, and answers apart from why there is none.
use Rattle.std.specs.Prelude.{◌≡◌, ◌≢◌, ◌⊎◌, ℕ, ◌==◌, if◌then◌else◌, Option, Some, None}
use Rattle.weld_tree.specs.ExprTree.{At, ExprTree, leaf, one, two, three, many, let_in, loop, iterate, ExprTrees, no_exprs, more_exprs, LegTree, whole, strided, LegTrees, no_legs, more_legs, Leaf, int, truth, chars, name, fresh}
use Rattle.weld_builders.specs.Outcome.{Outcome, done, fault, stuck}
use Rattle.weld_meaning.specs.Environment.{Named, look_for}

abbrev pub LeafNames : Leaf → ℕ → Type 0
LeafNames (int k x) s = ⊥
LeafNames (truth b) s = ⊥
LeafNames (chars bs) s = ⊥
LeafNames (name t) s = s ≡ t
LeafNames (fresh b) s = ⊥

abbrev mutual
  -- the name occurs in the expression where no binder of it binds it: a `let` binds in its body, a lambda in its body
  pub IsFree : ExprTree → ℕ → Type 0
  IsFree (leaf a l) s = LeafNames l s
  IsFree (one a o e) s = IsFree e s
  IsFree (two a o e f) s = IsFree e s ⊎ IsFree f s
  IsFree (three a o c e f) s = IsFree c s ⊎ (IsFree e s ⊎ IsFree f s)
  IsFree (many a o es) s = AreFree es s
  IsFree (let_in a b e f) s = IsFree e s ⊎ (IsFree f s × (s ≢ b.sym.0))
  IsFree (loop a ls e b n x f) s =
      LegsAreFree ls s ⊎ (IsFree e s ⊎ (IsFree f s × (s ≢ x.sym.0) × (s ≢ n.sym.0) × (s ≢ b.sym.0)))
  IsFree (iterate a e b f) s = IsFree e s ⊎ (IsFree f s × (s ≢ b.sym.0))

  pub AreFree : ExprTrees → ℕ → Type 0
  AreFree no_exprs s = ⊥
  AreFree (more_exprs e es) s = IsFree e s ⊎ AreFree es s

  pub LegIsFree : LegTree → ℕ → Type 0
  LegIsFree (whole e) s = IsFree e s
  LegIsFree (strided e f h i) s = IsFree e s ⊎ (IsFree f s ⊎ (IsFree h s ⊎ IsFree i s))

  pub LegsAreFree : LegTrees → ℕ → Type 0
  LegsAreFree no_legs s = ⊥
  LegsAreFree (more_legs l ls) s = LegIsFree l s ⊎ LegsAreFree ls s

-- each name that occurs free stands for the same in both
pub record AgreeOn {A : Type 0} (free : ℕ → Type 0) (g h : Named A) : Type 0 where
  pub agree : (s : ℕ) → free s → look_for s g ≡ look_for s h

-- what is answered, if anything is: whether there is a fault or no rule doesn't count
abbrev pub answer_of : {A : Type 0} → Outcome A → Option A
answer_of (done x) = Some x
answer_of fault = None
answer_of stuck = None

-- ---- a name replaced by a value

abbrev pub put_in_leaf : ℕ → ExprTree → At → Leaf → ExprTree
put_in_leaf s v a (int k x) = leaf a (int k x)
put_in_leaf s v a (truth b) = leaf a (truth b)
put_in_leaf s v a (chars bs) = leaf a (chars bs)
put_in_leaf s v a (name t) = if s == t then v else leaf a (name t)
put_in_leaf s v a (fresh b) = leaf a (fresh b)

abbrev mutual
  -- the expression with each use of the name replaced by the value, and nothing else changed
  pub put : ℕ → ExprTree → ExprTree → ExprTree
  put s v (leaf a l) = put_in_leaf s v a l
  put s v (one a o e) = one a o (put s v e)
  put s v (two a o e f) = two a o (put s v e) (put s v f)
  put s v (three a o c e f) = three a o (put s v c) (put s v e) (put s v f)
  put s v (many a o es) = many a o (put_in_all s v es)
  put s v (let_in a b e f) = let_in a b (put s v e) (put s v f)
  put s v (loop a ls e b n x f) = loop a (put_in_legs s v ls) (put s v e) b n x (put s v f)
  put s v (iterate a e b f) = iterate a (put s v e) b (put s v f)

  pub put_in_all : ℕ → ExprTree → ExprTrees → ExprTrees
  put_in_all s v no_exprs = no_exprs
  put_in_all s v (more_exprs e es) = more_exprs (put s v e) (put_in_all s v es)

  pub put_in_leg : ℕ → ExprTree → LegTree → LegTree
  put_in_leg s v (whole e) = whole (put s v e)
  put_in_leg s v (strided e f h i) = strided (put s v e) (put s v f) (put s v h) (put s v i)

  pub put_in_legs : ℕ → ExprTree → LegTrees → LegTrees
  put_in_legs s v no_legs = no_legs
  put_in_legs s v (more_legs l ls) = more_legs (put_in_leg s v l) (put_in_legs s v ls)

abbrev mutual
  -- each binder in the expression has such a number
  pub Binds : (ℕ → Type 0) → ExprTree → Type 0
  Binds P (leaf a l) = Unit {0}
  Binds P (one a o e) = Binds P e
  Binds P (two a o e f) = Binds P e × Binds P f
  Binds P (three a o c e f) = Binds P c × Binds P e × Binds P f
  Binds P (many a o es) = AllBind P es
  Binds P (let_in a b e f) = P b.sym.0 × Binds P e × Binds P f
  Binds P (loop a ls e b n x f) = P b.sym.0 × P n.sym.0 × P x.sym.0 × LegsBind P ls × Binds P e × Binds P f
  Binds P (iterate a e b f) = P b.sym.0 × Binds P e × Binds P f

  pub AllBind : (ℕ → Type 0) → ExprTrees → Type 0
  AllBind P no_exprs = Unit {0}
  AllBind P (more_exprs e es) = Binds P e × AllBind P es

  pub LegBinds : (ℕ → Type 0) → LegTree → Type 0
  LegBinds P (whole e) = Binds P e
  LegBinds P (strided e f h i) = Binds P e × Binds P f × Binds P h × Binds P i

  pub LegsBind : (ℕ → Type 0) → LegTrees → Type 0
  LegsBind P no_legs = Unit {0}
  LegsBind P (more_legs l ls) = LegBinds P l × LegsBind P ls

-- a binder that neither hides the name nor catches a name of the value
abbrev pub IsClear : ℕ → ExprTree → ℕ → Type 0
IsClear s v b = (s ≢ b) × ¬ (IsFree v b)
