-- Programs as plain data, and what every program keeps.
use Rattle.std.specs.Prelude.{◌≡◌, ℕ, ◌+◌, ◌<◌, ◌⊎◌, List, [], ◌∷◌, ◌++◌, length, map, All, IsSome, refl}
use Rattle.std.specs.Coded.{Coded, code_by, coded×, coded_list}
use Rattle.weld_data.specs.Kind.{IsInteger, InRange}
use Rattle.weld_tree.specs.declared.binder.Binder.{Binder}
use Rattle.weld_tree.specs.TypeTree.{BuildTree, list, total, keyed, cells, groups}
use Rattle.weld_tree.specs.ExprTree.{ExprTree, leaf, one, two, three, many, let_in, loop, iterate, ExprTrees, no_exprs, more_exprs, LegTree, whole, strided, LegTrees, no_legs, more_legs, Leaf, int, truth, chars, name, fresh, One, neg, not, cast, len, field, finish, started}
use Rattle.weld_tree.specs.LabelCode.{coded_binder}
use Rattle.weld_tree.specs.ExprCode.{coded_expr}

-- a program: its parameters and its body
pub record ProgramTree : Type 0 where
  pub params : List Binder
  pub body : ExprTree

abbrev pub coded_program : Coded ProgramTree
coded_program = code_by (List Binder × ExprTree) (coded× (coded_list coded_binder) coded_expr) (λ p. (p.params, p.body)) (λ c. record { params = c.0; body = c.1 }) (λ _. refl)

-- how many loops, `for` nodes, stand in an expression
abbrev mutual
  pub loops : ExprTree → ℕ
  loops (leaf a l) = 0
  loops (one a o e) = loops e
  loops (two a t e f) = loops e + loops f
  loops (three a t e f g) = loops e + loops f + loops g
  loops (many a m es) = loops_in es
  loops (let_in a b e f) = loops e + loops f
  loops (loop a ls e b n x f) = 1 + (loops_in_legs ls + loops e + loops f)
  loops (iterate a e b f) = loops e + loops f

  pub loops_in : ExprTrees → ℕ
  loops_in no_exprs = 0
  loops_in (more_exprs e es) = loops e + loops_in es

  pub loops_in_leg : LegTree → ℕ
  loops_in_leg (whole e) = loops e
  loops_in_leg (strided e f g h) = loops e + loops f + loops g + loops h

  pub loops_in_legs : LegTrees → ℕ
  loops_in_legs no_legs = 0
  loops_in_legs (more_legs l ls) = loops_in_leg l + loops_in_legs ls

-- the numbers that an expression binds, in the order of the text
abbrev mutual
  pub bound : ExprTree → List ℕ
  bound (leaf a l) = []
  bound (one a o e) = bound e
  bound (two a t e f) = bound e ++ bound f
  bound (three a t e f g) = bound e ++ (bound f ++ bound g)
  bound (many a m es) = bound_in es
  bound (let_in a b e f) = b.sym.0 ∷ (bound e ++ bound f)
  bound (loop a ls e b n x f) = bound_in_legs ls ++ (bound e ++ (b.sym.0 ∷ n.sym.0 ∷ x.sym.0 ∷ bound f))
  bound (iterate a e b f) = bound e ++ (b.sym.0 ∷ bound f)

  pub bound_in : ExprTrees → List ℕ
  bound_in no_exprs = []
  bound_in (more_exprs e es) = bound e ++ bound_in es

  pub bound_in_leg : LegTree → List ℕ
  bound_in_leg (whole e) = bound e
  bound_in_leg (strided e f g h) = bound e ++ (bound f ++ (bound g ++ bound h))

  pub bound_in_legs : LegTrees → List ℕ
  bound_in_legs no_legs = []
  bound_in_legs (more_legs l ls) = bound_in_leg l ++ bound_in_legs ls

-- the number is one of these
abbrev pub IsOneOf : List ℕ → ℕ → Type 0
IsOneOf [] s = ⊥
IsOneOf (t ∷ ts) s = (s ≡ t) ⊎ IsOneOf ts s

-- no number stands twice
abbrev pub AreDistinct : List ℕ → Type 0
AreDistinct [] = Unit {0}
AreDistinct (t ∷ ts) = ¬ (IsOneOf ts t) × AreDistinct ts

-- a name is one of those in scope
abbrev pub LeafIsScoped : Leaf → List ℕ → Type 0
LeafIsScoped (int k x) scope = Unit {0}
LeafIsScoped (truth b) scope = Unit {0}
LeafIsScoped (chars bs) scope = Unit {0}
LeafIsScoped (name s) scope = IsOneOf scope s
LeafIsScoped (fresh b) scope = Unit {0}

-- each name is used only where its binder binds it: a `let` in its body, a lambda in its body; the
-- newest in scope stand first
abbrev mutual
  pub IsScoped : ExprTree → List ℕ → Type 0
  IsScoped (leaf a l) scope = LeafIsScoped l scope
  IsScoped (one a o e) scope = IsScoped e scope
  IsScoped (two a t e f) scope = IsScoped e scope × IsScoped f scope
  IsScoped (three a t e f g) scope = IsScoped e scope × IsScoped f scope × IsScoped g scope
  IsScoped (many a m es) scope = AreScoped es scope
  IsScoped (let_in a b e f) scope = IsScoped e scope × IsScoped f (b.sym.0 ∷ scope)
  IsScoped (loop a ls e b n x f) scope = LegsAreScoped ls scope × IsScoped e scope × IsScoped f (x.sym.0 ∷ n.sym.0 ∷ b.sym.0 ∷ scope)
  IsScoped (iterate a e b f) scope = IsScoped e scope × IsScoped f (b.sym.0 ∷ scope)

  pub AreScoped : ExprTrees → List ℕ → Type 0
  AreScoped no_exprs scope = Unit {0}
  AreScoped (more_exprs e es) scope = IsScoped e scope × AreScoped es scope

  pub LegIsScoped : LegTree → List ℕ → Type 0
  LegIsScoped (whole e) scope = IsScoped e scope
  LegIsScoped (strided e f g h) scope = IsScoped e scope × IsScoped f scope × IsScoped g scope × IsScoped h scope

  pub LegsAreScoped : LegTrees → List ℕ → Type 0
  LegsAreScoped no_legs scope = Unit {0}
  LegsAreScoped (more_legs l ls) scope = LegIsScoped l scope × LegsAreScoped ls scope

-- a builder may stand without a starting value: all but the one of numbers by places
abbrev pub MayBeFresh : BuildTree → Type 0
MayBeFresh (list t) = Unit {0}
MayBeFresh (total t op) = Unit {0}
MayBeFresh (keyed k v op) = Unit {0}
MayBeFresh (cells t op) = ⊥
MayBeFresh (groups k v) = Unit {0}

-- a builder may have a starting value: the one of one number and the one of numbers by places
abbrev pub MayBeStarted : BuildTree → Type 0
MayBeStarted (list t) = ⊥
MayBeStarted (total t op) = Unit {0}
MayBeStarted (keyed k v op) = ⊥
MayBeStarted (cells t op) = Unit {0}
MayBeStarted (groups k v) = ⊥

-- a number is one of its integer kind, and a builder may do without a starting value
abbrev pub LeafIsWellMade : Leaf → Type 0
LeafIsWellMade (int k x) = IsInteger k × InRange k x
LeafIsWellMade (truth b) = Unit {0}
LeafIsWellMade (chars bs) = Unit {0}
LeafIsWellMade (name s) = Unit {0}
LeafIsWellMade (fresh b) = MayBeFresh b

-- a cast is to an integer kind, and a builder may have a starting value
abbrev pub OneIsWellMade : One → Type 0
OneIsWellMade neg = Unit {0}
OneIsWellMade not = Unit {0}
OneIsWellMade (cast k) = IsInteger k
OneIsWellMade len = Unit {0}
OneIsWellMade (field n) = Unit {0}
OneIsWellMade finish = Unit {0}
OneIsWellMade (started b) = MayBeStarted b

-- there is some expression
abbrev pub HasExprs : ExprTrees → Type 0
HasExprs no_exprs = ⊥
HasExprs (more_exprs e es) = Unit {0}

-- there is some leg
abbrev pub HasLegs : LegTrees → Type 0
HasLegs no_legs = ⊥
HasLegs (more_legs l ls) = Unit {0}

-- each node is one that a text can spell: its numbers are of their kinds, its builders start as they
-- may, and no vector, struct or list of legs is empty
abbrev mutual
  pub IsWellMade : ExprTree → Type 0
  IsWellMade (leaf a l) = LeafIsWellMade l
  IsWellMade (one a o e) = OneIsWellMade o × IsWellMade e
  IsWellMade (two a t e f) = IsWellMade e × IsWellMade f
  IsWellMade (three a t e f g) = IsWellMade e × IsWellMade f × IsWellMade g
  IsWellMade (many a m es) = HasExprs es × AreWellMade es
  IsWellMade (let_in a b e f) = IsWellMade e × IsWellMade f
  IsWellMade (loop a ls e b n x f) = HasLegs ls × LegsAreWellMade ls × IsWellMade e × IsWellMade f
  IsWellMade (iterate a e b f) = IsWellMade e × IsWellMade f

  pub AreWellMade : ExprTrees → Type 0
  AreWellMade no_exprs = Unit {0}
  AreWellMade (more_exprs e es) = IsWellMade e × AreWellMade es

  pub LegIsWellMade : LegTree → Type 0
  LegIsWellMade (whole e) = IsWellMade e
  LegIsWellMade (strided e f g h) = IsWellMade e × IsWellMade f × IsWellMade g × IsWellMade h

  pub LegsAreWellMade : LegTrees → Type 0
  LegsAreWellMade no_legs = Unit {0}
  LegsAreWellMade (more_legs l ls) = LegIsWellMade l × LegsAreWellMade ls

-- the numbers of binders
abbrev pub syms_of : List Binder → List ℕ
syms_of bs = map (λ b. b.sym.0) bs

-- what every program keeps: each binder has a number of its own, each name is used only where its
-- binder binds it, there are fewer than 4,294,967,295 binders, each parameter has its type, and each
-- node is one that a text can spell
pub record IsProgram (params : List Binder) (body : ExprTree) : Type 0 where
  pub distinct : AreDistinct (syms_of params ++ bound body)
  pub few : length (syms_of params ++ bound body) < 4294967295
  pub noted : All (λ b. IsSome b.note) params
  pub scoped : IsScoped body (syms_of params)
  pub well_made : IsWellMade body
