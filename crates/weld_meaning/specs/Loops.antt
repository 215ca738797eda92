-- The loops of a program, and the law of loops: a loop is its parts joined in order.
use Rattle.std.specs.Prelude.{◌≡◌, ◌⊎◌, ℕ, ◌+◌, List, [], ◌∷◌, ◌++◌}
use Rattle.weld_tree.specs.declared.binder.Binder.{Binder}
use Rattle.weld_tree.specs.TypeTree.{TypeTree, TypeTrees}
use Rattle.weld_tree.specs.Types.{IsBuilder, IsBuilderFree}
use Rattle.weld_tree.specs.ExprTree.{ExprTree, leaf, one, two, three, many, let_in, loop, iterate, ExprTrees, no_exprs, more_exprs, LegTree, whole, strided, LegTrees, no_legs, more_legs}
use Rattle.weld_tree.specs.Program.{ProgramTree, loops, loops_in_leg, loops_in_legs}
use Rattle.weld_tree.specs.HasValue.{HasValue}
use Rattle.weld_builders.specs.Outcome.{Outcome, and_then, map_out}
use Rattle.weld_meaning.specs.Thing.{Thing, plain, bare_thing, after_thing}
use Rattle.weld_meaning.specs.Typing.{Types, HasType, LegsHave, RowHas, body_types, param_types}
use Rattle.weld_meaning.specs.ThingType.{HasThing, EnvFits}
use Rattle.weld_meaning.specs.Evaluation.{Env, Row, whole_number, with_row, run, eval}

-- ---- bodies

-- a loop as its rows see it: its three binders and its body, the types of its builder and its rows, and those of the names that
-- are in scope outside
pub record Site : Type 0 where
  pub builder_binder : Binder
  pub number_binder : Binder
  pub row_binder : Binder
  pub body : ExprTree
  pub builder : TypeTree
  pub row : TypeTree
  pub names : Types

-- what the body makes of a builder on a row
abbrev pub body_of : Site → Env → Row → Thing → Outcome Thing
body_of l env r s = eval l.body (with_row l.builder_binder l.number_binder l.row_binder s (plain (whole_number r.0)) (plain r.1) env)

-- each row is of the type
abbrev pub RowsHave : TypeTree → List Row → Type 0
RowsHave t [] = Unit {0}
RowsHave t (r ∷ rs) = HasValue t r.1 × RowsHave t rs

-- ---- the action

-- what a body makes, over rows, of the builder that has the shape of another and nothing merged
abbrev pub action : (Row → Thing → Outcome Thing) → Thing → List Row → Outcome Thing
action f s rows = run rows (bare_thing s) f

-- the join of two outcomes, which is a fault where one of them is
abbrev pub joined : Outcome Thing → Outcome Thing → Outcome Thing
joined o p = and_then o (λ s. map_out (after_thing s) p)

-- over any builders of its type the loop is these joined with the action of its rows, in every environment; and where names
-- and rows are of their types, the action over rows and more rows is the join of both. Each side faults where the other does
pub record LawOfLoop (l : Site) : Type 0 where
  pub whole : (env : Env) (s : Thing) (rows : List Row) → HasThing s l.builder → run rows s (body_of l env) ≡ map_out (after_thing s) (action (body_of l env) s rows)
  pub parts : (env : Env) (s : Thing) (rows more : List Row) → EnvFits l.names env → HasThing s l.builder → RowsHave l.row rows → action (body_of l env) s (rows ++ more) ≡ joined (action (body_of l env) s rows) (action (body_of l env) s more)

-- ---- numbers

-- of two parts that stand one after another the second has the number, counted from behind those of the first
abbrev pub Behind : ℕ → ℕ → (ℕ → Type 0) → Type 0
Behind before n P = (m : ℕ) × (n ≡ before + m) × P m

-- the site is this loop's
pub record IsSite (ls : LegTrees) (e : ExprTree) (b n x : Binder) (f : ExprTree) (g : Types) (l : Site) : Type 0 where
  pub builder_binder : l.builder_binder ≡ b
  pub number_binder : l.number_binder ≡ n
  pub row_binder : l.row_binder ≡ x
  pub body : l.body ≡ f
  pub names : l.names ≡ g
  pub legs : (us : TypeTrees) × LegsHave ls g us × RowHas us l.row
  pub starts : HasType e g l.builder
  pub is_builder : IsBuilder l.builder
  pub gives : HasType f (body_types b n x l.builder l.row g) l.builder

abbrev mutual
  -- the loop of that number, from 0, in the order of the text, by the types of names: a loop stands before those in it
  pub LoopAt : ExprTree → Types → ℕ → Site → Type 0
  LoopAt (leaf a o) g k l = ⊥
  LoopAt (one a o e) g k l = LoopAt e g k l
  LoopAt (two a o e f) g k l = LoopAt e g k l ⊎ Behind (loops e) k (λ m. LoopAt f g m l)
  LoopAt (three a o e f h) g k l =
      LoopAt e g k l ⊎ (Behind (loops e) k (λ m. LoopAt f g m l) ⊎ Behind (loops e + loops f) k (λ m. LoopAt h g m l))
  LoopAt (many a o es) g k l = LoopIn es g k l
  LoopAt (let_in a b e f) g k l =
      LoopAt e g k l ⊎ ((u : TypeTree) × HasType e g u × Behind (loops e) k (λ m. LoopAt f ((b.sym.0, u) ∷ g) m l))
  LoopAt (loop a ls e b n x f) g k l =
      ((k ≡ 0) × IsSite ls e b n x f g l) ⊎ (Behind 1 k (λ m. LoopInLegs ls g m l) ⊎ (Behind (1 + loops_in_legs ls) k (λ m. LoopAt e g m l)
      ⊎ ((us : TypeTrees) × (r : TypeTree) × (t : TypeTree) × LegsHave ls g us × RowHas us r × HasType e g t × IsBuilder t
      × Behind (1 + (loops_in_legs ls + loops e)) k (λ m. LoopAt f (body_types b n x t r g) m l))))
  LoopAt (iterate a e b f) g k l =
      LoopAt e g k l ⊎ ((u : TypeTree) × HasType e g u × IsBuilderFree u × Behind (loops e) k (λ m. LoopAt f ((b.sym.0, u) ∷ g) m l))

  pub LoopIn : ExprTrees → Types → ℕ → Site → Type 0
  LoopIn no_exprs g k l = ⊥
  LoopIn (more_exprs e es) g k l = LoopAt e g k l ⊎ Behind (loops e) k (λ m. LoopIn es g m l)

  pub LoopInLeg : LegTree → Types → ℕ → Site → Type 0
  LoopInLeg (whole e) g k l = LoopAt e g k l
  LoopInLeg (strided e f h i) g k l =
      LoopAt e g k l ⊎ (Behind (loops e) k (λ m. LoopAt f g m l) ⊎ (Behind (loops e + loops f) k (λ m. LoopAt h g m l) ⊎ Behind (loops e + loops f + loops h) k (λ m. LoopAt i g m l)))

  pub LoopInLegs : LegTrees → Types → ℕ → Site → Type 0
  LoopInLegs no_legs g k l = ⊥
  LoopInLegs (more_legs m ls) g k l = LoopInLeg m g k l ⊎ Behind (loops_in_leg m) k (λ j. LoopInLegs ls g j l)

-- the loop of that number in a program
abbrev pub IsLoopOf : ProgramTree → ℕ → Site → Type 0
IsLoopOf p k l = LoopAt p.body (param_types p.params) k l
