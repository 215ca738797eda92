-- What an expression of builder type does, in place, to the builder that it acts on.
use Rattle.std.specs.Prelude.{◌≡◌, ◌≢◌, ℕ, zero, suc, [], ◌∷◌, Some, Result, Ok, Err}
use Rattle.weld_data.specs.declared.stop.Stop.{Stop}
use Rattle.weld_data.specs.declared.stop.Stop.TheVariants.{Fault, Memory}
use Rattle.weld_tree.specs.declared.binder.Binder.{Binder}
use Rattle.weld_tree.specs.ExprTree.{ExprTree, leaf, one, two, three, many, let_in, loop, iterate, ExprTrees, no_exprs, more_exprs, LegTree, whole, strided, LegTrees, no_legs, more_legs, Two, binary, and, or, look_up, key_exists, merge, Three, if_else, select, slice, Many, make_vec, make_struct}
use Rattle.weld_builders.specs.Outcome.{Outcome, done, fault, stuck, and_then, map_out}
use Rattle.weld_meaning.specs.Environment.{look_for}
use Rattle.weld_meaning.specs.Thing.{Thing, plain, Things, no_things, more_things, struct_of, field_of, bare_thing, fields_of, first_of, rest_of}
use Rattle.weld_meaning.specs.Origin.{Path}
use Rattle.weld_meaning.specs.Available.{chain_of_leaf, chain_of_one, chain_of}
use Rattle.weld_meaning.specs.Names.{IsFree, LegsAreFree}
use Rattle.weld_meaning.specs.Evaluation.{Env, whole_number, rows_of, number_from, run, with_row, merged, chosen, eval, eval_legs}

-- the forms of two parts that act: a merge
abbrev pub IsMerge : Two → Type 0
IsMerge (binary op) = ⊥
IsMerge and = ⊥
IsMerge or = ⊥
IsMerge look_up = ⊥
IsMerge key_exists = ⊥
IsMerge merge = Unit {0}

-- the forms of three parts that act: an `if`
abbrev pub IsChoice : Three → Type 0
IsChoice if_else = Unit {0}
IsChoice select = ⊥
IsChoice slice = ⊥

-- the forms of any number of parts that act: a struct
abbrev pub IsStruct : Many → Type 0
IsStruct make_vec = ⊥
IsStruct make_struct = Unit {0}

-- an expression acts on the path p of the name b: it is the name followed by just these field accesses; a merge into such an
-- expression of a value that doesn't use b; an `if` or a `let` around such; a loop that goes on in it, whose body acts on the
-- loop's own builder; a struct of such, field by field
abbrev mutual
  pub IsAct : ℕ → Path → ExprTree → Type 0
  IsAct b p (leaf a l) = chain_of_leaf l ≡ Some (b, p)
  IsAct b p (one a o e) = chain_of_one o (chain_of e) ≡ Some (b, p)
  IsAct b p (two a o e v) = IsMerge o × IsAct b p e × ¬ (IsFree v b)
  IsAct b p (three a o c e f) = IsChoice o × ¬ (IsFree c b) × IsAct b p e × IsAct b p f
  IsAct b p (many a o es) = IsStruct o × AllAct b p zero es
  IsAct b p (let_in a y v e) = ¬ (IsFree v b) × (y.sym.0 ≢ b) × IsAct b p e
  IsAct b p (loop a ls e c n x f) =
      ¬ (LegsAreFree ls b) × IsAct b p e × ¬ (IsFree f b) × (c.sym.0 ≢ n.sym.0) × (c.sym.0 ≢ x.sym.0) × IsAct c.sym.0 [] f
  IsAct b p (iterate a e y f) = ⊥

  -- the expressions act on the fields from that number on
  pub AllAct : ℕ → Path → ℕ → ExprTrees → Type 0
  AllAct b p n no_exprs = Unit {0}
  AllAct b p n (more_exprs e es) = IsAct b (n ∷ p) e × AllAct b p (suc n) es

-- the body of a loop acts on the loop's own builder
abbrev pub IsOwnAct : Binder → Binder → Binder → ExprTree → Type 0
IsOwnAct c n x f = (c.sym.0 ≢ n.sym.0) × (c.sym.0 ≢ x.sym.0) × IsAct c.sym.0 [] f

abbrev mutual
  -- each loop within has a body that acts on the loop's own builder
  pub AreDirect : ExprTree → Type 0
  AreDirect (leaf a l) = Unit {0}
  AreDirect (one a o e) = AreDirect e
  AreDirect (two a o e f) = AreDirect e × AreDirect f
  AreDirect (three a o c e f) = AreDirect c × AreDirect e × AreDirect f
  AreDirect (many a o es) = AllDirect es
  AreDirect (let_in a b e f) = AreDirect e × AreDirect f
  AreDirect (loop a ls e b n x f) = LegsDirect ls × AreDirect e × AreDirect f × IsOwnAct b n x f
  AreDirect (iterate a e b f) = AreDirect e × AreDirect f

  pub AllDirect : ExprTrees → Type 0
  AllDirect no_exprs = Unit {0}
  AllDirect (more_exprs e es) = AreDirect e × AllDirect es

  pub LegDirect : LegTree → Type 0
  LegDirect (whole e) = AreDirect e
  LegDirect (strided e f g h) = AreDirect e × AreDirect f × AreDirect g × AreDirect h

  pub LegsDirect : LegTrees → Type 0
  LegsDirect no_legs = Unit {0}
  LegsDirect (more_legs l ls) = LegDirect l × LegsDirect ls

abbrev mutual
  -- what is done to the builder s that is acted on: the names in `env` are those before, and the name of that builder isn't
  -- looked at
  pub act : ExprTree → Env → Thing → Outcome Thing
  act (leaf a l) env s = done s
  act (one a o e) env s = done s
  act (two a o e v) env s = and_then (act e env s) (λ t. merged t (eval v env))
  act (three a o c e f) env s = and_then (eval c env) (λ t. chosen t (act e env s) (act f env s))
  act (many a o es) env s = map_out struct_of (act_all es env (fields_of s))
  act (let_in a y v e) env s = and_then (eval v env) (λ t. act e ((y.sym.0, t) ∷ env) s)
  act (loop a ls e c n x f) env s =
      and_then (eval_legs ls env) (λ legs. and_then (rows_of legs) (λ rows. and_then (act e env s) (λ t.
      run (number_from 0 rows) t (λ r u. act f (with_row c n x (bare_thing t) (plain (whole_number r.0)) (plain r.1) env) u))))
  act (iterate a e y f) env s = stuck

  -- field by field
  pub act_all : ExprTrees → Env → Things → Outcome Things
  act_all no_exprs env ss = done no_things
  act_all (more_exprs e es) env ss = and_then (act e env (first_of ss)) (λ t. map_out (more_things t) (act_all es env (rest_of ss)))

-- what stands at the path of a thing
abbrev pub at_path_of : Path → Thing → Outcome Thing
at_path_of [] t = done t
at_path_of (n ∷ p) t = and_then (at_path_of p t) (field_of n)

-- what the name stands for has, at the path, the thing
pub record Stands (b : ℕ) (p : Path) (d : Env) (s : Thing) : Type 0 where
  pub root : Thing
  pub named : look_for b d ≡ Some root
  pub there : at_path_of p root ≡ done s

-- it is free, and another name than the builder
abbrev pub Besides : (ℕ → Type 0) → ℕ → ℕ → Type 0
Besides free b y = free y × (y ≢ b)

-- what an act in the code answers, the builder being changed in place
abbrev pub Acts : {T : Type 0} → Result T Stop → Outcome Thing → Thing → Type 0
Acts (Ok x) o new = o ≡ done new
Acts (Err Fault) o new = o ≡ fault
Acts (Err Memory) o new = Unit {0}
