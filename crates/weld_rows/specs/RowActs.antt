-- The rows of a loop in place.
use Rattle.std.specs.Prelude.{◌≡◌, ◌∷◌, ℕ, suc, Result, Ok, Err}
use Rattle.weld_data.specs.declared.stop.Stop.{Stop}
use Rattle.weld_data.specs.declared.stop.Stop.TheVariants.{Fault, Memory}
use Rattle.weld_tree.specs.ExprFalls.{expr_nodes}
use Rattle.weld_tree.specs.ExprTree.{ExprTree, loop, LegTrees, no_legs, more_legs}
use Rattle.weld_builders.specs.Outcome.{Outcome, done, fault, stuck}
use Rattle.weld_meaning.specs.Thing.{Thing, Things, plain}
use Rattle.weld_meaning.specs.Evaluation.{Env, Row, whole_number}
use Rattle.weld_acts.specs.Act.{act}
use Rattle.weld_acts.specs.ActFits.{ActFits}

-- what the body of a loop does on a row, where the loop's own name stands for some builder
abbrev pub row_act : ExprTree → Env → Thing → Row → Thing → Outcome Thing
row_act (loop a ls e b n x f) env own r s = act f ((x.sym.0, plain r.1) ∷ (n.sym.0, plain (whole_number r.0)) ∷ (b.sym.0, own) ∷ env) s
row_act _ env own r s = stuck

-- what lets it be done
abbrev pub RowActFits : ExprTree → Env → Thing → Row → Thing → Type 0
RowActFits (loop a ls e b n x f) env own r s = ActFits f ((x.sym.0, plain r.1) ∷ (n.sym.0, plain (whole_number r.0)) ∷ (b.sym.0, own) ∷ env) s
RowActFits _ env own r s = ⊥

-- what is done to each field
abbrev pub ActAll : {T : Type 0} → Result T Stop → Outcome Things → Things → Type 0
ActAll (Ok x) o new = o ≡ done new
ActAll (Err Fault) o new = o ≡ fault
ActAll (Err Memory) o new = Unit {0}

-- how many legs there are
abbrev pub count_legs : LegTrees → ℕ
count_legs no_legs = 0
count_legs (more_legs l ls) = suc (count_legs ls)

abbrev pub legs_count : ExprTree → ℕ
legs_count (loop a ls e b n x f) = count_legs ls
legs_count _ = 0

-- how many nodes the body has
abbrev pub body_nodes : ExprTree → ℕ
body_nodes (loop a ls e b n x f) = expr_nodes f
body_nodes _ = 0
