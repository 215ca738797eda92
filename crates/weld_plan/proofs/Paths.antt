-- Names and their fields are there: they don't fault.
use Rattle.std.proofs.Common.{◌≡◌, ℕ, zero, suc, true, false, Option, Some, None, refl}
use Rattle.weld_data.specs.Value.{Value, number, list, struct, dict, Values, no_values, and_value}
use Rattle.weld_tree.specs.ExprTree.{ExprTree, leaf, one, two, three, many, let_in, loop, iterate, int, truth, chars, name, fresh, neg, not, cast, len, field, finish, started}
use Rattle.weld_builders.specs.Outcome.{Outcome, done, fault, stuck, and_then, map_out}
use Rattle.weld_meaning.specs.Environment.{look_for}
use Rattle.weld_meaning.specs.Thing.{Thing, plain, building, several, Things, no_things, more_things, value_at, thing_at, value_field, field_of}
use Rattle.weld_meaning.specs.Evaluation.{Env, eval, found}
use Rattle.weld_plan.specs.StepTree.{is_path}

value_there : (n : ℕ) (vs : Values) → value_at n vs ≡ fault → ⊥
value_there n no_values q = let no : ⊥ = cc in no
value_there zero (and_value v vs) q = let no : ⊥ = cc in no
value_there (suc n) (and_value v vs) q = value_there n vs q

thing_there : (n : ℕ) (ts : Things) → thing_at n ts ≡ fault → ⊥
thing_there n no_things q = let no : ⊥ = cc in no
thing_there zero (more_things t ts) q = let no : ⊥ = cc in no
thing_there (suc n) (more_things t ts) q = thing_there n ts q

value_field_there : (n : ℕ) (v : Value) → value_field n v ≡ fault → ⊥
value_field_there n (number k x) q = let no : ⊥ = cc in no
value_field_there n (list vs) q = let no : ⊥ = cc in no
value_field_there n (struct vs) q = value_there n vs q
value_field_there n (dict es) q = let no : ⊥ = cc in no

mapped : (o : Outcome Value) → (o ≡ fault → ⊥) → map_out plain o ≡ fault → ⊥
mapped (done v) h q = let no : ⊥ = cc in no
mapped fault h q = h refl
mapped stuck h q = let no : ⊥ = cc in no

field_there : (n : ℕ) (t : Thing) → field_of n t ≡ fault → ⊥
field_there n (plain v) q = mapped (value_field n v) (value_field_there n v) q
field_there n (building p) q = let no : ⊥ = cc in no
field_there n (several ts) q = thing_there n ts q

name_there : (o : Option Thing) → found o ≡ fault → ⊥
name_there (Some t) q = let no : ⊥ = cc in no
name_there None q = let no : ⊥ = cc in no

then_there : (n : ℕ) (o : Outcome Thing) → (o ≡ fault → ⊥) → and_then o (field_of n) ≡ fault → ⊥
then_there n (done t) h q = field_there n t q
then_there n fault h q = h refl
then_there n stuck h q = let no : ⊥ = cc in no

no_path : false ≡ true → ⊥
no_path q = cc

pub path_there : (e : ExprTree) (env : Env) → is_path e ≡ true → eval e env ≡ fault → ⊥
path_there (leaf a (int k x)) env p q = no_path p
path_there (leaf a (truth b)) env p q = no_path p
path_there (leaf a (chars bs)) env p q = no_path p
path_there (leaf a (name s)) env p q = name_there (look_for s env) q
path_there (leaf a (fresh b)) env p q = no_path p
path_there (one a neg e) env p q = no_path p
path_there (one a not e) env p q = no_path p
path_there (one a (cast k) e) env p q = no_path p
path_there (one a len e) env p q = no_path p
path_there (one a (field n) e) env p q = then_there n (eval e env) (path_there e env p) q
path_there (one a finish e) env p q = no_path p
path_there (one a (started b) e) env p q = no_path p
path_there (two a o e f) env p q = no_path p
path_there (three a o e f g) env p q = no_path p
path_there (many a o es) env p q = no_path p
path_there (let_in a b e f) env p q = no_path p
path_there (loop a ls e b n x f) env p q = no_path p
path_there (iterate a e b f) env p q = no_path p
