-- The one loop and the results of its fields come to what both lets do, a fault included.
use Rattle.std.proofs.Common.{◌≡◌, ◌≢◌, ℕ, ◌==◌, if◌then◌else◌, [], ◌∷◌, List, Some, None, refl, ap, sym, subst, ◌∙◌}
use Rattle.weld_data.specs.Value.{Value, values}
use Rattle.weld_tree.specs.HasValue.{HasValue, AllAre}
use Rattle.weld_tree.specs.TypeTree.{TypeTree, vec}
use Rattle.weld_tree.specs.Types.{IsWellFormed}
use Rattle.weld_tree.specs.ExprTree.{At, ExprTree, leaf, whole, name}
use Rattle.weld_builders.specs.Outcome.{Outcome, done, fault, stuck, and_then, map_out}
use Rattle.weld_meaning.specs.Environment.{Named, look_for}
use Rattle.weld_meaning.specs.Names.{IsFree, AgreeOn}
use Rattle.weld_meaning.specs.Thing.{Thing, plain, Things, no_things, more_things, struct_of, field_of}
use Rattle.weld_meaning.specs.ThingType.{HasThing, EnvFits}
use Rattle.weld_meaning.specs.Typing.{Types, AreFormed, place_type, HasType, body_types}
use Rattle.weld_meaning.specs.Origin.{Origin}
use Rattle.weld_meaning.specs.Evaluation.{Env, Row, found, elements_of, value_out, whole_number, with_row, rows_of, number_from, run, eval, eval_leg}
use Rattle.weld_meaning.proofs.Good.{Good, then_good}
use Rattle.weld_meaning.proofs.Names.{eval_free}
use Rattle.weld_meaning.proofs.FreeNames.{type_free}
use Rattle.weld_meaning.proofs.WellFormed.{type_formed, formed_body}
use Rattle.weld_meaning.proofs.PartsGood.{KeyLaws}
use Rattle.weld_meaning.proofs.NeverStuck.{Of, never_stuck, fits_body, run_good}
use Rattle.weld_rewriting.specs.Tidy.{IsTidy}
use Rattle.weld_rewriting.proofs.Rows.{leg_good, rows_have}
use Rattle.weld_joining.specs.Beside.{finish_at, Half, half_loop, half_value, two_lets, MayJoin, bare}
use Rattle.weld_joining.proofs.Finishing.{FinishHas, closing, finish_eval, results_pair}
use Rattle.weld_joining.proofs.Looking.{skip, there, over}
use Rattle.weld_joining.proofs.Runs.{pair, both, runs_pair, made_pair, loops_pair}
use Rattle.weld_joining.proofs.Numbers.{n1_apart, i2_there, s_n1, x1_unnamed, i1_unnamed}
use Rattle.weld_joining.proofs.Placing.{Known, before, after, both_lets, first_let, second_let, second, one_loop, starts, results, first_part, second_part, second_start_typed, start_same, look_pair, look_number, look_row, first_same, rest_same}

-- what a loop over one leg comes to
abbrev over_rows : Outcome (List Value) → Outcome Thing → (Row → Thing → Outcome Thing) → Outcome Thing
over_rows o st f = and_then (and_then o (λ vs. done (vs ∷ []))) (λ legs. and_then (rows_of legs) (λ rows. and_then st (λ y. run (number_from 0 rows) y f)))

module _ (a m : At) (s : ℕ) (row : TypeTree) (h k : Half) (rest : ExprTree) (may : MayJoin row h k) (tidy : IsTidy (two_lets a m s h k rest)) (types : Types) (g : Named Origin) (t : TypeTree) (w : Known a m s row h k rest may tidy types g t) (env : Env) (fit : EnvFits types env) (formed : AreFormed types) (laws : KeyLaws) where
  abbrev n1 : ℕ
  n1 = h.bound.sym.0

  abbrev n2 : ℕ
  n2 = k.bound.sym.0

  abbrev i2 : ℕ
  i2 = k.number.sym.0

  abbrev x2 : ℕ
  x2 = k.row.sym.0

  abbrev b2 : ℕ
  b2 = k.builder.sym.0

  abbrev x1 : ℕ
  x1 = h.row.sym.0

  abbrev i1 : ℕ
  i1 = h.number.sym.0

  abbrev b1 : ℕ
  b1 = h.builder.sym.0

  abbrev IsFirst : Thing → Type 0
  IsFirst y = HasThing y h.starts

  abbrev IsSecond : Thing → Type 0
  IsSecond y = HasThing y k.starts

  abbrev first_step : Row → Thing → Outcome Thing
  first_step r y = eval h.body (with_row h.builder h.number h.row y (plain (whole_number r.0)) (plain r.1) env)

  abbrev second_step : Row → Thing → Outcome Thing
  second_step r y = eval k.body (with_row k.builder k.number k.row y (plain (whole_number r.0)) (plain r.1) env)

  abbrev lets : ExprTree
  lets = both_lets a m s row h k rest may tidy types g t w

  abbrev both_step : Row → Thing → Outcome Thing
  both_step r y = eval lets (with_row (bare k.row) h.number h.row y (plain (whole_number r.0)) (plain r.1) env)

  abbrev first_start : Outcome Thing
  first_start = eval h.start env

  abbrev second_start : Outcome Thing
  second_start = eval k.start env

  -- ---- none is stuck

  second_begins : HasType k.start types k.starts
  second_begins = second_start_typed a m s row h k rest may tidy types g t w

  first_formed : IsWellFormed h.starts
  first_formed = type_formed h.start types h.starts w.first.start.typed formed

  second_formed : IsWellFormed k.starts
  second_formed = type_formed k.start types k.starts second_begins formed

  first_start_good : Good IsFirst first_start
  first_start_good = never_stuck laws h.start types h.starts env w.first.start.typed formed fit

  second_start_good : Good IsSecond second_start
  second_start_good = never_stuck laws k.start types k.starts env second_begins formed fit

  row_formed : IsWellFormed row
  row_formed = (formed.formed s (vec row) w.look).0

  first_good : (r : Row) (y : Thing) → HasValue row r.1 → IsFirst y → Good IsFirst (first_step r y)
  first_good r y hv hy =
      never_stuck laws h.body (body_types h.builder h.number h.row h.starts row types) h.starts (with_row h.builder h.number h.row y (plain (whole_number r.0)) (plain r.1) env)
      w.first.body.typed (formed_body h.builder h.number h.row h.starts row types first_formed row_formed formed)
      (fits_body types env h.builder h.number h.row h.starts row y r.1 r.0 hy hv fit)

  -- the second body doesn't name the first result
  second_apart : {A : Type 0} (r n c v : A) (g : Named A) → AgreeOn (IsFree k.body) ((x2, r) ∷ (i2, n) ∷ (b2, c) ∷ (n1, v) ∷ g) ((x2, r) ∷ (i2, n) ∷ (b2, c) ∷ g)
  second_apart r n c v g = record {
    agree = λ y f. over y x2 i2 b2 r n c ((n1, v) ∷ g) g (λ yx yi yb. skip y n1 v g (λ e. may.unnamed (subst (IsFree k.body) e f)));
  }

  -- nor the first loop's names
  second_inside : {A : Type 0} (r n c b : A) (g : Named A) → AgreeOn (IsFree k.body) ((x2, r) ∷ (i2, n) ∷ (b2, c) ∷ (x1, r) ∷ (i1, n) ∷ (x2, b) ∷ g) ((x2, r) ∷ (i2, n) ∷ (b2, c) ∷ g)
  second_inside r n c b g = record {
    agree = λ y f. over y x2 i2 b2 r n c ((x1, r) ∷ (i1, n) ∷ (x2, b) ∷ g) g
        (λ yx yi yb.
        skip y x1 r ((i1, n) ∷ (x2, b) ∷ g) (λ e. x1_unnamed a m s h k rest tidy (subst (IsFree k.body) e f))
        ∙ skip y i1 n ((x2, b) ∷ g) (λ e. i1_unnamed a m s h k rest tidy (subst (IsFree k.body) e f)) ∙ skip y x2 b g yx);
  }

  second_good : (r : Row) (y : Thing) → HasValue row r.1 → IsSecond y → Good IsSecond (second_step r y)
  second_good r y hv hy =
      never_stuck laws k.body (body_types k.builder k.number k.row k.starts row types) k.starts (with_row k.builder k.number k.row y (plain (whole_number r.0)) (plain r.1) env)
      (type_free k.body ((x2, row) ∷ (i2, place_type) ∷ (b2, k.starts) ∷ (n1, w.first_type) ∷ types) ((x2, row) ∷ (i2, place_type) ∷ (b2, k.starts) ∷ types) k.starts
      (second_apart row place_type k.starts w.first_type types) w.second.body.typed)
      (formed_body k.builder k.number k.row k.starts row types second_formed row_formed formed)
      (fits_body types env k.builder k.number k.row k.starts row y r.1 r.0 hy hv fit)

  -- ---- one row

  step_pair : (r : Row) (y z : Thing) → HasValue row r.1 → IsFirst y → IsSecond z → both_step r (pair y z) ≡ both (first_step r y) (second_step r z)
  step_pair r y z hv hy hz =
      let number : Thing = plain (whole_number r.0) in
      let item : Thing = plain r.1 in
      let inside : Env = (x1, item) ∷ (i1, number) ∷ (x2, pair y z) ∷ env in
      let look : look_for x2 inside ≡ Some (pair y z) = look_pair a m s row h k rest may tidy item number (pair y z) env in
      let one_is : eval (first_let a m s row h k rest may tidy) inside ≡ first_step r y =
      ap (λ o. and_then (and_then (found o) (field_of 0)) (λ x. eval h.body ((b1, x) ∷ inside))) look
      ∙ sym (eval_free h.body ((x1, item) ∷ (i1, number) ∷ (b1, y) ∷ env) ((b1, y) ∷ inside) (first_same a m s row h k rest may tidy item number (pair y z) y env)) in
      let two_is : eval (second_let a m s row h k rest may tidy) inside ≡ second_step r z =
      ap (λ o. and_then (and_then (found o) (field_of 1)) (λ x. eval (second a m s row h k rest may tidy) ((b2, x) ∷ inside))) look
      ∙ ap (λ o. and_then (found o) (λ x. and_then (found (look_for x1 ((i2, x) ∷ (b2, z) ∷ inside))) (λ v. eval k.body ((x2, v) ∷ (i2, x) ∷ (b2, z) ∷ inside)))) (look_number a m s row h k rest may tidy item number (pair y z) z env)
      ∙ ap (λ o. and_then (found o) (λ v. eval k.body ((x2, v) ∷ (i2, number) ∷ (b2, z) ∷ inside))) (look_row a m s row h k rest may tidy item number (pair y z) z number env)
      ∙ eval_free k.body ((x2, item) ∷ (i2, number) ∷ (b2, z) ∷ inside) ((x2, item) ∷ (i2, number) ∷ (b2, z) ∷ env) (second_inside item number z (pair y z) env) in
      (λ i. and_then (and_then (one_is i) (λ x. map_out (more_things x) (and_then (two_is i) (λ u. map_out (more_things u) (done no_things))))) (λ xs. done (struct_of xs)))
      ∙ made_pair h.starts k.starts (first_step r y) (second_step r z) first_formed w.first.builds (first_good r y hv hy) (second_good r z hv hz)

  -- ---- all rows

  abbrev first_run : List Value → Outcome Thing
  first_run xs = and_then first_start (λ y. run (number_from 0 xs) y first_step)

  abbrev second_run : List Value → Outcome Thing
  second_run xs = and_then second_start (λ y. run (number_from 0 xs) y second_step)

  first_run_good : (xs : List Value) → AllAre (HasValue row) (values xs) → Good IsFirst (first_run xs)
  first_run_good xs w = then_good (λ y. run (number_from 0 xs) y first_step) first_start_good (λ y q. run_good row IsFirst first_step first_good (number_from 0 xs) y (rows_have row 0 xs w) q)

  second_run_good : (xs : List Value) → AllAre (HasValue row) (values xs) → Good IsSecond (second_run xs)
  second_run_good xs w = then_good (λ y. run (number_from 0 xs) y second_step) second_start_good (λ y q. run_good row IsSecond second_step second_good (number_from 0 xs) y (rows_have row 0 xs w) q)

  abbrev both_starts : ExprTree
  both_starts = starts a m s row h k rest may tidy types g t w

  loop_pair : (xs : List Value) → AllAre (HasValue row) (values xs) → and_then (eval both_starts env) (λ y. run (number_from 0 xs) y both_step) ≡ both (first_run xs) (second_run xs)
  loop_pair xs v =
      ap (λ o. and_then o (λ y. run (number_from 0 xs) y both_step)) (made_pair h.starts k.starts first_start second_start first_formed w.first.builds first_start_good second_start_good)
      ∙ loops_pair IsFirst IsSecond first_start second_start (λ y. run (number_from 0 xs) y first_step) (λ y. run (number_from 0 xs) y second_step) (λ y. run (number_from 0 xs) y both_step) first_start_good second_start_good
      (λ y q. run_good row IsFirst first_step first_good (number_from 0 xs) y (rows_have row 0 xs v) q)
      (λ y z p q. runs_pair row IsFirst IsSecond first_step second_step both_step first_good second_good step_pair (number_from 0 xs) y z (rows_have row 0 xs v) p q)

  -- ---- what follows

  abbrev rest_of : Thing → Thing → Outcome Thing
  rest_of v u = eval rest ((n2, u) ∷ (n1, v) ∷ env)

  abbrev then_results : ExprTree
  then_results = results a m s row h k rest may tidy types g t w

  abbrev plain_results : Thing → Outcome Thing
  plain_results y =
      and_then (and_then (and_then (done y) (field_of 0)) (λ x. closing h.result_at x))
      (λ v. and_then (and_then (and_then (done y) (field_of 1)) (λ x. closing k.result_at x)) (λ u. rest_of v u))

  abbrev field_zero : ExprTree
  field_zero = first_part a m s row h k rest may tidy types g t w

  abbrev field_one : ExprTree
  field_one = second_part a m s row h k rest may tidy types g t w

  results_step : (y : Thing) → eval then_results ((i2, y) ∷ env) ≡ plain_results y
  results_step y = λ i. and_then (first i) (λ v. and_then (then_second v i) (λ u. last v u i))
    where
      first : eval (finish_at h.result_at field_zero) ((i2, y) ∷ env) ≡ and_then (and_then (done y) (field_of 0)) (λ x. closing h.result_at x)
      first = finish_eval h.result_at field_zero ((i2, y) ∷ env) ∙ ap (λ o. and_then (and_then (found o) (field_of 0)) (λ x. closing h.result_at x)) (there i2 y env)

      look : (v : Thing) → look_for i2 ((n1, v) ∷ (i2, y) ∷ env) ≡ Some y
      look v = skip i2 n1 v ((i2, y) ∷ env) (λ e. n1_apart a m s h k rest tidy i2 (i2_there a m s h k rest tidy) (sym e)) ∙ there i2 y env

      then_second : (v : Thing) → eval (finish_at k.result_at field_one) ((n1, v) ∷ (i2, y) ∷ env) ≡ and_then (and_then (done y) (field_of 1)) (λ x. closing k.result_at x)
      then_second v =
          finish_eval k.result_at field_one ((n1, v) ∷ (i2, y) ∷ env) ∙ ap (λ o. and_then (and_then (found o) (field_of 1)) (λ x. closing k.result_at x)) (look v)

      last : (v u : Thing) → eval rest ((n2, u) ∷ (n1, v) ∷ (i2, y) ∷ env) ≡ rest_of v u
      last v u = sym (eval_free rest ((n2, u) ∷ (n1, v) ∷ env) ((n2, u) ∷ (n1, v) ∷ (i2, y) ∷ env) (rest_same a m s row h k rest may tidy v u y env))

  -- ---- both

  abbrev leg_out : Outcome (List Value)
  leg_out = eval_leg (whole (leaf h.leg_at (name s))) env

  later_loop : (v : Thing) → eval (half_value s k) ((n1, v) ∷ env) ≡ and_then (over_rows leg_out second_start second_step) (λ x. closing k.result_at x)
  later_loop v =
      finish_eval k.result_at (half_loop s k) ((n1, v) ∷ env)
      ∙ (λ i. and_then (over_rows (and_then (value_out (found (leg i))) elements_of) (begin i) (λ r y. step r y i)) (λ x. closing k.result_at x))
    where
      leg : look_for s ((n1, v) ∷ env) ≡ look_for s env
      leg = skip s n1 v env (s_n1 a m s h k rest tidy)

      begin : eval k.start ((n1, v) ∷ env) ≡ second_start
      begin = eval_free k.start ((n1, v) ∷ env) env (start_same a m s row h k rest may tidy v env)

      step : (r : Row) (y : Thing) → eval k.body (with_row k.builder k.number k.row y (plain (whole_number r.0)) (plain r.1) ((n1, v) ∷ env)) ≡ second_step r y
      step r y =
          eval_free k.body ((x2, plain r.1) ∷ (i2, plain (whole_number r.0)) ∷ (b2, y) ∷ (n1, v) ∷ env) ((x2, plain r.1) ∷ (i2, plain (whole_number r.0)) ∷ (b2, y) ∷ env)
          (second_apart (plain r.1) (plain (whole_number r.0)) y v env)

  abbrev before_out : Outcome (List Value) → Outcome Thing
  before_out o =
      and_then (and_then (over_rows o first_start first_step) (λ x. closing h.result_at x))
      (λ v. and_then (and_then (over_rows o second_start second_step) (λ x. closing k.result_at x)) (λ u. rest_of v u))

  before_is : eval (before a m s row h k rest may tidy) env ≡ before_out leg_out
  before_is = λ i. and_then (finish_eval h.result_at (half_loop s h) env i) (λ v. and_then (later_loop v i) (λ u. rest_of v u))

  abbrev after_out : Outcome (List Value) → Outcome Thing
  after_out o = and_then (over_rows o (eval both_starts env) both_step) plain_results

  after_is : eval (after a m s row h k rest may tidy) env ≡ after_out leg_out
  after_is = λ i. and_then (over_rows leg_out (eval both_starts env) both_step) (λ y. results_step y i)

  abbrev first_type : TypeTree
  first_type = w.first_type

  abbrev second_type : TypeTree
  second_type = w.second_type

  first_has : FinishHas h.result_at h.starts first_type
  first_has = w.first.has

  second_has : FinishHas k.result_at k.starts second_type
  second_has = w.second.has

  same_out : (o : Outcome (List Value)) → Good (λ xs. AllAre (HasValue row) (values xs)) o → after_out o ≡ before_out o
  same_out (done xs) w =
      ap (λ o. and_then o plain_results) (loop_pair xs w.fits)
      ∙ results_pair h.result_at k.result_at h.starts k.starts first_type second_type (first_run xs) (second_run xs) rest_of first_has second_has (first_run_good xs w.fits) (second_run_good xs w.fits)
  same_out fault w = refl
  same_out stuck w = refl

  pub comes_to : eval (after a m s row h k rest may tidy) env ≡ eval (before a m s row h k rest may tidy) env
  comes_to = after_is ∙ same_out leg_out (leg_good laws (whole (leaf h.leg_at (name s))) types row env w.look formed fit) ∙ sym before_is
