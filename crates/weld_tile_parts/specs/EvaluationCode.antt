-- Evaluations and outcomes coded as trees of numbers, by which a proof tells them apart.
use Rattle.std.specs.Prelude.{◌≡◌, ℕ, List}
use Rattle.std.proofs.Common.{ap, arith}
use Rattle.std.specs.Coded.{Coded, Coded-set, code_by, coded×, coded_list, coded_ℕ}
use base.Stored.{Gv, gnil, gnum, gcons, num}
use Rattle.weld_data.specs.Value.{Value}
use Rattle.weld_data.specs.ValueCode.{coded_value}
use Rattle.weld_tree.specs.ExprTree.{ExprTree}
use Rattle.weld_tree.specs.ExprCode.{coded_expr}
use Rattle.weld_builders.specs.Outcome.{Outcome, done, fault, stuck}
use Rattle.weld_built.specs.PartCode.{coded_part}
use Rattle.weld_meaning.specs.Thing.{Thing, plain, building, several, Things, no_things, more_things}
use Rattle.weld_acts.specs.Ranges.{Evaluation}

abbrev head : Gv → Gv
head gnil = gnil
head (gnum n) = gnil
head (gcons a b) = a

abbrev tail : Gv → Gv
tail gnil = gnil
tail (gnum n) = gnil
tail (gcons a b) = b

abbrev mutual
  pub thing_code : Thing → Gv
  thing_code (plain v) = gcons (gnum 0) (coded_value.code v)
  thing_code (building p) = gcons (gnum 1) (coded_part.code p)
  thing_code (several ts) = gcons (gnum 2) (things_code ts)

  pub things_code : Things → Gv
  things_code no_things = gnil
  things_code (more_things t ts) = gcons (thing_code t) (things_code ts)

mutual
  pub one_thing : (x y : Thing) → thing_code x ≡ thing_code y → x ≡ y
  one_thing (plain v) (plain w) e = ap plain (coded_value.inj v w (ap tail e))
  one_thing (plain v) (building q) e = let no : ◌≡◌ {A = ℕ} 0 1 = ap (λ g. num (head g)) e in let never : ⊥ = omega (arith, no) in absurd never
  one_thing (plain v) (several us) e = let no : ◌≡◌ {A = ℕ} 0 2 = ap (λ g. num (head g)) e in let never : ⊥ = omega (arith, no) in absurd never
  one_thing (building p) (plain w) e = let no : ◌≡◌ {A = ℕ} 1 0 = ap (λ g. num (head g)) e in let never : ⊥ = omega (arith, no) in absurd never
  one_thing (building p) (building q) e = ap building (coded_part.inj p q (ap tail e))
  one_thing (building p) (several us) e = let no : ◌≡◌ {A = ℕ} 1 2 = ap (λ g. num (head g)) e in let never : ⊥ = omega (arith, no) in absurd never
  one_thing (several ts) (plain w) e = let no : ◌≡◌ {A = ℕ} 2 0 = ap (λ g. num (head g)) e in let never : ⊥ = omega (arith, no) in absurd never
  one_thing (several ts) (building q) e = let no : ◌≡◌ {A = ℕ} 2 1 = ap (λ g. num (head g)) e in let never : ⊥ = omega (arith, no) in absurd never
  one_thing (several ts) (several us) e = ap several (one_things ts us (ap tail e))

  pub one_things : (x y : Things) → things_code x ≡ things_code y → x ≡ y
  one_things no_things no_things e = λ i. no_things
  one_things no_things (more_things u us) e = let never : ⊥ = cc in absurd never
  one_things (more_things t ts) no_things e = let never : ⊥ = cc in absurd never
  one_things (more_things t ts) (more_things u us) e = λ i. more_things (one_thing t u (ap head e) i) (one_things ts us (ap tail e) i)

abbrev pub coded_thing : Coded Thing
coded_thing = record { code = thing_code; inj = one_thing }

abbrev outcome_code : Outcome Thing → Gv
outcome_code (done t) = gcons (gnum 0) (thing_code t)
outcome_code fault = gnil
outcome_code stuck = gnum 0

one_outcome : (x y : Outcome Thing) → outcome_code x ≡ outcome_code y → x ≡ y
one_outcome (done t) (done u) e = ap done (one_thing t u (ap tail e))
one_outcome (done t) fault e = let never : ⊥ = cc in absurd never
one_outcome (done t) stuck e = let never : ⊥ = cc in absurd never
one_outcome fault (done u) e = let never : ⊥ = cc in absurd never
one_outcome fault fault e = λ i. fault
one_outcome fault stuck e = let never : ⊥ = cc in absurd never
one_outcome stuck (done u) e = let never : ⊥ = cc in absurd never
one_outcome stuck fault e = let never : ⊥ = cc in absurd never
one_outcome stuck stuck e = λ i. stuck

abbrev coded_outcome : Coded (Outcome Thing)
coded_outcome = record { code = outcome_code; inj = one_outcome }

-- an outcome equals another in one way at most
pub outcomes_one : (o p : Outcome Thing) → IsProp (o ≡ p)
outcomes_one o p = Coded-set coded_outcome o p

abbrev pub Shown : Type 0
Shown = ExprTree × (List (ℕ × Thing) × (List (List Value) × Thing))

abbrev pub shown_of : Evaluation → Shown
shown_of ev = (ev.node, (ev.names, (ev.lists, ev.start)))

abbrev pub evaluation_by : Shown → Evaluation
evaluation_by s = record { node = s.0; names = s.1.0; lists = s.1.1.0; start = s.1.1.1 }

abbrev pub coded_evaluation : Coded Evaluation
coded_evaluation =
    code_by Shown (coded× coded_expr (coded× (coded_list (coded× coded_ℕ coded_thing)) (coded× (coded_list (coded_list coded_value)) coded_thing)))
    shown_of evaluation_by (λ ev. λ i. ev)
