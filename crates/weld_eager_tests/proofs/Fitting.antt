-- Arguments that fit, and what a call comes to on them.
use Rattle.std.proofs.Common.{◌≡◌, ℕ, zero, suc, ◌<◌, List, [], ◌∷◌, ◌++◌, length, slice_get, get_or, Some, None, Result, Ok, Err, IfOk, ap, sym, refl, subst, arith}
use Rattle.weld_data.specs.declared.stop.Stop.{Stop}
use Rattle.weld_data.specs.declared.value.Val.{Val}
use Rattle.weld_data.specs.Value.{Value}
use Rattle.weld_data.specs.View.{view_val}
use Rattle.weld_tree.specs.TypeTree.{TypeTree}
use Rattle.weld_tree.specs.Types.{IsWellFormed, IsBuilderFree}
use Rattle.weld_tree.specs.Program.{ProgramTree}
use Rattle.weld_tree.specs.HasValue.{HasValue}
use Rattle.weld_meaning.specs.Typing.{ProgramHas}
use Rattle.weld_meaning.specs.Meaning.{ArgumentsFit, GivesOrFaults, meaning}
use Rattle.weld_calls.specs.declared.call.Call.{Call}
use Rattle.weld_calls.specs.CallTypes.{AreValueTypes, FitsCall, HasItsOperator, IsValueType, misfit, row}
use Rattle.weld_calls.specs.CallPrograms.{fragment, params_from}
use Rattle.weld_calls.specs.CallMeaning.{call_meaning}
use Rattle.weld_eval.specs.Answers.{Answers}
use Rattle.weld_objects.specs.Objects.{IsGiven}
use Rattle.weld_eager.specs.Fitting.{AreOf}

pub one_value_more : (ts us : List TypeTree) (vs ws : List Value) (t : TypeTree) (v : Value) → us ≡ ts ++ t ∷ [] → ws ≡ vs ++ v ∷ [] → AreOf ts vs → HasValue t v → AreOf us ws
one_value_more ts us vs ws t v e f h g =
    subst (λ xs. AreOf xs ws) (sym e) (subst (AreOf (ts ++ t ∷ [])) (sym f) (by ts vs h))
  where
    by : (ts : List TypeTree) (vs : List Value) → AreOf ts vs → AreOf (ts ++ t ∷ []) (vs ++ v ∷ [])
    by [] [] h = (g, tt)
    by [] (w ∷ ws) h = absurd h
    by (u ∷ us) [] h = absurd h
    by (u ∷ us) (w ∷ ws) h = (h.0, by us ws h.1)

pub one_type_more : (ts us : List TypeTree) (t : TypeTree) → us ≡ ts ++ t ∷ [] → AreValueTypes ts → IsValueType t → AreValueTypes us
one_type_more ts us t e h g = subst AreValueTypes (sym e) (by ts h)
  where
    by : (ts : List TypeTree) → AreValueTypes ts → AreValueTypes (ts ++ t ∷ [])
    by [] h = (g, tt)
    by (u ∷ us) h = (h.0, by us h.1)

pub fits : (call : Call) (ts : List TypeTree) → length ts ≡ length (row call) → misfit call ts ≡ None → FitsCall call ts
fits call ts c e = record { count = c; each = e }

pub arguments_fit : (n : ℕ) (ts : List TypeTree) (vs : List Value) → AreOf ts vs → ArgumentsFit (params_from n ts) vs
arguments_fit n [] [] h = tt
arguments_fit n [] (v ∷ vs) h = absurd h
arguments_fit n (t ∷ ts) [] h = absurd h
arguments_fit n (t ∷ ts) (v ∷ vs) h = (h.0, arguments_fit (suc n) ts vs h.1)

-- a law of the calls, and one of programs
abbrev pub CallsMean : Type 0
CallsMean =
    (call : Call) (types : List TypeTree) (arguments : List Value) → HasItsOperator call → FitsCall call types → ArgumentsFit (fragment call types).params arguments
    → meaning (fragment call types) arguments ≡ call_meaning call types arguments

abbrev pub NeverStuck : Type 0
NeverStuck = (p : ProgramTree) (t : TypeTree) (arguments : List Value) → ProgramHas p t → ArgumentsFit p.params arguments → GivesOrFaults (HasValue t) (meaning p arguments)

pub of_the_program : (outcome : Result Val Stop) (p : ProgramTree) (t : TypeTree) (vs : List Value) → NeverStuck → ProgramHas p t → ArgumentsFit p.params vs → Answers view_val outcome (meaning p vs) → IfOk outcome (λ v. HasValue t (view_val v))
of_the_program (Ok v) p t vs never h f a = subst (GivesOrFaults (HasValue t)) a (never p t vs h f)
of_the_program (Err s) p t vs never h f a = tt

pub of_the_answer : (outcome : Result Val Stop) (call : Call) (ts : List TypeTree) (vs : List Value) (p : ProgramTree) (t : TypeTree) → CallsMean → NeverStuck → HasItsOperator call → FitsCall call ts → AreOf ts vs
    → p ≡ fragment call ts → ProgramHas p t → Answers view_val outcome (call_meaning call ts vs) → IfOk outcome (λ v. HasValue t (view_val v))
of_the_answer outcome call ts vs p t mean never o f h e typed a =
    let fit = arguments_fit 0 ts vs h in
    of_the_program outcome (fragment call ts) t vs never (subst (λ q. ProgramHas q t) e typed) fit (subst (Answers view_val outcome) (sym (mean call ts vs o f fit)) a)

pub as_many : (ts : List TypeTree) (vs : List Value) → AreOf ts vs → length ts ≡ length vs
as_many [] [] h = refl
as_many [] (v ∷ vs) h = absurd h
as_many (t ∷ ts) [] h = absurd h
as_many (t ∷ ts) (v ∷ vs) h = ap suc (as_many ts vs h.1)

pub given_at : (ts : List TypeTree) (vs : List Value) (i : ℕ) (t : TypeTree) (v : Value) → AreOf ts vs → AreValueTypes ts → i < length ts → t ≡ get_or ts i t → slice_get vs i ≡ Some v → IsGiven t v
given_at [] vs i t v h g p e f = absurd (omega (arith, p))
given_at (u ∷ ts) [] i t v h g p e f = absurd h
given_at (u ∷ ts) (w ∷ vs) zero t v h g p e f =
    let same : w ≡ v = cc in
    record { formed = subst IsWellFormed (sym e) g.0.formed; free = subst IsBuilderFree (sym e) g.0.free; fits = subst (λ s. HasValue s v) (sym e) (subst (HasValue u) same h.0) }
given_at (u ∷ ts) (w ∷ vs) (suc i) t v h g p e f = given_at ts vs i t v h.1 g.1 (omega (arith, p)) e f
