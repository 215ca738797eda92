-- The objects of a script keep the rules of a graph, so they make one program, whatever memory there is.
use Rattle.std.proofs.Common.{◌≡◌, ◌⊎◌, ◌≢◌, inl, inr, ℕ, zero, suc, ◌<◌, List, [], ◌∷◌, ◌++◌, length, Option, Some, None, refl, ap, sym, subst, ◌∙◌, arith}
use Rattle.std.proofs.lemmas.Bool.{cases_eq}
use Rattle.weld_data.specs.Value.{Value}
use Rattle.weld_tree.specs.TypeTree.{TypeTree}
use Rattle.weld_tree.specs.Types.{IsWellFormed}
use Rattle.weld_tree.specs.Program.{ProgramTree, IsProgram}
use Rattle.weld_meaning.specs.Typing.{ProgramHas}
use Rattle.weld_meaning.specs.Accepted.{IsAccepted}
use Rattle.weld_objects.specs.Objects.{Object, with_one, DepsFit, IsObject, AreObjectsFrom, AreObjects, AreBefore}
use Rattle.weld_objects.specs.Lowered.{names_of, MayBeLowered}
use Rattle.weld_objects.proofs.State.{one_here, one_else}
use Rattle.weld_calls.specs.declared.call.Call.{Call}
use Rattle.weld_calls.specs.CallTypes.{HasItsOperator, FitsCall, IsValueType, AreValueTypes, argument, answer_of}
use Rattle.weld_calls.specs.CallPrograms.{fragment, params_from}
use Rattle.weld_script.specs.declared.made.Declared.{Declared}
use Rattle.weld_script.specs.declared.made.Made.{Made}
use Rattle.weld_script.specs.declared.made.Made.TheVariants as makes
use Rattle.weld_script.specs.Script.{AreBelow, AreMade, IsMade, IsDeclared, AreInputs, types_at, declared_of, declared_type, made_type}
use Rattle.weld_session.specs.Answer.{left_after}
use Rattle.weld_session.specs.Gathering.{object_of, objects_from}
use Rattle.weld_session.proofs.Building.{type_is, fit_after}

-- what is known of the programs of calls, of what is declared, and of types
pub record CallsKnown : Type 0 where
  pub program : (c : Call) (ts : List TypeTree) → HasItsOperator c → FitsCall c ts → AreValueTypes ts → IsProgram (fragment c ts).params (fragment c ts).body
  pub accepted : (c : Call) (ts : List TypeTree) → HasItsOperator c → FitsCall c ts → AreValueTypes ts → IsAccepted (fragment c ts)
  pub typed : (c : Call) (ts : List TypeTree) → HasItsOperator c → FitsCall c ts → AreValueTypes ts → ProgramHas (fragment c ts) (answer_of c ts)
  pub formed : (p : ProgramTree) (t : TypeTree) → ProgramHas p t → IsWellFormed t
  pub declared : (d : Declared) → IsDeclared d → IsValueType (declared_type d)

-- ---- types of the objects before

-- each object before has its type
abbrev Knows : List TypeTree → (ℕ → Option TypeTree) → Type 0
Knows types known = (k : ℕ) → k < length types → known k ≡ Some (argument k types)

argument_front : (types : List TypeTree) (t : TypeTree) (k : ℕ) → k < length types → argument k (types ++ t ∷ []) ≡ argument k types
argument_front [] t k h = absurd (omega (arith, h))
argument_front (u ∷ types) t zero h = refl
argument_front (u ∷ types) t (suc k) h = argument_front types t k (omega (arith, h))

argument_end : (types : List TypeTree) (t : TypeTree) → argument (length types) (types ++ t ∷ []) ≡ t
argument_end [] t = refl
argument_end (u ∷ types) t = argument_end types t

one_longer : (types : List TypeTree) (t : TypeTree) → length (types ++ t ∷ []) ≡ suc (length types)
one_longer [] t = refl
one_longer (u ∷ types) t = ap suc (one_longer types t)

knows_more : (types : List TypeTree) (t : TypeTree) (known : ℕ → Option TypeTree) → Knows types known → Knows (types ++ t ∷ []) (with_one (length types) (Some t) known)
knows_more types t known knows k h = by (cases_eq k (length types))
  where
    by : (k ≡ length types) ⊎ (k ≢ length types) → with_one (length types) (Some t) known k ≡ Some (argument k (types ++ t ∷ []))
    by (inl e) =
        ap (with_one (length types) (Some t) known) e ∙ one_here (length types) (Some t) known
        ∙ ap (λ (u : TypeTree). Some u) (sym (ap (λ (j : ℕ). argument j (types ++ t ∷ [])) e ∙ argument_end types t))
    by (inr ne) =
        let below : k < length types = omega (arith, h, ne, one_longer types t) in
        one_else (length types) (Some t) known k ne ∙ knows k below ∙ ap (λ (u : TypeTree). Some u) (sym (argument_front types t k below))

value_at : (types : List TypeTree) (k : ℕ) → AreValueTypes types → k < length types → IsValueType (argument k types)
value_at [] k are h = absurd (omega (arith, h))
value_at (t ∷ types) zero are h = are.0
value_at (t ∷ types) (suc k) are h = value_at types k are.1 (omega (arith, h))

values_at : (types : List TypeTree) (ids : List ℕ) → AreValueTypes types → AreBelow (length types) ids → AreValueTypes (types_at types ids)
values_at types [] are h = tt
values_at types (id ∷ ids) are h = (value_at types id are h.0, values_at types ids are h.1)

values_more : (types : List TypeTree) (t : TypeTree) → AreValueTypes types → IsValueType t → AreValueTypes (types ++ t ∷ [])
values_more [] t are is = (is, tt)
values_more (u ∷ types) t are is = (are.0, values_more types t are.1 is)

deps_fit : (types : List TypeTree) (known : ℕ → Option TypeTree) (ids : List ℕ) (n : ℕ) → Knows types known → AreBelow (length types) ids → DepsFit known ids (params_from n (types_at types ids))
deps_fit types known [] n knows h = tt
deps_fit types known (id ∷ ids) n knows h = (knows id h.0, deps_fit types known ids (suc n) knows h.1)

-- ---- one object, and one after another

made_value : CallsKnown → (types : List TypeTree) (m : Made) → AreValueTypes types → IsMade types m → IsValueType (made_type types m)
made_value calls types (makes.Declared d) are may = calls.declared d may
made_value calls types (makes.Literal k x) are may = record { formed = tt; free = tt }
made_value calls types (makes.Call c ids) are may =
    let has = calls.typed c (types_at types ids) may.operator may.fits (values_at types ids are may.before) in
    record { formed = calls.formed (fragment c (types_at types ids)) (answer_of c (types_at types ids)) has; free = has.builder_free }

made_object : CallsKnown → (types : List TypeTree) (known : ℕ → Option TypeTree) (inputs : List Value) (m : Made) (ms : List Made)
    → AreValueTypes types → Knows types known → IsMade types m → AreInputs (declared_of (m ∷ ms)) inputs → IsObject known (object_of types inputs m)
made_object calls types known [] (makes.Declared d) ms are knows may fit = absurd fit
made_object calls types known (v ∷ vs) (makes.Declared d) ms are knows may fit =
    let is = calls.declared d may in record { formed = is.formed; free = is.free; fits = fit.0 }
made_object calls types known inputs (makes.Literal k x) ms are knows may fit = record { formed = tt; free = tt; fits = (refl, may) }
made_object calls types known inputs (makes.Call c ids) ms are knows may fit =
    let values = values_at types ids are may.before in
    record {
      program = calls.program c (types_at types ids) may.operator may.fits values;
      accepted = calls.accepted c (types_at types ids) may.operator may.fits values;
      typed = calls.typed c (types_at types ids) may.operator may.fits values;
      fits = deps_fit types known ids 0 knows may.before;
    }

objects_stand : CallsKnown → (types : List TypeTree) (known : ℕ → Option TypeTree) (inputs : List Value) (ms : List Made)
    → AreValueTypes types → Knows types known → AreMade types ms → AreInputs (declared_of ms) inputs → AreObjectsFrom (length types) known (objects_from types inputs ms)
objects_stand calls types known inputs [] are knows may fit = tt
objects_stand calls types known inputs (m ∷ ms) are knows may fit =
    let t : TypeTree = made_type types m in
    let rest : List Object = objects_from (types ++ t ∷ []) (left_after m inputs) ms in
    let behind : AreObjectsFrom (length (types ++ t ∷ [])) (with_one (length types) (Some t) known) rest =
    objects_stand calls (types ++ t ∷ []) (with_one (length types) (Some t) known) (left_after m inputs) ms
    (values_more types t are (made_value calls types m are may.0)) (knows_more types t known knows) may.1 (fit_after m ms inputs fit) in (
      made_object calls types known inputs m ms are knows may.0 fit,
      subst (λ (u : TypeTree). AreObjectsFrom (suc (length types)) (with_one (length types) (Some u) known) rest) (sym (type_is types inputs m))
          (subst (λ (n : ℕ). AreObjectsFrom n (with_one (length types) (Some t) known) rest) (one_longer types t) behind),
    )

pub made_objects : CallsKnown → (made : List Made) (inputs : List Value) → AreMade [] made → AreInputs (declared_of made) inputs → AreObjects (objects_from [] inputs made)
made_objects calls made inputs may fit = objects_stand calls [] (λ id. None) inputs made tt (λ k h. absurd (omega (arith, h))) may fit

all_before : (n : ℕ) (ids : List ℕ) → AreBelow n ids → AreBefore n ids
all_before n [] h = tt
all_before n (id ∷ ids) h = (h.0, all_before n ids h.1)

pub may_be_lowered : (os : List Object) (shown : List ℕ) → AreObjects os → AreBelow (length os) shown → 0 < length shown → names_of os < 4294967295 → MayBeLowered os shown
may_be_lowered os shown are there some few = record { objects = are; there = all_before (length os) shown there; some = some; few = few }
