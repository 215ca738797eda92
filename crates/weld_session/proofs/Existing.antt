-- Each script is gathered to a program.
use Rattle.std.proofs.Common.{◌≡◌, ℕ, List, [], map, refl, sym}
use Rattle.weld_data.specs.Value.{Value, struct, values}
use Rattle.weld_tree.specs.Program.{ProgramTree, IsProgram, loops}
use Rattle.weld_builders.specs.Outcome.{done, fault}
use Rattle.weld_meaning.specs.Typing.{ProgramHas}
use Rattle.weld_meaning.specs.Meaning.{ArgumentsFit, meaning}
use Rattle.weld_meaning.specs.Accepted.{IsAccepted}
use Rattle.weld_objects.specs.Objects.{Object, denote, all_done, AreObjects}
use Rattle.weld_objects.specs.Reached.{IsReached, reached}
use Rattle.weld_objects.specs.Lowered.{lowered, inputs_of, kept_loops, kept_values, shown_answer, MayBeLowered}
use Rattle.weld_objects.specs.Lowered as lowering
use Rattle.weld_lazy.specs.Inputs.{picked}
use Rattle.weld_lazy.specs.IsLowered.{IsLowered}
use Rattle.weld_script.specs.declared.made.Made.{Made}
use Rattle.weld_script.specs.Script.{AreInputs, IsScript, declared_of}
use Rattle.weld_session.specs.Answer.{MayBeGathered, shown_type}
use Rattle.weld_session.specs.Gathering.{objects_from}
use Rattle.weld_session.proofs.Counting.{RowsAreShort}
use Rattle.weld_session.proofs.Agreeing.{CallsMean}
use Rattle.weld_session.proofs.Kept.{CallsLoop}
use Rattle.weld_session.proofs.Gathering.{GivenUp, gathered_here, names_below, shown_there, type_same}
use Rattle.weld_session.proofs.Standing.{CallsKnown, made_objects, may_be_lowered}

-- what is known of objects that are lowered
pub record LoweredKnown : Type 0 where
  pub program : (os : List Object) (shown : List ℕ) → MayBeLowered os shown → IsProgram (lowered (reached os shown) os shown).params (lowered (reached os shown) os shown).body
  pub accepted : (os : List Object) (shown : List ℕ) → MayBeLowered os shown → IsAccepted (lowered (reached os shown) os shown)
  pub typed : (os : List Object) (shown : List ℕ) → MayBeLowered os shown → ProgramHas (lowered (reached os shown) os shown) (lowering.shown_type os shown)
  pub arguments : (os : List Object) (shown : List ℕ) → MayBeLowered os shown → ArgumentsFit (lowered (reached os shown) os shown).params (inputs_of (reached os shown) 0 os)
  pub loops : (os : List Object) (shown : List ℕ) → loops (lowered (reached os shown) os shown).body ≡ kept_loops (reached os shown) 0 os
  pub whole : (os : List Object) (shown : List ℕ) → MayBeLowered os shown → meaning (lowered (reached os shown) os shown) (inputs_of (reached os shown) 0 os) ≡ shown_answer (reached os shown) os shown
  pub fault : (os : List Object) (shown : List ℕ) (id : ℕ) → MayBeLowered os shown → IsReached os shown id → denote os id ≡ fault → meaning (lowered (reached os shown) os shown) (inputs_of (reached os shown) 0 os) ≡ fault
  pub value : (os : List Object) (shown : List ℕ) → MayBeLowered os shown → ((id : ℕ) → IsReached os shown id → (v : Value) × (denote os id ≡ done v))
      → (vs : List Value) × (all_done (map (denote os) shown) ≡ done vs) × (meaning (lowered (reached os shown) os shown) (inputs_of (reached os shown) 0 os) ≡ done (struct (values vs)))

is_lowered : LoweredKnown → (os : List Object) (shown : List ℕ) → MayBeLowered os shown → IsLowered (lowered (reached os shown) os shown) (kept_values (reached os shown) 0 os) os shown
is_lowered known os shown m = record {
  form = refl;
  inputs = refl;
  typed = known.typed os shown m;
  arguments = known.arguments os shown m;
  loops = known.loops os shown;
  means = known.whole os shown m;
  faults = λ id r d. known.fault os shown id m r d;
  gives = known.value os shown m;
}

pub gathered_somehow : CallsKnown → LoweredKnown → ((os : List Object) → AreObjects os → CallsMean os) → CallsLoop → GivenUp → RowsAreShort
    → (made : List Made) (shown : List ℕ) (inputs : List Value) → IsScript made shown → AreInputs (declared_of made) inputs → MayBeGathered made shown inputs
gathered_somehow calls known mean loop up short made shown inputs is fit =
    let os : List Object = objects_from [] inputs made in
    let are : AreObjects os = made_objects calls made inputs is.objects fit in
    let may : MayBeLowered os shown = may_be_lowered os shown are (shown_there made shown inputs os shown refl refl is) is.some (names_below short made shown inputs os refl is) in
    let p : ProgramTree = lowered (reached os shown) os shown in
    let ids : List ℕ = kept_values (reached os shown) 0 os in
    record {
      program = p;
      given = picked 0 os ids;
      is_program = known.program os shown may;
      accepted = known.accepted os shown may;
      gathered = gathered_here made shown inputs p ids (picked 0 os ids) (shown_type made shown) (mean os are) loop up is fit (is_lowered known os shown may) refl (sym (type_same made shown inputs is));
    }
