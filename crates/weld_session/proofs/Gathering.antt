-- A graph's program is the script's.
use Rattle.std.proofs.Common.{◌≡◌, ℕ, ◌<◌, Bool, List, [], length, map, ap, sym, subst, ◌∙◌, arith}
use Rattle.weld_data.specs.Value.{Value, struct, values}
use Rattle.weld_tree.specs.TypeTree.{TypeTree, struct as struct_type, pack}
use Rattle.weld_tree.specs.Program.{ProgramTree}
use Rattle.weld_builders.specs.Outcome.{Outcome, and_then, map_out}
use Rattle.weld_meaning.specs.Typing.{ProgramHas}
use Rattle.weld_meaning.specs.Meaning.{ArgumentsFit, meaning}
use Rattle.weld_objects.specs.Objects.{Object, all_done, denote}
use Rattle.weld_objects.specs.Reached as graph
use Rattle.weld_objects.specs.Lowered as lowering
use Rattle.weld_lazy.specs.Inputs.{picked}
use Rattle.weld_lazy.specs.IsLowered.{IsLowered}
use Rattle.weld_script.specs.declared.made.Made.{Made}
use Rattle.weld_script.specs.Script.{AreBelow, AreInputs, IsScript, declared_of, types_at}
use Rattle.weld_session.specs.Answer.{IsGathered, script_answer, script_denote, shown_type, reached, kept, given_from, loops_from}
use Rattle.weld_session.specs.Gathering.{objects_from}
use Rattle.weld_session.proofs.Places.{same_notes}
use Rattle.weld_session.proofs.Building.{types_made, objects_count}
use Rattle.weld_session.proofs.Counting.{RowsAreShort, names_few}
use Rattle.weld_session.proofs.Agreeing.{CallsMean, denotes_same, all_same}
use Rattle.weld_session.proofs.Kept.{CallsLoop, reached_same, kept_same, given_same, loops_same, kept_below}

-- inputs of a lowered program are given up by the graph
abbrev pub GivenUp : Type 0
GivenUp = (keep : ℕ → Bool) (os : List Object) → picked 0 os (lowering.kept_values keep 0 os) ≡ lowering.inputs_of keep 0 os

answer_same : (made : List Made) (shown : List ℕ) (inputs : List Value) → CallsMean (objects_from [] inputs made) → IsScript made shown → AreInputs (declared_of made) inputs
    → lowering.shown_answer (graph.reached (objects_from [] inputs made) shown) (objects_from [] inputs made) shown ≡ script_answer made shown inputs
answer_same made shown inputs mean is fit =
    let os = objects_from [] inputs made in
    let keep = reached made shown in
    let same = denotes_same made inputs mean is.objects fit in
    let below : AreBelow (length made) (kept keep 0 made) = kept_below keep 0 (length made) made (omega arith) in
    let rule : List Value → Outcome Value = (λ vs. map_out (λ ws. struct (values ws)) (all_done (map (denote os) shown))) in
    (λ i. and_then (all_done (map (denote os) (lowering.kept (reached_same made shown inputs i) 0 os))) rule)
    ∙ (λ i. and_then (all_done (map (denote os) (kept_same keep 0 [] inputs made i))) rule)
    ∙ (λ i. and_then (all_done (sym (all_same (script_denote made inputs) (denote os) (length made) (kept keep 0 made) below same) i))
    (λ vs. map_out (λ ws. struct (values ws)) (all_done (sym (all_same (script_denote made inputs) (denote os) (length made) shown is.there same) i))))

pub type_same : (made : List Made) (shown : List ℕ) (inputs : List Value) → IsScript made shown → lowering.shown_type (objects_from [] inputs made) shown ≡ shown_type made shown
type_same made shown inputs is =
    let os = objects_from [] inputs made in
    ap (λ ts. struct_type (pack ts)) (same_notes os shown (subst (λ n. AreBelow n shown) (sym (objects_count [] inputs made)) is.there)
    ∙ ap (λ ts. types_at ts shown) (sym (types_made [] inputs made)))

pub gathered_here : (made : List Made) (shown : List ℕ) (inputs : List Value) (p : ProgramTree) (ids : List ℕ) (given : List Value) (ty : TypeTree)
    → CallsMean (objects_from [] inputs made) → CallsLoop → GivenUp → IsScript made shown → AreInputs (declared_of made) inputs
    → IsLowered p ids (objects_from [] inputs made) shown → given ≡ picked 0 (objects_from [] inputs made) ids → ty ≡ lowering.shown_type (objects_from [] inputs made) shown
    → IsGathered p given ty made shown inputs
gathered_here made shown inputs p ids given ty mean loop up is fit l e f =
    let os = objects_from [] inputs made in
    let marks = graph.reached os shown in
    let inputs_are : given ≡ lowering.inputs_of marks 0 os = e ∙ ap (picked 0 os) l.inputs ∙ up marks os in
    record {
      shows = f ∙ type_same made shown inputs is;
      typed = subst (ProgramHas p) (sym f) l.typed;
      arguments = subst (ArgumentsFit p.params) (sym inputs_are) l.arguments;
      unchanged = inputs_are ∙ given_same marks 0 [] inputs made fit ∙ ap (λ keep. given_from keep 0 inputs made) (reached_same made shown inputs);
      means = ap (meaning p) inputs_are ∙ l.means ∙ answer_same made shown inputs mean is fit;
      loops = l.loops ∙ loops_same loop marks 0 [] inputs made ∙ ap (λ keep. loops_from keep 0 made) (reached_same made shown inputs);
    }

pub gathered : (made : List Made) (shown : List ℕ) (inputs : List Value) (os : List Object) (p : ProgramTree) (ids kept_ids seen also : List ℕ) (given : List Value) (ty : TypeTree)
    → os ≡ objects_from [] inputs made → CallsMean os → CallsLoop → GivenUp → IsScript made shown → AreInputs (declared_of made) inputs → seen ≡ shown → also ≡ shown → kept_ids ≡ ids
    → IsLowered p ids os seen → given ≡ picked 0 os kept_ids → ty ≡ lowering.shown_type os also
    → IsGathered p given ty made shown inputs
gathered made shown inputs os p ids kept_ids seen also given ty same mean loop up is fit s a k l e f =
    gathered_here made shown inputs p ids given ty (subst CallsMean same mean) loop up is fit (subst (λ ps. IsLowered p ids ps shown) same (subst (IsLowered p ids os) s l))
    (e ∙ (λ i. picked 0 (same i) (k i))) (f ∙ (λ i. lowering.shown_type (same i) (a i)))

pub names_below : RowsAreShort → (made : List Made) (shown : List ℕ) (inputs : List Value) (os : List Object) → os ≡ objects_from [] inputs made → IsScript made shown → lowering.names_of os < 4294967295
names_below short made shown inputs os same is =
    let few = names_few short [] inputs made is.objects in
    let e : lowering.names_of os ≡ lowering.names_of (objects_from [] inputs made) = ap lowering.names_of same in
    omega (arith, few, e, is.few)

pub shown_there : (made : List Made) (shown : List ℕ) (inputs : List Value) (os : List Object) (seen : List ℕ) → os ≡ objects_from [] inputs made → seen ≡ shown → IsScript made shown → AreBelow (length os) seen
shown_there made shown inputs os seen same e is =
    let count : length made ≡ length os = sym (ap length same ∙ objects_count [] inputs made) in
    subst (λ ks. AreBelow (length os) ks) (sym e) (subst (λ n. AreBelow n shown) count is.there)
