-- A call that the graph takes, and what may not come.
use Rattle.std.proofs.Common.{◌≡◌, ℕ, ◌<◌, List, [], ◌∷◌, ◌++◌, length, get_or, Option, None, Err, Bor, ap, subst, ◌∙◌, zero, suc, arith}
use Rattle.std.proofs.lemmas.List.{length-map}
use Rattle.std.specs.Option.{option_map}
use Rattle.weld_tree.specs.TypeTree.{TypeTree}
use Rattle.weld_objects.specs.Objects.{Object, call, type_of, type_at}
use Rattle.weld_objects.specs.Additions.{first_unknown}
use Rattle.weld_calls.specs.declared.call.Call.{Call}
use Rattle.weld_calls.specs.CallTypes.{answer_of, misfit}
use Rattle.weld_calls.specs.CallPrograms.{fragment}
use Rattle.weld_lazy.specs.View.{view_ids, LowerSays}
use Rattle.weld_lazy.specs.declared.ids.ObjectId.{ObjectId}
use Rattle.weld_lazy.specs.declared.fault.LazyFault.{LazyFault}
use Rattle.weld_lazy.specs.declared.fault.LazyFault.TheVariants as lazy
use Rattle.weld_lazy.specs.declared.fault.LibFault.{LibFault}
use Rattle.weld_lazy.specs.declared.fault.LibFault.TheVariants as faults
use Rattle.weld_libraries.specs.Answers.{IsAdded, Answers, types_at as types_there}
use Rattle.weld_script.specs.Script.{AreBelow, IsCall, types_at}
use Rattle.weld_session.specs.Gathering.{types_of, IsMemory, LowersMemory}
use Rattle.weld_session.proofs.Places.{type_there, none_unknown, same_types}

all_below : (os : List Object) (c : Call) (ids : List ℕ) → IsCall (types_of os) c ids → AreBelow (length os) ids
all_below os c ids may = subst (λ n. AreBelow n ids) (length-map os type_of) may.before

pub call_added : (old new : List Object) (c : Call) (ids seen : List ℕ) (n : ℕ) → seen ≡ ids → IsCall (types_of old) c ids → IsAdded old new c seen n
    → new ≡ old ++ call (answer_of c (types_at (types_of old) ids)) ids (fragment c (types_at (types_of old) ids)) ∷ []
call_added old new c ids seen n e may a =
    let same = same_types old ids (all_below old c ids may) in
    let here : IsAdded old new c ids n = subst (λ ks. IsAdded old new c ks n) e a in
    here.added ∙ (λ i. old ++ call (answer_of c (same i)) ids (fragment c (same i)) ∷ [])

pub memory_alone : (fault : LibFault) (old new : List Object) (c : Call) (ids seen : List ℕ) → seen ≡ ids → IsCall (types_of old) c ids → Answers (Err fault) old new c seen → IsMemory fault
memory_alone faults.Memory old new c ids seen e may a = tt
memory_alone (faults.Unknown id) old new c ids seen e may a =
    let known : first_unknown old seen ≡ None = ap (first_unknown old) e ∙ none_unknown old ids (all_below old c ids may) in
    let said = a.unknown in
    let no : ⊥ = cc in absurd no
memory_alone (faults.Unfit place found) old new c ids seen e may a =
    let fits : misfit c (types_there old seen) ≡ None = ap (λ ks. misfit c (types_there old ks)) e ∙ ap (misfit c) (same_types old ids (all_below old c ids may)) ∙ may.fits.each in
    let said = a.unfit in
    let no : ⊥ = cc in absurd no

pub lowers_memory : (fault : LazyFault) (os : List Object) (ids : List ℕ) → AreBelow (length os) ids → LowerSays fault os ids → LowersMemory fault
lowers_memory lazy.Memory os ids h s = tt
lowers_memory (lazy.Unknown id) os ids h s =
    let known = none_unknown os ids h in
    let no : ⊥ = cc in absurd no
lowers_memory (lazy.Count wanted given_ids) os ids h s = s
lowers_memory (lazy.Mismatch place expected found) os ids h s = s

pub none_missing : (os : List Object) (ids : List ObjectId) (i : ℕ) (d : ObjectId) → i < length ids → AreBelow (length os) (view_ids ids) → type_at os (get_or ids i d).0 ≡ None → ⊥
none_missing os [] i d l h e = omega (arith, l)
none_missing os (id ∷ ids) zero d l h e =
    let there = type_there os id.0 h.0 in cc
none_missing os (id ∷ ids) (suc i) d l h e = none_missing os ids i d (omega (arith, l)) h.1 e

pub none_of : (m : Option (Bor TypeTree)) → m ≡ None → option_map (λ (t : Bor TypeTree). t.now) m ≡ None
none_of m e = ap (option_map (λ (t : Bor TypeTree). t.now)) e
