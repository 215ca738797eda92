-- A call that the graph takes.
use Rattle.std.proofs.Common.{◌≡◌, ◌<◌, ◌≤◌, ℕ, List, [], ◌∷◌, ◌++◌, length, None, sym, ap, subst, ◌∙◌, arith}
use Rattle.std.proofs.lemmas.List.{length-map}
use Rattle.weld_tree.specs.declared.binder.Binder.{Binder}
use Rattle.weld_tree.specs.TypeTree.{TypeTree}
use Rattle.weld_tree.specs.ExprTree.{ExprTree}
use Rattle.weld_tree.specs.Program.{ProgramTree}
use Rattle.weld_meaning.specs.Typing.{Types, HasType, ProgramHas, param_types}
use Rattle.weld_meaning.specs.Accepted.{IsAccepted}
use Rattle.weld_objects.specs.Objects.{Object, call, AreObjects}
use Rattle.weld_objects.specs.Additions.{CallFault, unknown, count, mismatch, first_unknown, IsRefused, MayBeAdded}
use Rattle.weld_calls.specs.declared.call.Call.{Call}
use Rattle.weld_calls.specs.CallTypes.{row, misfit, answer_of, FitsCall, AreValueTypes}
use Rattle.weld_calls.specs.CallPrograms.{fragment}
use Rattle.weld_lazy.specs.View.{view_ids, FaultSays}
use Rattle.weld_lazy.specs.declared.ids.ObjectId.{ObjectId}
use Rattle.weld_lazy.specs.declared.fault.LazyFault.{LazyFault}
use Rattle.weld_lazy.specs.declared.fault.LazyFault.TheVariants.{Unknown, Count, Mismatch, Memory}
use Rattle.weld_libraries.specs.Answers.{types_at, IsAdded, IsMemory}
use Rattle.weld_libraries.proofs.Values.{TypesFormed, values_there, params_fit, types_count}

-- what is known of the arguments when their types were found and fit
pub record Found (os : List Object) (c : Call) (ids : List ℕ) (types : List TypeTree) : Type 0 where
  pub known : first_unknown os ids ≡ None
  pub found : types ≡ types_at os ids
  pub fits : misfit c types ≡ None
  pub count : length ids ≡ length (row c)

pub found_args : (os : List Object) (c : Call) (ids : List ObjectId) (types seen : List TypeTree) → (first_unknown os (view_ids ids) ≡ None) × (types ≡ types_at os (view_ids ids))
    → seen ≡ types → misfit c seen ≡ None → length ids ≡ length (row c) → Found os c (view_ids ids) types
found_args os c ids types seen h e m n = record {
  known = h.0;
  found = h.1;
  fits = ap (misfit c) (sym e) ∙ m;
  count = length-map ids (λ (id : ObjectId). id.0) ∙ n;
}

-- there are few arguments
pub few_types : (os : List Object) (c : Call) (ids : List ObjectId) (types seen : List TypeTree) → ((k : Call) → length (row k) ≤ 3)
    → (first_unknown os (view_ids ids) ≡ None) × (types ≡ types_at os (view_ids ids)) → seen ≡ types → length ids ≡ length (row c) → length seen < 4294967295
few_types os c ids types seen short h e n =
    let a : length seen ≡ length types = ap length e in
    let b : length types ≡ length (types_at os (view_ids ids)) = ap length h.1 in
    let d : length (types_at os (view_ids ids)) ≡ length (view_ids ids) = types_count os (view_ids ids) h.0 in
    let l : length (view_ids ids) ≡ length ids = length-map ids (λ (id : ObjectId). id.0) in
    let s : length (row c) ≤ 3 = short c in
    omega (arith, a, b, d, l, n, s)

pub fits_call : (os : List Object) (c : Call) (ids : List ℕ) (types : List TypeTree) → Found os c ids types → FitsCall c types
fits_call os c ids types f = record { count = ap length f.found ∙ types_count os ids f.known ∙ f.count; each = f.fits }

pub values_are : TypesFormed → (os : List Object) (c : Call) (ids : List ℕ) (types : List TypeTree) → AreObjects os → Found os c ids types → AreValueTypes types
values_are formed os c ids types are f = subst AreValueTypes (sym f.found) (values_there formed os ids are)

-- the graph takes the call's program on the objects
may_be : (os : List Object) (c : Call) (ids : List ℕ) (types : List TypeTree) → Found os c ids types → MayBeAdded os ids (fragment c types).params
may_be os c ids types f = subst (λ ts. MayBeAdded os ids (fragment c ts).params) (sym f.found) (params_fit os ids 0 f.known)

abbrev pub NotRefused : Type 0
NotRefused = (os : List Object) (ids : List ℕ) (p : ProgramTree) (f : CallFault) → IsAccepted p → MayBeAdded os ids p.params → IsRefused os ids p.params f → ⊥

by_fault : (fault : LazyFault) (os : List Object) (ids : List ℕ) (bs : List Binder) → ((f : CallFault) → IsRefused os ids bs f → ⊥) → FaultSays fault os ids bs → IsMemory fault
by_fault (Unknown id) os ids bs never h = never (unknown id.0) h
by_fault (Count wanted given) os ids bs never h = never (count wanted given) h
by_fault (Mismatch place expected found) os ids bs never h = never (mismatch place expected found) h
by_fault Memory os ids bs never h = tt

pub memory_alone : NotRefused → (fault : LazyFault) (os : List Object) (c : Call) (ids : List ℕ) (types : List TypeTree) (p : ProgramTree) → IsAccepted p → p ≡ fragment c types → Found os c ids types
    → FaultSays fault os ids p.params → IsMemory fault
memory_alone never fault os c ids types p accepted e f h =
    by_fault fault os ids p.params (λ r. never os ids p r accepted (subst (λ q. MayBeAdded os ids q.params) (sym e) (may_be os c ids types f))) h

abbrev pub OneType : Type 0
OneType = (e : ExprTree) (g : Types) (t u : TypeTree) → HasType e g t → HasType e g u → t ≡ u

-- the object that was added is the call's
pub call_added : OneType → (old new : List Object) (c : Call) (ids : List ℕ) (types : List TypeTree) (p : ProgramTree) (t : TypeTree) (id : ℕ) → Found old c ids types → p ≡ fragment c types
    → ProgramHas (fragment c types) (answer_of c types) → ProgramHas p t → id ≡ length old → new ≡ old ++ call t ids p ∷ [] → IsAdded old new c ids id
call_added one old new c ids types p t id f e typed has at added =
    let has_too : ProgramHas (fragment c types) t = subst (λ q. ProgramHas q t) e has in
    let same : t ≡ answer_of c types = one (fragment c types).body (param_types (fragment c types).params) t (answer_of c types) has_too.body typed.body in
    record {
      known = f.known;
      fits = ap (misfit c) (sym f.found) ∙ f.fits;
      id = at;
      added = added ∙ (λ i. old ++ call (same i) ids (e i) ∷ []) ∙ (λ i. old ++ call (answer_of c (f.found i)) ids (fragment c (f.found i)) ∷ []);
    }
