-- What was put together is the lowered program.
use Rattle.std.proofs.Common.{◌≡◌, ◌≢◌, ℕ, zero, suc, ◌+◌, ◌<◌, ◌≤◌, Bool, true, false, if◌then◌else◌, List, [], ◌∷◌, length, map, Option, Some, None, option_map, slice_get, Result, Ok, Err, IfOk, refl, ap, sym, subst, ◌∙◌, arith}
use Rattle.std.specs.declared.alloc.AllocError.{AllocError}
use Rattle.weld_data.specs.Value.{Value, struct, values}
use Rattle.weld_tree.specs.TypeTree.{TypeTree}
use Rattle.weld_tree.specs.declared.binder.Binder.{Binder}
use Rattle.weld_tree.specs.ExprTree.{ExprTree}
use Rattle.weld_tree.specs.Program.{ProgramTree, bound, loops, IsProgram}
use Rattle.weld_builders.specs.Outcome.{done, fault}
use Rattle.weld_meaning.specs.Environment.{Named}
use Rattle.weld_meaning.specs.Typing.{ProgramHas}
use Rattle.weld_meaning.specs.Meaning.{ArgumentsFit, meaning}
use Rattle.weld_meaning.specs.Accepted.{IsAccepted}
use Rattle.weld_objects.specs.Numbering.{number_in}
use Rattle.weld_objects.specs.Objects as objects
use Rattle.weld_objects.specs.Objects.{given, call, type_of, type_at, with_one, denote, all_done, DepsFit, AreObjectsFrom, AreObjects, AreBefore}
use Rattle.weld_objects.specs.Reached.{IsReached, is_one_of, reached_from, reached}
use Rattle.weld_objects.specs.Additions.{unless_there, first_unknown}
use Rattle.weld_objects.specs.Lowered.{lowered, lets, shown_struct, kept_values, params_of, value_numbers, inputs_of, kept_loops, names_of, shown_answer, shown_type, MayBeLowered}
use Rattle.weld_objects.proofs.Counts.{lets_binders, count_of_binders}
use Rattle.weld_lazy.specs.Lowering.{marks_of, numbered, chained, binders_at, binders_from, HasCount, HaveCounts}
use Rattle.weld_lazy.specs.IsLowered.{IsLowered}
use Rattle.weld_lazy.specs.View.{view_object, view_ids}
use Rattle.weld_lazy.specs.declared.object.Object.{Object}
use Rattle.weld_lazy.specs.declared.ids.ObjectId.{ObjectId}
use Rattle.std.proofs.lemmas.List.{length-map}

-- ---- what the steps ask for

count_is : (types : ℕ → Option TypeTree) (ids : List ℕ) (bs : List Binder) → DepsFit types ids bs → length bs ≡ length ids
count_is types [] [] h = refl
count_is types [] (b ∷ bs) h = absurd h
count_is types (id ∷ ids) [] h = absurd h
count_is types (id ∷ ids) (b ∷ bs) h = ap suc (count_is types ids bs h.1)

counts_from : (id : ℕ) (types : ℕ → Option TypeTree) (os : List objects.Object) → AreObjectsFrom id types os → HaveCounts os
counts_from id types [] are = tt
counts_from id types (given t v ∷ os) are = (tt, counts_from (suc id) (with_one id (Some t) types) os are.1)
counts_from id types (call t ids p ∷ os) are = (count_is types ids p.params are.0.fits, counts_from (suc id) (with_one id (Some t) types) os are.1)

pub have_counts : (os : List objects.Object) → AreObjects os → HaveCounts os
have_counts os are = counts_from 0 (λ id. None) os are

binders_alike : (keep : ℕ → Bool) (id : ℕ) (os : List objects.Object) → binders_from keep id os ≡ lets_binders keep id os
binders_alike keep id [] = refl
binders_alike keep id (given t v ∷ os) = let k = binders_alike keep (suc id) os in omega (arith, k)
binders_alike keep id (call t ids p ∷ os) = by (keep id) (binders_alike keep (suc id) os)
  where
    by : (c : Bool) → binders_from keep (suc id) os ≡ lets_binders keep (suc id) os → (if c then suc (length (bound p.body)) else 0) + binders_from keep (suc id) os ≡ (if c then suc (length (bound p.body) + lets_binders keep (suc id) os) else lets_binders keep (suc id) os)
    by true k = omega (arith, k)
    by false k = omega (arith, k)

pub room_for_all : (keep : ℕ → Bool) (os : List objects.Object) (numbers : ℕ → ℕ) (params : List Binder) (inputs : List ℕ) (first : ℕ) → first ≡ length inputs → numbered keep 0 os (λ id. id) [] [] ≡ (numbers, (params, inputs)) → names_of os < 4294967295 → first + binders_from keep 0 os < 4294967295
room_for_all keep os numbers params inputs first f e few =
    let l : length (kept_values keep 0 os) ≡ length inputs = ap (λ (t : (ℕ → ℕ) × (List Binder × List ℕ)). length t.1.1) e in
    let b = binders_alike keep 0 os in
    let c = count_of_binders keep 0 os in
    omega (arith, f, l, b, c, few)

there_of : (os : List objects.Object) (ids : List ℕ) → first_unknown os ids ≡ None → AreBefore (length os) ids
there_of os [] e = tt
there_of os (id ∷ ids) e = by (type_at os id) refl e (there_of os ids)
  where
    at : (xs : List objects.Object) (i : ℕ) (t : TypeTree) → type_at xs i ≡ Some t → i < length xs
    at [] i t p = let no : ⊥ = cc in absurd no
    at (x ∷ xs) zero t p = omega arith
    at (x ∷ xs) (suc i) t p = omega (arith, at xs i t p)

    by : (m : Option TypeTree) → type_at os id ≡ m → unless_there m id (first_unknown os ids) ≡ None → (first_unknown os ids ≡ None → AreBefore (length os) ids) → (id < length os) × AreBefore (length os) ids
    by None p q k = let no : ⊥ = cc in absurd no
    by (Some t) p q k = (at os id t p, k q)

pub may_be_lowered : (os : List objects.Object) (shown : List ℕ) → AreObjects os → first_unknown os shown ≡ None → 0 < length shown → names_of os < 4294967295 → MayBeLowered os shown
may_be_lowered os shown are known some few = record { objects = are; there = there_of os shown known; some = some; few = few }

-- ---- the program

pub record Steps (os : List objects.Object) (shown : List ℕ) (marks : Named Bool) (numbers later : Named ℕ) (params : List Binder) (inputs : List ℕ) (ls : List (ℕ × ExprTree)) (fields body : ExprTree) : Type 0 where
  pub marked : (k : ℕ) → marks_of marks k ≡ reached_from 0 os (is_one_of shown) k
  pub values : numbered (marks_of marks) 0 os (λ id. id) [] [] ≡ (number_in numbers, (params, inputs))
  pub calls : (s : List ℕ) → chained ls (shown_struct (number_in later) s) ≡ lets (marks_of marks) 0 (length inputs) (number_in numbers) s os
  pub closes : fields ≡ shown_struct (number_in later) shown
  pub whole : body ≡ chained ls fields

pub program_is : (os : List objects.Object) (shown : List ℕ) (marks : Named Bool) (numbers later : Named ℕ) (params : List Binder) (inputs : List ℕ) (ls : List (ℕ × ExprTree)) (fields body : ExprTree) → Steps os shown marks numbers later params inputs ls fields body
    → ◌≡◌ {A = ProgramTree} (record { params = params; body = body }) (lowered (reached os shown) os shown)
program_is os shown marks numbers later params inputs ls fields body s =
    let keep : marks_of marks ≡ reached os shown = λ i k. s.marked k i in
    let ns : value_numbers (marks_of marks) 0 0 os (λ id. id) ≡ number_in numbers = ap (λ (t : (ℕ → ℕ) × (List Binder × List ℕ)). t.0) s.values in
    let ps : params_of (marks_of marks) 0 0 os ≡ params = ap (λ (t : (ℕ → ℕ) × (List Binder × List ℕ)). t.1.0) s.values in
    let is : kept_values (marks_of marks) 0 os ≡ inputs = ap (λ (t : (ℕ → ℕ) × (List Binder × List ℕ)). t.1.1) s.values in
    let inside : body ≡ lets (marks_of marks) 0 (length (kept_values (marks_of marks) 0 os)) (value_numbers (marks_of marks) 0 0 os (λ id. id)) shown os =
    s.whole ∙ ap (chained ls) s.closes ∙ s.calls shown ∙ sym (λ i. lets (marks_of marks) 0 (length (is i)) (ns i) shown os) in
    let first : ◌≡◌ {A = ProgramTree} (record { params = params; body = body }) (lowered (marks_of marks) os shown) = λ i. record { params = sym ps i; body = inside i } in
    first ∙ ap (λ (k : ℕ → Bool). lowered k os shown) keep

pub inputs_are : (os : List objects.Object) (shown : List ℕ) (marks : Named Bool) (numbers later : Named ℕ) (params : List Binder) (inputs : List ℕ) (ls : List (ℕ × ExprTree)) (fields body : ExprTree) → Steps os shown marks numbers later params inputs ls fields body
    → inputs ≡ kept_values (reached os shown) 0 os
inputs_are os shown marks numbers later params inputs ls fields body s =
    let keep : marks_of marks ≡ reached os shown = λ i k. s.marked k i in
    sym (ap (λ (t : (ℕ → ℕ) × (List Binder × List ℕ)). t.1.1) s.values) ∙ ap (λ (k : ℕ → Bool). kept_values k 0 os) keep

-- ---- what the laws say of it

pub record Laws : Type 0 where
  pub program : (os : List objects.Object) (shown : List ℕ) → MayBeLowered os shown → IsProgram (lowered (reached os shown) os shown).params (lowered (reached os shown) os shown).body
  pub accepted : (os : List objects.Object) (shown : List ℕ) → MayBeLowered os shown → IsAccepted (lowered (reached os shown) os shown)
  pub typed : (os : List objects.Object) (shown : List ℕ) → MayBeLowered os shown → ProgramHas (lowered (reached os shown) os shown) (shown_type os shown)
  pub arguments : (os : List objects.Object) (shown : List ℕ) → MayBeLowered os shown → ArgumentsFit (lowered (reached os shown) os shown).params (inputs_of (reached os shown) 0 os)
  pub loops : (os : List objects.Object) (shown : List ℕ) → loops (lowered (reached os shown) os shown).body ≡ kept_loops (reached os shown) 0 os
  pub whole : (os : List objects.Object) (shown : List ℕ) → MayBeLowered os shown → meaning (lowered (reached os shown) os shown) (inputs_of (reached os shown) 0 os) ≡ shown_answer (reached os shown) os shown
  pub fault : (os : List objects.Object) (shown : List ℕ) (id : ℕ) → MayBeLowered os shown → IsReached os shown id → denote os id ≡ fault → meaning (lowered (reached os shown) os shown) (inputs_of (reached os shown) 0 os) ≡ fault
  pub value : (os : List objects.Object) (shown : List ℕ) → MayBeLowered os shown → ((id : ℕ) → IsReached os shown id → (v : Value) × (denote os id ≡ done v))
      → (vs : List Value) × (all_done (map (denote os) shown) ≡ done vs) × (meaning (lowered (reached os shown) os shown) (inputs_of (reached os shown) 0 os) ≡ done (struct (values vs)))

pub is_program : Laws → (os : List objects.Object) (shown : List ℕ) (p : ProgramTree) → MayBeLowered os shown → p ≡ lowered (reached os shown) os shown → IsProgram p.params p.body
is_program laws os shown p m e = subst (λ (q : ProgramTree). IsProgram q.params q.body) (sym e) (laws.program os shown m)

pub is_accepted : Laws → (os : List objects.Object) (shown : List ℕ) (p : ProgramTree) → MayBeLowered os shown → p ≡ lowered (reached os shown) os shown → IsAccepted p
is_accepted laws os shown p m e = subst IsAccepted (sym e) (laws.accepted os shown m)

pub is_lowered : Laws → (os : List objects.Object) (shown : List ℕ) (p : ProgramTree) (inputs : List ℕ) → MayBeLowered os shown → p ≡ lowered (reached os shown) os shown → inputs ≡ kept_values (reached os shown) 0 os → IsLowered p inputs os shown
is_lowered laws os shown p inputs m e i =
    subst (λ (q : ProgramTree). IsLowered q inputs os shown) (sym e) (record {
      form = refl;
      inputs = i;
      typed = laws.typed os shown m;
      arguments = laws.arguments os shown m;
      loops = laws.loops os shown;
      means = laws.whole os shown m;
      faults = λ id r d. laws.fault os shown id m r d;
      gives = laws.value os shown m;
    })

-- ---- from the code's objects

pub steps_of : (items a b d : List Object) (now : List objects.Object) (shown given_ids : List ℕ) (marks : Named Bool) (numbers later : Named ℕ) (params : List Binder) (inputs : List ℕ) (ls : List (ℕ × ExprTree)) (fields body : ExprTree) (n : ℕ)
    → a ≡ items → b ≡ items → d ≡ items → map view_object items ≡ now → shown ≡ given_ids → n ≡ length inputs
    → ((k : ℕ) → marks_of marks k ≡ reached_from 0 (map view_object a) (is_one_of shown) k)
    → numbered (marks_of marks) 0 (map view_object b) (λ id. id) [] [] ≡ (number_in numbers, (params, inputs))
    → ((s : List ℕ) → chained ls (shown_struct (number_in later) s) ≡ lets (marks_of marks) 0 n (number_in numbers) s (map view_object d))
    → fields ≡ shown_struct (number_in later) shown → body ≡ chained ls fields
    → Steps now given_ids marks numbers later params inputs ls fields body
steps_of items a b d now shown given_ids marks numbers later params inputs ls fields body n pa pb pd e g pn h v calls f w = record {
  marked = λ k. h k ∙ (λ i. reached_from 0 (map view_object (pa i)) (is_one_of shown) k) ∙ (λ i. reached_from 0 (e i) (is_one_of (g i)) k);
  values = sym (λ i. numbered (marks_of marks) 0 (e i) (λ id. id) [] []) ∙ sym (λ i. numbered (marks_of marks) 0 (map view_object (pb i)) (λ id. id) [] []) ∙ v;
  calls = λ s. calls s ∙ (λ i. lets (marks_of marks) 0 (pn i) (number_in numbers) s (map view_object (pd i))) ∙ (λ i. lets (marks_of marks) 0 (length inputs) (number_in numbers) s (e i));
  closes = f ∙ (λ i. shown_struct (number_in later) (g i));
  whole = w;
}

pub room_of : (items b d : List Object) (now : List objects.Object) (keep : ℕ → Bool) (numbers : ℕ → ℕ) (params : List Binder) (inputs : List ℕ) (n : ℕ) → b ≡ items → d ≡ items → map view_object items ≡ now → n ≡ length inputs
    → numbered keep 0 (map view_object b) (λ id. id) [] [] ≡ (numbers, (params, inputs)) → names_of now < 4294967295 → n + binders_from keep 0 (map view_object d) < 4294967295
room_of items b d now keep numbers params inputs n pb pd e pn v few =
    let same : map view_object d ≡ now = ap (map view_object) pd ∙ e in
    room_for_all keep (map view_object d) numbers params inputs n pn (sym (λ i. numbered keep 0 (map view_object ((pb ∙ sym pd) i)) (λ id. id) [] []) ∙ v) (subst (λ (os : List objects.Object). names_of os < 4294967295) (sym same) few)

pub counts_of : (items d : List Object) → d ≡ items → AreObjects (map view_object items) → HaveCounts (map view_object d)
counts_of items d p are = subst (λ (xs : List Object). HaveCounts (map view_object xs)) (sym p) (have_counts (map view_object items) are)

pub may_be : (items : List Object) (now : List objects.Object) (ids : List ObjectId) → map view_object items ≡ now → AreObjects (map view_object items) → first_unknown now (view_ids ids) ≡ None → 0 < length ids → names_of now < 4294967295 → MayBeLowered now (view_ids ids)
may_be items now ids e are known some few =
    let l : length (view_ids ids) ≡ length ids = length-map ids (λ (id : ObjectId). id.0) in
    may_be_lowered now (view_ids ids) (subst AreObjects e are) known (omega (arith, l, some)) few
