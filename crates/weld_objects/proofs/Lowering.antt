-- A lowered program is accepted, and means the objects one by one.
use Rattle.std.proofs.Common.{◌≡◌, ℕ, zero, suc, ◌+◌, ◌<◌, Bool, true, false, if◌then◌else◌, List, [], ◌∷◌, ◌++◌, map, length, Option, Some, None, refl, ap, sym, subst, ◌∙◌, inl, inr, arith}
use Rattle.weld_data.specs.Value.{Value, struct, values}
use Rattle.weld_tree.specs.TypeTree.{TypeTree, struct as tuple, pack}
use Rattle.weld_tree.specs.Types.{IsBuilderFree, AreBuilderFree}
use Rattle.weld_tree.specs.Program.{bound, IsProgram, IsOneOf, AreDistinct, syms_of}
use Rattle.weld_tree.specs.HasValue.{HasValue}
use Rattle.weld_builders.specs.Outcome.{Outcome, done, fault, stuck, and_then, map_out}
use Rattle.weld_meaning.specs.Thing.{plain}
use Rattle.weld_meaning.specs.Typing.{noted_type, ProgramHas, HasType}
use Rattle.weld_meaning.specs.Evaluation.{value_out, eval}
use Rattle.weld_meaning.specs.Meaning.{GivesOrFaults, meaning}
use Rattle.weld_meaning.specs.Accepted.{IsAccepted}
use Rattle.weld_meaning.specs.Environment.{Named, look_for}
use Rattle.weld_meaning.proofs.Walk.{linear_of_walk}
use Rattle.weld_objects.specs.Objects.{Object, given, call, type_of, type_at, with_one, all_done, denote, AreObjectsFrom, AreObjects, AreBefore}
use Rattle.weld_objects.specs.Reached.{IsReached, is_shown, reached}
use Rattle.weld_objects.specs.Lowered.{kept, kept_values, inputs_of, params_of, value_numbers, lets, lowered, shown_answer, shown_type, MayBeLowered}
use Rattle.weld_objects.proofs.Lists.{upward, upward-append, upward_distinct, length-upward}
use Rattle.weld_objects.proofs.Placing.{Below}
use Rattle.weld_objects.proofs.State.{no_clash}
use Rattle.weld_objects.proofs.Means.{Meant, lets_mean}
use Rattle.weld_objects.proofs.Rules.{Typed, Names, KeepsRules, lets_keep}
use Rattle.weld_objects.proofs.Counts.{lets_binders, lets_bound, params_bound, params_noted, count_of_binders}
use Rattle.weld_objects.proofs.Start.{start, start_arguments, start_types, start_ahead, start_below, start_stands, start_scoped, params_fit}
use Rattle.weld_objects.proofs.ReachedLaws.{none_known, closed, shown_kept, reached_is, is_reached, reached_there}
use Rattle.weld_objects.proofs.Growing.{types_are}
use Rattle.weld_objects.proofs.Sound.{Laws, never_stuck, objects_sound}

from_none : (n : ℕ) → n ≡ 0 + n
from_none n = omega arith

first_number : (ℕ → Bool) → List Object → ℕ
first_number keep os = length (kept_values keep 0 os)

below_first : {A : Type 0} (of : TypeTree → Value → A) (keep : ℕ → Bool) (os : List Object) → Below (length (kept_values keep 0 os)) (start of keep 0 0 os)
below_first of keep os = subst (λ n. Below n (start of keep 0 0 os)) (sym (from_none (length (kept_values keep 0 os)))) (start_below of keep 0 0 os)

-- ---- what it means

plain_value : (o : Outcome Value) → value_out (map_out plain o) ≡ o
plain_value (done v) = refl
plain_value fault = refl
plain_value stuck = refl

pub lowered_means : Laws → (os : List Object) (shown : List ℕ) → MayBeLowered os shown → meaning (lowered (reached os shown) os shown) (inputs_of (reached os shown) 0 os) ≡ shown_answer (reached os shown) os shown
lowered_means laws os shown m =
    let keep = reached os shown in
    let n = length (kept_values keep 0 os) in
    let numbers = value_numbers keep 0 0 os (λ id. id) in
    let env = start (λ t v. plain v) keep 0 0 os in
    (λ i. value_out (eval (lets keep 0 n numbers shown os) (start_arguments keep 0 0 os i)))
    ∙ ap value_out (lets_mean (never_stuck laws) keep shown (shown_kept os shown) os 0 n numbers (λ id. stuck) (λ id. None) env m.objects none_known (closed os shown m.objects)
    (subst (λ k. AreBefore k shown) (from_none (length os)) m.there)
    (start_stands (Meant (λ id. stuck) (λ id. None)) keep numbers env) (start_ahead (λ t v. plain v) keep 0 0 os (λ id. id)) (below_first (λ t v. plain v) keep os))
    ∙ plain_value (shown_answer keep os shown)

-- ---- the rules

rules : (os : List Object) (shown : List ℕ) → MayBeLowered os shown → KeepsRules (lowered (reached os shown) os shown).body (start (λ t v. t) (reached os shown) 0 0 os) [] (syms_of (params_of (reached os shown) 0 0 os)) (shown_type os shown)
rules os shown m =
    let keep = reached os shown in
    let n = length (kept_values keep 0 os) in
    let numbers = value_numbers keep 0 0 os (λ id. id) in
    let g = start (λ t v. t) keep 0 0 os in
    let scope = syms_of (params_of keep 0 0 os) in
    let names : Names g [] scope = record {
      values = λ s. refl;
      scoped = λ s t e. start_scoped (params_of keep 0 0 os) s t ((λ i. look (start_types keep 0 0 os i) s) ∙ e);
    } in
    subst (λ (types : ℕ → Option TypeTree). KeepsRules (lets keep 0 n numbers shown os) g [] scope (tuple (pack (map (λ k. noted_type (types k)) shown)))) (types_are os)
    (lets_keep keep shown m.some (shown_kept os shown) os 0 n numbers (λ id. None) g [] scope m.objects none_known (closed os shown m.objects)
    (subst (λ k. AreBefore k shown) (from_none (length os)) m.there)
    (start_stands (Typed (λ id. None)) keep numbers g) (start_ahead (λ t v. t) keep 0 0 os (λ id. id)) (below_first (λ t v. t) keep os) names)
  where
    look : Named TypeTree → ℕ → Option TypeTree
    look g s = look_for s g

-- the types of what is shown are builder-free
shown_free : (os : List Object) (shown : List ℕ) → AreObjects os → AreBuilderFree (pack (map (λ id. noted_type (type_at os id)) shown))
shown_free os [] are = tt
shown_free os (id ∷ ids) are = (free_at id 0 (λ k. None) os are, shown_free os ids are)
  where
    free_at : (j k : ℕ) (types : ℕ → Option TypeTree) (os : List Object) → AreObjectsFrom k types os → IsBuilderFree (noted_type (type_at os j))
    free_at j k types [] are = tt
    free_at zero k types (given t v ∷ os) are = are.0.free
    free_at zero k types (call t ids p ∷ os) are = are.0.typed.builder_free
    free_at (suc j) k types (o ∷ os) are = free_at j (suc k) (with_one k (Some (type_of o)) types) os are.1

pub lowered_typed : (os : List Object) (shown : List ℕ) → MayBeLowered os shown → ProgramHas (lowered (reached os shown) os shown) (shown_type os shown)
lowered_typed os shown m = record {
  params = params_fit (reached os shown) 0 0 (λ id. None) os m.objects;
  body = subst (λ g. HasType (lowered (reached os shown) os shown).body g (shown_type os shown)) (sym (start_types (reached os shown) 0 0 os)) (rules os shown m).typed;
  builder_free = shown_free os shown m.objects;
}

pub lowered_accepted : (os : List Object) (shown : List ℕ) → MayBeLowered os shown → IsAccepted (lowered (reached os shown) os shown)
lowered_accepted os shown m =
    let linear = linear_of_walk (lowered (reached os shown) os shown) (rules os shown m).unrefused in
    record { typed = (shown_type os shown, lowered_typed os shown m); keeps = linear.0; splits = linear.1 }

pub lowered_program : (os : List Object) (shown : List ℕ) → MayBeLowered os shown → IsProgram (lowered (reached os shown) os shown).params (lowered (reached os shown) os shown).body
lowered_program os shown m =
    let keep = reached os shown in
    let n = length (kept_values keep 0 os) in
    let numbers = value_numbers keep 0 0 os (λ id. id) in
    let k = lets_binders keep 0 os in
    let e : n ≡ 0 + n = from_none n in
    let numbered : syms_of (params_of keep 0 0 os) ++ bound (lets keep 0 n numbers shown os) ≡ upward 0 (n + k) =
    (λ i. params_bound keep 0 0 os i ++ lets_bound keep shown os 0 n numbers (λ id. None) m.objects i) ∙ (λ i. upward 0 n ++ upward (e i) k) ∙ upward-append 0 n k in
    let all = count_of_binders keep 0 os in
    let few : length (upward 0 (n + k)) < 4294967295 = (let l = length-upward 0 (n + k) in omega (arith, l, all, m.few)) in
    record {
      distinct = subst AreDistinct (sym numbered) (upward_distinct 0 (n + k));
      few = subst (λ (xs : List ℕ). length xs < 4294967295) (sym numbered) few;
      noted = params_noted keep 0 0 os;
      scoped = (rules os shown m).scoped;
      well_made = (rules os shown m).well_made;
    }

-- ---- faults and values

type_there : (os : List Object) (id : ℕ) → id < length os → (t : TypeTree) × (type_at os id ≡ Some t)
type_there [] id h = absurd (omega (arith, h))
type_there (o ∷ os) zero h = (type_of o, refl)
type_there (o ∷ os) (suc id) h = type_there os id (omega (arith, h))

kept_listed : (keep : ℕ → Bool) (id j : ℕ) (os : List Object) → j < length os → keep (id + j) ≡ true → IsOneOf (kept keep id os) (id + j)
kept_listed keep id j [] h on = absurd (omega (arith, h))
kept_listed keep id zero (o ∷ os) h on = by (keep id) refl
  where
    same : id ≡ id + 0
    same = omega arith

    by : (c : Bool) → keep id ≡ c → IsOneOf (if c then id ∷ kept keep (suc id) os else kept keep (suc id) os) (id + 0)
    by true e = inl (sym same)
    by false e = no_clash (keep id) (ap keep same ∙ on) e
kept_listed keep id (suc j) (o ∷ os) h on = by (keep id) (subst (IsOneOf (kept keep (suc id) os)) same (kept_listed keep (suc id) j os (omega (arith, h)) (ap keep same ∙ on)))
  where
    same : suc id + j ≡ id + suc j
    same = omega arith

    by : (c : Bool) → IsOneOf (kept keep (suc id) os) (id + suc j) → IsOneOf (if c then id ∷ kept keep (suc id) os else kept keep (suc id) os) (id + suc j)
    by true k = inr k
    by false k = k

kept_there : (keep : ℕ → Bool) (id : ℕ) (os : List Object) (k : ℕ) → IsOneOf (kept keep id os) k → (k < id + length os) × (keep k ≡ true)
kept_there keep id [] k h = absurd h
kept_there keep id (o ∷ os) k h = by (keep id) refl (λ q. let r = kept_there keep (suc id) os k q in (omega (arith, r.0), r.1)) h
  where
    by : (c : Bool) → keep id ≡ c → (IsOneOf (kept keep (suc id) os) k → (k < id + suc (length os)) × (keep k ≡ true)) → IsOneOf (if c then id ∷ kept keep (suc id) os else kept keep (suc id) os) k → (k < id + suc (length os)) × (keep k ≡ true)
    by true on rest (inl e) = (omega (arith, e), ap keep e ∙ on)
    by true on rest (inr q) = rest q
    by false off rest q = rest q

-- each of these is done, or one faults and none is stuck
faults : (known : ℕ → Outcome Value) (ids : List ℕ) (id : ℕ) → IsOneOf ids id → ((k : ℕ) → IsOneOf ids k → GivesOrFaults (λ v. Unit {0}) (known k)) → known id ≡ fault → all_done (map known ids) ≡ fault
faults known [] id i s e = absurd i
faults known (k ∷ ids) id (inl p) s e = ap (λ o. and_then o (λ x. map_out (λ xs. x ∷ xs) (all_done (map known ids)))) (ap known (sym p) ∙ e)
faults known (k ∷ ids) id (inr i) s e = by (known k) (s k (inl refl)) (faults known ids id i (λ j q. s j (inr q)) e)
  where
    by : (o : Outcome Value) → GivesOrFaults (λ v. Unit {0}) o → all_done (map known ids) ≡ fault → and_then o (λ x. map_out (λ xs. x ∷ xs) (all_done (map known ids))) ≡ fault
    by (done v) h r = ap (map_out (λ xs. v ∷ xs)) r
    by fault h r = refl
    by stuck h r = absurd h

all_are_done : (known : ℕ → Outcome Value) (ids : List ℕ) → ((k : ℕ) → IsOneOf ids k → (v : Value) × (known k ≡ done v)) → (vs : List Value) × (all_done (map known ids) ≡ done vs)
all_are_done known [] s = ([], refl)
all_are_done known (k ∷ ids) s =
    let here = s k (inl refl) in let rest = all_are_done known ids (λ j q. s j (inr q)) in
    (here.0 ∷ rest.0, (λ i. and_then (here.1 i) (λ x. map_out (λ xs. x ∷ xs) (rest.1 i))))

gives : (P : Value → Type 0) (o : Outcome Value) → GivesOrFaults P o → GivesOrFaults (λ v. Unit {0}) o
gives P (done v) h = tt
gives P fault h = tt
gives P stuck h = h

pub lowered_faults : Laws → (os : List Object) (shown : List ℕ) (id : ℕ) → MayBeLowered os shown → IsReached os shown id → denote os id ≡ fault → meaning (lowered (reached os shown) os shown) (inputs_of (reached os shown) 0 os) ≡ fault
lowered_faults laws os shown id m r e =
    let keep = reached os shown in
    let listed : IsOneOf (kept keep 0 os) id =
    subst (IsOneOf (kept keep 0 os)) (sym (from_none id)) (kept_listed keep 0 id os (reached_there os shown id m.objects m.there r) (subst (λ k. keep k ≡ true) (from_none id) (reached_is os shown id m.objects r))) in
    let sound : (k : ℕ) → IsOneOf (kept keep 0 os) k → GivesOrFaults (λ v. Unit {0}) (denote os k) =
    λ k q. let below = (kept_there keep 0 os k q).0 in let t = type_there os k (omega (arith, below)) in gives (HasValue t.0) (denote os k) (objects_sound laws os k t.0 m.objects t.1) in
    lowered_means laws os shown m ∙ ap (λ o. and_then o (λ (vs : List Value). map_out (λ ws. struct (values ws)) (all_done (map (denote os) shown)))) (faults (denote os) (kept keep 0 os) id listed sound e)

pub lowered_done : Laws → (os : List Object) (shown : List ℕ) → MayBeLowered os shown → ((id : ℕ) → IsReached os shown id → (v : Value) × (denote os id ≡ done v))
    → (vs : List Value) × (all_done (map (denote os) shown) ≡ done vs) × (meaning (lowered (reached os shown) os shown) (inputs_of (reached os shown) 0 os) ≡ done (struct (values vs)))
lowered_done laws os shown m all =
    let keep = reached os shown in
    let reached_done = all_are_done (denote os) (kept keep 0 os) (λ k q. all k (is_reached os shown k (kept_there keep 0 os k q).1)) in
    let shown_done = all_are_done (denote os) shown (λ k q. all k (is_shown k q)) in
    (shown_done.0, shown_done.1, lowered_means laws os shown m ∙ (λ i. and_then (reached_done.1 i) (λ (vs : List Value). map_out (λ ws. struct (values ws)) (shown_done.1 i))))
