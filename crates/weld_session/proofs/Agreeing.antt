-- What an object of a script comes to is what the graph's object does.
use Rattle.std.proofs.Common.{◌≡◌, ◌⊎◌, inl, inr, ℕ, zero, suc, ◌+◌, ◌<◌, ◌≢◌, List, [], ◌∷◌, ◌++◌, length, map, Some, slice_get, refl, ap, sym, ◌∙◌, append_assoc, arith}
use Rattle.std.proofs.lemmas.Bool.{cases_eq}
use Rattle.weld_data.specs.Value.{Value, number}
use Rattle.weld_tree.specs.TypeTree.{TypeTree, scalar}
use Rattle.weld_builders.specs.Outcome.{Outcome, done, stuck, and_then}
use Rattle.weld_objects.specs.Objects.{Object, given, call, with_one, all_done, answer, answers, denote}
use Rattle.weld_objects.proofs.State.{one_here, one_else, below_is_else}
use Rattle.weld_calls.specs.declared.call.Call.{Call}
use Rattle.weld_calls.specs.CallTypes.{HasItsOperator, FitsCall, answer_of}
use Rattle.weld_calls.specs.CallPrograms.{fragment}
use Rattle.weld_calls.specs.CallMeaning.{call_meaning}
use Rattle.weld_script.specs.declared.made.Made.{Made}
use Rattle.weld_script.specs.declared.made.Made.TheVariants as makes
use Rattle.weld_script.specs.Script.{AreBelow, AreMade, IsMade, AreInputs, types_at, declared_of, declared_type, made_type}
use Rattle.weld_session.specs.Answer.{left_after, made_value, values_from, script_denote}
use Rattle.weld_session.specs.Gathering.{object_of, objects_from}
use Rattle.weld_session.proofs.Building.{fit_after}

-- ---- a value comes to itself

answers_before : (id : ℕ) (os : List Object) (known : ℕ → Outcome Value) (k : ℕ) → k < id → answers id os known k ≡ known k
answers_before id [] known k h = refl
answers_before id (o ∷ os) known k h =
    answers_before (suc id) os (with_one id (answer known o) known) k (omega (arith, h)) ∙ one_else id (answer known o) known k (below_is_else k id h)

given_from : (id : ℕ) (os : List Object) (known : ℕ → Outcome Value) (j : ℕ) (t : TypeTree) (v : Value) → slice_get os j ≡ Some (given t v) → answers id os known (id + j) ≡ done v
given_from id [] known j t v e = let no : ⊥ = cc in absurd no
given_from id (o ∷ os) known zero t v e =
    let same : o ≡ given t v = cc in
    let here : id + 0 ≡ id = omega arith in
    let next = with_one id (answer known o) known in
    ap (answers (suc id) os next) here ∙ answers_before (suc id) os next id (omega arith) ∙ one_here id (answer known o) known ∙ ap (answer known) same
given_from id (o ∷ os) known (suc j) t v e =
    let further : id + suc j ≡ suc id + j = omega arith in
    ap (answers (suc id) os (with_one id (answer known o) known)) further ∙ given_from (suc id) os (with_one id (answer known o) known) j t v e

given_denotes : (os : List Object) (id : ℕ) (t : TypeTree) (v : Value) → slice_get os id ≡ Some (given t v) → denote os id ≡ done v
given_denotes os id t v e =
    let here : id ≡ 0 + id = omega arith in
    ap (denote os) here ∙ given_from 0 os (λ k. stuck) id t v e

-- ---- one object

-- an object that is a library call means its list
abbrev pub CallsMean : List Object → Type 0
CallsMean os = (id : ℕ) (t : TypeTree) (ids : List ℕ) (c : Call) (types : List TypeTree) → HasItsOperator c → FitsCall c types
    → slice_get os id ≡ Some (call t ids (fragment c types)) → denote os id ≡ and_then (all_done (map (denote os) ids)) (call_meaning c types)

same_known : (f g : ℕ → Outcome Value) (n : ℕ) (ids : List ℕ) → AreBelow n ids → ((k : ℕ) → k < n → f k ≡ g k) → map f ids ≡ map g ids
same_known f g n [] h same = refl
same_known f g n (id ∷ ids) h same = λ i. same id h.0 i ∷ same_known f g n ids h.1 same i

value_is : (os : List Object) → CallsMean os → (types : List TypeTree) (known : ℕ → Outcome Value) (inputs : List Value) (m : Made) (ms : List Made) (id : ℕ) → IsMade types m → AreInputs (declared_of (m ∷ ms)) inputs
    → ((k : ℕ) → k < length types → known k ≡ denote os k) → slice_get os id ≡ Some (object_of types inputs m) → made_value types known inputs m ≡ denote os id
value_is os mean types known [] (makes.Declared d) ms id may fit same e = absurd fit
value_is os mean types known (v ∷ vs) (makes.Declared d) ms id may fit same e = sym (given_denotes os id (declared_type d) v e)
value_is os mean types known inputs (makes.Literal k x) ms id may fit same e = sym (given_denotes os id (scalar k) (number k x) e)
value_is os mean types known inputs (makes.Call c ids) ms id may fit same e =
    ap (λ vs. and_then (all_done vs) (call_meaning c (types_at types ids))) (same_known known (denote os) (length types) ids may.before same)
    ∙ sym (mean id (answer_of c (types_at types ids)) ids c (types_at types ids) may.operator may.fits e)

-- ---- one after another

get_behind : (pre : List Object) (o : Object) (os : List Object) → slice_get (pre ++ o ∷ os) (length pre) ≡ Some o
get_behind [] o os = refl
get_behind (p ∷ pre) o os = get_behind pre o os

count_one : (ts : List TypeTree) (t : TypeTree) → length (ts ++ t ∷ []) ≡ suc (length ts)
count_one [] t = refl
count_one (u ∷ ts) t = ap suc (count_one ts t)

objects_one : (os : List Object) (o : Object) → length (os ++ o ∷ []) ≡ suc (length os)
objects_one [] o = refl
objects_one (p ∷ os) o = ap suc (objects_one os o)

with_same : (id : ℕ) (x : Outcome Value) (known f : ℕ → Outcome Value) → x ≡ f id → ((k : ℕ) → k < id → known k ≡ f k) → (k : ℕ) → k < suc id → with_one id x known k ≡ f k
with_same id x known f e same k h = by (cases_eq k id)
  where
    by : (k ≡ id) ⊎ (k ≢ id) → with_one id x known k ≡ f k
    by (inl p) = ap (with_one id x known) p ∙ one_here id x known ∙ e ∙ ap f (sym p)
    by (inr ne) = one_else id x known k ne ∙ same k (omega (arith, h, ne))

agree : (os : List Object) → CallsMean os → (pre : List Object) (types : List TypeTree) (known : ℕ → Outcome Value) (inputs : List Value) (ms : List Made)
    → os ≡ pre ++ objects_from types inputs ms → length pre ≡ length types → AreMade types ms → AreInputs (declared_of ms) inputs
    → ((k : ℕ) → k < length types → known k ≡ denote os k)
    → (k : ℕ) → k < length types + length ms → values_from types known inputs ms k ≡ denote os k
agree os mean pre types known inputs [] split count may fit same k h = same k (omega (arith, h))
agree os mean pre types known inputs (m ∷ ms) split count may fit same k h =
    let o = object_of types inputs m in
    let rest = objects_from (types ++ made_type types m ∷ []) (left_after m inputs) ms in
    let grown : length (types ++ made_type types m ∷ []) ≡ suc (length types) = count_one types (made_type types m) in
    let longer : length (pre ++ o ∷ []) ≡ suc (length pre) = objects_one pre o in
    let there : slice_get os (length types) ≡ Some o = (λ i. slice_get (split i) (sym count i)) ∙ get_behind pre o rest in
    let value : made_value types known inputs m ≡ denote os (length types) = value_is os mean types known inputs m ms (length types) may.0 fit same there in
    agree os mean (pre ++ o ∷ []) (types ++ made_type types m ∷ []) (with_one (length types) (made_value types known inputs m) known) (left_after m inputs) ms
    (split ∙ sym (append_assoc pre (o ∷ []) rest))
    (omega (arith, longer, grown, count)) may.1 (fit_after m ms inputs fit)
    (λ j l. with_same (length types) (made_value types known inputs m) known (denote os) value same j (omega (arith, l, grown)))
    k (omega (arith, h, grown))

-- what is made comes to what the graph's objects do
pub denotes_same : (made : List Made) (inputs : List Value) → CallsMean (objects_from [] inputs made) → AreMade [] made → AreInputs (declared_of made) inputs
    → (k : ℕ) → k < length made → script_denote made inputs k ≡ denote (objects_from [] inputs made) k
denotes_same made inputs mean may fit k h =
    agree (objects_from [] inputs made) mean [] [] (λ id. stuck) inputs made refl refl may fit (λ j l. absurd (omega (arith, l))) k (omega (arith, h))

pub all_same : (f g : ℕ → Outcome Value) (n : ℕ) (ids : List ℕ) → AreBelow n ids → ((k : ℕ) → k < n → f k ≡ g k) → map f ids ≡ map g ids
all_same = same_known
