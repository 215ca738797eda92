-- What is left to answer while a lowered program's lets are gone through.
use Rattle.std.proofs.Common.{◌≡◌, ℕ, suc, ◌<◌, Bool, true, false, if◌then◌else◌, List, [], ◌∷◌, map, refl, ◌∙◌, arith}
use Rattle.weld_data.specs.Value.{Value, struct, values}
use Rattle.weld_builders.specs.Outcome.{Outcome, done, fault, stuck, and_then, map_out}
use Rattle.weld_objects.specs.Objects.{Object, with_one, all_done, answer, answers}
use Rattle.weld_objects.specs.Lowered.{kept}
use Rattle.weld_objects.proofs.State.{one_here, one_else, below_is_else}

-- the struct of what these come to, where each of those is done
abbrev pub struct_after : List (Outcome Value) → List (Outcome Value) → Outcome Value
struct_after those these = and_then (all_done those) (λ vs. map_out (λ ws. struct (values ws)) (all_done these))

abbrev pub rest_answer : (ℕ → Bool) → ℕ → List Object → (ℕ → Outcome Value) → List ℕ → Outcome Value
rest_answer keep id os known shown = struct_after (map (answers id os known) (kept keep id os)) (map (answers id os known) shown)

-- what is known is still known later
pub answers_before : (id : ℕ) (os : List Object) (known : ℕ → Outcome Value) (k : ℕ) → k < id → answers id os known k ≡ known k
answers_before id [] known k h = refl
answers_before id (o ∷ os) known k h =
    answers_before (suc id) os (with_one id (answer known o) known) k (omega (arith, h)) ∙ one_else id (answer known o) known k (below_is_else k id h)

after_one : (o : Outcome Value) (those these : List (Outcome Value)) → struct_after (o ∷ those) these ≡ and_then o (λ v. struct_after those these)
after_one (done v) those these = by (all_done those)
  where
    by : (m : Outcome (List Value)) → and_then (map_out (λ (xs : List Value). v ∷ xs) m) (λ (vs : List Value). map_out (λ ws. struct (values ws)) (all_done these)) ≡ and_then m (λ (vs : List Value). map_out (λ ws. struct (values ws)) (all_done these))
    by (done xs) = refl
    by fault = refl
    by stuck = refl
after_one fault those these = refl
after_one stuck those these = refl

-- an object that is kept is answered before the others
pub rest_kept : (keep : ℕ → Bool) (id : ℕ) (o : Object) (os : List Object) (known : ℕ → Outcome Value) (shown : List ℕ) → keep id ≡ true
    → rest_answer keep id (o ∷ os) known shown ≡ and_then (answer known o) (λ v. rest_answer keep (suc id) os (with_one id (answer known o) known) shown)
rest_kept keep id o os known shown on =
    let later = with_one id (answer known o) known in
    let all = answers (suc id) os later in
    let own : all id ≡ answer known o = answers_before (suc id) os later id (omega arith) ∙ one_here id (answer known o) known in
    (λ i. struct_after (map all (if on i then id ∷ kept keep (suc id) os else kept keep (suc id) os)) (map all shown))
    ∙ after_one (all id) (map all (kept keep (suc id) os)) (map all shown)
    ∙ (λ i. and_then (own i) (λ v. struct_after (map all (kept keep (suc id) os)) (map all shown)))

pub rest_skipped : (keep : ℕ → Bool) (id : ℕ) (o : Object) (os : List Object) (known : ℕ → Outcome Value) (shown : List ℕ) → keep id ≡ false
    → rest_answer keep id (o ∷ os) known shown ≡ rest_answer keep (suc id) os (with_one id (answer known o) known) shown
rest_skipped keep id o os known shown off =
    let all = answers (suc id) os (with_one id (answer known o) known) in
    λ i. struct_after (map all (if off i then id ∷ kept keep (suc id) os else kept keep (suc id) os)) (map all shown)
