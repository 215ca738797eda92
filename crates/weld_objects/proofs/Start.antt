-- Where a lowered program's lets begin: each parameter stands for its value.
use Rattle.std.proofs.Common.{◌≡◌, ◌≢◌, ℕ, suc, ◌+◌, ◌<◌, ◌==◌, Bool, true, false, if◌then◌else◌, List, [], ◌∷◌, length, Option, Some, None, refl, ap, ◌∙◌, inl, inr, ◌⊎◌, arith, eqb-true, eq-eqb, ne_eqb}
use Rattle.std.proofs.lemmas.Bool.{cases_eq}
use Rattle.weld_data.specs.Value.{Value}
use Rattle.weld_tree.specs.declared.binder.Binder.{Binder}
use Rattle.weld_tree.specs.TypeTree.{TypeTree}
use Rattle.weld_tree.specs.Program.{IsOneOf, syms_of}
use Rattle.weld_meaning.specs.Environment.{Named, look_for}
use Rattle.weld_meaning.specs.Thing.{plain}
use Rattle.weld_meaning.specs.Typing.{ParamsFit, noted_type, param_types}
use Rattle.weld_meaning.specs.Meaning.{ArgumentsFit, with_arguments}
use Rattle.weld_objects.specs.Objects.{Object, given, call, with_one, AreObjectsFrom}
use Rattle.weld_objects.specs.Lowered.{new_binder, kept_values, inputs_of, params_of, value_numbers}
use Rattle.weld_objects.proofs.Placing.{Below}
use Rattle.weld_objects.proofs.State.{one_here, one_else, below_is_else, Standing, Ahead}

-- the number of each value that is kept, with what stands for it
abbrev pub start : {A : Type 0} → (TypeTree → Value → A) → (ℕ → Bool) → ℕ → ℕ → List Object → Named A
start of keep id n [] = []
start of keep id n (given t v ∷ os) = if keep id then (n, of t v) ∷ start of keep (suc id) (suc n) os else start of keep (suc id) n os
start of keep id n (call t ids p ∷ os) = start of keep (suc id) n os

pub start_arguments : (keep : ℕ → Bool) (id n : ℕ) (os : List Object) → with_arguments (params_of keep id n os) (inputs_of keep id os) ≡ start (λ t v. plain v) keep id n os
start_arguments keep id n [] = refl
start_arguments keep id n (given t v ∷ os) = by (keep id) (start_arguments keep (suc id) (suc n) os) (start_arguments keep (suc id) n os)
  where
    by : (c : Bool) → with_arguments (params_of keep (suc id) (suc n) os) (inputs_of keep (suc id) os) ≡ start (λ t v. plain v) keep (suc id) (suc n) os → with_arguments (params_of keep (suc id) n os) (inputs_of keep (suc id) os) ≡ start (λ t v. plain v) keep (suc id) n os
        → with_arguments (if c then new_binder n (Some t) ∷ params_of keep (suc id) (suc n) os else params_of keep (suc id) n os) (if c then v ∷ inputs_of keep (suc id) os else inputs_of keep (suc id) os)
        ≡ (if c then (n, plain v) ∷ start (λ t v. plain v) keep (suc id) (suc n) os else start (λ t v. plain v) keep (suc id) n os)
    by true k j = ap (λ g. (n, plain v) ∷ g) k
    by false k j = j
start_arguments keep id n (call t ids p ∷ os) = start_arguments keep (suc id) n os

pub start_types : (keep : ℕ → Bool) (id n : ℕ) (os : List Object) → param_types (params_of keep id n os) ≡ start (λ t v. t) keep id n os
start_types keep id n [] = refl
start_types keep id n (given t v ∷ os) = by (keep id) (start_types keep (suc id) (suc n) os) (start_types keep (suc id) n os)
  where
    by : (c : Bool) → param_types (params_of keep (suc id) (suc n) os) ≡ start (λ t v. t) keep (suc id) (suc n) os → param_types (params_of keep (suc id) n os) ≡ start (λ t v. t) keep (suc id) n os
        → param_types (if c then new_binder n (Some t) ∷ params_of keep (suc id) (suc n) os else params_of keep (suc id) n os) ≡ (if c then (n, t) ∷ start (λ t v. t) keep (suc id) (suc n) os else start (λ t v. t) keep (suc id) n os)
    by true k j = ap (λ g. (n, t) ∷ g) k
    by false k j = j
start_types keep id n (call t ids p ∷ os) = start_types keep (suc id) n os

numbers_before : (keep : ℕ → Bool) (id n : ℕ) (os : List Object) (numbers : ℕ → ℕ) (k : ℕ) → k < id → value_numbers keep id n os numbers k ≡ numbers k
numbers_before keep id n [] numbers k h = refl
numbers_before keep id n (given t v ∷ os) numbers k h = by (keep id) (numbers_before keep (suc id) (suc n) os (with_one id n numbers) k (omega (arith, h))) (numbers_before keep (suc id) n os numbers k (omega (arith, h)))
  where
    by : (c : Bool) → value_numbers keep (suc id) (suc n) os (with_one id n numbers) k ≡ with_one id n numbers k → value_numbers keep (suc id) n os numbers k ≡ numbers k
        → (if c then value_numbers keep (suc id) (suc n) os (with_one id n numbers) else value_numbers keep (suc id) n os numbers) k ≡ numbers k
    by true e f = e ∙ one_else id n numbers k (below_is_else k id h)
    by false e f = f
numbers_before keep id n (call t ids p ∷ os) numbers k h = numbers_before keep (suc id) n os numbers k (omega (arith, h))

-- what stands for something has that number at least
record Above {A : Type 0} (base : ℕ) (g : Named A) : Type 0 where
  none : (s : ℕ) → s < base → look_for s g ≡ None

start_above : {A : Type 0} (of : TypeTree → Value → A) (keep : ℕ → Bool) (id n : ℕ) (os : List Object) → Above n (start of keep id n os)
start_above of keep id n [] = record { none = λ s h. refl }
start_above of keep id n (given t v ∷ os) = record { none = λ s h. by s h (keep id) ((start_above of keep (suc id) (suc n) os).none s (omega (arith, h))) ((start_above of keep (suc id) n os).none s h) }
  where
    by : (s : ℕ) → s < n → (c : Bool) → look_for s (start of keep (suc id) (suc n) os) ≡ None → look_for s (start of keep (suc id) n os) ≡ None → look_for s (if c then (n, of t v) ∷ start of keep (suc id) (suc n) os else start of keep (suc id) n os) ≡ None
    by s h true e f = rw (ne_eqb s n (below_is_else s n h)) e
    by s h false e f = f
start_above of keep id n (call t ids p ∷ os) = record { none = (start_above of keep (suc id) n os).none }

found_behind : {A : Type 0} (n s : ℕ) (x y : A) (g : Named A) → Above (suc n) g → look_for s g ≡ Some y → look_for s ((n, x) ∷ g) ≡ Some y
found_behind {A} n s x y g a e = by (cases_eq s n)
  where
    clash : (m : Option A) → m ≡ None → m ≡ Some y → ⊥
    clash m p q = let no : ⊥ = cc in no

    by : (s ≡ n) ⊎ (s ≢ n) → look_for s ((n, x) ∷ g) ≡ Some y
    by (inl p) = absurd (clash (look_for s g) (a.none s (omega (arith, p))) e)
    by (inr ne) = rw (ne_eqb s n ne) e

ahead_behind : {A : Type 0} (of : TypeTree → Value → A) (keep : ℕ → Bool) (j n : ℕ) (numbers : ℕ → ℕ) (g : Named A) (x : A) (os : List Object) → Above (suc n) g → Ahead of keep j numbers g os → Ahead of keep j numbers ((n, x) ∷ g) os
ahead_behind of keep j n numbers g x [] a h = tt
ahead_behind of keep j n numbers g x (given t v ∷ os) a h = (λ on. found_behind n (numbers j) x (of t v) g a (h.0 on), ahead_behind of keep (suc j) n numbers g x os a h.1)
ahead_behind of keep j n numbers g x (call t ids p ∷ os) a h = ahead_behind of keep (suc j) n numbers g x os a h

pub start_ahead : {A : Type 0} (of : TypeTree → Value → A) (keep : ℕ → Bool) (id n : ℕ) (os : List Object) (numbers : ℕ → ℕ) → Ahead of keep id (value_numbers keep id n os numbers) (start of keep id n os) os
start_ahead of keep id n [] numbers = tt
start_ahead {A} of keep id n (given t v ∷ os) numbers = by (keep id) refl (start_ahead of keep (suc id) (suc n) os (with_one id n numbers)) (start_ahead of keep (suc id) n os numbers)
  where
    later : ℕ → ℕ
    later = value_numbers keep (suc id) (suc n) os (with_one id n numbers)

    rest : Named A
    rest = start of keep (suc id) (suc n) os

    own : later id ≡ n
    own = numbers_before keep (suc id) (suc n) os (with_one id n numbers) id (omega arith) ∙ one_here id n numbers

    clash : {C : Type 0} → keep id ≡ false → keep id ≡ true → C
    clash p q = let no : ⊥ = cc in absurd no

    by : (c : Bool) → keep id ≡ c → Ahead of keep (suc id) later rest os → Ahead of keep (suc id) (value_numbers keep (suc id) n os numbers) (start of keep (suc id) n os) os
        → (keep id ≡ true → look_for ((if c then later else value_numbers keep (suc id) n os numbers) id) (if c then (n, of t v) ∷ rest else start of keep (suc id) n os) ≡ Some (of t v))
        × Ahead of keep (suc id) (if c then later else value_numbers keep (suc id) n os numbers) (if c then (n, of t v) ∷ rest else start of keep (suc id) n os) os
    by true on k j = (λ q. (λ i. look_for (own i) ((n, of t v) ∷ rest)) ∙ rw (eq-eqb n n refl) refl, ahead_behind of keep (suc id) n later rest (of t v) os (start_above of keep (suc id) (suc n) os) k)
    by false off k j = (λ q. clash off q, j)
start_ahead of keep id n (call t ids p ∷ os) numbers = start_ahead of keep (suc id) n os numbers

pub start_below : {A : Type 0} (of : TypeTree → Value → A) (keep : ℕ → Bool) (id n : ℕ) (os : List Object) → Below (n + length (kept_values keep id os)) (start of keep id n os)
start_below of keep id n [] = record { none = λ s h. refl }
start_below of keep id n (given t v ∷ os) = by (keep id) (start_below of keep (suc id) (suc n) os) (start_below of keep (suc id) n os)
  where
    by : (c : Bool) → Below (suc n + length (kept_values keep (suc id) os)) (start of keep (suc id) (suc n) os) → Below (n + length (kept_values keep (suc id) os)) (start of keep (suc id) n os)
        → Below (n + length (if c then id ∷ kept_values keep (suc id) os else kept_values keep (suc id) os)) (if c then (n, of t v) ∷ start of keep (suc id) (suc n) os else start of keep (suc id) n os)
    by true k j = record { none = λ s h. rw (ne_eqb s n (λ e. omega (arith, h, e))) (k.none s (omega (arith, h))) }
    by false k j = j
start_below of keep id n (call t ids p ∷ os) = record { none = (start_below of keep (suc id) n os).none }

-- at the start no object is known yet
pub start_stands : {A : Type 0} (P : ℕ → A → Type 0) (keep : ℕ → Bool) (numbers : ℕ → ℕ) (g : Named A) → Standing P keep 0 numbers g
start_stands P keep numbers g = record { stands = λ k h on. absurd (omega (arith, h)) }

pub start_scoped : (bs : List Binder) (s : ℕ) (t : TypeTree) → look_for s (param_types bs) ≡ Some t → IsOneOf (syms_of bs) s
start_scoped [] s t e = let no : ⊥ = cc in absurd no
start_scoped (b ∷ bs) s t e = by (s == b.sym.0) refl (start_scoped bs s t) e
  where
    by : (c : Bool) → (s == b.sym.0) ≡ c → (look_for s (param_types bs) ≡ Some t → IsOneOf (syms_of bs) s) → (if c then Some (noted_type b.note) else look_for s (param_types bs)) ≡ Some t → (s ≡ b.sym.0) ⊎ IsOneOf (syms_of bs) s
    by true q k p = inl (eqb-true s b.sym.0 q)
    by false q k p = inr (k p)

-- ---- the parameters

pub params_fit : (keep : ℕ → Bool) (id n : ℕ) (types : ℕ → Option TypeTree) (os : List Object) → AreObjectsFrom id types os → ParamsFit (params_of keep id n os)
params_fit keep id n types [] are = tt
params_fit keep id n types (given t v ∷ os) are = by (keep id) (params_fit keep (suc id) (suc n) (with_one id (Some t) types) os are.1) (params_fit keep (suc id) n (with_one id (Some t) types) os are.1)
  where
    by : (c : Bool) → ParamsFit (params_of keep (suc id) (suc n) os) → ParamsFit (params_of keep (suc id) n os) → ParamsFit (if c then new_binder n (Some t) ∷ params_of keep (suc id) (suc n) os else params_of keep (suc id) n os)
    by true k j = ((are.0.formed, are.0.free), k)
    by false k j = j
params_fit keep id n types (call t ids p ∷ os) are = params_fit keep (suc id) n (with_one id (Some t) types) os are.1

pub inputs_fit : (keep : ℕ → Bool) (id n : ℕ) (types : ℕ → Option TypeTree) (os : List Object) → AreObjectsFrom id types os → ArgumentsFit (params_of keep id n os) (inputs_of keep id os)
inputs_fit keep id n types [] are = tt
inputs_fit keep id n types (given t v ∷ os) are = by (keep id) (inputs_fit keep (suc id) (suc n) (with_one id (Some t) types) os are.1) (inputs_fit keep (suc id) n (with_one id (Some t) types) os are.1)
  where
    by : (c : Bool) → ArgumentsFit (params_of keep (suc id) (suc n) os) (inputs_of keep (suc id) os) → ArgumentsFit (params_of keep (suc id) n os) (inputs_of keep (suc id) os)
        → ArgumentsFit (if c then new_binder n (Some t) ∷ params_of keep (suc id) (suc n) os else params_of keep (suc id) n os) (if c then v ∷ inputs_of keep (suc id) os else inputs_of keep (suc id) os)
    by true k j = (are.0.fits, k)
    by false k j = j
inputs_fit keep id n types (call t ids p ∷ os) are = inputs_fit keep (suc id) n (with_one id (Some t) types) os are.1
