-- What names stand for while a lowered program's lets are gone through.
use Rattle.std.proofs.Common.{◌≡◌, ◌≢◌, ℕ, suc, ◌+◌, ◌<◌, Bool, true, false, List, [], ◌∷◌, Option, Some, refl, sym, subst, ◌∙◌, inl, inr, ◌⊎◌, arith, eq-eqb, ne_eqb}
use Rattle.std.proofs.lemmas.Bool.{cases_eq}
use Rattle.weld_data.specs.Value.{Value}
use Rattle.weld_tree.specs.TypeTree.{TypeTree}
use Rattle.weld_meaning.specs.Environment.{Named, look_for}
use Rattle.weld_objects.specs.Objects.{Object, given, call, with_one}
use Rattle.weld_objects.proofs.Placing.{Below, found_below}

-- ---- ids

pub one_here : {A : Type 0} (id : ℕ) (x : A) (known : ℕ → A) → with_one id x known id ≡ x
one_here id x known = rw (eq-eqb id id refl) refl

pub one_else : {A : Type 0} (id : ℕ) (x : A) (known : ℕ → A) (k : ℕ) → k ≢ id → with_one id x known k ≡ known k
one_else id x known k ne = rw (ne_eqb k id ne) refl

pub below_is_else : (k id : ℕ) → k < id → k ≢ id
below_is_else k id h e = omega (arith, h, e)

-- what is known is of earlier ids
pub record Early {A : Type 0} (id : ℕ) (types : ℕ → Option A) : Type 0 where
  pub early : (k : ℕ) (t : A) → types k ≡ Some t → k < id

pub early_next : {A : Type 0} (id : ℕ) (t : A) (types : ℕ → Option A) → Early id types → Early (suc id) (with_one id (Some t) types)
early_next {A} id t types h = record { early = λ k u e. by k u (cases_eq k id) e }
  where
    by : (k : ℕ) (u : A) → (k ≡ id) ⊎ (k ≢ id) → with_one id (Some t) types k ≡ Some u → k < suc id
    by k u (inl p) e = omega (arith, p)
    by k u (inr ne) e = omega (arith, h.early k u (sym (one_else id (Some t) types k ne) ∙ e))

-- each of these is kept
abbrev pub AllKept : (ℕ → Bool) → List ℕ → Type 0
AllKept keep [] = Unit {0}
AllKept keep (id ∷ ids) = (keep id ≡ true) × AllKept keep ids

-- with a call that is kept are those that it is made on
abbrev pub IsClosedFrom : (ℕ → Bool) → ℕ → List Object → Type 0
IsClosedFrom keep id [] = Unit {0}
IsClosedFrom keep id (given t v ∷ os) = IsClosedFrom keep (suc id) os
IsClosedFrom keep id (call t ids p ∷ os) = (keep id ≡ true → AllKept keep ids) × IsClosedFrom keep (suc id) os

-- ---- names

-- the number of each earlier object that is kept stands for something that fits the object
pub record Standing {A : Type 0} (P : ℕ → A → Type 0) (keep : ℕ → Bool) (id : ℕ) (numbers : ℕ → ℕ) (g : Named A) : Type 0 where
  pub stands : (k : ℕ) → k < id → keep k ≡ true → (x : A) × P k x × (look_for (numbers k) g ≡ Some x)

-- the number of each later value that is kept stands for it
abbrev pub Ahead : {A : Type 0} → (TypeTree → Value → A) → (ℕ → Bool) → ℕ → (ℕ → ℕ) → Named A → List Object → Type 0
Ahead of keep id numbers g [] = Unit {0}
Ahead of keep id numbers g (given t v ∷ os) = (keep id ≡ true → look_for (numbers id) g ≡ Some (of t v)) × Ahead of keep (suc id) numbers g os
Ahead of keep id numbers g (call t ids p ∷ os) = Ahead of keep (suc id) numbers g os

pub no_clash : {C : Type 0} (b : Bool) → b ≡ true → b ≡ false → C
no_clash b p q = let no : ⊥ = cc in absurd no

-- earlier objects fit what is known then
pub record Carries {A : Type 0} (id : ℕ) (P Q : ℕ → A → Type 0) : Type 0 where
  pub carries : (k : ℕ) (x : A) → k < id → P k x → Q k x

-- past a value
pub standing_given : {A : Type 0} (P Q : ℕ → A → Type 0) (keep : ℕ → Bool) (id : ℕ) (numbers : ℕ → ℕ) (g : Named A) (x : A) → Carries id P Q → Q id x → (keep id ≡ true → look_for (numbers id) g ≡ Some x) → Standing P keep id numbers g → Standing Q keep (suc id) numbers g
standing_given {A} P Q keep id numbers g x c q f s = record { stands = λ k h kept. by k (cases_eq k id) h kept }
  where
    by : (k : ℕ) → (k ≡ id) ⊎ (k ≢ id) → k < suc id → keep k ≡ true → (y : A) × Q k y × (look_for (numbers k) g ≡ Some y)
    by k (inl e) h kept = subst (λ j. (y : A) × Q j y × (look_for (numbers j) g ≡ Some y)) (sym e) (x, q, f (subst (λ j. keep j ≡ true) e kept))
    by k (inr ne) h kept = let old = s.stands k (omega (arith, h, ne)) kept in (old.0, c.carries k old.0 (omega (arith, h, ne)) old.1, old.2)

-- past an object that isn't kept
pub standing_skip : {A : Type 0} (P Q : ℕ → A → Type 0) (keep : ℕ → Bool) (id : ℕ) (numbers : ℕ → ℕ) (g : Named A) → Carries id P Q → keep id ≡ false → Standing P keep id numbers g → Standing Q keep (suc id) numbers g
standing_skip {A} P Q keep id numbers g c off s = record { stands = λ k h kept. by k (cases_eq k id) h kept }
  where
    by : (k : ℕ) → (k ≡ id) ⊎ (k ≢ id) → k < suc id → keep k ≡ true → (y : A) × Q k y × (look_for (numbers k) g ≡ Some y)
    by k (inl e) h kept = no_clash (keep id) (subst (λ j. keep j ≡ true) e kept) off
    by k (inr ne) h kept = let old = s.stands k (omega (arith, h, ne)) kept in (old.0, c.carries k old.0 (omega (arith, h, ne)) old.1, old.2)

found_past : {A : Type 0} (next s : ℕ) (x y : A) (g : Named A) → Below next g → look_for s g ≡ Some y → look_for s ((next, x) ∷ g) ≡ Some y
found_past next s x y g b e = rw (ne_eqb s next (below_is_else s next (found_below next g s y b e))) e

found_new : {A : Type 0} (next : ℕ) (x : A) (g : Named A) → look_for next ((next, x) ∷ g) ≡ Some x
found_new next x g = rw (eq-eqb next next refl) refl

-- past a call whose `let` binds the number
pub standing_call : {A : Type 0} (P Q : ℕ → A → Type 0) (keep : ℕ → Bool) (id next : ℕ) (numbers : ℕ → ℕ) (g : Named A) (x : A) → Carries id P Q → Q id x → Below next g → Standing P keep id numbers g → Standing Q keep (suc id) (with_one id next numbers) ((next, x) ∷ g)
standing_call {A} P Q keep id next numbers g x c q b s = record { stands = λ k h kept. by k (cases_eq k id) h kept }
  where
    by : (k : ℕ) → (k ≡ id) ⊎ (k ≢ id) → k < suc id → keep k ≡ true → (y : A) × Q k y × (look_for (with_one id next numbers k) ((next, x) ∷ g) ≡ Some y)
    by k (inl e) h kept =
        let new : look_for (with_one id next numbers id) ((next, x) ∷ g) ≡ Some x = (λ i. look_for (one_here id next numbers i) ((next, x) ∷ g)) ∙ found_new next x g in
        subst (λ j. (y : A) × Q j y × (look_for (with_one id next numbers j) ((next, x) ∷ g) ≡ Some y)) (sym e) (x, q, new)
    by k (inr ne) h kept =
        let old = s.stands k (omega (arith, h, ne)) kept in
        (old.0, c.carries k old.0 (omega (arith, h, ne)) old.1, (λ i. look_for (one_else id next numbers k ne i) ((next, x) ∷ g)) ∙ found_past next (numbers k) x old.0 g b old.2)

pub ahead_call : {A : Type 0} (of : TypeTree → Value → A) (keep : ℕ → Bool) (id next j : ℕ) (numbers : ℕ → ℕ) (g : Named A) (x : A) (os : List Object) → id < j → Below next g → Ahead of keep j numbers g os → Ahead of keep j (with_one id next numbers) ((next, x) ∷ g) os
ahead_call of keep id next j numbers g x [] h b a = tt
ahead_call of keep id next j numbers g x (given t v ∷ os) h b a = (
  (λ kept. (λ i. look_for (one_else id next numbers j (λ e. omega (arith, h, e)) i) ((next, x) ∷ g)) ∙ found_past next (numbers j) x (of t v) g b (a.0 kept)),
  ahead_call of keep id next (suc j) numbers g x os (omega (arith, h)) b a.1,
)
ahead_call of keep id next j numbers g x (call t ids p ∷ os) h b a = ahead_call of keep id next (suc j) numbers g x os (omega (arith, h)) b a

pub below_call : {A : Type 0} (next more : ℕ) (g : Named A) (x : A) → Below next g → Below (suc next + more) ((next, x) ∷ g)
below_call next more g x b = record { none = λ s h. rw (ne_eqb s next (λ e. omega (arith, h, e))) (b.none s (omega (arith, h))) }

pub below_more : {A : Type 0} (next more : ℕ) (g : Named A) → Below next g → Below (next + more) g
below_more next more g b = record { none = λ s h. b.none s (omega (arith, h)) }
