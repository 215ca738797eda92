-- Values that stand in slots that follow each other.
use Rattle.std.proofs.Common.{◌≡◌, ℕ, zero, suc, ◌+◌, ◌<◌, ◌≤◌, ◌⊎◌, inl, inr, List, [], ◌∷◌, ◌++◌, length, set, slice_get, Option, Some, refl, ap, sym, subst, ◌∙◌, arith}
use Rattle.std.proofs.lemmas.Bool.{cases_lt}
use Rattle.weld_data.specs.declared.kind.Kind.TheVariants as kinds
use Rattle.weld_data.specs.Value.{Value, number, struct, no_values, and_value, values}
use Rattle.weld_turns.specs.CodeView.{Slots, field_values, shape_value}
use Rattle.weld_turns.specs.Scopes.{first_of, rest_of, room_of}
use Rattle.weld_turns.specs.StepView.{Words, shown}
use Rattle.weld_turns.specs.declared.code.Shape.{Shape}
use Rattle.weld_turns.specs.declared.code.Shape.TheVariants.{One, Fields}

-- ---- slots that have what others have

pub fields_same : (n first at : ℕ) (f g : Slots) → ((j : ℕ) → j < n → g (at + j) ≡ f (first + j)) → field_values n at g ≡ field_values n first f
fields_same zero first at f g h = refl
fields_same (suc n) first at f g h =
    let to : at ≡ at + 0 = omega arith in
    let from : first + 0 ≡ first = omega arith in
    let here : g at ≡ f first = ap g to ∙ h 0 (omega arith) ∙ ap f from in
    let rest : field_values n (suc at) g ≡ field_values n (suc first) f =
    fields_same n (suc first) (suc at) f g (λ j less. ap g (next at j) ∙ h (suc j) (omega (arith, less)) ∙ ap f (sym (next first j))) in
    (λ i. and_value (here i) (rest i))
  where
    next : (k j : ℕ) → suc k + j ≡ k + suc j
    next k j = omega arith

pub shape_same : (k : Shape) (first at : ℕ) (f g : Slots) → ((j : ℕ) → j < room_of k → g (at + j) ≡ f (first + j)) → shape_value k at g ≡ shape_value k first f
shape_same One first at f g h =
    let to : at ≡ at + 0 = omega arith in
    let from : first + 0 ≡ first = omega arith in
    ap g to ∙ h 0 (omega arith) ∙ ap f from
shape_same (Fields n) first at f g h = ap struct (fields_same n first at f g h)

-- what was moved to the first ones
pub moved : (k : Shape) (first : ℕ) (f g : Slots) → ((j : ℕ) → j < room_of k → g j ≡ f (first + j)) → shape_value k 0 g ≡ shape_value k first f
moved k first f g h = shape_same k first 0 f g (λ j less. (let here : 0 + j ≡ j = omega arith in ap g here ∙ h j less))

pub same_state : (k : Shape) (f g : Slots) → ((j : ℕ) → j < room_of k → g j ≡ f j) → shape_value k 0 g ≡ shape_value k 0 f
same_state k f g h = moved k 0 f g (λ j less. (let here : j ≡ 0 + j = omega arith in h j less ∙ ap f here))

pub fields_moved : (k : Shape) (n first : ℕ) (f g : Slots) → k ≡ Fields n → ((j : ℕ) → j < n → g j ≡ f (first + j)) → shape_value k 0 g ≡ shape_value k first f
fields_moved k n first f g is h = subst (λ (s : Shape). shape_value s 0 g ≡ shape_value s first f) (sym is) (moved (Fields n) first f g h)

pub words_moved : (k : Shape) (n first : ℕ) (w u : Words) → k ≡ Fields n → ((j : ℕ) → j < n → u j ≡ w (first + j)) → shape_value k 0 (shown u) ≡ shape_value k first (shown w)
words_moved k n first w u is h = fields_moved k n first (shown w) (shown u) is (λ j less. ap (number kinds.I64) (h j less))

-- the slots are numbers of kind i64 with these words
pub words_put : (k : Shape) (n : ℕ) (f : Slots) (w : Words) → n ≡ room_of k → ((j : ℕ) → j < n → f j ≡ number kinds.I64 (w j)) → shape_value k 0 (shown w) ≡ shape_value k 0 f
words_put k n f w is h = same_state k f (shown w) (λ j less. sym (h j (omega (arith, less, is))))

-- ---- lists of values

pub fields_are : (vs : List Value) (first : ℕ) (f : Slots) → ((j : ℕ) → j < length vs → slice_get vs j ≡ Some (f (first + j))) → field_values (length vs) first f ≡ values vs
fields_are [] first f h = refl
fields_are (v ∷ vs) first f h =
    let from : first + 0 ≡ first = omega arith in
    let got : Some v ≡ Some (f (first + 0)) = h 0 (omega arith) in
    let there : v ≡ f (first + 0) = cc in
    let here : f first ≡ v = sym (there ∙ ap f from) in
    let rest : field_values (length vs) (suc first) f ≡ values vs =
    fields_are vs (suc first) f (λ j less. (let next : first + suc j ≡ suc first + j = omega arith in h (suc j) (omega (arith, less)) ∙ ap (λ (i : ℕ). Some (f i)) next)) in
    (λ i. and_value (here i) (rest i))

pub state_put : (vs : List Value) (n : ℕ) (f : Slots) → n ≡ length vs → ((j : ℕ) → j < length vs → slice_get vs j ≡ Some (f j)) → struct (field_values n 0 f) ≡ struct (values vs)
state_put vs n f is h =
    ap (λ (k : ℕ). struct (field_values k 0 f)) is ∙ ap struct (fields_are vs 0 f (λ j less. (let here : j ≡ 0 + j = omega arith in h j less ∙ ap (λ (i : ℕ). Some (f i)) here)))

snoc : (vs : List Value) (k first : ℕ) (f : Slots) (v : Value) → values vs ≡ field_values k first f → v ≡ f (first + k) → values (vs ++ v ∷ []) ≡ field_values (suc k) first f
snoc [] zero first f v h e = let from : first + 0 ≡ first = omega arith in ap (λ (x : Value). and_value x no_values) (e ∙ ap f from)
snoc [] (suc k) first f v h e = let no : ⊥ = cc in absurd no
snoc (x ∷ vs) zero first f v h e = let no : ⊥ = cc in absurd no
snoc (x ∷ vs) (suc k) first f v h e =
    let next : first + suc k ≡ suc first + k = omega arith in
    let rest : values (vs ++ v ∷ []) ≡ field_values (suc k) (suc first) f = snoc vs k (suc first) f v (ap rest_of h) (e ∙ ap f next) in
    (λ i. and_value (ap first_of h i) (rest i))

pub field_added : (vs ws : List Value) (k : ℕ) (f : Slots) (v : Value) → ws ≡ vs ++ v ∷ [] → values vs ≡ field_values k 0 f → v ≡ f k → values ws ≡ field_values (k + 1) 0 f
field_added vs ws k f v is h e =
    let here : k ≡ 0 + k = omega arith in
    let more : suc k ≡ k + 1 = omega arith in
    ap values is ∙ snoc vs k 0 f v h (e ∙ ap f here) ∙ ap (λ (n : ℕ). field_values n 0 f) more

-- ---- what is written one after another

got_there : {A : Type 0} → (xs : List A) (i : ℕ) (x : A) → i < length xs → slice_get (set xs i x) i ≡ Some x
got_there [] i x h = absurd (omega arith)
got_there (y ∷ xs) zero x h = refl
got_there (y ∷ xs) (suc i) x h = got_there xs i x (omega arith)

got_beside : {A : Type 0} → (xs : List A) (i j : ℕ) (x : A) → (j ≡ i → ⊥) → slice_get (set xs i x) j ≡ slice_get xs j
got_beside [] i j x h = refl
got_beside (y ∷ xs) zero zero x h = absurd (h refl)
got_beside (y ∷ xs) zero (suc j) x h = refl
got_beside (y ∷ xs) (suc i) zero x h = refl
got_beside (y ∷ xs) (suc i) (suc j) x h = got_beside xs i j x (λ e. h (ap suc e))

-- what holds of those before a place, and of what is written there, holds of one more
pub one_more_set : {A : Type 0} → (p : ℕ → Option A → Type 0) (xs : List A) (k : ℕ) (x : A) → k < length xs → p k (Some x) → ((j : ℕ) → j < k → p j (slice_get xs j)) → (j : ℕ) → j < k + 1 → p j (slice_get (set xs k x) j)
one_more_set p xs k x there here before j less = by (cases_lt j k)
  where
    by : (j < k) ⊎ (k ≤ j) → p j (slice_get (set xs k x) j)
    by (inl h) = subst (λ o. p j o) (sym (got_beside xs k j x (λ q. omega (arith, q, h)))) (before j h)
    by (inr h) = let last : k ≡ j = omega (arith, h, less) in subst (λ (i : ℕ). p i (slice_get (set xs k x) i)) last (subst (λ o. p k o) (sym (got_there xs k x there)) here)

-- what lies behind it is as it was
pub behind_set : {A : Type 0} → (xs os : List A) (k : ℕ) (x : A) → ((j : ℕ) → k ≤ j → slice_get xs j ≡ slice_get os j) → (j : ℕ) → k + 1 ≤ j → slice_get (set xs k x) j ≡ slice_get os j
behind_set xs os k x h j more = got_beside xs k j x (λ q. omega (arith, q, more)) ∙ h j (omega (arith, more))
