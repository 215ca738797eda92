-- Names looked for among others.
use Rattle.std.proofs.Common.{◌≡◌, ◌≢◌, ℕ, ◌==◌, Bool, true, false, if◌then◌else◌, [], ◌∷◌, Option, Some, None, refl, ap, sym, ◌∙◌, eqb-true, eq-eqb, ne_eqb}
use Rattle.weld_meaning.specs.Environment.{Named, look_for}

pub skip : {A : Type 0} (s t : ℕ) (x : A) (g : Named A) → s ≢ t → look_for s ((t, x) ∷ g) ≡ look_for s g
skip s t x g ne = rw (ne_eqb s t ne) refl

pub there : {A : Type 0} (s : ℕ) (x : A) (g : Named A) → look_for s ((s, x) ∷ g) ≡ Some x
there s x g = rw (eq-eqb s s refl) refl

-- one name further out, under one that is put before
same_under : {A : Type 0} (s t : ℕ) (x : A) (g h : Named A) → (s ≢ t → look_for s g ≡ look_for s h) → look_for s ((t, x) ∷ g) ≡ look_for s ((t, x) ∷ h)
same_under s t x g h f = by (s == t) refl
  where
    by : (b : Bool) → (s == t) ≡ b → (if b then Some x else look_for s g) ≡ (if b then Some x else look_for s h)
    by true p = refl
    by false p = f (λ e. let q : (s == t) ≡ true = eq-eqb s t e in let wrong : ⊥ = cc in wrong)

-- the third name first, and another name behind
pub forward : {A : Type 0} (s x n b c : ℕ) (vx vn vb vc : A) (g : Named A) → b ≢ x → b ≢ n → s ≢ c → look_for s ((x, vx) ∷ (n, vn) ∷ (b, vb) ∷ g) ≡ look_for s ((b, vb) ∷ (x, vx) ∷ (n, vn) ∷ (c, vc) ∷ g)
forward s x n b c vx vn vb vc g bx bn sc = by (s == b) refl
  where
    by : (d : Bool) → (s == b) ≡ d → look_for s ((x, vx) ∷ (n, vn) ∷ (b, vb) ∷ g) ≡ (if d then Some vb else look_for s ((x, vx) ∷ (n, vn) ∷ (c, vc) ∷ g))
    by true p =
        let e : s ≡ b = eqb-true s b p in
        let sx : s ≢ x = λ k. bx (sym e ∙ k) in
        let sn : s ≢ n = λ k. bn (sym e ∙ k) in
        skip s x vx ((n, vn) ∷ (b, vb) ∷ g) sx ∙ skip s n vn ((b, vb) ∷ g) sn ∙ ap (λ d. if d then Some vb else look_for s g) p
    by false p =
        let sb : s ≢ b = λ k. let q : (s == b) ≡ true = eq-eqb s b k in let wrong : ⊥ = cc in wrong in
        same_under s x vx ((n, vn) ∷ (b, vb) ∷ g) ((n, vn) ∷ (c, vc) ∷ g)
        (λ sx. same_under s n vn ((b, vb) ∷ g) ((c, vc) ∷ g) (λ sn. skip s b vb g sb ∙ sym (skip s c vc g sc)))

-- three names over others
pub over : {A : Type 0} (s x n b : ℕ) (vx vn vb : A) (g h : Named A) → (s ≢ x → s ≢ n → s ≢ b → look_for s g ≡ look_for s h) → look_for s ((x, vx) ∷ (n, vn) ∷ (b, vb) ∷ g) ≡ look_for s ((x, vx) ∷ (n, vn) ∷ (b, vb) ∷ h)
over s x n b vx vn vb g h f =
    same_under s x vx ((n, vn) ∷ (b, vb) ∷ g) ((n, vn) ∷ (b, vb) ∷ h)
    (λ sx. same_under s n vn ((b, vb) ∷ g) ((b, vb) ∷ h) (λ sn. same_under s b vb g h (λ sb. f sx sn sb)))

-- one name for three others
pub instead : {A : Type 0} (s m x n c : ℕ) (vm vx vn vc : A) (g : Named A) → s ≢ m → s ≢ x → s ≢ n → s ≢ c → look_for s ((m, vm) ∷ g) ≡ look_for s ((x, vx) ∷ (n, vn) ∷ (c, vc) ∷ g)
instead s m x n c vm vx vn vc g sm sx sn sc =
    skip s m vm g sm ∙ sym (skip s x vx ((n, vn) ∷ (c, vc) ∷ g) sx ∙ skip s n vn ((c, vc) ∷ g) sn ∙ skip s c vc g sc)
