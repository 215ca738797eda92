-- What is in scope: of a tree, and of what is read from its printed text.
use Rattle.std.proofs.Common.{◌≡◌, ◌≢◌, ℕ, suc, ◌+◌, ◌<◌, ◌≤◌, ◌^◌, Bool, true, false, ◌||◌, cond, List, ◌∷◌, refl, sym, ap, subst, ◌∙◌, arith, inl, inr, ◌⊎◌, eq-eqb}
use Rattle.std.specs.Prelude.{bytes_eq}
use Rattle.std.specs.Fmt.{decimal}
use Rattle.std.proofs.lemmas.Fmt.{decimal_injective}
use Rattle.std.proofs.lemmas.Bool.{ne_eqb, cases_eq}
use Rattle.std.proofs.lemmas.Slice.Eq.{bytes_eq-Decides}
use Rattle.weld_tree.specs.Program.{IsOneOf}
use Rattle.weld_tree.specs.Blank.{distance}
use Rattle.weld_spell.specs.ProgramOf.{Bound, number_in}
use Rattle.weld_print.specs.PrintText.{name_text}
use Rattle.weld_spell.specs.Names.{bears}
use Rattle.weld_print.proofs.Sound.{words}

-- the names in scope of a tree, the newest first, and, where its printed text is read, their numbers and the binders
-- that bear them
pub record Scene : Type 0 where
  pub scope : List ℕ
  pub numbers : List ℕ
  pub bounds : List Bound

-- each name in scope is found, below the next number
pub record Agrees (names : List ℕ) (s : Scene) (n : ℕ) : Type 0 where
  pub found : (u : ℕ) → IsOneOf s.scope u → distance s.numbers (number_in s.bounds (name_text names u)) ≡ distance s.scope u
  pub below : (u : ℕ) → IsOneOf s.scope u → number_in s.bounds (name_text names u) < n
  pub small : (u : ℕ) → IsOneOf s.scope u → distance names u < 2 ^ 64
  pub borne : (u : ℕ) → IsOneOf s.scope u → bears (words s.bounds) (name_text names u) ≡ true

pub agrees_more : (names : List ℕ) (s : Scene) (n m : ℕ) → n ≤ m → Agrees names s n → Agrees names s m
agrees_more names s n m h a = record { found = a.found; below = λ u i. let b : number_in s.bounds (name_text names u) < n = a.below u i in omega arith; small = a.small; borne = a.borne }

-- one name more
abbrev pub bind : List ℕ → Scene → ℕ → ℕ → Scene
bind names s t n = record { scope = t ∷ s.scope; numbers = n ∷ s.numbers; bounds = (record { bytes = name_text names t; number = n }) ∷ s.bounds }

pub distance_here : (t s : ℕ) (ts : List ℕ) → t ≡ s → distance (t ∷ ts) s ≡ 0
distance_here t s ts e = rw (eq-eqb t s e) refl

pub distance_there : (t s : ℕ) (ts : List ℕ) → t ≢ s → distance (t ∷ ts) s ≡ suc (distance ts s)
distance_there t s ts e = rw (ne_eqb t s e) refl

tail_same : (x : ℕ) (xs ys : List ℕ) → x ∷ xs ≡ x ∷ ys → xs ≡ ys
tail_same x xs ys e = cc

-- names are printed apart
pub names_apart : (names : List ℕ) (t u : ℕ) → ((s t : ℕ) → distance names s ≡ distance names t → s ≡ t) → distance names t < 2 ^ 64 → distance names u < 2 ^ 64 → name_text names t ≡ name_text names u → t ≡ u
names_apart names t u apart small other e =
    apart t u (decimal_injective (distance names t) (distance names u) small other (tail_same 120 (decimal (distance names t)) (decimal (distance names u)) e))

refuted : (r : Bool) (P : Type 0) → (r ≡ true → P) × (P → r ≡ true) → (P → ⊥) → r ≡ false
refuted true P d n = absurd (n (d.0 refl))
refuted false P d n = refl

pub number_here : (b : Bound) (bs : List Bound) (word : List ℕ) → b.bytes ≡ word → number_in (b ∷ bs) word ≡ b.number
number_here b bs word e = ap (λ (t : Bool). cond t b.number (number_in bs word)) ((bytes_eq-Decides b.bytes word).1 e)

pub number_there : (b : Bound) (bs : List Bound) (word : List ℕ) → b.bytes ≢ word → number_in (b ∷ bs) word ≡ number_in bs word
number_there b bs word e = ap (λ (t : Bool). cond t b.number (number_in bs word)) (refuted (bytes_eq b.bytes word) (b.bytes ≡ word) (bytes_eq-Decides b.bytes word) e)

or-true : (a : Bool) → (a || true) ≡ true
or-true true = refl
or-true false = refl

pub borne_here : (a b : List ℕ) (zs : List (List ℕ)) → a ≡ b → (bytes_eq a b || bears zs b) ≡ true
borne_here a b zs e = ap (λ (t : Bool). t || bears zs b) ((bytes_eq-Decides a b).1 e)

pub borne_there : (a b : List ℕ) (zs : List (List ℕ)) → bears zs b ≡ true → (bytes_eq a b || bears zs b) ≡ true
borne_there a b zs e = ap (λ (t : Bool). bytes_eq a b || t) e ∙ or-true (bytes_eq a b)

-- in a scene with one name more each name is found
pub agrees_bind : (names : List ℕ) (s : Scene) (t n : ℕ) → ((s t : ℕ) → distance names s ≡ distance names t → s ≡ t) → distance names t < 2 ^ 64 → Agrees names s n → Agrees names (bind names s t n) (n + 1)
agrees_bind names s t n apart small a =
    let b : Bound = record { bytes = name_text names t; number = n } in
    let here : (u : ℕ) → t ≡ u → number_in (b ∷ s.bounds) (name_text names u) ≡ n = λ u e. number_here b s.bounds (name_text names u) (ap (name_text names) e) in
    let there : (u : ℕ) → t ≢ u → IsOneOf s.scope u → number_in (b ∷ s.bounds) (name_text names u) ≡ number_in s.bounds (name_text names u) =
    λ u ne i. number_there b s.bounds (name_text names u) (λ e. ne (names_apart names t u apart small (a.small u i) e)) in
    record {
      found = λ u i. found_by u (here u) (there u) (cases_eq t u) i;
      below = λ u i. below_by u (here u) (there u) (cases_eq t u) i;
      small = λ u i. small_by u (cases_eq t u) i;
      borne = λ u i. borne_by u (cases_eq t u) i;
    }
  where
    within : (u : ℕ) → t ≢ u → IsOneOf (t ∷ s.scope) u → IsOneOf s.scope u
    within u ne (inl e) = absurd (ne (sym e))
    within u ne (inr i) = i

    found_by : (u : ℕ) → (t ≡ u → number_in ((record { bytes = name_text names t; number = n }) ∷ s.bounds) (name_text names u) ≡ n)
        → (t ≢ u → IsOneOf s.scope u → number_in ((record { bytes = name_text names t; number = n }) ∷ s.bounds) (name_text names u) ≡ number_in s.bounds (name_text names u))
        → (t ≡ u) ⊎ (t ≢ u) → IsOneOf (t ∷ s.scope) u
        → distance (n ∷ s.numbers) (number_in ((record { bytes = name_text names t; number = n }) ∷ s.bounds) (name_text names u)) ≡ distance (t ∷ s.scope) u
    found_by u here there (inl e) i = ap (distance (n ∷ s.numbers)) (here e) ∙ distance_here n n s.numbers refl ∙ sym (distance_here t u s.scope e)
    found_by u here there (inr ne) i =
        let j = within u ne i in
        let m = number_in s.bounds (name_text names u) in
        let less : number_in s.bounds (name_text names u) < n = a.below u j in
        let other : n ≢ number_in s.bounds (name_text names u) = λ e. omega arith in
        ap (distance (n ∷ s.numbers)) (there ne j) ∙ distance_there n m s.numbers other ∙ ap (λ (k : ℕ). suc k) (a.found u j) ∙ sym (distance_there t u s.scope ne)

    below_by : (u : ℕ) → (t ≡ u → number_in ((record { bytes = name_text names t; number = n }) ∷ s.bounds) (name_text names u) ≡ n)
        → (t ≢ u → IsOneOf s.scope u → number_in ((record { bytes = name_text names t; number = n }) ∷ s.bounds) (name_text names u) ≡ number_in s.bounds (name_text names u))
        → (t ≡ u) ⊎ (t ≢ u) → IsOneOf (t ∷ s.scope) u → number_in ((record { bytes = name_text names t; number = n }) ∷ s.bounds) (name_text names u) < n + 1
    below_by u here there (inl e) i = let h = here e in omega arith
    below_by u here there (inr ne) i =
        let j = within u ne i in
        let h = there ne j in
        let less : number_in s.bounds (name_text names u) < n = a.below u j in
        omega arith

    small_by : (u : ℕ) → (t ≡ u) ⊎ (t ≢ u) → IsOneOf (t ∷ s.scope) u → distance names u < 2 ^ 64
    small_by u (inl e) i = subst (λ (k : ℕ). distance names k < 2 ^ 64) e small
    small_by u (inr ne) i = a.small u (within u ne i)

    borne_by : (u : ℕ) → (t ≡ u) ⊎ (t ≢ u) → IsOneOf (t ∷ s.scope) u → (bytes_eq (name_text names t) (name_text names u) || bears (words s.bounds) (name_text names u)) ≡ true
    borne_by u (inl e) i = borne_here (name_text names t) (name_text names u) (words s.bounds) (ap (name_text names) e)
    borne_by u (inr ne) i = borne_there (name_text names t) (name_text names u) (words s.bounds) (a.borne u (within u ne i))
