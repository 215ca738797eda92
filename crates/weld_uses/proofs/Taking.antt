-- What is left where builders are taken.
use Rattle.std.proofs.Common.{◌≡◌, ℕ, ◌<◌, ◌≤◌, ◌==◌, Bool, true, false, ◌&&◌, ◌||◌, not, if◌then◌else◌, List, [], ◌∷◌, ◌++◌, length, Some, refl, sym, ap, subst, ◌∙◌, arith, eqb-true, eq-eqb}
use Rattle.std.proofs.lemmas.Bool.{eqb-false, ne_eqb}
use Rattle.weld_meaning.specs.Environment.{Named}
use Rattle.weld_meaning.specs.Origin.{Path, Origin, origin_of_name}
use Rattle.weld_meaning.specs.Available.{same_path, is_below, is_builder_path, chain_takes, Taken}
use Rattle.weld_meaning.specs.LinearWalk.{Left, has, some_of, after_taking, differ}
use Rattle.weld_linear.specs.AvailableView.{same_left, stands_below, of_name}
use Rattle.weld_uses.specs.Walks.{IsAbsent}

clash : {A : Type 0} {b : Bool} → b ≡ true → b ≡ false → A
clash p q = let no : ⊥ = cc in absurd no

-- ---- one after another

pub after_both : (t u : Taken) (l : Left) → after_taking u (after_taking t l) ≡ after_taking (λ s q. t s q || u s q) l
after_both t u [] = refl
after_both t u (e ∷ l) = by (t e.0 e.1) refl (after_both t u l)
  where
    by : (c : Bool) → t e.0 e.1 ≡ c → after_taking u (after_taking t l) ≡ after_taking (λ s q. t s q || u s q) l
        → after_taking u (after_taking t (e ∷ l)) ≡ after_taking (λ s q. t s q || u s q) (e ∷ l)
    by true p rest = rw p rest
    by false p rest = rw p (ap (λ r. if u e.0 e.1 then r else e ∷ r) rest)

pub after_same : (t u : Taken) (l : Left) → ((s : ℕ) (q : Path) → t s q ≡ u s q) → after_taking t l ≡ after_taking u l
after_same t u [] h = refl
after_same t u (e ∷ l) h = λ i. if h e.0 e.1 i then after_same t u l h i else e ∷ after_same t u l h i

-- ---- whether one is taken

fewer : (t : Taken) (l : Left) → length (after_taking t l) ≤ length l
fewer t [] = omega arith
fewer t (e ∷ l) = by (t e.0 e.1) refl (fewer t l)
  where
    by : (c : Bool) → t e.0 e.1 ≡ c → length (after_taking t l) ≤ length l → length (after_taking t (e ∷ l)) ≤ length (e ∷ l)
    by true p rest = rw p (omega (arith, rest))
    by false p rest = rw p (omega (arith, rest))

took_some : (t : Taken) (l : Left) → length (after_taking t l) < length l → some_of (λ (e : ℕ × Path). t e.0 e.1) l ≡ true
took_some t [] h = let no : ⊥ = omega (arith, h) in absurd no
took_some t (e ∷ l) h = by (t e.0 e.1) refl h (took_some t l)
  where
    by : (c : Bool) → t e.0 e.1 ≡ c → length (if c then after_taking t l else e ∷ after_taking t l) < length (e ∷ l)
        → (length (after_taking t l) < length l → some_of (λ (e : ℕ × Path). t e.0 e.1) l ≡ true) → some_of (λ (e : ℕ × Path). t e.0 e.1) (e ∷ l) ≡ true
    by true p k rest = rw p refl
    by false p k rest = rw p (rest (omega (arith, k)))

took_none : (t : Taken) (l : Left) → length l ≤ length (after_taking t l) → some_of (λ (e : ℕ × Path). t e.0 e.1) l ≡ false
took_none t [] h = refl
took_none t (e ∷ l) h = by (t e.0 e.1) refl h (took_none t l)
  where
    by : (c : Bool) → t e.0 e.1 ≡ c → length (e ∷ l) ≤ length (if c then after_taking t l else e ∷ after_taking t l)
        → (length l ≤ length (after_taking t l) → some_of (λ (e : ℕ × Path). t e.0 e.1) l ≡ false) → some_of (λ (e : ℕ × Path). t e.0 e.1) (e ∷ l) ≡ false
    by true p k rest = let no : ⊥ = omega (arith, k, fewer t l) in absurd no
    by false p k rest = rw p (rest (omega (arith, k)))

pub took : (b : Bool) (t : Taken) (l : Left) → (b ≡ true → length (after_taking t l) < length l) → (b ≡ false → length l ≤ length (after_taking t l))
    → some_of (λ (e : ℕ × Path). t e.0 e.1) l ≡ b
took true t l less same = took_some t l (less refl)
took false t l less same = took_none t l (same refl)

-- ---- the same builders

path_refl : (p : Path) → same_path p p ≡ true
path_refl [] = refl
path_refl (n ∷ p) = rw (eq-eqb n n refl) (path_refl p)

path_same : (p q : Path) → same_path p q ≡ true → p ≡ q
path_same [] [] h = refl
path_same [] (m ∷ q) h = clash h refl
path_same (n ∷ p) [] h = clash h refl
path_same (n ∷ p) (m ∷ q) h = by (n == m) refl (path_same p q) h
  where
    by : (c : Bool) → (n == m) ≡ c → (same_path p q ≡ true → p ≡ q) → c && same_path p q ≡ true → (n ∷ p) ≡ (m ∷ q)
    by true e rest k = λ i. eqb-true n m e i ∷ rest k i
    by false e rest k = clash k refl

both_true : (b c : Bool) → b && c ≡ true → (b ≡ true) × (c ≡ true)
both_true true c h = (refl, h)
both_true false c h = clash h refl

same_builder : (e f : ℕ × Path) → (e.0 == f.0) && same_path e.1 f.1 ≡ true → e ≡ f
same_builder e f h =
    let w = both_true (e.0 == f.0) (same_path e.1 f.1) h in λ i. (eqb-true e.0 f.0 w.0 i, path_same e.1 f.1 w.1 i)

left_same : (l m : Left) → same_left l m ≡ true → l ≡ m
left_same [] [] h = refl
left_same [] (f ∷ m) h = clash h refl
left_same (e ∷ l) [] h = clash h refl
left_same (e ∷ l) (f ∷ m) h =
    let w = both_true ((e.0 == f.0) && same_path e.1 f.1) (same_left l m) h in λ i. same_builder e f w.0 i ∷ left_same l m w.1 i

has_first : (e : ℕ × Path) (l : Left) → has (e ∷ l) e.0 e.1 ≡ true
has_first e l = rw (eq-eqb e.0 e.0 refl) (rw (path_refl e.1) refl)

has_after : (t : Taken) (l : Left) (s : ℕ) (q : Path) → t s q ≡ true → has (after_taking t l) s q ≡ false
has_after t [] s q h = refl
has_after t (e ∷ l) s q h = by (t e.0 e.1) refl (has_after t l s q h)
  where
    other : (c : Bool) → ((e.0 == s) && same_path e.1 q) ≡ c → t e.0 e.1 ≡ false → has (after_taking t l) s q ≡ false → c || has (after_taking t l) s q ≡ false
    other true k p rest = let w = same_builder e (s, q) k in clash h (ap (λ (f : ℕ × Path). t f.0 f.1) (sym w) ∙ p)
    other false k p rest = rest

    by : (c : Bool) → t e.0 e.1 ≡ c → has (after_taking t l) s q ≡ false → has (after_taking t (e ∷ l)) s q ≡ false
    by true p rest = rw p rest
    by false p rest = rw p (other ((e.0 == s) && same_path e.1 q) refl p rest)

uneven : (t u : Taken) (l : Left) (e : ℕ × Path) → t e.0 e.1 ≡ true → same_left (after_taking t l) (e ∷ after_taking u l) ≡ false
uneven t u l e h = by (same_left (after_taking t l) (e ∷ after_taking u l)) refl
  where
    by : (c : Bool) → same_left (after_taking t l) (e ∷ after_taking u l) ≡ c → c ≡ false
    by true k = clash (ap (λ m. has m e.0 e.1) (left_same (after_taking t l) (e ∷ after_taking u l) k) ∙ has_first e (after_taking u l)) (has_after t l e.0 e.1 h)
    by false k = refl

same_swap : (l m : Left) → same_left l m ≡ true → same_left m l ≡ true
same_swap l m h = let e = left_same l m h in subst (λ x. same_left x l ≡ true) e (subst (λ x. same_left l x ≡ true) (sym e) h)

uneven_too : (t u : Taken) (l : Left) (e : ℕ × Path) → u e.0 e.1 ≡ true → same_left (e ∷ after_taking t l) (after_taking u l) ≡ false
uneven_too t u l e h = by (same_left (e ∷ after_taking t l) (after_taking u l)) refl
  where
    by : (c : Bool) → same_left (e ∷ after_taking t l) (after_taking u l) ≡ c → c ≡ false
    by true k = clash (same_swap (e ∷ after_taking t l) (after_taking u l) k) (uneven u t l e h)
    by false k = refl

pub arms_left : (t u : Taken) (l : Left) → same_left (after_taking t l) (after_taking u l) ≡ not (some_of (λ (q : ℕ × Path). differ (t q.0 q.1) (u q.0 q.1)) l)
arms_left t u [] = refl
arms_left t u (e ∷ l) = by (t e.0 e.1) (u e.0 e.1) refl refl (arms_left t u l)
  where
    by : (c d : Bool) → t e.0 e.1 ≡ c → u e.0 e.1 ≡ d → same_left (after_taking t l) (after_taking u l) ≡ not (some_of (λ (q : ℕ × Path). differ (t q.0 q.1) (u q.0 q.1)) l)
        → same_left (after_taking t (e ∷ l)) (after_taking u (e ∷ l)) ≡ not (some_of (λ (q : ℕ × Path). differ (t q.0 q.1) (u q.0 q.1)) (e ∷ l))
    by true true p r rest = rw p (rw r rest)
    by true false p r rest = rw p (rw r (uneven t u l e p))
    by false true p r rest = rw p (rw r (uneven_too t u l e r))
    by false false p r rest = rw p (rw r (rw (eq-eqb e.0 e.0 refl) (rw (path_refl e.1) rest)))

pub arms_alike : (t u : Taken) (l : Left) → some_of (λ (q : ℕ × Path). differ (t q.0 q.1) (u q.0 q.1)) l ≡ false → after_taking t l ≡ after_taking (λ s q. t s q || u s q) l
arms_alike t u [] h = refl
arms_alike t u (e ∷ l) h = by (t e.0 e.1) (u e.0 e.1) refl refl h (arms_alike t u l)
  where
    by : (c d : Bool) → t e.0 e.1 ≡ c → u e.0 e.1 ≡ d → differ c d || some_of (λ (q : ℕ × Path). differ (t q.0 q.1) (u q.0 q.1)) l ≡ false
        → (some_of (λ (q : ℕ × Path). differ (t q.0 q.1) (u q.0 q.1)) l ≡ false → after_taking t l ≡ after_taking (λ s q. t s q || u s q) l)
        → after_taking t (e ∷ l) ≡ after_taking (λ s q. t s q || u s q) (e ∷ l)
    by true true p r k rest = rw p (rest k)
    by true false p r k rest = clash refl k
    by false true p r k rest = clash refl k
    by false false p r k rest = rw p (rw r (ap (λ m. e ∷ m) (rest k)))

-- ---- the builders of a binder

absent_after : (t : Taken) (s : ℕ) (l : Left) → IsAbsent s l → some_of (λ (e : ℕ × Path). e.0 == s) (after_taking t l) ≡ false
absent_after t s [] h = refl
absent_after t s (e ∷ l) h = by (t e.0 e.1) refl (absent_after t s l h.1)
  where
    by : (c : Bool) → t e.0 e.1 ≡ c → some_of (λ (e : ℕ × Path). e.0 == s) (after_taking t l) ≡ false → some_of (λ (e : ℕ × Path). e.0 == s) (after_taking t (e ∷ l)) ≡ false
    by true p rest = rw p rest
    by false p rest = rw p (rw h.0 rest)

pub named_left_over : (t : Taken) (s : ℕ) (ps : List Path) (l : Left) → IsAbsent s l
    → some_of (λ (e : ℕ × Path). e.0 == s) (after_taking t (of_name s ps ++ l)) ≡ some_of (λ q. not (t s q)) ps
named_left_over t s [] l h = absent_after t s l h
named_left_over t s (q ∷ ps) l h = by (t s q) refl (named_left_over t s ps l h)
  where
    by : (c : Bool) → t s q ≡ c → some_of (λ (e : ℕ × Path). e.0 == s) (after_taking t (of_name s ps ++ l)) ≡ some_of (λ q. not (t s q)) ps
        → some_of (λ (e : ℕ × Path). e.0 == s) (after_taking t (of_name s (q ∷ ps) ++ l)) ≡ some_of (λ q. not (t s q)) (q ∷ ps)
    by true p rest = rw p rest
    by false p rest = rw p (rw (eq-eqb s s refl) refl)

all_taken : (t : Taken) (s : ℕ) (ps : List Path) (l : Left) → some_of (λ q. not (t s q)) ps ≡ false → after_taking t (of_name s ps ++ l) ≡ after_taking t l
all_taken t s [] l h = refl
all_taken t s (q ∷ ps) l h = by (t s q) refl h (all_taken t s ps l)
  where
    by : (c : Bool) → t s q ≡ c → not c || some_of (λ q. not (t s q)) ps ≡ false → (some_of (λ q. not (t s q)) ps ≡ false → after_taking t (of_name s ps ++ l) ≡ after_taking t l)
        → after_taking t (of_name s (q ∷ ps) ++ l) ≡ after_taking t l
    by true p k rest = rw p (rest k)
    by false p k rest = clash refl k

absent_without : (t : Taken) (s : ℕ) (l : Left) → IsAbsent s l → after_taking t l ≡ after_taking (λ x q. if s == x then false else t x q) l
absent_without t s [] h = refl
absent_without t s (e ∷ l) h =
    let n : (s == e.0) ≡ false = ne_eqb s e.0 (λ k. eqb-false e.0 s h.0 (sym k)) in
    rw n (ap (λ r. if t e.0 e.1 then r else e ∷ r) (absent_without t s l h.1))

pub absent_left : (t : Taken) (s : ℕ) (l : Left) → IsAbsent s l → IsAbsent s (after_taking t l)
absent_left t s [] h = tt
absent_left t s (e ∷ l) h = by (t e.0 e.1) refl (absent_left t s l h.1)
  where
    by : (c : Bool) → t e.0 e.1 ≡ c → IsAbsent s (after_taking t l) → IsAbsent s (after_taking t (e ∷ l))
    by true p rest = rw p rest
    by false p rest = rw p (h.0, rest)

-- what is left behind the body of a `let`
pub let_left : (t u : Taken) (s : ℕ) (ps : List Path) (l : Left) → IsAbsent s l → some_of (λ q. not (u s q)) ps ≡ false
    → after_taking u (of_name s ps ++ after_taking t l) ≡ after_taking (λ x q. t x q || (if s == x then false else u x q)) l
let_left t u s ps l h k =
    all_taken u s ps (after_taking t l) k
    ∙ absent_without u s (after_taking t l) (absent_left t s l h)
    ∙ after_both t (λ x q. if s == x then false else u x q) l

-- ---- names followed by field accesses

pub some_name : (f : ℕ → Path → Bool) (s : ℕ) (ps : List Path) → some_of (λ (e : ℕ × Path). not (f e.0 e.1)) (of_name s ps) ≡ some_of (λ q. not (f s q)) ps
some_name f s [] = refl
some_name f s (q ∷ ps) = ap (λ b. not (f s q) || b) (some_name f s ps)

pub chain_taken : (c : ℕ × Path) (g : Named Origin) (l : Left)
    → after_taking (λ s q. stands_below c.0 c.1 (origin_of_name c.0 g) (s, q)) l ≡ after_taking (λ s q. chain_takes (Some c) g s q false) l
chain_taken c g l = after_same _ _ l (λ s q. by s q (c.0 == s) refl)
  where
    by : (s : ℕ) (q : Path) (b : Bool) → (c.0 == s) ≡ b → stands_below c.0 c.1 (origin_of_name c.0 g) (s, q) ≡ chain_takes (Some c) g s q false
    by s q true p = ap (λ n. (c.0 == s) && (is_below c.1 q && is_builder_path (origin_of_name n g) q)) (eqb-true c.0 s p)
    by s q false p = rw p refl
