-- Lists of numbers: which stand in them, and numbers one after another.
use Rattle.std.proofs.Common.{◌≡◌, ◌≢◌, ℕ, zero, suc, ◌+◌, ◌≤◌, List, [], ◌∷◌, ◌++◌, map, length, refl, ap, sym, ◌∙◌, inl, inr, arith, eq-eqb, ne_eqb}
use Rattle.weld_tree.specs.ExprTree.{ExprTree, leaf, one, two, three, many, let_in, loop, iterate, ExprTrees, no_exprs, more_exprs, LegTree, whole, strided, LegTrees, no_legs, more_legs}
use Rattle.weld_tree.specs.Program.{bound, bound_in, bound_in_leg, bound_in_legs, IsOneOf, AreDistinct}
use Rattle.weld_tree.specs.Blank.{distance}
use Rattle.weld_meaning.specs.Names.{Binds, AllBind, LegBinds, LegsBind}

pub one_left : (xs ys : List ℕ) (s : ℕ) → IsOneOf xs s → IsOneOf (xs ++ ys) s
one_left [] ys s h = absurd h
one_left (x ∷ xs) ys s (inl e) = inl e
one_left (x ∷ xs) ys s (inr h) = inr (one_left xs ys s h)

pub one_right : (xs ys : List ℕ) (s : ℕ) → IsOneOf ys s → IsOneOf (xs ++ ys) s
one_right [] ys s h = h
one_right (x ∷ xs) ys s h = inr (one_right xs ys s h)

-- what stands in distinct numbers before a place stands nowhere behind it
pub apart : (xs ys : List ℕ) (s : ℕ) → AreDistinct (xs ++ ys) → IsOneOf ys s → IsOneOf xs s → ⊥
apart [] ys s d h k = k
apart (x ∷ xs) ys s d h (inl e) = d.0 (one_right xs ys x (subst_one ys s x e h))
  where
    subst_one : (ys : List ℕ) (s x : ℕ) → s ≡ x → IsOneOf ys s → IsOneOf ys x
    subst_one [] s x e h = h
    subst_one (y ∷ ys) s x e (inl p) = inl (sym e ∙ p)
    subst_one (y ∷ ys) s x e (inr h) = inr (subst_one ys s x e h)
apart (x ∷ xs) ys s d h (inr k) = apart xs ys s d.1 h k

pub distinct_behind : (xs ys : List ℕ) → AreDistinct (xs ++ ys) → AreDistinct ys
distinct_behind [] ys d = d
distinct_behind (x ∷ xs) ys d = distinct_behind xs ys d.1

-- ---- what is bound

record Listed (P : ℕ → Type 0) (xs : List ℕ) : Type 0 where
  each : (s : ℕ) → IsOneOf xs s → P s

first_listed : (P : ℕ → Type 0) (xs ys : List ℕ) → Listed P (xs ++ ys) → Listed P xs
first_listed P xs ys h = record { each = λ s k. h.each s (one_left xs ys s k) }

then_listed : (P : ℕ → Type 0) (xs ys : List ℕ) → Listed P (xs ++ ys) → Listed P ys
then_listed P xs ys h = record { each = λ s k. h.each s (one_right xs ys s k) }

here_listed : (P : ℕ → Type 0) (x : ℕ) (xs : List ℕ) → Listed P (x ∷ xs) → P x
here_listed P x xs h = h.each x (inl refl)

behind_listed : (P : ℕ → Type 0) (x : ℕ) (xs : List ℕ) → Listed P (x ∷ xs) → Listed P xs
behind_listed P x xs h = record { each = λ s k. h.each s (inr k) }

mutual
  binds : (P : ℕ → Type 0) (e : ExprTree) → Listed P (bound e) → Binds P e
  binds P (leaf a l) h = tt
  binds P (one a o e) h = binds P e h
  binds P (two a o e f) h = (binds P e (first_listed P (bound e) (bound f) h), binds P f (then_listed P (bound e) (bound f) h))
  binds P (three a o c e f) h =
      let rest = then_listed P (bound c) (bound e ++ bound f) h in
      (binds P c (first_listed P (bound c) (bound e ++ bound f) h), binds P e (first_listed P (bound e) (bound f) rest), binds P f (then_listed P (bound e) (bound f) rest))
  binds P (many a o es) h = all_bind P es h
  binds P (let_in a b e f) h =
      let rest = behind_listed P b.sym.0 (bound e ++ bound f) h in
      (here_listed P b.sym.0 (bound e ++ bound f) h, binds P e (first_listed P (bound e) (bound f) rest), binds P f (then_listed P (bound e) (bound f) rest))
  binds P (loop a ls e b n x f) h =
      let own = b.sym.0 ∷ n.sym.0 ∷ x.sym.0 ∷ bound f in
      let rest = then_listed P (bound_in_legs ls) (bound e ++ own) h in
      let inside = then_listed P (bound e) own rest in
      let second = behind_listed P b.sym.0 (n.sym.0 ∷ x.sym.0 ∷ bound f) inside in
      let third = behind_listed P n.sym.0 (x.sym.0 ∷ bound f) second in (
        here_listed P b.sym.0 (n.sym.0 ∷ x.sym.0 ∷ bound f) inside,
        here_listed P n.sym.0 (x.sym.0 ∷ bound f) second,
        here_listed P x.sym.0 (bound f) third,
        legs_bind P ls (first_listed P (bound_in_legs ls) (bound e ++ own) h),
        binds P e (first_listed P (bound e) own rest),
        binds P f (behind_listed P x.sym.0 (bound f) third),
      )
  binds P (iterate a e b f) h =
      let rest = then_listed P (bound e) (b.sym.0 ∷ bound f) h in
      (here_listed P b.sym.0 (bound f) rest, binds P e (first_listed P (bound e) (b.sym.0 ∷ bound f) h), binds P f (behind_listed P b.sym.0 (bound f) rest))

  all_bind : (P : ℕ → Type 0) (es : ExprTrees) → Listed P (bound_in es) → AllBind P es
  all_bind P no_exprs h = tt
  all_bind P (more_exprs e es) h = (binds P e (first_listed P (bound e) (bound_in es) h), all_bind P es (then_listed P (bound e) (bound_in es) h))

  leg_binds : (P : ℕ → Type 0) (l : LegTree) → Listed P (bound_in_leg l) → LegBinds P l
  leg_binds P (whole e) h = binds P e h
  leg_binds P (strided e f g k) h =
      let second = then_listed P (bound e) (bound f ++ (bound g ++ bound k)) h in
      let third = then_listed P (bound f) (bound g ++ bound k) second in (
        binds P e (first_listed P (bound e) (bound f ++ (bound g ++ bound k)) h),
        binds P f (first_listed P (bound f) (bound g ++ bound k) second),
        binds P g (first_listed P (bound g) (bound k) third),
        binds P k (then_listed P (bound g) (bound k) third),
      )

  legs_bind : (P : ℕ → Type 0) (ls : LegTrees) → Listed P (bound_in_legs ls) → LegsBind P ls
  legs_bind P no_legs h = tt
  legs_bind P (more_legs l ls) h = (leg_binds P l (first_listed P (bound_in_leg l) (bound_in_legs ls) h), legs_bind P ls (then_listed P (bound_in_leg l) (bound_in_legs ls) h))

-- what holds of each number that is bound holds of each binder
pub binds_all : (P : ℕ → Type 0) (e : ExprTree) → ((s : ℕ) → IsOneOf (bound e) s → P s) → Binds P e
binds_all P e k = binds P e (record { each = k })

-- ---- numbers one after another

abbrev pub upward : ℕ → ℕ → List ℕ
upward n zero = []
upward n (suc m) = n ∷ upward (suc n) m

pub upward-append : (n m k : ℕ) → upward n m ++ upward (n + m) k ≡ upward n (m + k)
upward-append n zero k = λ i. upward (plus_none n i) (none_plus k i)
  where
    plus_none : (n : ℕ) → n + 0 ≡ n
    plus_none n = omega arith

    none_plus : (k : ℕ) → k ≡ 0 + k
    none_plus k = omega arith
upward-append n (suc m) k = let e : n + suc m ≡ suc n + m = omega arith in let f : suc m + k ≡ suc (m + k) = omega arith in
    (λ i. n ∷ (upward (suc n) m ++ upward (e i) k)) ∙ (λ i. n ∷ upward-append (suc n) m k i) ∙ (λ i. upward n (sym f i))

upward_from : (n m s : ℕ) → IsOneOf (upward n m) s → n ≤ s
upward_from n zero s h = absurd h
upward_from n (suc m) s (inl e) = omega (arith, e)
upward_from n (suc m) s (inr h) = omega (arith, upward_from (suc n) m s h)

pub upward_distinct : (n m : ℕ) → AreDistinct (upward n m)
upward_distinct n zero = tt
upward_distinct n (suc m) = (λ h. omega (arith, upward_from (suc n) m n h), upward_distinct (suc n) m)

pub length-upward : (n m : ℕ) → length (upward n m) ≡ m
length-upward n zero = refl
length-upward n (suc m) = ap suc (length-upward (suc n) m)

map_alike : (f g : ℕ → ℕ) (xs : List ℕ) → ((s : ℕ) → IsOneOf xs s → f s ≡ g s) → map f xs ≡ map g xs
map_alike f g [] k = refl
map_alike f g (x ∷ xs) k = λ i. k x (inl refl) i ∷ map_alike f g xs (λ s h. k s (inr h)) i

-- distinct numbers, each counted by how many stand before it
pub counted : (base : ℕ) (f : ℕ → ℕ) (xs : List ℕ) → AreDistinct xs → ((s : ℕ) → IsOneOf xs s → f s ≡ base + distance xs s) → map f xs ≡ upward base (length xs)
counted base f [] d k = refl
counted base f (x ∷ xs) d k =
    let here : f x ≡ base = k x (inl refl) ∙ (λ i. base + at_first x xs i) ∙ plus_none base in
    λ i. here i ∷ counted (suc base) f xs d.1 (λ s h. k s (inr h) ∙ (λ j. base + at_later x xs s (λ e. d.0 (subst_one xs s x (sym e) h)) j) ∙ plus_one base (distance xs s)) i
  where
    plus_none : (n : ℕ) → n + 0 ≡ n
    plus_none n = omega arith

    plus_one : (n d : ℕ) → n + suc d ≡ suc n + d
    plus_one n d = omega arith

    at_first : (x : ℕ) (xs : List ℕ) → distance (x ∷ xs) x ≡ 0
    at_first x xs = rw (eq-eqb x x refl) refl

    at_later : (x : ℕ) (xs : List ℕ) (s : ℕ) → x ≢ s → distance (x ∷ xs) s ≡ suc (distance xs s)
    at_later x xs s ne = rw (ne_eqb x s ne) refl

    subst_one : (ys : List ℕ) (s x : ℕ) → s ≡ x → IsOneOf ys s → IsOneOf ys x
    subst_one [] s x e h = h
    subst_one (y ∷ ys) s x e (inl p) = inl (sym e ∙ p)
    subst_one (y ∷ ys) s x e (inr h) = inr (subst_one ys s x e h)
