-- The numbers of two tidy lets of loops: which differ, and which name nothing where.
use Rattle.std.proofs.Common.{◌≡◌, ◌≢◌, ◌⊎◌, inl, inr, ℕ, List, [], ◌∷◌, ◌++◌, refl, sym, ap, ◌∙◌, subst}
use Rattle.weld_tree.specs.ExprTree.{At, ExprTree}
use Rattle.weld_tree.specs.Program.{bound, IsOneOf, AreDistinct}
use Rattle.weld_meaning.specs.Names.{IsFree}
use Rattle.weld_rewriting.specs.Tidy.{IsTidy}
use Rattle.weld_joining.specs.Beside.{Half, half_loop, half_value, two_lets}
use Rattle.weld_joining.proofs.Finishing.{finish_bound, finish_free}

pub behind : (xs ys : List ℕ) (s : ℕ) → IsOneOf ys s → IsOneOf (xs ++ ys) s
behind [] ys s h = h
behind (x ∷ xs) ys s h = inr (behind xs ys s h)

pub before : (xs ys : List ℕ) (s : ℕ) → IsOneOf xs s → IsOneOf (xs ++ ys) s
before [] ys s h = absurd h
before (x ∷ xs) ys s (inl h) = inl h
before (x ∷ xs) ys s (inr h) = inr (before xs ys s h)

pub distinct_behind : (xs ys : List ℕ) → AreDistinct (xs ++ ys) → AreDistinct ys
distinct_behind [] ys h = h
distinct_behind (x ∷ xs) ys h = distinct_behind xs ys h.1

pub distinct_before : (xs ys : List ℕ) → AreDistinct (xs ++ ys) → AreDistinct xs
distinct_before [] ys h = tt
distinct_before (x ∷ xs) ys h = ((λ f. h.0 (before xs ys x f)), distinct_before xs ys h.1)

regroup : (xs ys zs : List ℕ) → (xs ++ ys) ++ zs ≡ xs ++ (ys ++ zs)
regroup [] ys zs = refl
regroup (x ∷ xs) ys zs = ap (λ us. x ∷ us) (regroup xs ys zs)

-- ---- in the order of the text

-- the binders of a loop, and what stands behind
abbrev pub own_numbers : Half → List ℕ → List ℕ
own_numbers h after = h.builder.sym.0 ∷ h.number.sym.0 ∷ h.row.sym.0 ∷ (bound h.body ++ after)

half_numbers : (s : ℕ) (h : Half) (after : List ℕ) → bound (half_value s h) ++ after ≡ bound h.start ++ own_numbers h after
half_numbers s h after =
    ap (λ xs. xs ++ after) (finish_bound h.result_at (half_loop s h)) ∙ regroup (bound h.start) (h.builder.sym.0 ∷ h.number.sym.0 ∷ h.row.sym.0 ∷ bound h.body) after

abbrev pub second_numbers : Half → ExprTree → List ℕ
second_numbers k rest = k.bound.sym.0 ∷ (bound k.start ++ own_numbers k (bound rest))

abbrev pub all_numbers : Half → Half → ExprTree → List ℕ
all_numbers h k rest = h.bound.sym.0 ∷ (bound h.start ++ own_numbers h (second_numbers k rest))

pub numbers_are : (a m : At) (s : ℕ) (h k : Half) (rest : ExprTree) → bound (two_lets a m s h k rest) ≡ all_numbers h k rest
numbers_are a m s h k rest =
    ap (λ xs. h.bound.sym.0 ∷ xs) (ap (λ xs. bound (half_value s h) ++ (k.bound.sym.0 ∷ xs)) (half_numbers s k (bound rest)) ∙ half_numbers s h (second_numbers k rest))

module _ (a m : At) (s : ℕ) (h k : Half) (rest : ExprTree) (tidy : IsTidy (two_lets a m s h k rest)) where
  abbrev pub tail : List ℕ
  tail = second_numbers k rest

  abbrev first_own : List ℕ
  first_own = own_numbers h tail

  abbrev second_own : List ℕ
  second_own = own_numbers k (bound rest)

  distinct : AreDistinct (all_numbers h k rest)
  distinct = subst AreDistinct (numbers_are a m s h k rest) tidy.distinct

  apart : (t : ℕ) → IsOneOf (all_numbers h k rest) t → IsFree (two_lets a m s h k rest) t → ⊥
  apart t b f = tidy.apart t (subst (λ xs. IsOneOf xs t) (sym (numbers_are a m s h k rest)) b) f

  in_tail : (t : ℕ) → IsOneOf tail t → IsOneOf (bound h.body ++ tail) t
  in_tail t f = behind (bound h.body) tail t f

  in_first : (t : ℕ) → IsOneOf first_own t → IsOneOf (all_numbers h k rest) t
  in_first t f = inr (behind (bound h.start) first_own t f)

  in_all : (t : ℕ) → IsOneOf tail t → IsOneOf (all_numbers h k rest) t
  in_all t f = in_first t (inr (inr (inr (in_tail t f))))

  in_second : (t : ℕ) → IsOneOf second_own t → IsOneOf tail t
  in_second t f = inr (behind (bound k.start) second_own t f)

  first_distinct : AreDistinct first_own
  first_distinct = distinct_behind (bound h.start) first_own distinct.1

  distinct_tail : AreDistinct tail
  distinct_tail = distinct_behind (bound h.body) tail first_distinct.1.1.1

  second_distinct : AreDistinct second_own
  second_distinct = distinct_behind (bound k.start) second_own distinct_tail.1

  -- ---- the first loop's numbers

  pub b1_x1 : h.builder.sym.0 ≢ h.row.sym.0
  b1_x1 e = first_distinct.0 (inr (inl e))

  pub b1_i1 : h.builder.sym.0 ≢ h.number.sym.0
  b1_i1 e = first_distinct.0 (inl e)

  pub i1_x1 : h.number.sym.0 ≢ h.row.sym.0
  i1_x1 e = first_distinct.1.0 (inl e)

  pub b1_apart : (t : ℕ) → IsOneOf tail t → h.builder.sym.0 ≢ t
  b1_apart t f e = first_distinct.0 (inr (inr (in_tail h.builder.sym.0 (subst (IsOneOf tail) (sym e) f))))

  pub i1_apart : (t : ℕ) → IsOneOf tail t → h.number.sym.0 ≢ t
  i1_apart t f e = first_distinct.1.0 (inr (in_tail h.number.sym.0 (subst (IsOneOf tail) (sym e) f)))

  pub x1_apart : (t : ℕ) → IsOneOf tail t → h.row.sym.0 ≢ t
  x1_apart t f e = first_distinct.1.1.0 (in_tail h.row.sym.0 (subst (IsOneOf tail) (sym e) f))

  n1_first : (t : ℕ) → IsOneOf first_own t → h.bound.sym.0 ≢ t
  n1_first t f e = distinct.0 (behind (bound h.start) first_own h.bound.sym.0 (subst (IsOneOf first_own) (sym e) f))

  pub n1_apart : (t : ℕ) → IsOneOf tail t → h.bound.sym.0 ≢ t
  n1_apart t f = n1_first t (inr (inr (inr (in_tail t f))))

  pub n1_x1 : h.bound.sym.0 ≢ h.row.sym.0
  n1_x1 = n1_first h.row.sym.0 (inr (inr (inl refl)))

  pub n1_i1 : h.bound.sym.0 ≢ h.number.sym.0
  n1_i1 = n1_first h.number.sym.0 (inr (inl refl))

  -- ---- the second's, each where it stands

  pub n2_there : IsOneOf tail k.bound.sym.0
  n2_there = inl refl

  pub b2_there : IsOneOf tail k.builder.sym.0
  b2_there = in_second k.builder.sym.0 (inl refl)

  pub i2_there : IsOneOf tail k.number.sym.0
  i2_there = in_second k.number.sym.0 (inr (inl refl))

  pub x2_there : IsOneOf tail k.row.sym.0
  x2_there = in_second k.row.sym.0 (inr (inr (inl refl)))

  n2_apart : (t : ℕ) → IsOneOf second_own t → t ≢ k.bound.sym.0
  n2_apart t f e = distinct_tail.0 (behind (bound k.start) second_own k.bound.sym.0 (subst (IsOneOf second_own) e f))

  pub i2_n2 : k.number.sym.0 ≢ k.bound.sym.0
  i2_n2 = n2_apart k.number.sym.0 (inr (inl refl))

  pub b2_i2 : k.builder.sym.0 ≢ k.number.sym.0
  b2_i2 e = second_distinct.0 (inl e)

  pub b2_x2 : k.builder.sym.0 ≢ k.row.sym.0
  b2_x2 e = second_distinct.0 (inr (inl e))

  pub i2_x2 : k.number.sym.0 ≢ k.row.sym.0
  i2_x2 e = second_distinct.1.0 (inl e)

  pub b2_apart : (t : ℕ) → IsOneOf (bound k.body) t → k.builder.sym.0 ≢ t
  b2_apart t f e = second_distinct.0 (inr (inr (before (bound k.body) (bound rest) k.builder.sym.0 (subst (IsOneOf (bound k.body)) (sym e) f))))

  pub body_there : (t : ℕ) → IsOneOf (bound k.body) t → IsOneOf tail t
  body_there t f = in_second t (inr (inr (inr (before (bound k.body) (bound rest) t f))))

  pub i2_apart : (t : ℕ) → IsOneOf (bound k.body) t → k.number.sym.0 ≢ t
  i2_apart t f e = second_distinct.1.0 (inr (before (bound k.body) (bound rest) k.number.sym.0 (subst (IsOneOf (bound k.body)) (sym e) f)))

  pub x2_apart : (t : ℕ) → IsOneOf (bound k.body) t → k.row.sym.0 ≢ t
  x2_apart t f e = second_distinct.1.1.0 (before (bound k.body) (bound rest) k.row.sym.0 (subst (IsOneOf (bound k.body)) (sym e) f))

  pub body_distinct : AreDistinct (bound k.body ++ bound rest)
  body_distinct = second_distinct.1.1.1

  -- ---- which name nothing

  in_first_loop : (t : ℕ) → IsFree (half_loop s h) t → IsFree (two_lets a m s h k rest) t
  in_first_loop t f = inl (finish_free h.result_at (half_loop s h) t f)

  in_second_loop : (t : ℕ) → t ≢ h.bound.sym.0 → IsFree (half_loop s k) t → IsFree (two_lets a m s h k rest) t
  in_second_loop t ne f = inr (inl (finish_free k.result_at (half_loop s k) t f), ne)

  pub s_n1 : s ≢ h.bound.sym.0
  s_n1 e = apart h.bound.sym.0 (inl refl) (in_first_loop h.bound.sym.0 (inl (inl (sym e))))

  pub x2_unnamed : IsFree h.body k.row.sym.0 → ⊥
  x2_unnamed f =
      apart k.row.sym.0 (in_all k.row.sym.0 x2_there)
      (in_first_loop k.row.sym.0 (inr (inr (f, (λ e. x1_apart k.row.sym.0 x2_there (sym e)), (λ e. i1_apart k.row.sym.0 x2_there (sym e)), (λ e. b1_apart k.row.sym.0 x2_there (sym e))))))

  pub x1_unnamed : IsFree k.body h.row.sym.0 → ⊥
  x1_unnamed f =
      apart h.row.sym.0 (in_first h.row.sym.0 (inr (inr (inl refl))))
      (in_second_loop h.row.sym.0 (λ e. n1_x1 (sym e)) (inr (inr (f, x1_apart k.row.sym.0 x2_there, x1_apart k.number.sym.0 i2_there, x1_apart k.builder.sym.0 b2_there))))

  pub i1_unnamed : IsFree k.body h.number.sym.0 → ⊥
  i1_unnamed f =
      apart h.number.sym.0 (in_first h.number.sym.0 (inr (inl refl)))
      (in_second_loop h.number.sym.0 (λ e. n1_i1 (sym e)) (inr (inr (f, i1_apart k.row.sym.0 x2_there, i1_apart k.number.sym.0 i2_there, i1_apart k.builder.sym.0 b2_there))))

  pub i2_unnamed : IsFree rest k.number.sym.0 → ⊥
  i2_unnamed f = apart k.number.sym.0 (in_all k.number.sym.0 i2_there) (inr (inr (f, i2_n2), (λ e. n1_apart k.number.sym.0 i2_there (sym e))))

  -- what is free in the second body isn't bound in it
  pub body_apart : (t : ℕ) → IsOneOf (bound k.body) t → IsFree k.body t → ⊥
  body_apart t b f =
      apart t (in_all t (body_there t b))
      (in_second_loop t (λ e. n1_apart t (body_there t b) (sym e)) (inr (inr (f, (λ e. x2_apart t b (sym e)), (λ e. i2_apart t b (sym e)), (λ e. b2_apart t b (sym e))))))
