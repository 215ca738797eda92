-- What the tests of the walk over builders say.
use Rattle.std.proofs.Common.{◌≡◌, ℕ, zero, suc, ◌==◌, Bool, true, false, not, ◌&&◌, ◌||◌, if◌then◌else◌, List, [], ◌∷◌, ◌++◌, map, Some, None, refl, ap, sym, subst, ◌∙◌, inl, inr, ◌⊎◌, eqb-true, eq-eqb, ◌+◌, add-zero, add-suc, suc-add, zero-add}
use Rattle.weld_meaning.specs.Origin.{Path, Origin, value, made, own, outer, named, struct, Origins, no_origins, more_origins, origin_at}
use Rattle.weld_meaning.specs.Linear.{IsSeen, AreSeen, IsNotOwn, IsNotMade, AreNotMade}
use Rattle.weld_meaning.specs.Available.{field_within, at_path, is_builder, is_builder_path, same_path, is_below, Taken}
use Rattle.weld_meaning.specs.LinearWalk.{some_of, is_seen, are_seen, is_own, is_not_made, are_not_made, same_origin, same_origins, Left, has, after_taking, paths_below, paths_of_fields, builders_of, Refused, before}

-- ---- truth values

pub clash : {A : Type 0} {b : Bool} → b ≡ true → b ≡ false → A
clash p q = let no : ⊥ = cc in absurd no

pub and_true : (a b : Bool) → (a && b) ≡ true → (a ≡ true) × (b ≡ true)
and_true true b e = (refl, e)
and_true false b e = clash e refl

pub both_true : (a b : Bool) → a ≡ true → b ≡ true → (a && b) ≡ true
both_true true b p q = q
both_true false b p q = clash p refl

pub or_true : (a b : Bool) → (a || b) ≡ true → (a ≡ true) ⊎ (b ≡ true)
or_true true b e = inl refl
or_true false b e = inr e

pub or_left : (a b : Bool) → a ≡ true → (a || b) ≡ true
or_left true b e = refl
or_left false b e = clash e refl

pub or_right : (a b : Bool) → b ≡ true → (a || b) ≡ true
or_right true b e = refl
or_right false b e = e

pub or_false : (a b : Bool) → (a || b) ≡ false → (a ≡ false) × (b ≡ false)
or_false true b e = clash refl e
or_false false b e = (refl, e)

pub both_false : (a b : Bool) → a ≡ false → b ≡ false → (a || b) ≡ false
both_false true b p q = clash refl p
both_false false b p q = q

pub not_false : (a : Bool) → not a ≡ false → a ≡ true
not_false true e = refl
not_false false e = clash refl e

pub not_true : (a : Bool) → a ≡ true → not a ≡ false
not_true true e = refl
not_true false e = clash e refl

pub unless_true : (a : Bool) → (a ≡ true → ⊥) → a ≡ false
unless_true true h = absurd (h refl)
unless_true false h = refl

-- ---- refusals

pub before_none : (r s : Refused) → before r s ≡ None → (r ≡ None) × (s ≡ None)
before_none None s e = (refl, e)
before_none (Some x) s e = let no : ⊥ = cc in absurd no

pub none_before : (r s : Refused) → r ≡ None → s ≡ None → before r s ≡ None
none_before None s p q = q
none_before (Some x) s p q = let no : ⊥ = cc in absurd no

-- ---- lists

abbrev pub In : {A : Type 0} → A → List A → Type 0
In x [] = ⊥
In x (y ∷ ys) = (x ≡ y) ⊎ In x ys

pub none_of : {A : Type 0} (f : A → Bool) (xs : List A) → some_of f xs ≡ false → (x : A) → In x xs → f x ≡ false
none_of f [] e x h = absurd h
none_of f (y ∷ ys) e x (inl p) = ap f p ∙ (or_false (f y) (some_of f ys) e).0
none_of f (y ∷ ys) e x (inr q) = none_of f ys (or_false (f y) (some_of f ys) e).1 x q

pub of_none : {A : Type 0} (f : A → Bool) (xs : List A) → ((x : A) → In x xs → f x ≡ false) → some_of f xs ≡ false
of_none f [] h = refl
of_none f (y ∷ ys) h = both_false (f y) (some_of f ys) (h y (inl refl)) (of_none f ys (λ x q. h x (inr q)))

pub in_left : {A : Type 0} (x : A) (xs ys : List A) → In x xs → In x (xs ++ ys)
in_left x [] ys h = absurd h
in_left x (z ∷ zs) ys (inl p) = inl p
in_left x (z ∷ zs) ys (inr q) = inr (in_left x zs ys q)

pub in_right : {A : Type 0} (x : A) (xs ys : List A) → In x ys → In x (xs ++ ys)
in_right x [] ys h = h
in_right x (z ∷ zs) ys h = inr (in_right x zs ys h)

pub in_either : {A : Type 0} (x : A) (xs ys : List A) → In x (xs ++ ys) → In x xs ⊎ In x ys
in_either x [] ys h = inr h
in_either x (z ∷ zs) ys (inl p) = inl (inl p)
in_either x (z ∷ zs) ys (inr q) = by (in_either x zs ys q)
  where
    by : In x zs ⊎ In x ys → In x (z ∷ zs) ⊎ In x ys
    by (inl r) = inl (inr r)
    by (inr r) = inr r

-- ---- paths

pub same_path-true : (p q : Path) → same_path p q ≡ true → p ≡ q
same_path-true [] [] e = refl
same_path-true [] (m ∷ q) e = clash e refl
same_path-true (n ∷ p) [] e = clash e refl
same_path-true (n ∷ p) (m ∷ q) e =
    let h = and_true (n == m) (same_path p q) e in λ i. eqb-true n m h.0 i ∷ same_path-true p q h.1 i

pub same_path_refl : (p : Path) → same_path p p ≡ true
same_path_refl [] = refl
same_path_refl (n ∷ p) = both_true (n == n) (same_path p p) (eq-eqb n n refl) (same_path_refl p)

below_self : (p : Path) → is_below p p ≡ true
below_self [] = refl
below_self (n ∷ p) = or_left (same_path (n ∷ p) (n ∷ p)) (is_below (n ∷ p) p) (same_path_refl (n ∷ p))

pub below_root : (q : Path) → is_below [] q ≡ true
below_root [] = refl
below_root (m ∷ q) = below_root q

-- what is below a field is below the struct
below_shorter : (n : ℕ) (p q : Path) → is_below (n ∷ p) q ≡ true → is_below p q ≡ true
below_shorter n p [] e = clash e refl
below_shorter n p (m ∷ q) e = by (or_true (same_path (n ∷ p) (m ∷ q)) (is_below (n ∷ p) q) e) (below_shorter n p q)
  where
    by : (same_path (n ∷ p) (m ∷ q) ≡ true) ⊎ (is_below (n ∷ p) q ≡ true) → (is_below (n ∷ p) q ≡ true → is_below p q ≡ true) → is_below p (m ∷ q) ≡ true
    by (inl s) k =
        let same : p ≡ q = same_path-true p q (and_true (n == m) (same_path p q) s).1 in
        or_right (same_path p (m ∷ q)) (is_below p q) (subst (λ r. is_below p r ≡ true) same (below_self p))
    by (inr s) k = or_right (same_path p (m ∷ q)) (is_below p q) (k s)

-- below a path stands itself, or what is below one of its fields
below_cases : (p q : Path) → is_below p q ≡ true → (p ≡ q) ⊎ ((n : ℕ) × (is_below (n ∷ p) q ≡ true))
below_cases p [] e = inl (same_path-true p [] e)
below_cases p (m ∷ q) e = by (or_true (same_path p (m ∷ q)) (is_below p q) e) (below_cases p q)
  where
    inner : (p ≡ q) ⊎ ((n : ℕ) × (is_below (n ∷ p) q ≡ true)) → (p ≡ m ∷ q) ⊎ ((n : ℕ) × (is_below (n ∷ p) (m ∷ q) ≡ true))
    inner (inl r) = inr (m, or_left (same_path (m ∷ p) (m ∷ q)) (is_below (m ∷ p) q) (subst (λ x. same_path (m ∷ p) (m ∷ x) ≡ true) r (same_path_refl (m ∷ p))))
    inner (inr r) = inr (r.0, or_right (same_path (r.0 ∷ p) (m ∷ q)) (is_below (r.0 ∷ p) q) r.1)

    by : (same_path p (m ∷ q) ≡ true) ⊎ (is_below p q ≡ true) → (is_below p q ≡ true → (p ≡ q) ⊎ ((n : ℕ) × (is_below (n ∷ p) q ≡ true))) → (p ≡ m ∷ q) ⊎ ((n : ℕ) × (is_below (n ∷ p) (m ∷ q) ≡ true))
    by (inl s) k = inl (same_path-true p (m ∷ q) s)
    by (inr s) k = inner (k s)

-- the origins from a number on
abbrev origins_from : ℕ → Origins → Origins
origins_from zero os = os
origins_from (suc n) no_origins = no_origins
origins_from (suc n) (more_origins o os) = origins_from n os

origin_at-from : (n : ℕ) (os : Origins) (o : Origin) (ps : Origins) → origins_from n os ≡ more_origins o ps → origin_at n os ≡ o
origin_at-from zero no_origins o ps e = let no : ⊥ = cc in absurd no
origin_at-from zero (more_origins p os) o ps e = cc
origin_at-from (suc n) no_origins o ps e = let no : ⊥ = cc in absurd no
origin_at-from (suc n) (more_origins p os) o ps e = origin_at-from n os o ps e

origins_from-suc : (n : ℕ) (os : Origins) (o : Origin) (ps : Origins) → origins_from n os ≡ more_origins o ps → origins_from (suc n) os ≡ ps
origins_from-suc zero no_origins o ps e = let no : ⊥ = cc in absurd no
origins_from-suc zero (more_origins p os) o ps e = cc
origins_from-suc (suc n) no_origins o ps e = let no : ⊥ = cc in absurd no
origins_from-suc (suc n) (more_origins p os) o ps e = origins_from-suc n os o ps e

one_path : (whole : Origin) (p : Path) (o : Origin) (q : Path) → at_path p whole ≡ o → In q (p ∷ []) → is_builder o ≡ true → (is_below p q ≡ true) × (is_builder_path whole q ≡ true)
one_path whole p o q e (inl h) b = (subst (λ r. is_below p r ≡ true) (sym h) (below_self p), ap is_builder (ap (λ r. at_path r whole) h ∙ e) ∙ b)
one_path whole p o q e (inr h) b = absurd h

mutual
  -- the paths listed lead to builders at or below the path
  paths_below_sound : (whole : Origin) (p : Path) (o : Origin) (q : Path) → at_path p whole ≡ o → In q (paths_below p o) → (is_below p q ≡ true) × (is_builder_path whole q ≡ true)
  paths_below_sound whole p value q e h = absurd h
  paths_below_sound whole p made q e h = one_path whole p made q e h refl
  paths_below_sound whole p (own r) q e h = one_path whole p (own r) q e h refl
  paths_below_sound whole p outer q e h = one_path whole p outer q e h refl
  paths_below_sound whole p (named s r) q e h = one_path whole p (named s r) q e h refl
  paths_below_sound whole p (struct os) q e h = paths_of_fields_sound whole p os zero os q e refl h

  paths_of_fields_sound : (whole : Origin) (p : Path) (all : Origins) (n : ℕ) (os : Origins) (q : Path) → at_path p whole ≡ struct all → origins_from n all ≡ os → In q (paths_of_fields n p os) → (is_below p q ≡ true) × (is_builder_path whole q ≡ true)
  paths_of_fields_sound whole p all n no_origins q e f h = absurd h
  paths_of_fields_sound whole p all n (more_origins o os) q e f h =
      by (in_either q (paths_below (n ∷ p) o) (paths_of_fields (suc n) p os) h)
      (λ r. paths_below_sound whole (n ∷ p) o q (ap (field_within n) e ∙ origin_at-from n all o os f) r)
      (λ r. paths_of_fields_sound whole p all (suc n) os q e (origins_from-suc n all o os f) r)
    where
      by : In q (paths_below (n ∷ p) o) ⊎ In q (paths_of_fields (suc n) p os) → (In q (paths_below (n ∷ p) o) → (is_below (n ∷ p) q ≡ true) × (is_builder_path whole q ≡ true)) → (In q (paths_of_fields (suc n) p os) → (is_below p q ≡ true) × (is_builder_path whole q ≡ true)) → (is_below p q ≡ true) × (is_builder_path whole q ≡ true)
      by (inl r) k m = let x = k r in (below_shorter n p q x.0, x.1)
      by (inr r) k m = m r

-- what stands below a value is a value
value_below : (whole : Origin) (p q : Path) → at_path p whole ≡ value → is_below p q ≡ true → at_path q whole ≡ value
value_below whole p [] e b = subst (λ r. at_path r whole ≡ value) (same_path-true p [] b) e
value_below whole p (m ∷ q) e b = by (or_true (same_path p (m ∷ q)) (is_below p q) b) (value_below whole p q e)
  where
    by : (same_path p (m ∷ q) ≡ true) ⊎ (is_below p q ≡ true) → (is_below p q ≡ true → at_path q whole ≡ value) → at_path (m ∷ q) whole ≡ value
    by (inl s) k = subst (λ r. at_path r whole ≡ value) (same_path-true p (m ∷ q) s) e
    by (inr s) k = ap (field_within m) (k s)

no_builder_below : {A : Type 0} (whole : Origin) (p q : Path) → at_path p whole ≡ value → is_below p q ≡ true → is_builder_path whole q ≡ true → A
no_builder_below whole p q e b h = clash h (ap is_builder (value_below whole p q e b))

-- a builder of one path, which has nothing below it
just_here : (whole : Origin) (p q : Path) (o : Origin) → at_path p whole ≡ o → ((n : ℕ) → field_within n o ≡ value) → is_below p q ≡ true → is_builder_path whole q ≡ true → In q (p ∷ [])
just_here whole p q o e none b h = by (below_cases p q b)
  where
    by : (p ≡ q) ⊎ ((n : ℕ) × (is_below (n ∷ p) q ≡ true)) → In q (p ∷ [])
    by (inl r) = inl (sym r)
    by (inr r) = no_builder_below whole (r.0 ∷ p) q (ap (field_within r.0) e ∙ none r.0) r.1 h

-- a number past the end, or the origins from there on
past_end : (n : ℕ) (os : Origins) → origins_from n os ≡ no_origins → (k : ℕ) → origin_at (n + k) os ≡ value
past_end zero no_origins e k = by (zero + k)
  where
    by : (m : ℕ) → origin_at m no_origins ≡ value
    by zero = refl
    by (suc m) = refl
past_end zero (more_origins o os) e k = let no : ⊥ = cc in absurd no
past_end (suc n) no_origins e k = by (suc n + k)
  where
    by : (m : ℕ) → origin_at m no_origins ≡ value
    by zero = refl
    by (suc m) = refl
past_end (suc n) (more_origins o os) e k = rw suc-add (past_end n os e k)

mutual
  -- and all of these are listed
  paths_below_complete : (whole : Origin) (p : Path) (o : Origin) (q : Path) → at_path p whole ≡ o → is_below p q ≡ true → is_builder_path whole q ≡ true → In q (paths_below p o)
  paths_below_complete whole p value q e b h = no_builder_below whole p q e b h
  paths_below_complete whole p made q e b h = just_here whole p q made e (λ n. refl) b h
  paths_below_complete whole p (own r) q e b h = just_here whole p q (own r) e (λ n. refl) b h
  paths_below_complete whole p outer q e b h = just_here whole p q outer e (λ n. refl) b h
  paths_below_complete whole p (named s r) q e b h = just_here whole p q (named s r) e (λ n. refl) b h
  paths_below_complete whole p (struct os) q e b h =
      by (below_cases p q b) (λ n c. in_fields whole p os zero os q n e refl c h)
    where
      by : (p ≡ q) ⊎ ((n : ℕ) × (is_below (n ∷ p) q ≡ true)) → ((n : ℕ) → is_below ((zero + n) ∷ p) q ≡ true → In q (paths_of_fields zero p os)) → In q (paths_of_fields zero p os)
      by (inl r) k = clash h (ap is_builder (ap (λ x. at_path x whole) (sym r) ∙ e))
      by (inr r) k = k r.0 (subst (λ x. is_below (x ∷ p) q ≡ true) (sym (zero-add r.0)) r.1)

  in_fields : (whole : Origin) (p : Path) (all : Origins) (n : ℕ) (os : Origins) (q : Path) (k : ℕ) → at_path p whole ≡ struct all → origins_from n all ≡ os → is_below ((n + k) ∷ p) q ≡ true → is_builder_path whole q ≡ true → In q (paths_of_fields n p os)
  in_fields whole p all n no_origins q k e f b h =
      no_builder_below whole ((n + k) ∷ p) q (ap (field_within (n + k)) e ∙ past_end n all f k) b h
  in_fields whole p all n (more_origins o os) q zero e f b h =
      in_left q _ _ (paths_below_complete whole (n ∷ p) o q (ap (field_within n) e ∙ origin_at-from n all o os f) (subst (λ x. is_below (x ∷ p) q ≡ true) (add-zero n) b) h)
  in_fields whole p all n (more_origins o os) q (suc k) e f b h =
      in_right q (paths_below (n ∷ p) o) _ (in_fields whole p all (suc n) os q k e (origins_from-suc n all o os f) (subst (λ x. is_below (x ∷ p) q ≡ true) (add-suc n k ∙ sym (suc-add n k)) b) h)

pub listed_sound : (whole : Origin) (p q : Path) → In q (paths_below p (at_path p whole)) → (is_below p q ≡ true) × (is_builder_path whole q ≡ true)
listed_sound whole p q h = paths_below_sound whole p (at_path p whole) q refl h

pub listed_complete : (whole : Origin) (p q : Path) → is_below p q ≡ true → is_builder_path whole q ≡ true → In q (paths_below p (at_path p whole))
listed_complete whole p q b h = paths_below_complete whole p (at_path p whole) q refl b h

-- ---- what is left

pub has_self : (left : Left) (e : ℕ × Path) → In e left → has left e.0 e.1 ≡ true
has_self [] e h = absurd h
has_self (f ∷ fs) e (inl p) =
    or_left ((f.0 == e.0) && same_path f.1 e.1) (has fs e.0 e.1) (both_true (f.0 == e.0) (same_path f.1 e.1) (eq-eqb f.0 e.0 (ap (λ x. x.0) (sym p))) (subst (λ r. same_path f.1 r ≡ true) (ap (λ x. x.1) (sym p)) (same_path_refl f.1)))
has_self (f ∷ fs) e (inr q) = or_right ((f.0 == e.0) && same_path f.1 e.1) (has fs e.0 e.1) (has_self fs e q)

has_in : (left : Left) (s : ℕ) (q : Path) → has left s q ≡ true → In (s, q) left
has_in [] s q e = clash e refl
has_in (f ∷ fs) s q e = by (or_true ((f.0 == s) && same_path f.1 q) (has fs s q) e) (has_in fs s q)
  where
    by : ((f.0 == s) && same_path f.1 q) ≡ true ⊎ has fs s q ≡ true → (has fs s q ≡ true → In (s, q) fs) → In (s, q) (f ∷ fs)
    by (inl p) k =
        let h = and_true (f.0 == s) (same_path f.1 q) p in
        inl (λ i. (sym (eqb-true f.0 s h.0) i, sym (same_path-true f.1 q h.1) i))
    by (inr p) k = inr (k p)

pub none_left : (taken : Taken) (left : Left) → some_of (λ (e : ℕ × Path). taken e.0 e.1) left ≡ false → (s : ℕ) (q : Path) → has left s q ≡ true → taken s q ≡ false
none_left taken left e s q h = none_of (λ (x : ℕ × Path). taken x.0 x.1) left e (s, q) (has_in left s q h)

pub left_none : (taken : Taken) (left : Left) → ((s : ℕ) (q : Path) → has left s q ≡ true → taken s q ≡ false) → some_of (λ (e : ℕ × Path). taken e.0 e.1) left ≡ false
left_none taken left h = of_none (λ (x : ℕ × Path). taken x.0 x.1) left (λ x i. h x.0 x.1 (has_self left x i))

in_after : (taken : Taken) (left : Left) (e : ℕ × Path) → In e left → taken e.0 e.1 ≡ false → In e (after_taking taken left)
in_after taken [] e h f = absurd h
in_after taken (x ∷ xs) e (inl p) f = by (taken x.0 x.1) (ap (λ y. taken y.0 y.1) (sym p) ∙ f)
  where
    by : (b : Bool) → b ≡ false → In e (if b then after_taking taken xs else x ∷ after_taking taken xs)
    by true g = clash refl g
    by false g = inl p
in_after taken (x ∷ xs) e (inr q) f = by (taken x.0 x.1) (in_after taken xs e q f)
  where
    by : (b : Bool) → In e (after_taking taken xs) → In e (if b then after_taking taken xs else x ∷ after_taking taken xs)
    by true g = g
    by false g = inr g

after_in : (taken : Taken) (left : Left) (e : ℕ × Path) → In e (after_taking taken left) → In e left × (taken e.0 e.1 ≡ false)
after_in taken [] e h = absurd h
after_in taken (x ∷ xs) e h = by (taken x.0 x.1) refl (after_in taken xs e) h
  where
    inner : taken x.0 x.1 ≡ false → (In e (after_taking taken xs) → In e xs × (taken e.0 e.1 ≡ false)) → In e (x ∷ after_taking taken xs) → In e (x ∷ xs) × (taken e.0 e.1 ≡ false)
    inner f k (inl p) = (inl p, ap (λ y. taken y.0 y.1) p ∙ f)
    inner f k (inr q) = let r = k q in (inr r.0, r.1)

    by : (b : Bool) → taken x.0 x.1 ≡ b → (In e (after_taking taken xs) → In e xs × (taken e.0 e.1 ≡ false)) → In e (if b then after_taking taken xs else x ∷ after_taking taken xs) → In e (x ∷ xs) × (taken e.0 e.1 ≡ false)
    by true f k g = let r = k g in (inr r.0, r.1)
    by false f k g = inner f k g

pub has_after : (taken : Taken) (left : Left) (s : ℕ) (q : Path) → has left s q ≡ true → taken s q ≡ false → has (after_taking taken left) s q ≡ true
has_after taken left s q h f = has_self (after_taking taken left) (s, q) (in_after taken left (s, q) (has_in left s q h) f)

pub after_has : (taken : Taken) (left : Left) (s : ℕ) (q : Path) → has (after_taking taken left) s q ≡ true → (has left s q ≡ true) × (taken s q ≡ false)
after_has taken left s q h =
    let r = after_in taken left (s, q) (has_in (after_taking taken left) s q h) in (has_self left (s, q) r.0, r.1)

in_map : (s : ℕ) (q : Path) (qs : List Path) → In q qs → In {A = ℕ × Path} (s, q) (map (λ (r : Path). (s, r)) qs)
in_map s q [] h = absurd h
in_map s q (r ∷ rs) (inl p) = inl (ap (λ (x : Path). (s, x)) p)
in_map s q (r ∷ rs) (inr h) = inr (in_map s q rs h)

map_in : (s t : ℕ) (q : Path) (qs : List Path) → In {A = ℕ × Path} (t, q) (map (λ (r : Path). (s, r)) qs) → t ≡ s
map_in s t q [] h = absurd h
map_in s t q (r ∷ rs) (inl p) = ap (λ x. x.0) p
map_in s t q (r ∷ rs) (inr h) = map_in s t q rs h

-- the builders of a binder before others
pub has_builder : (s : ℕ) (o : Origin) (others : Left) (q : Path) → is_builder_path o q ≡ true → has (builders_of s o ++ others) s q ≡ true
has_builder s o others q h =
    has_self (builders_of s o ++ others) (s, q) (in_left (s, q) (builders_of s o) others (in_map s q (paths_below [] o) (listed_complete o [] q (below_root q) h)))

pub has_other : (s t : ℕ) (o : Origin) (others : Left) (q : Path) → has others t q ≡ true → has (builders_of s o ++ others) t q ≡ true
has_other s t o others q h = has_self (builders_of s o ++ others) (t, q) (in_right (t, q) (builders_of s o) others (has_in others t q h))

pub other_has : (s t : ℕ) (o : Origin) (others : Left) (q : Path) → (t ≡ s → ⊥) → has (builders_of s o ++ others) t q ≡ true → has others t q ≡ true
other_has s t o others q ne h = by (in_either (t, q) (builders_of s o) others (has_in (builders_of s o ++ others) t q h))
  where
    by : In (t, q) (builders_of s o) ⊎ In (t, q) others → has others t q ≡ true
    by (inl r) = absurd (ne (map_in s t q (paths_below [] o) r))
    by (inr r) = has_self others (t, q) r

-- ---- tests of origins

mutual
  pub seen_of : (o : Origin) → is_seen o ≡ true → IsSeen o
  seen_of value e = tt
  seen_of made e = tt
  seen_of (own p) e = tt
  seen_of outer e = clash e refl
  seen_of (named s p) e = tt
  seen_of (struct os) e = all_seen_of os e

  all_seen_of : (os : Origins) → are_seen os ≡ true → AreSeen os
  all_seen_of no_origins e = tt
  all_seen_of (more_origins o os) e = let h = and_true (is_seen o) (are_seen os) e in (seen_of o h.0, all_seen_of os h.1)

mutual
  pub of_seen : (o : Origin) → IsSeen o → is_seen o ≡ true
  of_seen value h = refl
  of_seen made h = refl
  of_seen (own p) h = refl
  of_seen outer h = absurd h
  of_seen (named s p) h = refl
  of_seen (struct os) h = of_all_seen os h

  of_all_seen : (os : Origins) → AreSeen os → are_seen os ≡ true
  of_all_seen no_origins h = refl
  of_all_seen (more_origins o os) h = both_true (is_seen o) (are_seen os) (of_seen o h.0) (of_all_seen os h.1)

mutual
  pub not_made_of : (o : Origin) → is_not_made o ≡ true → IsNotMade o
  not_made_of value e = tt
  not_made_of made e = clash e refl
  not_made_of (own p) e = tt
  not_made_of outer e = tt
  not_made_of (named s p) e = tt
  not_made_of (struct os) e = all_not_made_of os e

  all_not_made_of : (os : Origins) → are_not_made os ≡ true → AreNotMade os
  all_not_made_of no_origins e = tt
  all_not_made_of (more_origins o os) e = let h = and_true (is_not_made o) (are_not_made os) e in (not_made_of o h.0, all_not_made_of os h.1)

mutual
  pub of_not_made : (o : Origin) → IsNotMade o → is_not_made o ≡ true
  of_not_made value h = refl
  of_not_made made h = absurd h
  of_not_made (own p) h = refl
  of_not_made outer h = refl
  of_not_made (named s p) h = refl
  of_not_made (struct os) h = of_all_not_made os h

  of_all_not_made : (os : Origins) → AreNotMade os → are_not_made os ≡ true
  of_all_not_made no_origins h = refl
  of_all_not_made (more_origins o os) h = both_true (is_not_made o) (are_not_made os) (of_not_made o h.0) (of_all_not_made os h.1)

pub not_own_of : (o : Origin) → is_own o ≡ false → IsNotOwn o
not_own_of value e = tt
not_own_of made e = tt
not_own_of (own p) e = clash refl e
not_own_of outer e = tt
not_own_of (named s p) e = tt
not_own_of (struct os) e = tt

pub of_not_own : (o : Origin) → IsNotOwn o → is_own o ≡ false
of_not_own value h = refl
of_not_own made h = refl
of_not_own (own p) h = absurd h
of_not_own outer h = refl
of_not_own (named s p) h = refl
of_not_own (struct os) h = refl

mutual
  pub same_origin_true : (o p : Origin) → same_origin o p ≡ true → o ≡ p
  same_origin_true value value e = refl
  same_origin_true made made e = refl
  same_origin_true (own p) (own q) e = ap own (same_path-true p q e)
  same_origin_true outer outer e = refl
  same_origin_true (named s p) (named t q) e =
      let h = and_true (s == t) (same_path p q) e in λ i. named (eqb-true s t h.0 i) (same_path-true p q h.1 i)
  same_origin_true (struct os) (struct ps) e = ap struct (same_origins_true os ps e)
  same_origin_true _ _ e = clash e refl

  same_origins_true : (os ps : Origins) → same_origins os ps ≡ true → os ≡ ps
  same_origins_true no_origins no_origins e = refl
  same_origins_true (more_origins o os) (more_origins p ps) e =
      let h = and_true (same_origin o p) (same_origins os ps) e in λ i. more_origins (same_origin_true o p h.0 i) (same_origins_true os ps h.1 i)
  same_origins_true _ _ e = clash e refl

mutual
  same_origin_refl : (o : Origin) → same_origin o o ≡ true
  same_origin_refl value = refl
  same_origin_refl made = refl
  same_origin_refl (own p) = same_path_refl p
  same_origin_refl outer = refl
  same_origin_refl (named s p) = both_true (s == s) (same_path p p) (eq-eqb s s refl) (same_path_refl p)
  same_origin_refl (struct os) = same_origins_refl os

  same_origins_refl : (os : Origins) → same_origins os os ≡ true
  same_origins_refl no_origins = refl
  same_origins_refl (more_origins o os) = both_true (same_origin o o) (same_origins os os) (same_origin_refl o) (same_origins_refl os)

pub true_same_origin : (o p : Origin) → o ≡ p → same_origin o p ≡ true
true_same_origin o p e = subst (λ x. same_origin o x ≡ true) e (same_origin_refl o)
