-- A name that is used once, and the way to its use.
use Rattle.std.proofs.Common.{◌≡◌, ℕ, ◌+◌, ◌≤◌, if◌then◌else◌, Bool, true, false, Option, Some, None, refl, sym, subst, ◌⊎◌, inl, inr, arith}
use Rattle.weld_tree.specs.ExprTree.{ExprTree, leaf, one, two, three, many, let_in, loop, iterate, ExprTrees, no_exprs, more_exprs, LegTree, whole, strided, LegTrees, no_legs, more_legs}
use Rattle.weld_substitution.specs.Uses.{is_name, uses, uses_in, uses_in_leg, uses_in_legs}
use Rattle.weld_substitution.specs.declared.put_anywhere.spot.Spot.{Spot}
use Rattle.weld_substitution.specs.declared.put_anywhere.spot.Spot.TheVariants.{Leg, Other}
use Rattle.weld_substitution.specs.Redex.{spot_below, takes_both, takes_all, or_else, only_where, spot_of, spot_among, spot_in_leg, spot_in_legs}

abbrev mutual
  -- the name's only use in the expression is on the way and stands at the second spot; the expression stands at the first
  pub Way : ℕ → Spot → Spot → ExprTree → Type 0
  Way s here p (leaf a l) = (is_name l s ≡ true) × (here ≡ p)
  Way s here p (one a o e) = Way s (spot_below o) p e
  Way s here p (two a o e f) = (Way s Other p e × (uses f s ≡ 0)) ⊎ ((uses e s ≡ 0) × (takes_both o ≡ true) × Way s Other p f)
  Way s here p (three a o d e f) =
      (Way s Other p d × (uses e s ≡ 0) × (uses f s ≡ 0)) ⊎ (((uses d s ≡ 0) × (takes_all o ≡ true) × Way s Other p e × (uses f s ≡ 0))
      ⊎ ((uses d s ≡ 0) × (takes_all o ≡ true) × (uses e s ≡ 0) × Way s Other p f))
  Way s here p (many a o es) = WayAmong s p es
  Way s here p (let_in a b e f) = (Way s Other p e × (uses f s ≡ 0)) ⊎ ((uses e s ≡ 0) × Way s Other p f)
  Way s here p (loop a ls e b n x f) =
      (WayInLegs s p ls × (uses e s ≡ 0) × (uses f s ≡ 0)) ⊎ ((uses_in_legs ls s ≡ 0) × Way s Other p e × (uses f s ≡ 0))
  Way s here p (iterate a e b f) = Way s Other p e × (uses f s ≡ 0)

  pub WayAmong : ℕ → Spot → ExprTrees → Type 0
  WayAmong s p no_exprs = ⊥
  WayAmong s p (more_exprs e es) = (Way s Other p e × (uses_in es s ≡ 0)) ⊎ ((uses e s ≡ 0) × WayAmong s p es)

  pub WayInLeg : ℕ → Spot → LegTree → Type 0
  WayInLeg s p (whole e) = Way s Leg p e
  WayInLeg s p (strided e f i j) =
      (Way s Other p e × (uses f s ≡ 0) × (uses i s ≡ 0) × (uses j s ≡ 0)) ⊎ (((uses e s ≡ 0) × Way s Other p f × (uses i s ≡ 0) × (uses j s ≡ 0))
      ⊎ (((uses e s ≡ 0) × (uses f s ≡ 0) × Way s Other p i × (uses j s ≡ 0)) ⊎ ((uses e s ≡ 0) × (uses f s ≡ 0) × (uses i s ≡ 0) × Way s Other p j)))

  pub WayInLegs : ℕ → Spot → LegTrees → Type 0
  WayInLegs s p no_legs = ⊥
  WayInLegs s p (more_legs l ls) = (WayInLeg s p l × (uses_in_legs ls s ≡ 0)) ⊎ ((uses_in_leg l s ≡ 0) × WayInLegs s p ls)

-- ---- from the test to the way

or_else_is : (o r : Option Spot) (p : Spot) → or_else o r ≡ Some p → (o ≡ Some p) ⊎ (r ≡ Some p)
or_else_is (Some q) r p h = inl h
or_else_is None r p h = inr h

only_is : (c : Bool) (o : Option Spot) (p : Spot) → only_where c o ≡ Some p → (c ≡ true) × (o ≡ Some p)
only_is true o p h = (refl, h)
only_is false o p h = let nothing : ⊥ = cc in absurd nothing

leaf_found : (c : Bool) (here p : Spot) → (if c then Some here else None) ≡ Some p → (c ≡ true) × (here ≡ p)
leaf_found true here p h = (refl, cc)
leaf_found false here p h = let nothing : ⊥ = cc in absurd nothing

some_of : (m n : ℕ) (o r : Option Spot) (p : Spot) → (o ≡ Some p → 1 ≤ m) → (r ≡ Some p → 1 ≤ n) → or_else o r ≡ Some p → 1 ≤ m + n
some_of m n o r p f g h = by (or_else_is o r p h)
  where
    by : (o ≡ Some p) ⊎ (r ≡ Some p) → 1 ≤ m + n
    by (inl k) = omega (arith, f k)
    by (inr k) = omega (arith, g k)

mutual
  -- where a use is found there is one
  found_used : (e : ExprTree) (s : ℕ) (here p : Spot) → spot_of s here e ≡ Some p → 1 ≤ uses e s
  found_used (leaf a l) s here p h = let k = leaf_found (is_name l s) here p h in subst (λ c. 1 ≤ (if c then 1 else 0)) (sym k.0) (omega arith)
  found_used (one a o e) s here p h = found_used e s (spot_below o) p h
  found_used (two a o e f) s here p h =
      some_of (uses e s) (uses f s) _ (only_where (takes_both o) (spot_of s Other f)) p (found_used e s Other p) (λ k. found_used f s Other p (only_is (takes_both o) (spot_of s Other f) p k).1) h
  found_used (three a o d e f) s here p h =
      let k = some_of (uses d s) (uses e s + uses f s) _ (only_where (takes_all o) (or_else (spot_of s Other e) (spot_of s Other f))) p (found_used d s Other p)
      (λ k. some_of (uses e s) (uses f s) _ (spot_of s Other f) p (found_used e s Other p) (found_used f s Other p) (only_is (takes_all o) (or_else (spot_of s Other e) (spot_of s Other f)) p k).1) h in
      omega (arith, k)
  found_used (many a o es) s here p h = found_among es s p h
  found_used (let_in a b e f) s here p h = some_of (uses e s) (uses f s) _ (spot_of s Other f) p (found_used e s Other p) (found_used f s Other p) h
  found_used (loop a ls e b n x f) s here p h =
      let k = some_of (uses_in_legs ls s) (uses e s) _ (spot_of s Other e) p (found_in_legs ls s p) (found_used e s Other p) h in omega (arith, k)
  found_used (iterate a e b f) s here p h = omega (arith, found_used e s Other p h)

  found_among : (es : ExprTrees) (s : ℕ) (p : Spot) → spot_among s es ≡ Some p → 1 ≤ uses_in es s
  found_among no_exprs s p h = let nothing : ⊥ = cc in absurd nothing
  found_among (more_exprs e es) s p h = some_of (uses e s) (uses_in es s) _ (spot_among s es) p (found_used e s Other p) (found_among es s p) h

  found_in_leg : (l : LegTree) (s : ℕ) (p : Spot) → spot_in_leg s l ≡ Some p → 1 ≤ uses_in_leg l s
  found_in_leg (whole e) s p h = found_used e s Leg p h
  found_in_leg (strided e f i j) s p h =
      let k = some_of (uses e s) (uses f s + (uses i s + uses j s)) _ (or_else (spot_of s Other f) (or_else (spot_of s Other i) (spot_of s Other j))) p (found_used e s Other p)
      (some_of (uses f s) (uses i s + uses j s) _ (or_else (spot_of s Other i) (spot_of s Other j)) p (found_used f s Other p)
      (some_of (uses i s) (uses j s) _ (spot_of s Other j) p (found_used i s Other p) (found_used j s Other p))) h in
      omega (arith, k)

  found_in_legs : (ls : LegTrees) (s : ℕ) (p : Spot) → spot_in_legs s ls ≡ Some p → 1 ≤ uses_in_legs ls s
  found_in_legs no_legs s p h = let nothing : ⊥ = cc in absurd nothing
  found_in_legs (more_legs l ls) s p h = some_of (uses_in_leg l s) (uses_in_legs ls s) _ (spot_in_legs s ls) p (found_in_leg l s p) (found_in_legs ls s p) h

-- of two, where there is one use in all
first_or_second : {A B : Type 0} (m n : ℕ) (o r : Option Spot) (p : Spot) → m + n ≡ 1 → (o ≡ Some p → 1 ≤ m) → (r ≡ Some p → 1 ≤ n) → (m ≡ 1 → n ≡ 0 → o ≡ Some p → A) → (m ≡ 0 → n ≡ 1 → r ≡ Some p → B) → or_else o r ≡ Some p → A ⊎ B
first_or_second {A} {B} m n o r p e f g k l h = by (or_else_is o r p h)
  where
    by : (o ≡ Some p) ⊎ (r ≡ Some p) → A ⊎ B
    by (inl i) = let x = f i in inl (k (omega (arith, x, e)) (omega (arith, x, e)) i)
    by (inr i) = let x = g i in inr (l (omega (arith, x, e)) (omega (arith, x, e)) i)

mutual
  pub way_of : (e : ExprTree) (s : ℕ) (here p : Spot) → uses e s ≡ 1 → spot_of s here e ≡ Some p → Way s here p e
  way_of (leaf a l) s here p u h = leaf_found (is_name l s) here p h
  way_of (one a o e) s here p u h = way_of e s (spot_below o) p u h
  way_of (two a o e f) s here p u h =
      first_or_second (uses e s) (uses f s) (spot_of s Other e) (only_where (takes_both o) (spot_of s Other f)) p u (found_used e s Other p)
      (λ k. found_used f s Other p (only_is (takes_both o) (spot_of s Other f) p k).1) (λ m n k. (way_of e s Other p m k, n))
      (λ m n k. let i = only_is (takes_both o) (spot_of s Other f) p k in (m, i.0, way_of f s Other p n i.1)) h
  way_of (three a o d e f) s here p u h =
      let later = or_else (spot_of s Other e) (spot_of s Other f) in
      let in_later : later ≡ Some p → 1 ≤ uses e s + uses f s = some_of (uses e s) (uses f s) (spot_of s Other e) (spot_of s Other f) p (found_used e s Other p) (found_used f s Other p) in
      first_or_second (uses d s) (uses e s + uses f s) (spot_of s Other d) (only_where (takes_all o) later) p (omega (arith, u)) (found_used d s Other p)
      (λ k. in_later (only_is (takes_all o) later p k).1) (λ m n k. (way_of d s Other p m k, omega (arith, n), omega (arith, n)))
      (λ m n k. let i = only_is (takes_all o) later p k in
      first_or_second (uses e s) (uses f s) (spot_of s Other e) (spot_of s Other f) p n (found_used e s Other p) (found_used f s Other p)
      (λ x y z. (m, i.0, way_of e s Other p x z, y)) (λ x y z. (m, i.0, x, way_of f s Other p y z)) i.1) h
  way_of (many a o es) s here p u h = way_among es s p u h
  way_of (let_in a b e f) s here p u h =
      first_or_second (uses e s) (uses f s) (spot_of s Other e) (spot_of s Other f) p u (found_used e s Other p) (found_used f s Other p)
      (λ m n k. (way_of e s Other p m k, n)) (λ m n k. (m, way_of f s Other p n k)) h
  way_of (loop a ls e b n x f) s here p u h =
      let within = some_of (uses_in_legs ls s) (uses e s) (spot_in_legs s ls) (spot_of s Other e) p (found_in_legs ls s p) (found_used e s Other p) h in
      first_or_second (uses_in_legs ls s) (uses e s) (spot_in_legs s ls) (spot_of s Other e) p (omega (arith, u, within)) (found_in_legs ls s p) (found_used e s Other p)
      (λ m y k. (way_in_legs ls s p m k, y, omega (arith, u, within))) (λ m y k. (m, way_of e s Other p y k, omega (arith, u, within))) h
  way_of (iterate a e b f) s here p u h = let k = found_used e s Other p h in (way_of e s Other p (omega (arith, u, k)) h, omega (arith, u, k))

  way_among : (es : ExprTrees) (s : ℕ) (p : Spot) → uses_in es s ≡ 1 → spot_among s es ≡ Some p → WayAmong s p es
  way_among no_exprs s p u h = let nothing : ⊥ = cc in absurd nothing
  way_among (more_exprs e es) s p u h =
      first_or_second (uses e s) (uses_in es s) (spot_of s Other e) (spot_among s es) p u (found_used e s Other p) (found_among es s p)
      (λ m n k. (way_of e s Other p m k, n)) (λ m n k. (m, way_among es s p n k)) h

  way_in_leg : (l : LegTree) (s : ℕ) (p : Spot) → uses_in_leg l s ≡ 1 → spot_in_leg s l ≡ Some p → WayInLeg s p l
  way_in_leg (whole e) s p u h = way_of e s Leg p u h
  way_in_leg (strided e f i j) s p u h =
      let last = or_else (spot_of s Other i) (spot_of s Other j) in
      let later = or_else (spot_of s Other f) last in
      let in_last : last ≡ Some p → 1 ≤ uses i s + uses j s = some_of (uses i s) (uses j s) (spot_of s Other i) (spot_of s Other j) p (found_used i s Other p) (found_used j s Other p) in
      let in_later : later ≡ Some p → 1 ≤ uses f s + (uses i s + uses j s) = some_of (uses f s) (uses i s + uses j s) (spot_of s Other f) last p (found_used f s Other p) in_last in
      first_or_second (uses e s) (uses f s + (uses i s + uses j s)) (spot_of s Other e) later p (omega (arith, u)) (found_used e s Other p) in_later
      (λ m n k. (way_of e s Other p m k, omega (arith, n), omega (arith, n), omega (arith, n)))
      (λ m n k. first_or_second (uses f s) (uses i s + uses j s) (spot_of s Other f) last p n (found_used f s Other p) in_last
      (λ x y z. (m, way_of f s Other p x z, omega (arith, y), omega (arith, y)))
      (λ x y z. first_or_second (uses i s) (uses j s) (spot_of s Other i) (spot_of s Other j) p y (found_used i s Other p) (found_used j s Other p)
      (λ a b c. (m, x, way_of i s Other p a c, b)) (λ a b c. (m, x, a, way_of j s Other p b c)) z) k) h

  way_in_legs : (ls : LegTrees) (s : ℕ) (p : Spot) → uses_in_legs ls s ≡ 1 → spot_in_legs s ls ≡ Some p → WayInLegs s p ls
  way_in_legs no_legs s p u h = let nothing : ⊥ = cc in absurd nothing
  way_in_legs (more_legs l ls) s p u h =
      first_or_second (uses_in_leg l s) (uses_in_legs ls s) (spot_in_leg s l) (spot_in_legs s ls) p u (found_in_leg l s p) (found_in_legs ls s p)
      (λ m n k. (way_in_leg l s p m k, n)) (λ m n k. (m, way_in_legs ls s p n k)) h
