-- Uses and free names.
use Rattle.std.proofs.Common.{◌≡◌, ◌≢◌, ◌⊎◌, ◌↔◌, inl, inr, ℕ, ◌+◌, ◌<◌, ◌==◌, if◌then◌else◌, Bool, true, false, refl, arith, eq-eqb, ne_eqb}
use Rattle.std.proofs.lemmas.Bool.{cases_eq}
use Rattle.weld_tree.specs.ExprTree.{At, ExprTree, leaf, one, two, three, many, let_in, loop, iterate, ExprTrees, no_exprs, more_exprs, LegTree, whole, strided, LegTrees, no_legs, more_legs, Leaf, int, truth, chars, name, fresh}
use Rattle.weld_meaning.specs.Names.{LeafNames, IsFree, AreFree, LegIsFree, LegsAreFree, put_in_leaf, put, put_in_all, put_in_leg, put_in_legs, Binds, AllBind, LegBinds, LegsBind}
use Rattle.weld_substitution.specs.Uses.{is_name, uses, uses_in, uses_in_leg, uses_in_legs}

abbrev count : Bool → ℕ
count b = if b then 1 else 0

-- ---- what is used is free

used_leaf : (l : Leaf) (s : ℕ) → 0 < count (is_name l s) → LeafNames l s
used_leaf (int k x) s h = absurd (omega arith)
used_leaf (truth b) s h = absurd (omega arith)
used_leaf (chars bs) s h = absurd (omega arith)
used_leaf (name t) s h = by (cases_eq s t) h
  where
    by : (s ≡ t) ⊎ (s ≢ t) → 0 < count (s == t) → s ≡ t
    by (inl e) k = e
    by (inr ne) k = let z : 0 < 0 = rw (ne_eqb s t ne) at k in absurd (omega arith)
used_leaf (fresh b) s h = absurd (omega arith)

leaf_used : (l : Leaf) (s : ℕ) → LeafNames l s → 0 < count (is_name l s)
leaf_used (int k x) s h = absurd h
leaf_used (truth b) s h = absurd h
leaf_used (chars bs) s h = absurd h
leaf_used (name t) s e = rw (eq-eqb s t e) (omega arith)
leaf_used (fresh b) s h = absurd h

-- one of two numbers isn't 0
of_sum : (m n : ℕ) → 0 < m + n → (0 < m) ⊎ (0 < n)
of_sum m n h = grind arith

some_of : (m n : ℕ) {P Q : Type 0} → (0 < m → P) → (0 < n → Q) → 0 < m + n → P ⊎ Q
some_of m n f g h = elim (of_sum m n h) [ inl k ↦ inl (f k) | inr k ↦ inr (g k) ]

of_some : (m n : ℕ) {P Q : Type 0} → (P → 0 < m) → (Q → 0 < n) → P ⊎ Q → 0 < m + n
of_some m n f g (inl p) = let k : 0 < m = f p in omega arith
of_some m n f g (inr q) = let k : 0 < n = g q in omega arith

three_of : (l m n : ℕ) {P Q R : Type 0} → (0 < l → P) → (0 < m → Q) → (0 < n → R) → 0 < l + m + n → P ⊎ (Q ⊎ R)
three_of l m n f g h k = some_of l (m + n) f (some_of m n g h) (let e : l + (m + n) ≡ l + m + n = omega arith in omega arith)

of_three : (l m n : ℕ) {P Q R : Type 0} → (P → 0 < l) → (Q → 0 < m) → (R → 0 < n) → P ⊎ (Q ⊎ R) → 0 < l + m + n
of_three l m n f g h k = let z : 0 < l + (m + n) = of_some l (m + n) f (of_some m n g h) k in omega arith

four_of : (j l m n : ℕ) {O P Q R : Type 0} → (0 < j → O) → (0 < l → P) → (0 < m → Q) → (0 < n → R) → 0 < j + l + m + n → O ⊎ (P ⊎ (Q ⊎ R))
four_of j l m n e f g h k = some_of j (l + m + n) e (three_of l m n f g h) (omega arith)

of_four : (j l m n : ℕ) {O P Q R : Type 0} → (O → 0 < j) → (P → 0 < l) → (Q → 0 < m) → (R → 0 < n) → O ⊎ (P ⊎ (Q ⊎ R)) → 0 < j + l + m + n
of_four j l m n e f g h k = let z : 0 < j + (l + m + n) = of_some j (l + m + n) e (of_three l m n f g h) k in omega arith

abbrev Besides : ℕ → ℕ → Type 0
Besides s b = s ≢ b

mutual
  used_is : (e : ExprTree) (s : ℕ) → Binds (Besides s) e → 0 < uses e s → IsFree e s
  used_is (leaf a l) s w h = used_leaf l s h
  used_is (one a o e) s w h = used_is e s w h
  used_is (two a o e f) s w h = some_of (uses e s) (uses f s) (used_is e s w.0) (used_is f s w.1) h
  used_is (three a o c e f) s w h = three_of (uses c s) (uses e s) (uses f s) (used_is c s w.0) (used_is e s w.1) (used_is f s w.2) h
  used_is (many a o es) s w h = used_are es s w h
  used_is (let_in a b e f) s w h = some_of (uses e s) (uses f s) (used_is e s w.1) (λ k. (used_is f s w.2 k, w.0)) h
  used_is (loop a ls e b n x f) s w h =
      three_of (uses_in_legs ls s) (uses e s) (uses f s) (used_legs_are ls s w.3) (used_is e s w.4) (λ k. (used_is f s w.5 k, w.2, w.1, w.0)) h
  used_is (iterate a e b f) s w h = some_of (uses e s) (uses f s) (used_is e s w.1) (λ k. (used_is f s w.2 k, w.0)) h

  used_are : (es : ExprTrees) (s : ℕ) → AllBind (Besides s) es → 0 < uses_in es s → AreFree es s
  used_are no_exprs s w h = absurd (omega arith)
  used_are (more_exprs e es) s w h = some_of (uses e s) (uses_in es s) (used_is e s w.0) (used_are es s w.1) h

  used_leg_is : (l : LegTree) (s : ℕ) → LegBinds (Besides s) l → 0 < uses_in_leg l s → LegIsFree l s
  used_leg_is (whole e) s w h = used_is e s w h
  used_leg_is (strided e f g k) s w h =
      four_of (uses e s) (uses f s) (uses g s) (uses k s) (used_is e s w.0) (used_is f s w.1) (used_is g s w.2) (used_is k s w.3) h

  used_legs_are : (ls : LegTrees) (s : ℕ) → LegsBind (Besides s) ls → 0 < uses_in_legs ls s → LegsAreFree ls s
  used_legs_are no_legs s w h = absurd (omega arith)
  used_legs_are (more_legs l ls) s w h = some_of (uses_in_leg l s) (uses_in_legs ls s) (used_leg_is l s w.0) (used_legs_are ls s w.1) h

mutual
  is_used : (e : ExprTree) (s : ℕ) → IsFree e s → 0 < uses e s
  is_used (leaf a l) s h = leaf_used l s h
  is_used (one a o e) s h = is_used e s h
  is_used (two a o e f) s h = of_some (uses e s) (uses f s) (is_used e s) (is_used f s) h
  is_used (three a o c e f) s h = of_three (uses c s) (uses e s) (uses f s) (is_used c s) (is_used e s) (is_used f s) h
  is_used (many a o es) s h = are_used es s h
  is_used (let_in a b e f) s h = of_some (uses e s) (uses f s) (is_used e s) (λ k. is_used f s k.0) h
  is_used (loop a ls e b n x f) s h = of_three (uses_in_legs ls s) (uses e s) (uses f s) (legs_are_used ls s) (is_used e s) (λ k. is_used f s k.0) h
  is_used (iterate a e b f) s h = of_some (uses e s) (uses f s) (is_used e s) (λ k. is_used f s k.0) h

  are_used : (es : ExprTrees) (s : ℕ) → AreFree es s → 0 < uses_in es s
  are_used no_exprs s h = absurd h
  are_used (more_exprs e es) s h = of_some (uses e s) (uses_in es s) (is_used e s) (are_used es s) h

  leg_is_used : (l : LegTree) (s : ℕ) → LegIsFree l s → 0 < uses_in_leg l s
  leg_is_used (whole e) s h = is_used e s h
  leg_is_used (strided e f g k) s h = of_four (uses e s) (uses f s) (uses g s) (uses k s) (is_used e s) (is_used f s) (is_used g s) (is_used k s) h

  legs_are_used : (ls : LegTrees) (s : ℕ) → LegsAreFree ls s → 0 < uses_in_legs ls s
  legs_are_used no_legs s h = absurd h
  legs_are_used (more_legs l ls) s h = of_some (uses_in_leg l s) (uses_in_legs ls s) (leg_is_used l s) (legs_are_used ls s) h

pub used_or_free : (e : ExprTree) (s : ℕ) → Binds (λ b. s ≢ b) e → (0 < uses e s) ↔ IsFree e s
used_or_free e s w = (used_is e s w, is_used e s)

-- ---- where a name isn't used, nothing changes

leaf_kept : (a : At) (l : Leaf) (s : ℕ) (v : ExprTree) → count (is_name l s) ≡ 0 → put_in_leaf s v a l ≡ leaf a l
leaf_kept a (int k x) s v h = refl
leaf_kept a (truth b) s v h = refl
leaf_kept a (chars bs) s v h = refl
leaf_kept a (name t) s v h = by (s == t) h
  where
    by : (b : Bool) → count b ≡ 0 → (if b then v else leaf a (name t)) ≡ leaf a (name t)
    by true k = absurd (omega arith)
    by false k = refl
leaf_kept a (fresh b) s v h = refl

mutual
  pub kept : (e v : ExprTree) (s : ℕ) → uses e s ≡ 0 → put s v e ≡ e
  kept (leaf a l) v s h = leaf_kept a l s v h
  kept (one a o e) v s h = λ i. one a o (kept e v s h i)
  kept (two a o e f) v s h = let p = kept e v s (omega arith) in let q = kept f v s (omega arith) in λ i. two a o (p i) (q i)
  kept (three a o c e f) v s h =
      let p = kept c v s (omega arith) in let q = kept e v s (omega arith) in let r = kept f v s (omega arith) in λ i. three a o (p i) (q i) (r i)
  kept (many a o es) v s h = λ i. many a o (all_kept es v s h i)
  kept (let_in a b e f) v s h = let p = kept e v s (omega arith) in let q = kept f v s (omega arith) in λ i. let_in a b (p i) (q i)
  kept (loop a ls e b n x f) v s h =
      let p = legs_kept ls v s (omega arith) in let q = kept e v s (omega arith) in let r = kept f v s (omega arith) in λ i. loop a (p i) (q i) b n x (r i)
  kept (iterate a e b f) v s h = let p = kept e v s (omega arith) in let q = kept f v s (omega arith) in λ i. iterate a (p i) b (q i)

  all_kept : (es : ExprTrees) (v : ExprTree) (s : ℕ) → uses_in es s ≡ 0 → put_in_all s v es ≡ es
  all_kept no_exprs v s h = refl
  all_kept (more_exprs e es) v s h = let p = kept e v s (omega arith) in let q = all_kept es v s (omega arith) in λ i. more_exprs (p i) (q i)

  leg_kept : (l : LegTree) (v : ExprTree) (s : ℕ) → uses_in_leg l s ≡ 0 → put_in_leg s v l ≡ l
  leg_kept (whole e) v s h = λ i. whole (kept e v s h i)
  leg_kept (strided e f g k) v s h =
      let p = kept e v s (omega arith) in let q = kept f v s (omega arith) in let r = kept g v s (omega arith) in let u = kept k v s (omega arith) in
      λ i. strided (p i) (q i) (r i) (u i)

  legs_kept : (ls : LegTrees) (v : ExprTree) (s : ℕ) → uses_in_legs ls s ≡ 0 → put_in_legs s v ls ≡ ls
  legs_kept no_legs v s h = refl
  legs_kept (more_legs l ls) v s h = let p = leg_kept l v s (omega arith) in let q = legs_kept ls v s (omega arith) in λ i. more_legs (p i) (q i)
