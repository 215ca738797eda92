-- A consumer that is there until the merge takes it.
use Rattle.std.proofs.Common.{◌≡◌, ◌≢◌, ◌⊎◌, inl, inr, ℕ, zero, suc, ◌+◌, ◌-◌, ◌^◌, ◌≤◌, ◌==◌, Bool, true, false, ◌&&◌, if◌then◌else◌, Option, Some, None, ◌∷◌, min, refl, sym, ap, ◌∙◌, arith, eq-eqb, ne_eqb}
use Rattle.std.proofs.lemmas.Bool.{cases_eq}
use Rattle.weld_tree.specs.TypeTree.{TypeTree}
use Rattle.weld_tree.specs.ExprTree.{At, ExprTree, leaf, one, two, three, many, let_in, loop, iterate, ExprTrees, no_exprs, more_exprs, LegTree, whole, strided, LegTrees, no_legs, more_legs, Two, binary, and, or, look_up, key_exists, merge}
use Rattle.weld_meaning.specs.Environment.{Named}
use Rattle.weld_meaning.specs.Origin.{Origin, origin, origins, one_origin, two_origin, three_origin, many_origin}
use Rattle.weld_vertical.specs.Sinking.{is_merge}
use Rattle.weld_handing.specs.declared.settling.Consumer.{Consumer}
use Rattle.weld_handing.specs.Handing.{is_held, handed_at, handed_two, unnoted}
use Rattle.weld_handing.specs.Merging.{list_merges, all_list_merges, leg_list_merges, legs_list_merges}
use Rattle.weld_handing.specs.Walking.{left, taken, is_two, builder_of, number_of, row_of, body_of, handed_for, all_handed_for, leg_handed_for, legs_handed_for, parts_merge, parts_handed, is_list_merge, noted, consumed, settled}

-- ---- counts that stop at the greatest number

alike : (r n : ℕ) → (r ≡ 1 → n ≡ 1) → (n ≡ 1 → r ≡ 1) → (r == 1) ≡ (n == 1)
alike r n f g = by (cases_eq r 1)
  where
    by : (r ≡ 1) ⊎ (r ≢ 1) → (r == 1) ≡ (n == 1)
    by (inl e) = eq-eqb r 1 e ∙ sym (eq-eqb n 1 (f e))
    by (inr ne) = ne_eqb r 1 ne ∙ sym (ne_eqb n 1 (λ e. ne (g e)))

pub none_is : (r n : ℕ) → r ≡ min n (2 ^ 64 - 1) → (r == 0) ≡ (n == 0)
none_is r n h = by (cases_eq r 0)
  where
    by : (r ≡ 0) ⊎ (r ≢ 0) → (r == 0) ≡ (n == 0)
    by (inl e) = let none : n ≡ 0 = omega arith in eq-eqb r 0 e ∙ sym (eq-eqb n 0 none)
    by (inr ne) = let some : n ≢ 0 = λ e. ne (omega arith) in ne_eqb r 0 ne ∙ sym (ne_eqb n 0 some)

pub once_is : (r n : ℕ) → r ≡ min n (2 ^ 64 - 1) → (r == 1) ≡ (n == 1)
once_is r n h = alike r n (λ e. omega arith) (λ e. omega arith)

-- ---- what is left of the consumer

pub left_le : (c : Option Consumer) → left c ≤ 1
left_le None = omega arith
left_le (Some c) = omega arith

pub left_taken : (k : ℕ) (c : Option Consumer) → left (taken k c) ≡ left c - k
left_taken zero c = omega arith
left_taken (suc k) c = omega (arith, left_le c)

pub more_left : (j k : ℕ) (c m : Option Consumer) → m ≡ taken j c → j + k ≤ left c → k ≤ left m
more_left j k c m e h =
    let r : left m ≡ left c - j = ap left e ∙ left_taken j c in
    omega (arith, r, h)

taken_none : (k : ℕ) → taken k None ≡ None
taken_none zero = refl
taken_none (suc k) = refl

taken_twice : (j k : ℕ) (c : Option Consumer) → taken k (taken j c) ≡ taken (j + k) c
taken_twice zero k c = let e : k ≡ 0 + k = omega arith in ap (λ n. taken n c) e
taken_twice (suc j) k c = let e : suc (j + k) ≡ suc j + k = omega arith in taken_none k ∙ ap (λ n. taken n c) e

pub more_taken : (j k : ℕ) (c m r : Option Consumer) → m ≡ taken j c → r ≡ taken k m → r ≡ taken (j + k) c
more_taken j k c m r e f = f ∙ ap (taken k) e ∙ taken_twice j k c

-- ---- where nothing is merged, the consumer doesn't matter

module _ (t : TypeTree) (i : ℕ) (c d : Option Consumer) where
  two_same : (b : Bool) (m : ℕ) (a : At) (o : Two) (p : Origin) (e v g w : ExprTree) → (if b then 1 else 0) + m ≡ 0 → e ≡ g → v ≡ w
      → handed_two b t i (builder_of c) (number_of c) (row_of c) (body_of c) p a o e v ≡ handed_two b t i (builder_of d) (number_of d) (row_of d) (body_of d) p a o g w
  two_same true m a o p e v g w h k l = absurd (omega (arith, h))
  two_same false m a o p e v g w h k l = λ j. two (handed_at t (two_origin o p) a) o (k j) (l j)

  mutual
    same : (e : ExprTree) (q : Named Origin) → list_merges q e ≡ 0 → handed_for t i c q e ≡ handed_for t i d q e
    same (leaf a l) q h = refl
    same (one a o e) q h = ap (one (handed_at t (one_origin o (origin e q)) a) o) (same e q h)
    same (two a o e v) q h =
        two_same (is_merge o && is_held (origin e q)) (list_merges q e + list_merges q v) a o (origin e q) (handed_for t i c q e) (handed_for t i c q v) (handed_for t i d q e) (handed_for t i d q v) h
        (same e q (omega (arith, h))) (same v q (omega (arith, h)))
    same (three a o b e g) q h =
        let x = same b q (omega (arith, h)) in
        let y = same e q (omega (arith, h)) in
        let z = same g q (omega (arith, h)) in
        λ j. three (handed_at t (three_origin o (origin e q)) a) o (x j) (y j) (z j)
    same (many a o es) q h = ap (many (handed_at t (many_origin o (origins es q)) a) o) (all_same es q h)
    same (let_in a z v g) q h =
        let x = same v q (omega (arith, h)) in
        let y = same g ((z.sym.0, origin v q) ∷ q) (omega (arith, h)) in
        λ j. let_in (handed_at t (origin g ((z.sym.0, origin v q) ∷ q)) a) (unnoted z) (x j) (y j)
    same (loop a ls e b m y g) q h =
        let x = legs_same ls q (omega (arith, h)) in
        let z = same e q (omega (arith, h)) in
        λ j. loop a (x j) (z j) b m y g
    same (iterate a e b g) q h = ap (λ (u : ExprTree). iterate a u b g) (same e q h)

    all_same : (es : ExprTrees) (q : Named Origin) → all_list_merges q es ≡ 0 → all_handed_for t i c q es ≡ all_handed_for t i d q es
    all_same no_exprs q h = refl
    all_same (more_exprs e es) q h =
        let x = same e q (omega (arith, h)) in
        let y = all_same es q (omega (arith, h)) in
        λ j. more_exprs (x j) (y j)

    leg_same : (l : LegTree) (q : Named Origin) → leg_list_merges q l ≡ 0 → leg_handed_for t i c q l ≡ leg_handed_for t i d q l
    leg_same (whole e) q h = ap whole (same e q h)
    leg_same (strided e f g k) q h =
        let x = same e q (omega (arith, h)) in
        let y = same f q (omega (arith, h)) in
        let z = same g q (omega (arith, h)) in
        let w = same k q (omega (arith, h)) in
        λ j. strided (x j) (y j) (z j) (w j)

    legs_same : (ls : LegTrees) (q : Named Origin) → legs_list_merges q ls ≡ 0 → legs_handed_for t i c q ls ≡ legs_handed_for t i d q ls
    legs_same no_legs q h = refl
    legs_same (more_legs l ls) q h =
        let x = leg_same l q (omega (arith, h)) in
        let y = legs_same ls q (omega (arith, h)) in
        λ j. more_legs (x j) (y j)

-- what is handed over behind so many merges
still : (t : TypeTree) (i j : ℕ) (c : Option Consumer) (q : Named Origin) (e : ExprTree) → j + list_merges q e ≤ left c → handed_for t i (taken j c) q e ≡ handed_for t i c q e
still t i zero c q e h = refl
still t i (suc j) c q e h = same t i None c e q (omega (arith, h, left_le c))

still_leg : (t : TypeTree) (i j : ℕ) (c : Option Consumer) (q : Named Origin) (l : LegTree) → j + leg_list_merges q l ≤ left c → leg_handed_for t i (taken j c) q l ≡ leg_handed_for t i c q l
still_leg t i zero c q l h = refl
still_leg t i (suc j) c q l h = leg_same t i None c l q (omega (arith, h, left_le c))

pub handed_on : (t : TypeTree) (i j : ℕ) (c m : Option Consumer) (q : Named Origin) (e g : ExprTree) → m ≡ taken j c → j + list_merges q e ≤ left c → g ≡ handed_for t i m q e → g ≡ handed_for t i c q e
handed_on t i j c m q e g k h p = p ∙ ap (λ (r : Option Consumer). handed_for t i r q e) k ∙ still t i j c q e h

pub leg_handed_on : (t : TypeTree) (i j : ℕ) (c m : Option Consumer) (q : Named Origin) (l g : LegTree) → m ≡ taken j c → j + leg_list_merges q l ≤ left c → g ≡ leg_handed_for t i m q l → g ≡ leg_handed_for t i c q l
leg_handed_on t i j c m q l g k h p = p ∙ ap (λ (r : Option Consumer). leg_handed_for t i r q l) k ∙ still_leg t i j c q l h

-- ---- the parts of a node, and then the node

-- 1 where the node is the merge
abbrev pub here : Origin → ExprTree → ℕ
here o e = if is_list_merge o e then 1 else 0

held_alike : (o : Two) (p : Origin) → (is_merge o && is_held (two_origin o p)) ≡ (is_merge o && is_held p)
held_alike (binary op) p = refl
held_alike and p = refl
held_alike or p = refl
held_alike look_up p = refl
held_alike key_exists p = refl
held_alike merge p = refl

module _ (t : TypeTree) (i : ℕ) (c : Option Consumer) (q : Named Origin) where
  pub both : (e : ExprTree) → here (origin e q) (parts_handed t i c q e) + parts_merge q e ≡ list_merges q e
  both (leaf a l) = omega arith
  both (one a o e) = omega arith
  both (two a o e v) = ap (λ (b : Bool). (if b then 1 else 0) + (list_merges q e + list_merges q v)) (held_alike o (origin e q))
  both (three a o d e g) = omega arith
  both (many a o es) = omega arith
  both (let_in a z v g) = omega arith
  both (loop a ls e b m y g) = omega arith
  both (iterate a e b g) = omega arith

  two_settled : (b : Bool) (k : ℕ) (a : At) (o : Two) (p : Origin) (e v : ExprTree) → (if b then 1 else 0) + k ≤ left c
      → (if b then consumed t i (builder_of (taken k c)) (number_of (taken k c)) (row_of (taken k c)) (body_of (taken k c)) (two a o e v) else noted t (two_origin o p) (two a o e v))
      ≡ handed_two b t i (builder_of c) (number_of c) (row_of c) (body_of c) p a o e v
  two_settled false k a o p e v h = refl
  two_settled true zero a o p e v h = refl
  two_settled true (suc k) a o p e v h = absurd (omega (arith, h, left_le c))

  settled_is : (e : ExprTree) → list_merges q e ≤ left c → settled t i (taken (parts_merge q e) c) (origin e q) (parts_handed t i c q e) ≡ handed_for t i c q e
  settled_is (leaf a l) h = refl
  settled_is (one a o e) h = refl
  settled_is (two a o e v) h =
      ap (λ (b : Bool). if b then consumed t i (builder_of (taken (list_merges q e + list_merges q v) c)) (number_of (taken (list_merges q e + list_merges q v) c)) (row_of (taken (list_merges q e + list_merges q v) c)) (body_of (taken (list_merges q e + list_merges q v) c)) (two a o (handed_for t i c q e) (handed_for t i c q v)) else noted t (two_origin o (origin e q)) (two a o (handed_for t i c q e) (handed_for t i c q v)))
      (held_alike o (origin e q))
      ∙ two_settled (is_merge o && is_held (origin e q)) (list_merges q e + list_merges q v) a o (origin e q) (handed_for t i c q e) (handed_for t i c q v) h
  settled_is (three a o d e g) h = refl
  settled_is (many a o es) h = refl
  settled_is (let_in a z v g) h = refl
  settled_is (loop a ls e b m y g) h = refl
  settled_is (iterate a e b g) h = refl

  pub parts_less : (e : ExprTree) → list_merges q e ≤ left c → parts_merge q e ≤ left c
  parts_less e h = omega (arith, both e, h)

  pub all_taken : (e r : ExprTree) (o : Origin) (m n : Option Consumer) → o ≡ origin e q → m ≡ taken (parts_merge q e) c → r ≡ parts_handed t i c q e → n ≡ taken (here o r) m → n ≡ taken (list_merges q e) c
  all_taken e r o m n p k s u =
      let x : here o r ≡ here (origin e q) (parts_handed t i c q e) = λ j. here (p j) (s j) in
      let y : parts_merge q e + here o r ≡ list_merges q e = omega (arith, both e, x) in
      more_taken (parts_merge q e) (here o r) c m n k u ∙ ap (λ (j : ℕ). taken j c) y

  pub settles : (e r g : ExprTree) (o : Origin) (m : Option Consumer) → list_merges q e ≤ left c → o ≡ origin e q → m ≡ taken (parts_merge q e) c → r ≡ parts_handed t i c q e → g ≡ settled t i m o r → g ≡ handed_for t i c q e
  settles e r g o m h p k s u = u ∙ (λ j. settled t i (k j) (p j) (s j)) ∙ settled_is e h

-- ---- the node itself, in code

pub no_merge : (b : Bool) (m : Option Consumer) → b ≡ false → m ≡ taken (if b then 1 else 0) m
no_merge true m h = let nothing : ⊥ = cc in absurd nothing
no_merge false m h = refl

pub merge_takes : (b : Bool) (m : Option Consumer) → b ≡ true → None ≡ taken (if b then 1 else 0) m
merge_takes true m h = refl
merge_takes false m h = let nothing : ⊥ = cc in absurd nothing

pub none_there : (b : Bool) (m : Option Consumer) → b ≡ true → (if b then 1 else 0) ≤ left m → m ≡ None → ⊥
none_there true m h k e = let z : left m ≡ 0 = ap left e in omega (arith, k, z)
none_there false m h k e = let nothing : ⊥ = cc in nothing

pub settled_noted : (t : TypeTree) (i : ℕ) (c : Option Consumer) (o : Origin) (e : ExprTree) → is_list_merge o e ≡ false → noted t o e ≡ settled t i c o e
settled_noted t i c o e h = ap (λ (b : Bool). if b then consumed t i (builder_of c) (number_of c) (row_of c) (body_of c) e else noted t o e) (sym h)

pub settled_consumed : (t : TypeTree) (i : ℕ) (w : Consumer) (c : Option Consumer) (o : Origin) (e : ExprTree) → c ≡ Some w → is_list_merge o e ≡ true → consumed t i w.builder w.number w.row w.body.value e ≡ settled t i c o e
settled_consumed t i w c o e k h =
    ap (λ (r : Option Consumer). consumed t i (builder_of r) (number_of r) (row_of r) (body_of r) e) (sym k)
    ∙ ap (λ (b : Bool). if b then consumed t i (builder_of c) (number_of c) (row_of c) (body_of c) e else noted t o e) (sym h)

pub merge_is_two : (o : Origin) (e : ExprTree) → is_list_merge o e ≡ true → is_two e ≡ true
merge_is_two o (leaf a l) h = let nothing : ⊥ = cc in absurd nothing
merge_is_two o (one a p e) h = let nothing : ⊥ = cc in absurd nothing
merge_is_two o (two a p e v) h = refl
merge_is_two o (three a p d e g) h = let nothing : ⊥ = cc in absurd nothing
merge_is_two o (many a p es) h = let nothing : ⊥ = cc in absurd nothing
merge_is_two o (let_in a z v g) h = let nothing : ⊥ = cc in absurd nothing
merge_is_two o (loop a ls e b m y g) h = let nothing : ⊥ = cc in absurd nothing
merge_is_two o (iterate a e b g) h = let nothing : ⊥ = cc in absurd nothing
