-- Names for the parts of a pair: a sweep puts them there.
use Rattle.std.proofs.Common.{◌≡◌, ℕ, ◌==◌, if◌then◌else◌, Bool, true, false, not, ◌&&◌, Option, Some, None, is_some, refl, ap, ◌∙◌, eqb-true, arith}
use Rattle.weld_tree.specs.ExprTree.{At, ExprTree, leaf, one, two, three, many, let_in, loop, iterate, ExprTrees, no_exprs, more_exprs, LegTree, whole, strided, LegTrees, no_legs, more_legs, One, neg, not as not_of, cast, len, field, finish, started}
use Rattle.weld_rewriting.specs.Sweep.{or_same, settled, swept, all_swept, leg_swept, legs_swept}
use Rattle.weld_substitution.specs.Uses.{is_name, uses, uses_in, uses_in_leg, uses_in_legs, is_use}
use Rattle.weld_substitution.specs.Redex.{is_field}
use Rattle.weld_vertical_struct.specs.Parting.{field_taken, parted_one, parted, all_parted, leg_parted, legs_parted, is_part, one_apart, is_unnamed, is_apart, are_apart, leg_is_apart, legs_are_apart, part_of_field, fields_rule}

module _ (s x i : ℕ) where
  both : (a b : Bool) → (a && b) ≡ true → (a ≡ true) × (b ≡ true)
  both true b h = (refl, h)
  both false b h = let nothing : ⊥ = cc in absurd nothing

  denied : (a : Bool) → not a ≡ true → a ≡ false
  denied true h = let nothing : ⊥ = cc in absurd nothing
  denied false h = refl

  one_settled : (a : At) (o : One) (e : ExprTree) → settled (fields_rule s x i) (one a o e) ≡ parted_one s x i a (field_taken s o e) (one a o e)
  one_settled a o e = by (field_taken s o e)
    where
      by : (n : Option ℕ) → or_same (part_of_field s x i a n) (one a o e) ≡ parted_one s x i a n (one a o e)
      by (Some n) = refl
      by None = refl

  -- ---- where the name isn't used

  not_taken : (o : One) (e : ExprTree) → is_use e s ≡ false → field_taken s o e ≡ None
  not_taken neg e h = refl
  not_taken not_of e h = refl
  not_taken (cast k) e h = refl
  not_taken len e h = refl
  not_taken (field n) e h = ap (λ b. if b then Some n else None) h
  not_taken finish e h = refl
  not_taken (started b) e h = refl

  unused_use : (e : ExprTree) → uses e s ≡ 0 → is_use e s ≡ false
  unused_use (leaf a l) h = by (is_name l s) h
    where
      by : (b : Bool) → ◌≡◌ {A = ℕ} (if b then 1 else 0) 0 → b ≡ false
      by true k = absurd (omega (arith, k))
      by false k = refl
  unused_use (one a o e) h = refl
  unused_use (two a o e f) h = refl
  unused_use (three a o c e f) h = refl
  unused_use (many a o es) h = refl
  unused_use (let_in a b e f) h = refl
  unused_use (loop a ls e b n y f) h = refl
  unused_use (iterate a e b f) h = refl

  mutual
    unswept : (e : ExprTree) → uses e s ≡ 0 → swept (fields_rule s x i) e ≡ e
    unswept (leaf a l) h = refl
    unswept (one a o e) h =
        ap (λ d. settled (fields_rule s x i) (one a o d)) (unswept e h) ∙ one_settled a o e ∙ ap (λ n. parted_one s x i a n (one a o e)) (not_taken o e (unused_use e h))
    unswept (two a o e f) h = let y = unswept e (omega (arith, h)) in let z = unswept f (omega (arith, h)) in λ k. two a o (y k) (z k)
    unswept (three a o c e f) h =
        let w = unswept c (omega (arith, h)) in let y = unswept e (omega (arith, h)) in let z = unswept f (omega (arith, h)) in λ k. three a o (w k) (y k) (z k)
    unswept (many a o es) h = ap (many a o) (all_unswept es h)
    unswept (let_in a b e f) h = let y = unswept e (omega (arith, h)) in let z = unswept f (omega (arith, h)) in λ k. let_in a b (y k) (z k)
    unswept (loop a ls e b n u f) h =
        let w = legs_unswept ls (omega (arith, h)) in let y = unswept e (omega (arith, h)) in let z = unswept f (omega (arith, h)) in λ k. loop a (w k) (y k) b n u (z k)
    unswept (iterate a e b f) h = let y = unswept e (omega (arith, h)) in let z = unswept f (omega (arith, h)) in λ k. iterate a (y k) b (z k)

    all_unswept : (es : ExprTrees) → uses_in es s ≡ 0 → all_swept (fields_rule s x i) es ≡ es
    all_unswept no_exprs h = refl
    all_unswept (more_exprs e es) h = let y = unswept e (omega (arith, h)) in let z = all_unswept es (omega (arith, h)) in λ k. more_exprs (y k) (z k)

    leg_unswept : (l : LegTree) → uses_in_leg l s ≡ 0 → leg_swept (fields_rule s x i) l ≡ l
    leg_unswept (whole e) h = ap whole (unswept e h)
    leg_unswept (strided e f g d) h =
        let w = unswept e (omega (arith, h)) in let y = unswept f (omega (arith, h)) in let z = unswept g (omega (arith, h)) in let u = unswept d (omega (arith, h)) in
        λ k. strided (w k) (y k) (z k) (u k)

    legs_unswept : (ls : LegTrees) → uses_in_legs ls s ≡ 0 → legs_swept (fields_rule s x i) ls ≡ ls
    legs_unswept no_legs h = refl
    legs_unswept (more_legs l ls) h = let y = leg_unswept l (omega (arith, h)) in let z = legs_unswept ls (omega (arith, h)) in λ k. more_legs (y k) (z k)

  -- ---- where the pair is used by its parts

  -- what isn't a part of the pair doesn't become the pair's name
  no_use : (e : ExprTree) → is_apart s x e ≡ true → is_part s e ≡ false → is_use (parted s x i e) s ≡ false
  no_use (leaf a l) h k = denied (is_name l s) (both (not (is_name l s)) (not (is_name l x)) h).0
  no_use (one a o e) h k = by (field_taken s o e) k
    where
      by : (n : Option ℕ) → is_some n ≡ false → is_use (parted_one s x i a n (one a o (parted s x i e))) s ≡ false
      by (Some n) q = let nothing : ⊥ = cc in absurd nothing
      by None q = refl
  no_use (two a o e f) h k = refl
  no_use (three a o c e f) h k = refl
  no_use (many a o es) h k = refl
  no_use (let_in a b e f) h k = refl
  no_use (loop a ls e b n y f) h k = refl
  no_use (iterate a e b f) h k = refl

  use_kept : (e : ExprTree) → is_use e s ≡ true → parted s x i e ≡ e
  use_kept (leaf a l) h = refl
  use_kept (one a o e) h = let nothing : ⊥ = cc in absurd nothing
  use_kept (two a o e f) h = let nothing : ⊥ = cc in absurd nothing
  use_kept (three a o c e f) h = let nothing : ⊥ = cc in absurd nothing
  use_kept (many a o es) h = let nothing : ⊥ = cc in absurd nothing
  use_kept (let_in a b e f) h = let nothing : ⊥ = cc in absurd nothing
  use_kept (loop a ls e b n y f) h = let nothing : ⊥ = cc in absurd nothing
  use_kept (iterate a e b f) h = let nothing : ⊥ = cc in absurd nothing

  use_swept : (e : ExprTree) → is_use e s ≡ true → swept (fields_rule s x i) e ≡ e
  use_swept (leaf a l) h = refl
  use_swept (one a o e) h = let nothing : ⊥ = cc in absurd nothing
  use_swept (two a o e f) h = let nothing : ⊥ = cc in absurd nothing
  use_swept (three a o c e f) h = let nothing : ⊥ = cc in absurd nothing
  use_swept (many a o es) h = let nothing : ⊥ = cc in absurd nothing
  use_swept (let_in a b e f) h = let nothing : ⊥ = cc in absurd nothing
  use_swept (loop a ls e b n y f) h = let nothing : ⊥ = cc in absurd nothing
  use_swept (iterate a e b f) h = let nothing : ⊥ = cc in absurd nothing

  taken_use : (o : One) (e : ExprTree) (n : ℕ) → field_taken s o e ≡ Some n → is_use e s ≡ true
  taken_use neg e n h = let nothing : ⊥ = cc in absurd nothing
  taken_use not_of e n h = let nothing : ⊥ = cc in absurd nothing
  taken_use (cast k) e n h = let nothing : ⊥ = cc in absurd nothing
  taken_use len e n h = let nothing : ⊥ = cc in absurd nothing
  taken_use (field k) e n h = by (is_use e s) h
    where
      by : (b : Bool) → (if b then Some k else None) ≡ Some n → b ≡ true
      by true q = refl
      by false q = let nothing : ⊥ = cc in absurd nothing
  taken_use finish e n h = let nothing : ⊥ = cc in absurd nothing
  taken_use (started b) e n h = let nothing : ⊥ = cc in absurd nothing

  still_none : (o : One) (e : ExprTree) → is_apart s x e ≡ true → (is_field o && is_part s e) ≡ false → field_taken s o (parted s x i e) ≡ None
  still_none neg e h k = refl
  still_none not_of e h k = refl
  still_none (cast y) e h k = refl
  still_none len e h k = refl
  still_none (field n) e h k = not_taken (field n) (parted s x i e) (no_use e h k)
  still_none finish e h k = refl
  still_none (started b) e h k = refl

  mutual
    pub swept_parts : (e : ExprTree) → is_apart s x e ≡ true → swept (fields_rule s x i) e ≡ parted s x i e
    swept_parts (leaf a l) h = refl
    swept_parts (one a o e) h = by (field_taken s o e) refl h (swept_parts e)
      where
        by : (n : Option ℕ) → field_taken s o e ≡ n → one_apart n (not (is_field o && is_part s e) && is_apart s x e) ≡ true → (is_apart s x e ≡ true → swept (fields_rule s x i) e ≡ parted s x i e) → settled (fields_rule s x i) (one a o (swept (fields_rule s x i) e)) ≡ parted_one s x i a n (one a o (parted s x i e))
        by (Some n) l k f =
            ap (λ d. settled (fields_rule s x i) (one a o d)) (use_swept e (taken_use o e n l)) ∙ one_settled a o e ∙ ap (λ c. parted_one s x i a c (one a o e)) l
        by None l k f =
            let q = both (not (is_field o && is_part s e)) (is_apart s x e) k in
            ap (λ d. settled (fields_rule s x i) (one a o d)) (f q.1)
            ∙ one_settled a o (parted s x i e)
            ∙ ap (λ c. parted_one s x i a c (one a o (parted s x i e))) (still_none o e q.1 (denied (is_field o && is_part s e) q.0))
    swept_parts (two a o e f) h = let k = both (is_apart s x e) (is_apart s x f) h in let y = swept_parts e k.0 in let z = swept_parts f k.1 in λ j. two a o (y j) (z j)
    swept_parts (three a o c e f) h =
        let k = both (is_apart s x c) (is_apart s x e && is_apart s x f) h in
        let l = both (is_apart s x e) (is_apart s x f) k.1 in
        let w = swept_parts c k.0 in let y = swept_parts e l.0 in let z = swept_parts f l.1 in λ j. three a o (w j) (y j) (z j)
    swept_parts (many a o es) h = ap (many a o) (all_swept_parts es h)
    swept_parts (let_in a b e f) h = let k = both (is_apart s x e) (is_apart s x f) h in let y = swept_parts e k.0 in let z = swept_parts f k.1 in λ j. let_in a b (y j) (z j)
    swept_parts (loop a ls e b n u f) h =
        let k = both (legs_are_apart s x ls) (is_apart s x e && is_unnamed s x f) h in
        let l = both (is_apart s x e) (is_unnamed s x f) k.1 in
        let w = legs_swept_parts ls k.0 in let y = swept_parts e l.0 in let z = unswept f (eqb-true (uses f s) 0 (both (uses f s == 0) (uses f x == 0) l.1).0) in
        λ j. loop a (w j) (y j) b n u (z j)
    swept_parts (iterate a e b f) h =
        let k = both (is_apart s x e) (is_unnamed s x f) h in
        let y = swept_parts e k.0 in let z = unswept f (eqb-true (uses f s) 0 (both (uses f s == 0) (uses f x == 0) k.1).0) in λ j. iterate a (y j) b (z j)

    all_swept_parts : (es : ExprTrees) → are_apart s x es ≡ true → all_swept (fields_rule s x i) es ≡ all_parted s x i es
    all_swept_parts no_exprs h = refl
    all_swept_parts (more_exprs e es) h = let k = both (is_apart s x e) (are_apart s x es) h in let y = swept_parts e k.0 in let z = all_swept_parts es k.1 in λ j. more_exprs (y j) (z j)

    leg_swept_parts : (l : LegTree) → leg_is_apart s x l ≡ true → leg_swept (fields_rule s x i) l ≡ leg_parted s x i l
    leg_swept_parts (whole e) h = ap whole (swept_parts e h)
    leg_swept_parts (strided e f g d) h =
        let k = both (is_apart s x e) (is_apart s x f && (is_apart s x g && is_apart s x d)) h in
        let l = both (is_apart s x f) (is_apart s x g && is_apart s x d) k.1 in
        let n = both (is_apart s x g) (is_apart s x d) l.1 in
        let w = swept_parts e k.0 in let y = swept_parts f l.0 in let z = swept_parts g n.0 in let u = swept_parts d n.1 in λ j. strided (w j) (y j) (z j) (u j)

    legs_swept_parts : (ls : LegTrees) → legs_are_apart s x ls ≡ true → legs_swept (fields_rule s x i) ls ≡ legs_parted s x i ls
    legs_swept_parts no_legs h = refl
    legs_swept_parts (more_legs l ls) h = let k = both (leg_is_apart s x l) (legs_are_apart s x ls) h in let y = leg_swept_parts l k.0 in let z = legs_swept_parts ls k.1 in λ j. more_legs (y j) (z j)
