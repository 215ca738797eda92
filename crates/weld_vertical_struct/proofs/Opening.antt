-- Taking pairs apart rewrites.
use Rattle.std.proofs.Common.{◌≡◌, ◌≢◌, ℕ, zero, suc, ◌==◌, if◌then◌else◌, Bool, true, false, ◌&&◌, ◌||◌, not, List, ◌∷◌, ◌++◌, Option, Some, None, refl, ap, sym, subst, ◌⊎◌, inl, inr, eqb-true, arith}
use Rattle.weld_tree.specs.declared.binder.Binder.{Binder}
use Rattle.weld_tree.specs.ExprTree.{At, ExprTree, leaf, one, two, three, many, let_in, loop, iterate, no_exprs, more_exprs, LegTree, whole, strided, LegTrees, no_legs, more_legs, name, Three, make_vec, make_struct}
use Rattle.weld_tree.specs.Program.{bound, bound_in_leg, bound_in_legs, IsOneOf}
use Rattle.weld_meaning.specs.Names.{IsFree, LegIsFree, LegsAreFree, Binds}
use Rattle.weld_rewriting.specs.Tidy.{IsTidy}
use Rattle.weld_rewriting.specs.Within.{times, StaysWithin}
use Rattle.weld_rewriting.specs.Shape.{IsCongruence, EachPart, LegHasEach, LegsHaveEach, LegsRelate, LegRelates}
use Rattle.weld_rewriting.specs.Rewriting.{Rewrites}
use Rattle.weld_rewriting.specs.Sweep.{or_same, settled}
use Rattle.weld_rewriting.proofs.Counts.{times-append, times_here, one_of_times, distinct_times}
use Rattle.weld_substitution.specs.Redex.{has_loop, noted}
use Rattle.weld_substitution.specs.Uses.{uses}
use Rattle.weld_substitution.proofs.Following.{and_true}
use Rattle.weld_inline.specs.Inlining.{lets_rule}
use Rattle.weld_substitution.proofs.Clear.{second_of, own_name, clear_of}
use Rattle.weld_substitution.proofs.Unnamed.{binds_so}
use Rattle.weld_vertical_struct.specs.Parting.{IsAbsent, answer_at, both_bound, is_apart, opened, pair_bound, pair_of, pairs_rule, part_binder, part_bound, parted, unnoted, within_body}
use Rattle.weld_vertical_struct.specs.Held.{depth, opened_loop, opened_result, opened_leg, opened_legs, opened_producer}
use Rattle.weld_vertical_struct.proofs.Parts.{Pair, IsElse}
use Rattle.weld_vertical_struct.proofs.Counting.{of_parts}
use Rattle.weld_vertical_struct.proofs.Pairs.{IsPairOf, pair_of_parts, name_first, name_second}
use Rattle.weld_vertical_struct.proofs.PairRule.{pair_rewrites}
use Rattle.weld_vertical_struct.proofs.Naming.{name_leaf}
use Rattle.weld_vertical_struct.proofs.Binding.{Puts, first_spelled, second_spelled, named_tidy, part_put}

-- ---- which expressions are pairs

pair_by : (P : ExprTree → Type 0) (e f : ExprTree) → ((w : At) → P (pair_of_parts w e f)) → (v : ExprTree) → pair_of v ≡ Some (e, f) → P v
pair_by P e f k (leaf w l) h = let nothing : ⊥ = cc in absurd nothing
pair_by P e f k (one a o d) h = let nothing : ⊥ = cc in absurd nothing
pair_by P e f k (two a o d g) h = let nothing : ⊥ = cc in absurd nothing
pair_by P e f k (three a o c d g) h = let nothing : ⊥ = cc in absurd nothing
pair_by P e f k (many a make_vec es) h = let nothing : ⊥ = cc in absurd nothing
pair_by P e f k (many a make_struct no_exprs) h = let nothing : ⊥ = cc in absurd nothing
pair_by P e f k (many a make_struct (more_exprs d no_exprs)) h = let nothing : ⊥ = cc in absurd nothing
pair_by P e f k (many a make_struct (more_exprs c (more_exprs d no_exprs))) h =
    let same : (e, f) ≡ (c, d) = cc in let one_is = ap (λ (p : ExprTree × ExprTree). p.0) same in let other_is = ap (λ (p : ExprTree × ExprTree). p.1) same in subst (λ y. P (pair_of_parts a y d)) one_is (subst (λ y. P (pair_of_parts a e y)) other_is (k a))
pair_by P e f k (many a make_struct (more_exprs c (more_exprs d (more_exprs g es)))) h = let nothing : ⊥ = cc in absurd nothing
pair_by P e f k (let_in a b d g) h = let nothing : ⊥ = cc in absurd nothing
pair_by P e f k (loop a ls d b n y g) h = let nothing : ⊥ = cc in absurd nothing
pair_by P e f k (iterate a d b g) h = let nothing : ⊥ = cc in absurd nothing

-- ---- a `let` of a pair with a name

one_let : (a w : At) (b : Binder) (x i j : ℕ) (v f g : ExprTree) → i ≢ j → ((n : ℕ) → ((n == 0) || (n == 1)) ≡ true → (n ≡ i) ⊎ (n ≡ j)) → ((m : Pair) → m.s ≡ b.sym.0 → m.x ≡ x → m.i ≡ i → m.j ≡ j → IsPairOf m v (leaf w (name x)) f) → IsFree v x → IsTidy (let_in a b v g) → is_apart b.sym.0 x g ≡ true → Rewrites (let_in a (unnoted b) f (parted b.sym.0 x i g)) (let_in a b v g)
one_let a w b x i j v f g ne numbers shape there tidy apart =
    pair_rewrites m a w b refl v f g (shape m refl refl refl refl) (of_parts m numbers g clear apart) unnamed
  where
    unnamed : IsFree v b.sym.0 → ⊥
    unnamed = own_name a b v g tidy

    m : Pair
    m = record { s = b.sym.0; x = x; i = i; j = j; apart = λ e. unnamed (subst (IsFree v) (sym e) there); other = ne }

    clear : Binds (IsElse m) g
    clear = binds_so _ (IsElse m) (λ z h. ((λ e. h.0 (sym e)), (λ e. h.1 (subst (IsFree v) (sym e) there)))) g (clear_of a b v g tidy)

-- numbers of the parts
first_then : (n : ℕ) → ((n == 0) || (n == 1)) ≡ true → (n ≡ 0) ⊎ (n ≡ 1)
first_then n k = either (n == 0) (n == 1) refl refl k
  where
    either : (c d : Bool) → (n == 0) ≡ c → (n == 1) ≡ d → (c || d) ≡ true → (n ≡ 0) ⊎ (n ≡ 1)
    either true d p q k = inl (eqb-true n 0 p)
    either false true p q k = inr (eqb-true n 1 q)
    either false false p q k = let nothing : ⊥ = cc in absurd nothing

second_then : (n : ℕ) → ((n == 0) || (n == 1)) ≡ true → (n ≡ 1) ⊎ (n ≡ 0)
second_then n k = turned (first_then n k)
  where
    turned : (n ≡ 0) ⊎ (n ≡ 1) → (n ≡ 1) ⊎ (n ≡ 0)
    turned (inl q) = inr q
    turned (inr q) = inl q

-- where a part is a name
first_let : (a w u : At) (b : Binder) (z : ℕ) (f g : ExprTree) → IsTidy (let_in a b (pair_of_parts w (leaf u (name z)) f) g) → is_apart b.sym.0 z g ≡ true → Rewrites (let_in a (unnoted b) f (parted b.sym.0 z 0 g)) (let_in a b (pair_of_parts w (leaf u (name z)) f) g)
first_let a w u b z f g t p =
    one_let a u b z 0 1 (pair_of_parts w (leaf u (name z)) f) f g (omega arith) first_then
    (λ m s0 x0 i0 j0. subst (λ y. IsPairOf m (pair_of_parts w (leaf u (name y)) f) (leaf u (name y)) f) x0 (name_first m i0 j0 w (leaf u (name m.x)) f)) (inl refl) t p

second_let : (a w u : At) (b : Binder) (z : ℕ) (f g : ExprTree) → IsTidy (let_in a b (pair_of_parts w f (leaf u (name z))) g) → is_apart b.sym.0 z g ≡ true → Rewrites (let_in a (unnoted b) f (parted b.sym.0 z 1 g)) (let_in a b (pair_of_parts w f (leaf u (name z))) g)
second_let a w u b z f g t p =
    one_let a u b z 1 0 (pair_of_parts w f (leaf u (name z))) f g (omega arith) second_then
    (λ m s0 x0 i0 j0. subst (λ y. IsPairOf m (pair_of_parts w f (leaf u (name y))) (leaf u (name y)) f) x0 (name_second m i0 j0 w (leaf u (name m.x)) f)) (inr (inl refl)) t p

-- ---- a `let` of a pair

module _ (puts : Puts) where
  -- what the rule answers where the part is bound so
  abbrev Answers : At → Binder → ℕ → ℕ → ExprTree → ExprTree → ExprTree → ExprTree → Type 0
  Answers a b z i v e f g =
      (d : ExprTree) → IsTidy (let_in a b v g) → IsAbsent z (let_in a b v g) → answer_at lets_rule (part_bound z a b i e f g) ≡ Some d → Rewrites d (let_in a b v g)

  first_part : (a w : At) (b : Binder) (z : ℕ) (e f g : ExprTree) → Answers a b z 0 (pair_of_parts w e f) e f g
  first_part a w b z e f g d tidy absent h = by (is_apart b.sym.0 z g && not (has_loop e)) refl h
    where
      by : (c : Bool) → (is_apart b.sym.0 z g && not (has_loop e)) ≡ c → answer_at lets_rule (if c then Some (both_bound z a b 0 e f g) else None) ≡ Some d → Rewrites d (let_in a b (pair_of_parts w e f) g)
      by true p q =
          let k = and_true (is_apart b.sym.0 z g) (not (has_loop e)) p in
          let named = named_tidy puts a b z 0 (pair_of_parts w e f) (pair_of_parts w (name_leaf w z e) f) e f g (first_spelled w z e f) tidy absent k.1 in
          part_put puts a b z 0 (pair_of_parts w e f) (pair_of_parts w (name_leaf w z e) f) e f g (first_spelled w z e f) tidy absent k.1
          (first_let a w (record { place = w.place; ty = noted e }) b z f g (puts.body a (part_binder z b) e (let_in a b (pair_of_parts w (name_leaf w z e) f) g) named) k.0) d q
      by false p q = let nothing : ⊥ = cc in absurd nothing

  second_part : (a w : At) (b : Binder) (z : ℕ) (e f g : ExprTree) → Answers a b z 1 (pair_of_parts w f e) e f g
  second_part a w b z e f g d tidy absent h = by (is_apart b.sym.0 z g && not (has_loop e)) refl h
    where
      by : (c : Bool) → (is_apart b.sym.0 z g && not (has_loop e)) ≡ c → answer_at lets_rule (if c then Some (both_bound z a b 1 e f g) else None) ≡ Some d → Rewrites d (let_in a b (pair_of_parts w f e) g)
      by true p q =
          let k = and_true (is_apart b.sym.0 z g) (not (has_loop e)) p in
          let named = named_tidy puts a b z 1 (pair_of_parts w f e) (pair_of_parts w f (name_leaf w z e)) e f g (second_spelled w z e f) tidy absent k.1 in
          part_put puts a b z 1 (pair_of_parts w f e) (pair_of_parts w f (name_leaf w z e)) e f g (second_spelled w z e f) tidy absent k.1
          (second_let a w (record { place = w.place; ty = noted e }) b z f g (puts.body a (part_binder z b) e (let_in a b (pair_of_parts w f (name_leaf w z e)) g) named) k.0) d q
      by false p q = let nothing : ⊥ = cc in absurd nothing

  let_good : (d z : ℕ) (a : At) (b : Binder) (v g y : ExprTree) → IsTidy (let_in a b v g) → IsAbsent z (let_in a b v g) → answer_at lets_rule (pair_bound d z a b (pair_of v) g) ≡ Some y → Rewrites y (let_in a b v g)
  let_good d z a b v g y tidy absent h = by (pair_of v) refl h
    where
      second : (w : At) (e f : ExprTree) → IsTidy (let_in a b (pair_of_parts w e f) g) → IsAbsent z (let_in a b (pair_of_parts w e f) g) → (c : Bool) → answer_at lets_rule (if c then None else part_bound z a b 1 f e g) ≡ Some y → Rewrites y (let_in a b (pair_of_parts w e f) g)
      second w e f t n true k = let nothing : ⊥ = cc in absurd nothing
      second w e f t n false k = second_part a w b z f e g y t n k

      either : (w : At) (e f : ExprTree) → IsTidy (let_in a b (pair_of_parts w e f) g) → IsAbsent z (let_in a b (pair_of_parts w e f) g) → (c : Bool) → answer_at lets_rule (if c then (if uses f d == 0 then None else part_bound z a b 1 f e g) else part_bound z a b 0 e f g) ≡ Some y → Rewrites y (let_in a b (pair_of_parts w e f) g)
      either w e f t n true k = second w e f t n (uses f d == 0) k
      either w e f t n false k = first_part a w b z e f g y t n k

      by : (o : Option (ExprTree × ExprTree)) → pair_of v ≡ o → answer_at lets_rule (pair_bound d z a b o g) ≡ Some y → Rewrites y (let_in a b v g)
      by None k q = let nothing : ⊥ = cc in absurd nothing
      by (Some x) k q =
          pair_by (λ u. IsTidy (let_in a b u g) → IsAbsent z (let_in a b u g) → Rewrites y (let_in a b u g)) x.0 x.1
          (λ w t n. either w x.0 x.1 t n (uses x.0 d == 0) q) v k tidy absent

  pub pairs_good : (d z : ℕ) (e f : ExprTree) → IsTidy e → IsAbsent z e → pairs_rule d z e ≡ Some f → Rewrites f e
  pairs_good d z (leaf w l) y t n h = let nothing : ⊥ = cc in absurd nothing
  pairs_good d z (one a o e) y t n h = let nothing : ⊥ = cc in absurd nothing
  pairs_good d z (two a o e f) y t n h = let nothing : ⊥ = cc in absurd nothing
  pairs_good d z (three a o c e f) y t n h = let nothing : ⊥ = cc in absurd nothing
  pairs_good d z (many a o es) y t n h = let nothing : ⊥ = cc in absurd nothing
  pairs_good d z (let_in a b v g) y t n h = let_good d z a b v g y t n h
  pairs_good d z (loop a ls e b m x f) y t n h = let nothing : ⊥ = cc in absurd nothing
  pairs_good d z (iterate a e b f) y t n h = let nothing : ⊥ = cc in absurd nothing

-- ---- down a body

-- what is known of rewriting
pub record Laws : Type 0 where
  pub itself : (e : ExprTree) → Rewrites e e
  pub in_turn : (c d e : ExprTree) → Rewrites c d → Rewrites d e → Rewrites c e
  pub through : IsCongruence Rewrites
  pub parts : (e : ExprTree) → IsTidy e → EachPart IsTidy e
  pub within : (d e : ExprTree) → StaysWithin d e → IsTidy e → IsTidy d

module _ (laws : Laws) (puts : Puts) where
  good_itself : (e : ExprTree) → Rewrites e e
  good_itself e = laws.itself e

  -- a number that stands nowhere in an expression stands nowhere in what rewrites it, and in its parts
  absent_within : (z : ℕ) (d e : ExprTree) → StaysWithin d e → IsAbsent z e → IsAbsent z d
  absent_within z d e w n = (omega (arith, w.binds z, n.0), λ k. n.1 (w.names z k))

  absent_body : (z : ℕ) (a : At) (b : Binder) (v g : ExprTree) → IsAbsent z (let_in a b v g) → IsAbsent z g
  absent_body z a b v g n =
      (omega (arith, n.0, times-append (bound v) (bound g) z), λ k. n.1 (inr (k, λ q. absurd (omega (arith, n.0, subst (λ y. times (y ∷ (bound v ++ bound g)) z ≡ suc (times (bound v ++ bound g) z)) q (times_here z (bound v ++ bound g)))))))

  absent_arms : (z : ℕ) (a : At) (o : Three) (c e f : ExprTree) → IsAbsent z (three a o c e f) → IsAbsent z e × IsAbsent z f
  absent_arms z a o c e f n =
      let l = times-append (bound c) (bound e ++ bound f) z in let r = times-append (bound e) (bound f) z in
      ((omega (arith, n.0, l, r), λ k. n.1 (inr (inl k))), (omega (arith, n.0, l, r), λ k. n.1 (inr (inr k))))

  settled_good : (d z : ℕ) (e : ExprTree) → IsTidy e → IsAbsent z e → Rewrites (settled (pairs_rule d z) e) e
  settled_good d z e t n = by (pairs_rule d z e) refl
    where
      by : (o : Option ExprTree) → pairs_rule d z e ≡ o → Rewrites (or_same o e) e
      by None h = good_itself e
      by (Some y) h = pairs_good puts d z e y t n h

  within_good : (z : ℕ) (k : ExprTree → ExprTree) → ((e : ExprTree) → IsTidy e → IsAbsent z e → Rewrites (k e) e) → (e : ExprTree) → IsTidy e → IsAbsent z e → Rewrites (within_body k e) e
  within_good z k f (leaf a l) t n = good_itself (leaf a l)
  within_good z k f (one a o e) t n = good_itself (one a o e)
  within_good z k f (two a o e g) t n = good_itself (two a o e g)
  within_good z k f (three a o c e g) t n =
      let p = laws.parts (three a o c e g) t in let m = absent_arms z a o c e g n in let x = f e p.1 m.0 in let y = f g p.2 m.1 in
      laws.through.at_three a o c (k e) (k g) c e g (laws.itself c) x y
  within_good z k f (many a o es) t n = good_itself (many a o es)
  within_good z k f (let_in a b v g) t n =
      let p = laws.parts (let_in a b v g) t in let x = f g p.1 (absent_body z a b v g n) in
      laws.through.at_let a b v (k g) v g (laws.itself v) x
  within_good z k f (loop a ls e b m y g) t n = good_itself (loop a ls e b m y g)
  within_good z k f (iterate a e b g) t n = good_itself (iterate a e b g)

  pub opened_good : (d z n : ℕ) (e : ExprTree) → IsTidy e → IsAbsent z e → Rewrites (opened d z n e) e
  opened_good d z zero e t m = good_itself e
  opened_good d z (suc n) e t m =
      let x = settled_good d z e t m in
      let y = within_good z (opened d z n) (opened_good d z n) (settled (pairs_rule d z) e) (laws.within (settled (pairs_rule d z) e) e x.within t) (absent_within z (settled (pairs_rule d z) e) e x.within m) in
      laws.in_turn (opened d z (suc n) e) (settled (pairs_rule d z) e) e y x

  -- ---- the body of a producer

  loop_good : (z : ℕ) (e : ExprTree) → IsTidy e → IsAbsent z e → Rewrites (opened_loop z e) e
  loop_good z (leaf a l) t n = good_itself (leaf a l)
  loop_good z (one a o e) t n = good_itself (one a o e)
  loop_good z (two a o e f) t n = good_itself (two a o e f)
  loop_good z (three a o c e f) t n = good_itself (three a o c e f)
  loop_good z (many a o es) t n = good_itself (many a o es)
  loop_good z (let_in a b e f) t n = good_itself (let_in a b e f)
  loop_good z (loop a ls e b m x f) t n =
      let p = laws.parts (loop a ls e b m x f) t in let y = opened_good b.sym.0 z depth f p.2 absent in
      laws.through.at_loop a ls ls e e b m x (opened b.sym.0 z depth f) f (legs_same ls) (laws.itself e) y
    where
      leg_same : (l : LegTree) → LegRelates Rewrites l l
      leg_same (whole e) = laws.itself e
      leg_same (strided e f g h) = (laws.itself e, laws.itself f, laws.itself g, laws.itself h)

      legs_same : (ls : LegTrees) → LegsRelate Rewrites ls ls
      legs_same no_legs = tt
      legs_same (more_legs l ls) = (leg_same l, legs_same ls)

      mine : List ℕ
      mine = b.sym.0 ∷ m.sym.0 ∷ x.sym.0 ∷ bound f

      none_of_mine : times (b.sym.0 ∷ m.sym.0 ∷ x.sym.0 ∷ bound f) z ≡ 0
      none_of_mine = omega (arith, n.0, times-append (bound_in_legs ls) (bound e ++ (b.sym.0 ∷ m.sym.0 ∷ x.sym.0 ∷ bound f)) z, times-append (bound e) (b.sym.0 ∷ m.sym.0 ∷ x.sym.0 ∷ bound f) z)

      not_mine : IsOneOf (b.sym.0 ∷ m.sym.0 ∷ x.sym.0 ∷ bound f) z → ⊥
      not_mine k = absurd (omega (arith, none_of_mine, one_of_times (b.sym.0 ∷ m.sym.0 ∷ x.sym.0 ∷ bound f) z k))

      absent : IsAbsent z f
      absent = (
        omega (arith, none_of_mine),
        λ k. n.1 (inr (inr (k, (λ q. not_mine (inr (inr (inl q)))), (λ q. not_mine (inr (inl q))), (λ q. not_mine (inl q))))),
      )
  loop_good z (iterate a e b f) t n = good_itself (iterate a e b f)

  result_good : (z : ℕ) (e : ExprTree) → IsTidy e → IsAbsent z e → Rewrites (opened_result z e) e
  result_good z (leaf a l) t n = good_itself (leaf a l)
  result_good z (one a o e) t n = let y = loop_good z e (laws.parts (one a o e) t) n in laws.through.at_one a o (opened_loop z e) e y
  result_good z (two a o e f) t n = good_itself (two a o e f)
  result_good z (three a o c e f) t n = good_itself (three a o c e f)
  result_good z (many a o es) t n = good_itself (many a o es)
  result_good z (let_in a b e f) t n = good_itself (let_in a b e f)
  result_good z (loop a ls e b m x f) t n = good_itself (loop a ls e b m x f)
  result_good z (iterate a e b f) t n = good_itself (iterate a e b f)

  pub producer_good : (e : ExprTree) → IsTidy e → Rewrites (opened_producer e) e
  producer_good (leaf a l) t = good_itself (leaf a l)
  producer_good (one a o e) t = good_itself (one a o e)
  producer_good (two a o e f) t = good_itself (two a o e f)
  producer_good (three a o c e f) t = good_itself (three a o c e f)
  producer_good (many a o es) t = good_itself (many a o es)
  producer_good (let_in a b e f) t = good_itself (let_in a b e f)
  producer_good (loop a ls e b n x f) t =
      laws.through.at_loop a (opened_legs x.sym.0 ls) ls e e b n x f f (legs_good ls (laws.parts (loop a ls e b n x f) t).0 none_bound none_free) (laws.itself e) (laws.itself f)
    where
      mine_there : IsOneOf (b.sym.0 ∷ n.sym.0 ∷ x.sym.0 ∷ bound f) x.sym.0
      mine_there = inr (inr (inl refl))

      none_bound : times (bound_in_legs ls) x.sym.0 ≡ 0
      none_bound =
          omega (
            arith,
            distinct_times (bound (loop a ls e b n x f)) t.distinct x.sym.0,
            times-append (bound_in_legs ls) (bound e ++ (b.sym.0 ∷ n.sym.0 ∷ x.sym.0 ∷ bound f)) x.sym.0,
            times-append (bound e) (b.sym.0 ∷ n.sym.0 ∷ x.sym.0 ∷ bound f) x.sym.0,
            one_of_times (b.sym.0 ∷ n.sym.0 ∷ x.sym.0 ∷ bound f) x.sym.0 mine_there,
          )

      none_free : LegsAreFree ls x.sym.0 → ⊥
      none_free k = t.apart x.sym.0 (second_of (bound_in_legs ls) (bound e ++ (b.sym.0 ∷ n.sym.0 ∷ x.sym.0 ∷ bound f)) x.sym.0 (second_of (bound e) (b.sym.0 ∷ n.sym.0 ∷ x.sym.0 ∷ bound f) x.sym.0 mine_there)) (inl k)

      leg_good : (l : LegTree) → LegHasEach IsTidy l → times (bound_in_leg l) x.sym.0 ≡ 0 → (LegIsFree l x.sym.0 → ⊥) → LegRelates Rewrites (opened_leg x.sym.0 l) l
      leg_good (whole e) t m k = result_good x.sym.0 e t (m, k)
      leg_good (strided e f g h) t m k = (laws.itself e, laws.itself f, laws.itself g, laws.itself h)

      legs_good : (ls : LegTrees) → LegsHaveEach IsTidy ls → times (bound_in_legs ls) x.sym.0 ≡ 0 → (LegsAreFree ls x.sym.0 → ⊥) → LegsRelate Rewrites (opened_legs x.sym.0 ls) ls
      legs_good no_legs t m k = tt
      legs_good (more_legs l ls) t m k =
          let both = times-append (bound_in_leg l) (bound_in_legs ls) x.sym.0 in
          (leg_good l t.0 (omega (arith, m, both)) (λ y. k (inl y)), legs_good ls t.1 (omega (arith, m, both)) (λ y. k (inr y)))
  producer_good (iterate a e b f) t = good_itself (iterate a e b f)
