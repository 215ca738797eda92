-- What stands in an expression where a value is put in a name's place: what stood there, and the value as often as the name was used.
use Rattle.std.proofs.Common.{◌≡◌, ℕ, ◌+◌, ◌*◌, ◌==◌, if◌then◌else◌, Bool, true, false, List, ◌∷◌, ◌++◌, length, ap, sym, ◌∙◌, arith, length-append}
use Rattle.weld_tree.specs.ExprTree.{At, ExprTree, leaf, one, two, three, many, let_in, loop, iterate, ExprTrees, no_exprs, more_exprs, LegTree, whole, strided, LegTrees, no_legs, more_legs, Leaf, int, truth, chars, name, fresh}
use Rattle.weld_tree.specs.Program.{loops, loops_in, loops_in_leg, loops_in_legs, bound, bound_in, bound_in_leg, bound_in_legs}
use Rattle.weld_meaning.specs.Names.{put_in_leaf, put, put_in_all, put_in_leg, put_in_legs}
use Rattle.weld_rewriting.specs.Within.{times, legs, legs_in, legs_within, legs_among}
use Rattle.weld_rewriting.proofs.Counts.{times-append}
use Rattle.weld_substitution.specs.Uses.{is_name, uses, uses_in, uses_in_leg, uses_in_legs}

-- ---- sums

two_sums : (a b c d m n k : ℕ) → a ≡ b + m * k → c ≡ d + n * k → a + c ≡ (b + d) + (m + n) * k
two_sums a b c d m n k p q = omega (arith, p, q)

-- what is counted: how often a number is bound, loops, legs, binders
pub record Counted (d e v : ExprTree) (n : ℕ) : Type 0 where
  pub binds : (t : ℕ) → times (bound d) t ≡ times (bound e) t + n * times (bound v) t
  pub loop_count : loops d ≡ loops e + n * loops v
  pub leg_count : legs d ≡ legs e + n * legs v
  pub binder_count : length (bound d) ≡ length (bound e) + n * length (bound v)

record CountedAll (ds es : ExprTrees) (v : ExprTree) (n : ℕ) : Type 0 where
  pub binds : (t : ℕ) → times (bound_in ds) t ≡ times (bound_in es) t + n * times (bound v) t
  pub loop_count : loops_in ds ≡ loops_in es + n * loops v
  pub leg_count : legs_in ds ≡ legs_in es + n * legs v
  pub binder_count : length (bound_in ds) ≡ length (bound_in es) + n * length (bound v)

record CountedLeg (k l : LegTree) (v : ExprTree) (n : ℕ) : Type 0 where
  pub binds : (t : ℕ) → times (bound_in_leg k) t ≡ times (bound_in_leg l) t + n * times (bound v) t
  pub loop_count : loops_in_leg k ≡ loops_in_leg l + n * loops v
  pub leg_count : legs_within k ≡ legs_within l + n * legs v
  pub binder_count : length (bound_in_leg k) ≡ length (bound_in_leg l) + n * length (bound v)

record CountedLegs (ks ls : LegTrees) (v : ExprTree) (n : ℕ) : Type 0 where
  pub binds : (t : ℕ) → times (bound_in_legs ks) t ≡ times (bound_in_legs ls) t + n * times (bound v) t
  pub loop_count : loops_in_legs ks ≡ loops_in_legs ls + n * loops v
  pub leg_count : legs_among ks ≡ legs_among ls + n * legs v
  pub binder_count : length (bound_in_legs ks) ≡ length (bound_in_legs ls) + n * length (bound v)

-- ---- lists that stand one behind another

two_times : (ks ls ms ns : List ℕ) (t m n k : ℕ) → times ks t ≡ times ms t + m * k → times ls t ≡ times ns t + n * k → times (ks ++ ls) t ≡ times (ms ++ ns) t + (m + n) * k
two_times ks ls ms ns t m n k p q =
    times-append ks ls t ∙ two_sums (times ks t) (times ms t) (times ls t) (times ns t) m n k p q ∙ ap (λ x. x + (m + n) * k) (sym (times-append ms ns t))

two_lengths : (ks ls ms ns : List ℕ) (m n k : ℕ) → length ks ≡ length ms + m * k → length ls ≡ length ns + n * k → length (ks ++ ls) ≡ length (ms ++ ns) + (m + n) * k
two_lengths ks ls ms ns m n k p q =
    length-append ks ls ∙ two_sums (length ks) (length ms) (length ls) (length ns) m n k p q ∙ ap (λ x. x + (m + n) * k) (sym (length-append ms ns))

cons_times : (b : ℕ) (ks ms : List ℕ) (t m k : ℕ) → times ks t ≡ times ms t + m * k → times (b ∷ ks) t ≡ times (b ∷ ms) t + m * k
cons_times b ks ms t m k p = omega (arith, p)

cons_lengths : (b : ℕ) (ks ms : List ℕ) (m k : ℕ) → length ks ≡ length ms + m * k → length (b ∷ ks) ≡ length (b ∷ ms) + m * k
cons_lengths b ks ms m k p = omega (arith, p)

-- the last of three stands in parentheses of its own
regroup : (l m n : ℕ) → l + (m + n) ≡ l + m + n
regroup l m n = omega arith

-- ---- nodes

leaf_counted : (a : At) (l : Leaf) (s : ℕ) (v : ExprTree) → Counted (put_in_leaf s v a l) (leaf a l) v (if is_name l s then 1 else 0)
leaf_counted a (int k x) s v = record { binds = λ t. omega arith; loop_count = omega arith; leg_count = omega arith; binder_count = omega arith }
leaf_counted a (truth b) s v = record { binds = λ t. omega arith; loop_count = omega arith; leg_count = omega arith; binder_count = omega arith }
leaf_counted a (chars bs) s v = record { binds = λ t. omega arith; loop_count = omega arith; leg_count = omega arith; binder_count = omega arith }
leaf_counted a (name x) s v = by (s == x)
  where
    by : (b : Bool) → Counted (if b then v else leaf a (name x)) (leaf a (name x)) v (if b then 1 else 0)
    by true = record { binds = λ t. omega arith; loop_count = omega arith; leg_count = omega arith; binder_count = omega arith }
    by false = record { binds = λ t. omega arith; loop_count = omega arith; leg_count = omega arith; binder_count = omega arith }
leaf_counted a (fresh b) s v = record { binds = λ t. omega arith; loop_count = omega arith; leg_count = omega arith; binder_count = omega arith }

mutual
  pub put_counted : (e : ExprTree) (s : ℕ) (v : ExprTree) → Counted (put s v e) e v (uses e s)
  put_counted (leaf a l) s v = leaf_counted a l s v
  put_counted (one a o e) s v =
      let p = put_counted e s v in record { binds = p.binds; loop_count = p.loop_count; leg_count = p.leg_count; binder_count = p.binder_count }
  put_counted (two a o e f) s v =
      let p = put_counted e s v in let q = put_counted f s v in
      record {
        binds = λ t. two_times (bound (put s v e)) (bound (put s v f)) (bound e) (bound f) t (uses e s) (uses f s) (times (bound v) t) (p.binds t) (q.binds t);
        loop_count = two_sums _ _ _ _ (uses e s) (uses f s) (loops v) p.loop_count q.loop_count;
        leg_count = two_sums _ _ _ _ (uses e s) (uses f s) (legs v) p.leg_count q.leg_count;
        binder_count = two_lengths (bound (put s v e)) (bound (put s v f)) (bound e) (bound f) (uses e s) (uses f s) (length (bound v)) p.binder_count q.binder_count;
      }
  put_counted (three a o d e f) s v =
      let p = put_counted d s v in let q = put_counted e s v in let r = put_counted f s v in
      let i = uses d s in let j = uses e s in let k = uses f s in
      record {
        binds = λ t.
            two_times (bound (put s v d)) (bound (put s v e) ++ bound (put s v f)) (bound d) (bound e ++ bound f) t i (j + k) (times (bound v) t) (p.binds t)
            (two_times (bound (put s v e)) (bound (put s v f)) (bound e) (bound f) t j k (times (bound v) t) (q.binds t) (r.binds t))
            ∙ ap (λ x. times (bound d ++ (bound e ++ bound f)) t + x * times (bound v) t) (regroup i j k);
        loop_count = two_sums _ _ _ _ (i + j) k (loops v) (two_sums _ _ _ _ i j (loops v) p.loop_count q.loop_count) r.loop_count;
        leg_count = two_sums _ _ _ _ (i + j) k (legs v) (two_sums _ _ _ _ i j (legs v) p.leg_count q.leg_count) r.leg_count;
        binder_count =
            two_lengths (bound (put s v d)) (bound (put s v e) ++ bound (put s v f)) (bound d) (bound e ++ bound f) i (j + k) (length (bound v)) p.binder_count
            (two_lengths (bound (put s v e)) (bound (put s v f)) (bound e) (bound f) j k (length (bound v)) q.binder_count r.binder_count)
            ∙ ap (λ x. length (bound d ++ (bound e ++ bound f)) + x * length (bound v)) (regroup i j k);
      }
  put_counted (many a o es) s v =
      let p = all_counted es s v in record { binds = p.binds; loop_count = p.loop_count; leg_count = p.leg_count; binder_count = p.binder_count }
  put_counted (let_in a b e f) s v =
      let p = put_counted e s v in let q = put_counted f s v in
      let i = uses e s in let j = uses f s in
      record {
        binds = λ t.
            cons_times b.sym.0 (bound (put s v e) ++ bound (put s v f)) (bound e ++ bound f) t (i + j) (times (bound v) t)
            (two_times (bound (put s v e)) (bound (put s v f)) (bound e) (bound f) t i j (times (bound v) t) (p.binds t) (q.binds t));
        loop_count = two_sums _ _ _ _ i j (loops v) p.loop_count q.loop_count;
        leg_count = two_sums _ _ _ _ i j (legs v) p.leg_count q.leg_count;
        binder_count =
            cons_lengths b.sym.0 (bound (put s v e) ++ bound (put s v f)) (bound e ++ bound f) (i + j) (length (bound v))
            (two_lengths (bound (put s v e)) (bound (put s v f)) (bound e) (bound f) i j (length (bound v)) p.binder_count q.binder_count);
      }
  put_counted (loop a ls e b n x f) s v =
      let p = legs_counted ls s v in let q = put_counted e s v in let r = put_counted f s v in
      let i = uses_in_legs ls s in let j = uses e s in let k = uses f s in
      let three : (xs : List ℕ) → List ℕ = λ xs. b.sym.0 ∷ n.sym.0 ∷ x.sym.0 ∷ xs in
      record {
        binds = λ t.
            two_times (bound_in_legs (put_in_legs s v ls)) (bound (put s v e) ++ three (bound (put s v f))) (bound_in_legs ls) (bound e ++ three (bound f)) t i (j + k) (times (bound v) t) (p.binds t)
            (two_times (bound (put s v e)) (three (bound (put s v f))) (bound e) (three (bound f)) t j k (times (bound v) t) (q.binds t)
            (cons_times b.sym.0 (n.sym.0 ∷ x.sym.0 ∷ bound (put s v f)) (n.sym.0 ∷ x.sym.0 ∷ bound f) t k (times (bound v) t)
            (cons_times n.sym.0 (x.sym.0 ∷ bound (put s v f)) (x.sym.0 ∷ bound f) t k (times (bound v) t)
            (cons_times x.sym.0 (bound (put s v f)) (bound f) t k (times (bound v) t) (r.binds t)))))
            ∙ ap (λ y. times (bound_in_legs ls ++ (bound e ++ three (bound f))) t + y * times (bound v) t) (regroup i j k);
        loop_count = ap (λ y. 1 + y) (two_sums _ _ _ _ (i + j) k (loops v) (two_sums _ _ _ _ i j (loops v) p.loop_count q.loop_count) r.loop_count) ∙ omega arith;
        leg_count = two_sums _ _ _ _ (i + j) k (legs v) (two_sums _ _ _ _ i j (legs v) p.leg_count q.leg_count) r.leg_count;
        binder_count =
            two_lengths (bound_in_legs (put_in_legs s v ls)) (bound (put s v e) ++ three (bound (put s v f))) (bound_in_legs ls) (bound e ++ three (bound f)) i (j + k) (length (bound v)) p.binder_count
            (two_lengths (bound (put s v e)) (three (bound (put s v f))) (bound e) (three (bound f)) j k (length (bound v)) q.binder_count
            (cons_lengths b.sym.0 (n.sym.0 ∷ x.sym.0 ∷ bound (put s v f)) (n.sym.0 ∷ x.sym.0 ∷ bound f) k (length (bound v))
            (cons_lengths n.sym.0 (x.sym.0 ∷ bound (put s v f)) (x.sym.0 ∷ bound f) k (length (bound v))
            (cons_lengths x.sym.0 (bound (put s v f)) (bound f) k (length (bound v)) r.binder_count))))
            ∙ ap (λ y. length (bound_in_legs ls ++ (bound e ++ three (bound f))) + y * length (bound v)) (regroup i j k);
      }
  put_counted (iterate a e b f) s v =
      let p = put_counted e s v in let q = put_counted f s v in
      let i = uses e s in let j = uses f s in
      record {
        binds = λ t.
            two_times (bound (put s v e)) (b.sym.0 ∷ bound (put s v f)) (bound e) (b.sym.0 ∷ bound f) t i j (times (bound v) t) (p.binds t)
            (cons_times b.sym.0 (bound (put s v f)) (bound f) t j (times (bound v) t) (q.binds t));
        loop_count = two_sums _ _ _ _ i j (loops v) p.loop_count q.loop_count;
        leg_count = two_sums _ _ _ _ i j (legs v) p.leg_count q.leg_count;
        binder_count =
            two_lengths (bound (put s v e)) (b.sym.0 ∷ bound (put s v f)) (bound e) (b.sym.0 ∷ bound f) i j (length (bound v)) p.binder_count
            (cons_lengths b.sym.0 (bound (put s v f)) (bound f) j (length (bound v)) q.binder_count);
      }

  all_counted : (es : ExprTrees) (s : ℕ) (v : ExprTree) → CountedAll (put_in_all s v es) es v (uses_in es s)
  all_counted no_exprs s v = record { binds = λ t. omega arith; loop_count = omega arith; leg_count = omega arith; binder_count = omega arith }
  all_counted (more_exprs e es) s v =
      let p = put_counted e s v in let q = all_counted es s v in
      record {
        binds = λ t. two_times (bound (put s v e)) (bound_in (put_in_all s v es)) (bound e) (bound_in es) t (uses e s) (uses_in es s) (times (bound v) t) (p.binds t) (q.binds t);
        loop_count = two_sums _ _ _ _ (uses e s) (uses_in es s) (loops v) p.loop_count q.loop_count;
        leg_count = two_sums _ _ _ _ (uses e s) (uses_in es s) (legs v) p.leg_count q.leg_count;
        binder_count = two_lengths (bound (put s v e)) (bound_in (put_in_all s v es)) (bound e) (bound_in es) (uses e s) (uses_in es s) (length (bound v)) p.binder_count q.binder_count;
      }

  leg_counted : (l : LegTree) (s : ℕ) (v : ExprTree) → CountedLeg (put_in_leg s v l) l v (uses_in_leg l s)
  leg_counted (whole e) s v =
      let p = put_counted e s v in record { binds = p.binds; loop_count = p.loop_count; leg_count = p.leg_count; binder_count = p.binder_count }
  leg_counted (strided e f c d) s v =
      let p = put_counted e s v in let q = put_counted f s v in let r = put_counted c s v in let w = put_counted d s v in
      let i = uses e s in let j = uses f s in let k = uses c s in let m = uses d s in
      let same : i + (j + (k + m)) ≡ i + j + k + m = omega arith in
      record {
        binds = λ t.
            two_times (bound (put s v e)) (bound (put s v f) ++ (bound (put s v c) ++ bound (put s v d))) (bound e) (bound f ++ (bound c ++ bound d)) t i (j + (k + m)) (times (bound v) t) (p.binds t)
            (two_times (bound (put s v f)) (bound (put s v c) ++ bound (put s v d)) (bound f) (bound c ++ bound d) t j (k + m) (times (bound v) t) (q.binds t)
            (two_times (bound (put s v c)) (bound (put s v d)) (bound c) (bound d) t k m (times (bound v) t) (r.binds t) (w.binds t)))
            ∙ ap (λ x. times (bound e ++ (bound f ++ (bound c ++ bound d))) t + x * times (bound v) t) same;
        loop_count = two_sums _ _ _ _ (i + j + k) m (loops v) (two_sums _ _ _ _ (i + j) k (loops v) (two_sums _ _ _ _ i j (loops v) p.loop_count q.loop_count) r.loop_count) w.loop_count;
        leg_count = two_sums _ _ _ _ (i + j + k) m (legs v) (two_sums _ _ _ _ (i + j) k (legs v) (two_sums _ _ _ _ i j (legs v) p.leg_count q.leg_count) r.leg_count) w.leg_count;
        binder_count =
            two_lengths (bound (put s v e)) (bound (put s v f) ++ (bound (put s v c) ++ bound (put s v d))) (bound e) (bound f ++ (bound c ++ bound d)) i (j + (k + m)) (length (bound v)) p.binder_count
            (two_lengths (bound (put s v f)) (bound (put s v c) ++ bound (put s v d)) (bound f) (bound c ++ bound d) j (k + m) (length (bound v)) q.binder_count
            (two_lengths (bound (put s v c)) (bound (put s v d)) (bound c) (bound d) k m (length (bound v)) r.binder_count w.binder_count))
            ∙ ap (λ x. length (bound e ++ (bound f ++ (bound c ++ bound d))) + x * length (bound v)) same;
      }

  legs_counted : (ls : LegTrees) (s : ℕ) (v : ExprTree) → CountedLegs (put_in_legs s v ls) ls v (uses_in_legs ls s)
  legs_counted no_legs s v = record { binds = λ t. omega arith; loop_count = omega arith; leg_count = omega arith; binder_count = omega arith }
  legs_counted (more_legs l ls) s v =
      let p = leg_counted l s v in let q = legs_counted ls s v in
      let i = uses_in_leg l s in let j = uses_in_legs ls s in
      record {
        binds = λ t. two_times (bound_in_leg (put_in_leg s v l)) (bound_in_legs (put_in_legs s v ls)) (bound_in_leg l) (bound_in_legs ls) t i j (times (bound v) t) (p.binds t) (q.binds t);
        loop_count = two_sums _ _ _ _ i j (loops v) p.loop_count q.loop_count;
        leg_count = ap (λ y. 1 + y) (two_sums _ _ _ _ i j (legs v) p.leg_count q.leg_count) ∙ omega arith;
        binder_count = two_lengths (bound_in_leg (put_in_leg s v l)) (bound_in_legs (put_in_legs s v ls)) (bound_in_leg l) (bound_in_legs ls) i j (length (bound v)) p.binder_count q.binder_count;
      }
