-- What is counted of a handed body: what is counted of the body, and of the other loop's body once for each merge into the list.
use Rattle.std.proofs.Common.{◌≡◌, ℕ, zero, suc, ◌+◌, Bool, true, false, ◌&&◌, if◌then◌else◌, List, ◌∷◌, ◌++◌, length, refl, ap, ◌∙◌, arith, length-append}
use Rattle.weld_tree.specs.declared.binder.Binder.{Binder}
use Rattle.weld_tree.specs.TypeTree.{TypeTree}
use Rattle.weld_tree.specs.ExprTree.{At, ExprTree, leaf, one, two, three, many, let_in, loop, iterate, ExprTrees, no_exprs, more_exprs, LegTree, whole, strided, LegTrees, no_legs, more_legs, Two}
use Rattle.weld_tree.specs.Program.{loops, loops_in, loops_in_leg, loops_in_legs, bound, bound_in, bound_in_leg, bound_in_legs, HasExprs, HasLegs, IsWellMade, AreWellMade, LegIsWellMade, LegsAreWellMade}
use Rattle.weld_meaning.specs.Environment.{Named}
use Rattle.weld_meaning.specs.Origin.{Origin, origin}
use Rattle.weld_print.specs.Spellable.{NoteIsSpellable, IsSpellable, AreSpellable, LegIsSpellable, LegsAreSpellable}
use Rattle.weld_rewriting.specs.Within.{times, legs, legs_in, legs_within, legs_among}
use Rattle.weld_rewriting.specs.Weight.{weight, weight_in, weight_in_leg, weight_in_legs}
use Rattle.weld_rewriting.proofs.Counts.{times-append}
use Rattle.weld_vertical.specs.Sinking.{is_merge}
use Rattle.weld_handing.specs.Handing.{is_held, handed_two, handed, all_handed, leg_handed, legs_handed}
use Rattle.weld_handing.specs.Merging.{list_merges, all_list_merges, leg_list_merges, legs_list_merges}

-- so many times so much
abbrev pub copies : ℕ → ℕ → ℕ
copies zero k = 0
copies (suc m) k = k + copies m k

copies_sum : (m n k : ℕ) → copies (m + n) k ≡ copies m k + copies n k
copies_sum zero n k = let same : zero + n ≡ n = omega arith in let more : copies n k ≡ 0 + copies n k = omega arith in ap (λ j. copies j k) same ∙ more
copies_sum (suc m) n k =
    let same : suc m + n ≡ suc (m + n) = omega arith in
    let more : k + copies (m + n) k ≡ (k + copies m k) + copies n k = omega (arith, copies_sum m n k) in ap (λ j. copies j k) same ∙ more

-- at a node that isn't a merge into the list
no_more : (j k : ℕ) → copies ((if false then 1 else 0) + j) k ≡ copies j k
no_more j k = let same : (if false then 1 else 0) + j ≡ j = omega arith in ap (λ l. copies l k) same

-- and at one that is
one_more : (j k : ℕ) → copies ((if true then 1 else 0) + j) k ≡ k + copies j k
one_more j k = let same : (if true then 1 else 0) + j ≡ suc j = omega arith in ap (λ l. copies l k) same

module _ (t : TypeTree) (i : ℕ) (c n x : Binder) (f : ExprTree) where
  abbrev pub mine : List ℕ
  mine = c.sym.0 ∷ n.sym.0 ∷ x.sym.0 ∷ bound f

  -- the first is the second with so many of the other loop's bodies in it
  pub record Counts (d e : ExprTree) (m : ℕ) : Type 0 where
    pub binds : (s : ℕ) → times (bound d) s ≡ times (bound e) s + copies m (times mine s)
    pub binder_count : length (bound d) ≡ length (bound e) + copies m (3 + length (bound f))
    pub loop_count : loops d ≡ loops e + copies m (loops f)
    pub leg_count : legs d ≡ legs e + copies m (legs f)
    pub weighs : weight d ≡ weight e + copies m (3 + weight f)
    pub made : IsWellMade f → IsWellMade e → IsWellMade d
    pub spellable : NoteIsSpellable c.note → NoteIsSpellable n.note → NoteIsSpellable x.note → IsSpellable f → IsSpellable e → IsSpellable d

  record AllCount (ds es : ExprTrees) (m : ℕ) : Type 0 where
    pub binds : (s : ℕ) → times (bound_in ds) s ≡ times (bound_in es) s + copies m (times mine s)
    pub binder_count : length (bound_in ds) ≡ length (bound_in es) + copies m (3 + length (bound f))
    pub loop_count : loops_in ds ≡ loops_in es + copies m (loops f)
    pub leg_count : legs_in ds ≡ legs_in es + copies m (legs f)
    pub weighs : weight_in ds ≡ weight_in es + copies m (3 + weight f)
    pub some : HasExprs es → HasExprs ds
    pub made : IsWellMade f → AreWellMade es → AreWellMade ds
    pub spellable : NoteIsSpellable c.note → NoteIsSpellable n.note → NoteIsSpellable x.note → IsSpellable f → AreSpellable es → AreSpellable ds

  record LegCounts (k l : LegTree) (m : ℕ) : Type 0 where
    pub binds : (s : ℕ) → times (bound_in_leg k) s ≡ times (bound_in_leg l) s + copies m (times mine s)
    pub binder_count : length (bound_in_leg k) ≡ length (bound_in_leg l) + copies m (3 + length (bound f))
    pub loop_count : loops_in_leg k ≡ loops_in_leg l + copies m (loops f)
    pub leg_count : legs_within k ≡ legs_within l + copies m (legs f)
    pub weighs : weight_in_leg k ≡ weight_in_leg l + copies m (3 + weight f)
    pub made : IsWellMade f → LegIsWellMade l → LegIsWellMade k
    pub spellable : NoteIsSpellable c.note → NoteIsSpellable n.note → NoteIsSpellable x.note → IsSpellable f → LegIsSpellable l → LegIsSpellable k

  record LegsCount (ks ls : LegTrees) (m : ℕ) : Type 0 where
    pub binds : (s : ℕ) → times (bound_in_legs ks) s ≡ times (bound_in_legs ls) s + copies m (times mine s)
    pub binder_count : length (bound_in_legs ks) ≡ length (bound_in_legs ls) + copies m (3 + length (bound f))
    pub loop_count : loops_in_legs ks ≡ loops_in_legs ls + copies m (loops f)
    pub leg_count : legs_among ks ≡ legs_among ls + copies m (legs f)
    pub weighs : weight_in_legs ks ≡ weight_in_legs ls + copies m (3 + weight f)
    pub some : HasLegs ls → HasLegs ks
    pub made : IsWellMade f → LegsAreWellMade ls → LegsAreWellMade ks
    pub spellable : NoteIsSpellable c.note → NoteIsSpellable n.note → NoteIsSpellable x.note → IsSpellable f → LegsAreSpellable ls → LegsAreSpellable ks

  -- ---- node by node

  leaf_counts : (a b : At) (l : _) → Counts (leaf a l) (leaf b l) 0
  leaf_counts a b l = record {
    binds = λ s. refl;
    binder_count = refl;
    loop_count = refl;
    leg_count = refl;
    weighs = refl;
    made = λ p q. q;
    spellable = λ u v w p q. q;
  }

  one_counts : (a b : At) (o : _) (d e : ExprTree) (m : ℕ) → Counts d e m → Counts (one a o d) (one b o e) m
  one_counts a b o d e m w = record {
    binds = w.binds;
    binder_count = w.binder_count;
    loop_count = w.loop_count;
    leg_count = w.leg_count;
    weighs = w.weighs;
    made = λ p q. (q.0, w.made p q.1);
    spellable = λ u v y p q. (q.0, w.spellable u v y p q.1);
  }

  two_counts : (a b : At) (o : Two) (p : Origin) (d e g h : ExprTree) (m k : ℕ) → Counts d e m → Counts g h k → (y : Bool) → Counts (handed_two y t i c n x f p a o d g) (two b o e h) ((if y then 1 else 0) + (m + k))
  two_counts a b o p d e g h m k w z true = record {
    binds = λ s.
        ap (λ l. times l s) merged_bound
        ∙ omega (
          arith,
          w.binds s,
          z.binds s,
          one_more (m + k) (times mine s),
          copies_sum m k (times mine s),
          times-append (bound d) (n.sym.0 ∷ x.sym.0 ∷ (bound g ++ bound f)) s,
          times-append (bound g) (bound f) s,
          times-append (bound e) (bound h) s,
        );
    binder_count =
        ap length merged_bound
        ∙ omega (
          arith,
          w.binder_count,
          z.binder_count,
          one_more (m + k) (3 + length (bound f)),
          copies_sum m k (3 + length (bound f)),
          length-append (bound d) (n.sym.0 ∷ x.sym.0 ∷ (bound g ++ bound f)),
          length-append (bound g) (bound f),
          length-append (bound e) (bound h),
        );
    loop_count = omega (arith, w.loop_count, z.loop_count, one_more (m + k) (loops f), copies_sum m k (loops f));
    leg_count = omega (arith, w.leg_count, z.leg_count, one_more (m + k) (legs f), copies_sum m k (legs f));
    weighs = omega (arith, w.weighs, z.weighs, one_more (m + k) (3 + weight f), copies_sum m k (3 + weight f));
    made = λ p q. (w.made p q.0, (tt, (z.made p q.1, p)));
    spellable = λ u v y p q. (u, w.spellable u v y p q.0, (v, tt, (y, z.spellable u v y p q.1, p)));
  }
    where
      merged_bound : bound (handed_two true t i c n x f p a o d g) ≡ c.sym.0 ∷ (bound d ++ (n.sym.0 ∷ x.sym.0 ∷ (bound g ++ bound f)))
      merged_bound = refl
  two_counts a b o p d e g h m k w z false = record {
    binds = λ s. omega (arith, w.binds s, z.binds s, no_more (m + k) (times mine s), copies_sum m k (times mine s), times-append (bound d) (bound g) s, times-append (bound e) (bound h) s);
    binder_count = omega (arith, w.binder_count, z.binder_count, no_more (m + k) (3 + length (bound f)), copies_sum m k (3 + length (bound f)), length-append (bound d) (bound g), length-append (bound e) (bound h));
    loop_count = omega (arith, w.loop_count, z.loop_count, no_more (m + k) (loops f), copies_sum m k (loops f));
    leg_count = omega (arith, w.leg_count, z.leg_count, no_more (m + k) (legs f), copies_sum m k (legs f));
    weighs = omega (arith, w.weighs, z.weighs, no_more (m + k) (3 + weight f), copies_sum m k (3 + weight f));
    made = λ p q. (w.made p q.0, z.made p q.1);
    spellable = λ u v y p q. (w.spellable u v y p q.0, z.spellable u v y p q.1);
  }

  three_counts : (a b : At) (o : _) (d e g h j l : ExprTree) (m k p : ℕ) → Counts d e m → Counts g h k → Counts j l p → Counts (three a o d g j) (three b o e h l) (m + (k + p))
  three_counts a b o d e g h j l m k p w z y = record {
    binds = λ s.
        omega (
          arith,
          w.binds s,
          z.binds s,
          y.binds s,
          copies_sum m (k + p) (times mine s),
          copies_sum k p (times mine s),
          times-append (bound d) (bound g ++ bound j) s,
          times-append (bound g) (bound j) s,
          times-append (bound e) (bound h ++ bound l) s,
          times-append (bound h) (bound l) s,
        );
    binder_count =
        omega (
          arith,
          w.binder_count,
          z.binder_count,
          y.binder_count,
          copies_sum m (k + p) (3 + length (bound f)),
          copies_sum k p (3 + length (bound f)),
          length-append (bound d) (bound g ++ bound j),
          length-append (bound g) (bound j),
          length-append (bound e) (bound h ++ bound l),
          length-append (bound h) (bound l),
        );
    loop_count = omega (arith, w.loop_count, z.loop_count, y.loop_count, copies_sum m (k + p) (loops f), copies_sum k p (loops f));
    leg_count = omega (arith, w.leg_count, z.leg_count, y.leg_count, copies_sum m (k + p) (legs f), copies_sum k p (legs f));
    weighs = omega (arith, w.weighs, z.weighs, y.weighs, copies_sum m (k + p) (3 + weight f), copies_sum k p (3 + weight f));
    made = λ q r. (w.made q r.0, z.made q r.1, y.made q r.2);
    spellable = λ u v s q r. (w.spellable u v s q r.0, z.spellable u v s q r.1, y.spellable u v s q r.2);
  }

  let_counts : (a b : At) (v w : Binder) (d e g h : ExprTree) (m k : ℕ) → v.sym ≡ w.sym → NoteIsSpellable v.note → Counts d e m → Counts g h k → Counts (let_in a v d g) (let_in b w e h) (m + k)
  let_counts a b v w d e g h m k same noted y z = record {
    binds = λ s.
        (λ j. times ((same j).0 ∷ (bound d ++ bound g)) s)
        ∙ omega (arith, y.binds s, z.binds s, copies_sum m k (times mine s), times-append (bound d) (bound g) s, times-append (bound e) (bound h) s);
    binder_count = omega (arith, y.binder_count, z.binder_count, copies_sum m k (3 + length (bound f)), length-append (bound d) (bound g), length-append (bound e) (bound h));
    loop_count = omega (arith, y.loop_count, z.loop_count, copies_sum m k (loops f));
    leg_count = omega (arith, y.leg_count, z.leg_count, copies_sum m k (legs f));
    weighs = omega (arith, y.weighs, z.weighs, copies_sum m k (3 + weight f));
    made = λ p q. (y.made p q.0, z.made p q.1);
    spellable = λ u p s q r. (noted, y.spellable u p s q r.1, z.spellable u p s q r.2);
  }

  loop_counts : (a : At) (ks ls : LegTrees) (d e : ExprTree) (b k y : Binder) (g : ExprTree) (m p : ℕ) → LegsCount ks ls m → Counts d e p → Counts (loop a ks d b k y g) (loop a ls e b k y g) (m + p)
  loop_counts a ks ls d e b k y g m p w z = record {
    binds = λ s.
        omega (
          arith,
          w.binds s,
          z.binds s,
          copies_sum m p (times mine s),
          times-append (bound_in_legs ks) (bound d ++ (b.sym.0 ∷ k.sym.0 ∷ y.sym.0 ∷ bound g)) s,
          times-append (bound d) (b.sym.0 ∷ k.sym.0 ∷ y.sym.0 ∷ bound g) s,
          times-append (bound_in_legs ls) (bound e ++ (b.sym.0 ∷ k.sym.0 ∷ y.sym.0 ∷ bound g)) s,
          times-append (bound e) (b.sym.0 ∷ k.sym.0 ∷ y.sym.0 ∷ bound g) s,
        );
    binder_count =
        omega (
          arith,
          w.binder_count,
          z.binder_count,
          copies_sum m p (3 + length (bound f)),
          length-append (bound_in_legs ks) (bound d ++ (b.sym.0 ∷ k.sym.0 ∷ y.sym.0 ∷ bound g)),
          length-append (bound d) (b.sym.0 ∷ k.sym.0 ∷ y.sym.0 ∷ bound g),
          length-append (bound_in_legs ls) (bound e ++ (b.sym.0 ∷ k.sym.0 ∷ y.sym.0 ∷ bound g)),
          length-append (bound e) (b.sym.0 ∷ k.sym.0 ∷ y.sym.0 ∷ bound g),
        );
    loop_count = omega (arith, w.loop_count, z.loop_count, copies_sum m p (loops f));
    leg_count = omega (arith, w.leg_count, z.leg_count, copies_sum m p (legs f));
    weighs = omega (arith, w.weighs, z.weighs, copies_sum m p (3 + weight f));
    made = λ q r. (w.some r.0, w.made q r.1, z.made q r.2, r.3);
    spellable = λ u v s q r. (w.spellable u v s q r.0, z.spellable u v s q r.1, r.2, r.3, r.4, r.5);
  }

  iterate_counts : (a : At) (d e : ExprTree) (b : Binder) (g : ExprTree) (m : ℕ) → Counts d e m → Counts (iterate a d b g) (iterate a e b g) m
  iterate_counts a d e b g m w = record {
    binds = λ s. omega (arith, w.binds s, times-append (bound d) (b.sym.0 ∷ bound g) s, times-append (bound e) (b.sym.0 ∷ bound g) s);
    binder_count = omega (arith, w.binder_count, length-append (bound d) (b.sym.0 ∷ bound g), length-append (bound e) (b.sym.0 ∷ bound g));
    loop_count = omega (arith, w.loop_count);
    leg_count = omega (arith, w.leg_count);
    weighs = omega (arith, w.weighs);
    made = λ p q. (w.made p q.0, q.1);
    spellable = λ u v s p q. (w.spellable u v s p q.0, q.1, q.2);
  }

  none_counts : AllCount no_exprs no_exprs 0
  none_counts = record {
    binds = λ s. refl;
    binder_count = refl;
    loop_count = refl;
    leg_count = refl;
    weighs = refl;
    some = λ p. p;
    made = λ p q. q;
    spellable = λ u v s p q. q;
  }

  more_counts : (d e : ExprTree) (ds es : ExprTrees) (m k : ℕ) → Counts d e m → AllCount ds es k → AllCount (more_exprs d ds) (more_exprs e es) (m + k)
  more_counts d e ds es m k w z = record {
    binds = λ s. omega (arith, w.binds s, z.binds s, copies_sum m k (times mine s), times-append (bound d) (bound_in ds) s, times-append (bound e) (bound_in es) s);
    binder_count = omega (arith, w.binder_count, z.binder_count, copies_sum m k (3 + length (bound f)), length-append (bound d) (bound_in ds), length-append (bound e) (bound_in es));
    loop_count = omega (arith, w.loop_count, z.loop_count, copies_sum m k (loops f));
    leg_count = omega (arith, w.leg_count, z.leg_count, copies_sum m k (legs f));
    weighs = omega (arith, w.weighs, z.weighs, copies_sum m k (3 + weight f));
    some = λ p. tt;
    made = λ p q. (w.made p q.0, z.made p q.1);
    spellable = λ u v s p q. (w.spellable u v s p q.0, z.spellable u v s p q.1);
  }

  many_counts : (a b : At) (o : _) (ds es : ExprTrees) (m : ℕ) → AllCount ds es m → Counts (many a o ds) (many b o es) m
  many_counts a b o ds es m w = record {
    binds = w.binds;
    binder_count = w.binder_count;
    loop_count = w.loop_count;
    leg_count = w.leg_count;
    weighs = w.weighs;
    made = λ p q. (w.some q.0, w.made p q.1);
    spellable = w.spellable;
  }

  whole_counts : (d e : ExprTree) (m : ℕ) → Counts d e m → LegCounts (whole d) (whole e) m
  whole_counts d e m w = record {
    binds = w.binds;
    binder_count = w.binder_count;
    loop_count = w.loop_count;
    leg_count = w.leg_count;
    weighs = w.weighs;
    made = w.made;
    spellable = w.spellable;
  }

  strided_counts : (d e g h j l r y : ExprTree) (m k p q : ℕ) → Counts d e m → Counts g h k → Counts j l p → Counts r y q → LegCounts (strided d g j r) (strided e h l y) (m + (k + (p + q)))
  strided_counts d e g h j l r y m k p q w z v u = record {
    binds = λ s.
        omega (
          arith,
          w.binds s,
          z.binds s,
          v.binds s,
          u.binds s,
          copies_sum m (k + (p + q)) (times mine s),
          copies_sum k (p + q) (times mine s),
          copies_sum p q (times mine s),
          times-append (bound d) (bound g ++ (bound j ++ bound r)) s,
          times-append (bound g) (bound j ++ bound r) s,
          times-append (bound j) (bound r) s,
          times-append (bound e) (bound h ++ (bound l ++ bound y)) s,
          times-append (bound h) (bound l ++ bound y) s,
          times-append (bound l) (bound y) s,
        );
    binder_count =
        omega (
          arith,
          w.binder_count,
          z.binder_count,
          v.binder_count,
          u.binder_count,
          copies_sum m (k + (p + q)) (3 + length (bound f)),
          copies_sum k (p + q) (3 + length (bound f)),
          copies_sum p q (3 + length (bound f)),
          length-append (bound d) (bound g ++ (bound j ++ bound r)),
          length-append (bound g) (bound j ++ bound r),
          length-append (bound j) (bound r),
          length-append (bound e) (bound h ++ (bound l ++ bound y)),
          length-append (bound h) (bound l ++ bound y),
          length-append (bound l) (bound y),
        );
    loop_count = omega (arith, w.loop_count, z.loop_count, v.loop_count, u.loop_count, copies_sum m (k + (p + q)) (loops f), copies_sum k (p + q) (loops f), copies_sum p q (loops f));
    leg_count = omega (arith, w.leg_count, z.leg_count, v.leg_count, u.leg_count, copies_sum m (k + (p + q)) (legs f), copies_sum k (p + q) (legs f), copies_sum p q (legs f));
    weighs = omega (arith, w.weighs, z.weighs, v.weighs, u.weighs, copies_sum m (k + (p + q)) (3 + weight f), copies_sum k (p + q) (3 + weight f), copies_sum p q (3 + weight f));
    made = λ a b. (w.made a b.0, z.made a b.1, v.made a b.2, u.made a b.3);
    spellable = λ a b s o i. (w.spellable a b s o i.0, z.spellable a b s o i.1, v.spellable a b s o i.2, u.spellable a b s o i.3);
  }

  no_legs_count : LegsCount no_legs no_legs 0
  no_legs_count = record {
    binds = λ s. refl;
    binder_count = refl;
    loop_count = refl;
    leg_count = refl;
    weighs = refl;
    some = λ p. p;
    made = λ p q. q;
    spellable = λ u v s p q. q;
  }

  more_legs_count : (k l : LegTree) (ks ls : LegTrees) (m p : ℕ) → LegCounts k l m → LegsCount ks ls p → LegsCount (more_legs k ks) (more_legs l ls) (m + p)
  more_legs_count k l ks ls m p w z = record {
    binds = λ s. omega (arith, w.binds s, z.binds s, copies_sum m p (times mine s), times-append (bound_in_leg k) (bound_in_legs ks) s, times-append (bound_in_leg l) (bound_in_legs ls) s);
    binder_count = omega (arith, w.binder_count, z.binder_count, copies_sum m p (3 + length (bound f)), length-append (bound_in_leg k) (bound_in_legs ks), length-append (bound_in_leg l) (bound_in_legs ls));
    loop_count = omega (arith, w.loop_count, z.loop_count, copies_sum m p (loops f));
    leg_count = omega (arith, w.leg_count, z.leg_count, copies_sum m p (legs f));
    weighs = omega (arith, w.weighs, z.weighs, copies_sum m p (3 + weight f));
    some = λ q. tt;
    made = λ q r. (w.made q r.0, z.made q r.1);
    spellable = λ u v s q r. (w.spellable u v s q r.0, z.spellable u v s q r.1);
  }

  -- ---- all nodes

  mutual
    -- a handed body has as many of the other loop's bodies in it as it merges into the list
    pub handed_counts : (e : ExprTree) (q : Named Origin) → Counts (handed t i c n x f q e) e (list_merges q e)
    handed_counts (leaf a l) q = leaf_counts _ a l
    handed_counts (one a o e) q = one_counts _ a o (handed t i c n x f q e) e (list_merges q e) (handed_counts e q)
    handed_counts (two a o e v) q =
        two_counts a a o (origin e q) (handed t i c n x f q e) e (handed t i c n x f q v) v (list_merges q e) (list_merges q v) (handed_counts e q) (handed_counts v q) (is_merge o && is_held (origin e q))
    handed_counts (three a o d e g) q =
        three_counts _ a o (handed t i c n x f q d) d (handed t i c n x f q e) e (handed t i c n x f q g) g (list_merges q d) (list_merges q e) (list_merges q g) (handed_counts d q) (handed_counts e q) (handed_counts g q)
    handed_counts (many a o es) q = many_counts _ a o (all_handed t i c n x f q es) es (all_list_merges q es) (all_handed_count es q)
    handed_counts (let_in a z v g) q =
        let_counts _ a _ z (handed t i c n x f q v) v (handed t i c n x f ((z.sym.0, origin v q) ∷ q) g) g (list_merges q v) (list_merges ((z.sym.0, origin v q) ∷ q) g) refl tt (handed_counts v q) (handed_counts g ((z.sym.0, origin v q) ∷ q))
    handed_counts (loop a ls e b m y g) q = loop_counts a (legs_handed t i c n x f q ls) ls (handed t i c n x f q e) e b m y g (legs_list_merges q ls) (list_merges q e) (legs_handed_count ls q) (handed_counts e q)
    handed_counts (iterate a e b g) q = iterate_counts a (handed t i c n x f q e) e b g (list_merges q e) (handed_counts e q)

    all_handed_count : (es : ExprTrees) (q : Named Origin) → AllCount (all_handed t i c n x f q es) es (all_list_merges q es)
    all_handed_count no_exprs q = none_counts
    all_handed_count (more_exprs e es) q = more_counts (handed t i c n x f q e) e (all_handed t i c n x f q es) es (list_merges q e) (all_list_merges q es) (handed_counts e q) (all_handed_count es q)

    leg_handed_count : (l : LegTree) (q : Named Origin) → LegCounts (leg_handed t i c n x f q l) l (leg_list_merges q l)
    leg_handed_count (whole e) q = whole_counts (handed t i c n x f q e) e (list_merges q e) (handed_counts e q)
    leg_handed_count (strided e g h j) q =
        strided_counts (handed t i c n x f q e) e (handed t i c n x f q g) g (handed t i c n x f q h) h (handed t i c n x f q j) j (list_merges q e) (list_merges q g) (list_merges q h) (list_merges q j)
        (handed_counts e q) (handed_counts g q) (handed_counts h q) (handed_counts j q)

    legs_handed_count : (ls : LegTrees) (q : Named Origin) → LegsCount (legs_handed t i c n x f q ls) ls (legs_list_merges q ls)
    legs_handed_count no_legs q = no_legs_count
    legs_handed_count (more_legs l ls) q = more_legs_count (leg_handed t i c n x f q l) l (legs_handed t i c n x f q ls) ls (leg_list_merges q l) (legs_list_merges q ls) (leg_handed_count l q) (legs_handed_count ls q)
