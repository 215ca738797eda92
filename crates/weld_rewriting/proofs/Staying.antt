-- Where the parts of a node stay within others, the node does: it binds and names nothing new, and has no more of anything.
use Rattle.std.proofs.Common.{ℕ, ◌≤◌, length, inl, inr, ◌⊎◌, arith, ◌∷◌, ◌++◌}
use Rattle.weld_tree.specs.declared.binder.Binder.{Binder}
use Rattle.weld_tree.specs.ExprTree.{At, ExprTree, leaf, one, two, three, many, let_in, loop, iterate, ExprTrees, no_exprs, more_exprs, LegTree, whole, strided, LegTrees, no_legs, more_legs, One, Two, Three, Many}
use Rattle.weld_tree.specs.Program.{loops_in, loops_in_leg, loops_in_legs, bound, bound_in, bound_in_leg, bound_in_legs, AreWellMade, LegIsWellMade, LegsAreWellMade, HasExprs, HasLegs}
use Rattle.weld_meaning.specs.Names.{AreFree, LegIsFree, LegsAreFree}
use Rattle.weld_print.specs.Spellable.{AreSpellable, LegIsSpellable, LegsAreSpellable}
use Rattle.weld_rewriting.specs.Within.{times, legs_in, legs_within, legs_among, StaysWithin}
use Rattle.weld_rewriting.specs.Shape.{AllRelate, LegRelates, LegsRelate, IsCongruence}
use Rattle.weld_rewriting.proofs.Counts.{append_times, cons_times, append_lengths, cons_lengths, loop_times, loop_lengths}

pub stays_itself : (e : ExprTree) → StaysWithin e e
stays_itself e = record {
  binds = λ s. omega arith;
  names = λ s h. h;
  no_more_loops = omega arith;
  no_more_legs = omega arith;
  no_more_binders = omega arith;
  well_made = λ h. h;
  spellable = λ h. h;
}

pub stays_in_turn : (c d e : ExprTree) → StaysWithin c d → StaysWithin d e → StaysWithin c e
stays_in_turn c d e r q = record {
  binds = λ s. omega (arith, r.binds s, q.binds s);
  names = λ s h. q.names s (r.names s h);
  no_more_loops = omega (arith, r.no_more_loops, q.no_more_loops);
  no_more_legs = omega (arith, r.no_more_legs, q.no_more_legs);
  no_more_binders = omega (arith, r.no_more_binders, q.no_more_binders);
  well_made = λ h. r.well_made (q.well_made h);
  spellable = λ h. r.spellable (q.spellable h);
}

-- one of two, each from its own
either : {A B C D : Type 0} → (A → C) → (B → D) → A ⊎ B → C ⊎ D
either f g (inl x) = inl (f x)
either f g (inr x) = inr (g x)

one_stays : (a : At) (o : One) (d e : ExprTree) → StaysWithin d e → StaysWithin (one a o d) (one a o e)
one_stays a o d e r = record {
  binds = r.binds;
  names = r.names;
  no_more_loops = r.no_more_loops;
  no_more_legs = r.no_more_legs;
  no_more_binders = r.no_more_binders;
  well_made = λ h. (h.0, r.well_made h.1);
  spellable = λ h. (h.0, r.spellable h.1);
}

two_stays : (a : At) (o : Two) (c d e f : ExprTree) → StaysWithin c e → StaysWithin d f → StaysWithin (two a o c d) (two a o e f)
two_stays a o c d e f r u = record {
  binds = λ s. append_times (bound c) (bound d) (bound e) (bound f) s (r.binds s) (u.binds s);
  names = λ s. either (r.names s) (u.names s);
  no_more_loops = omega (arith, r.no_more_loops, u.no_more_loops);
  no_more_legs = omega (arith, r.no_more_legs, u.no_more_legs);
  no_more_binders = append_lengths (bound c) (bound d) (bound e) (bound f) r.no_more_binders u.no_more_binders;
  well_made = λ h. (r.well_made h.0, u.well_made h.1);
  spellable = λ h. (r.spellable h.0, u.spellable h.1);
}

three_stays : (a : At) (o : Three) (b c d e f g : ExprTree) → StaysWithin b e → StaysWithin c f → StaysWithin d g → StaysWithin (three a o b c d) (three a o e f g)
three_stays a o b c d e f g r u v = record {
  binds = λ s. append_times (bound b) (bound c ++ bound d) (bound e) (bound f ++ bound g) s (r.binds s) (append_times (bound c) (bound d) (bound f) (bound g) s (u.binds s) (v.binds s));
  names = λ s. either (r.names s) (either (u.names s) (v.names s));
  no_more_loops = omega (arith, r.no_more_loops, u.no_more_loops, v.no_more_loops);
  no_more_legs = omega (arith, r.no_more_legs, u.no_more_legs, v.no_more_legs);
  no_more_binders = append_lengths (bound b) (bound c ++ bound d) (bound e) (bound f ++ bound g) r.no_more_binders (append_lengths (bound c) (bound d) (bound f) (bound g) u.no_more_binders v.no_more_binders);
  well_made = λ h. (r.well_made h.0, u.well_made h.1, v.well_made h.2);
  spellable = λ h. (r.spellable h.0, u.spellable h.1, v.spellable h.2);
}

let_stays : (a : At) (b : Binder) (c d e f : ExprTree) → StaysWithin c e → StaysWithin d f → StaysWithin (let_in a b c d) (let_in a b e f)
let_stays a b c d e f r u = record {
  binds = λ s. cons_times b.sym.0 (bound c ++ bound d) (bound e ++ bound f) s (append_times (bound c) (bound d) (bound e) (bound f) s (r.binds s) (u.binds s));
  names = λ s. either (r.names s) (λ h. (u.names s h.0, h.1));
  no_more_loops = omega (arith, r.no_more_loops, u.no_more_loops);
  no_more_legs = omega (arith, r.no_more_legs, u.no_more_legs);
  no_more_binders = cons_lengths b.sym.0 (bound c ++ bound d) (bound e ++ bound f) (append_lengths (bound c) (bound d) (bound e) (bound f) r.no_more_binders u.no_more_binders);
  well_made = λ h. (r.well_made h.0, u.well_made h.1);
  spellable = λ h. (h.0, r.spellable h.1, u.spellable h.2);
}

iterate_stays : (a : At) (c e : ExprTree) (b : Binder) (d f : ExprTree) → StaysWithin c e → StaysWithin d f → StaysWithin (iterate a c b d) (iterate a e b f)
iterate_stays a c e b d f r u = record {
  binds = λ s. append_times (bound c) (b.sym.0 ∷ bound d) (bound e) (b.sym.0 ∷ bound f) s (r.binds s) (cons_times b.sym.0 (bound d) (bound f) s (u.binds s));
  names = λ s. either (r.names s) (λ h. (u.names s h.0, h.1));
  no_more_loops = omega (arith, r.no_more_loops, u.no_more_loops);
  no_more_legs = omega (arith, r.no_more_legs, u.no_more_legs);
  no_more_binders = append_lengths (bound c) (b.sym.0 ∷ bound d) (bound e) (b.sym.0 ∷ bound f) r.no_more_binders (cons_lengths b.sym.0 (bound d) (bound f) u.no_more_binders);
  well_made = λ h. (r.well_made h.0, u.well_made h.1);
  spellable = λ h. (r.spellable h.0, h.1, u.spellable h.2);
}

-- ---- lists and legs

record StayWithin (ds es : ExprTrees) : Type 0 where
  pub binds : (s : ℕ) → times (bound_in ds) s ≤ times (bound_in es) s
  pub names : (s : ℕ) → AreFree ds s → AreFree es s
  pub no_more_loops : loops_in ds ≤ loops_in es
  pub no_more_legs : legs_in ds ≤ legs_in es
  pub no_more_binders : length (bound_in ds) ≤ length (bound_in es)
  pub some : HasExprs es → HasExprs ds
  pub well_made : AreWellMade es → AreWellMade ds
  pub spellable : AreSpellable es → AreSpellable ds

all_stay : (ds es : ExprTrees) → AllRelate StaysWithin ds es → StayWithin ds es
all_stay no_exprs no_exprs r = record {
  binds = λ s. omega arith;
  names = λ s h. h;
  no_more_loops = omega arith;
  no_more_legs = omega arith;
  no_more_binders = omega arith;
  some = λ h. h;
  well_made = λ h. h;
  spellable = λ h. h;
}
all_stay no_exprs (more_exprs e es) r = absurd r
all_stay (more_exprs d ds) no_exprs r = absurd r
all_stay (more_exprs d ds) (more_exprs e es) r =
    let u = all_stay ds es r.1 in
    record {
      binds = λ s. append_times (bound d) (bound_in ds) (bound e) (bound_in es) s (r.0.binds s) (u.binds s);
      names = λ s. either (r.0.names s) (u.names s);
      no_more_loops = omega (arith, r.0.no_more_loops, u.no_more_loops);
      no_more_legs = omega (arith, r.0.no_more_legs, u.no_more_legs);
      no_more_binders = append_lengths (bound d) (bound_in ds) (bound e) (bound_in es) r.0.no_more_binders u.no_more_binders;
      some = λ h. tt;
      well_made = λ h. (r.0.well_made h.0, u.well_made h.1);
      spellable = λ h. (r.0.spellable h.0, u.spellable h.1);
    }

many_stays : (a : At) (o : Many) (ds es : ExprTrees) → AllRelate StaysWithin ds es → StaysWithin (many a o ds) (many a o es)
many_stays a o ds es r =
    let u = all_stay ds es r in
    record {
      binds = u.binds;
      names = u.names;
      no_more_loops = u.no_more_loops;
      no_more_legs = u.no_more_legs;
      no_more_binders = u.no_more_binders;
      well_made = λ h. (u.some h.0, u.well_made h.1);
      spellable = u.spellable;
    }

record LegStays (k l : LegTree) : Type 0 where
  pub binds : (s : ℕ) → times (bound_in_leg k) s ≤ times (bound_in_leg l) s
  pub names : (s : ℕ) → LegIsFree k s → LegIsFree l s
  pub no_more_loops : loops_in_leg k ≤ loops_in_leg l
  pub no_more_legs : legs_within k ≤ legs_within l
  pub no_more_binders : length (bound_in_leg k) ≤ length (bound_in_leg l)
  pub well_made : LegIsWellMade l → LegIsWellMade k
  pub spellable : LegIsSpellable l → LegIsSpellable k

leg_stays : (k l : LegTree) → LegRelates StaysWithin k l → LegStays k l
leg_stays (whole d) (whole e) r = record {
  binds = r.binds;
  names = r.names;
  no_more_loops = r.no_more_loops;
  no_more_legs = r.no_more_legs;
  no_more_binders = r.no_more_binders;
  well_made = r.well_made;
  spellable = r.spellable;
}
leg_stays (whole d) (strided e f i j) r = absurd r
leg_stays (strided d a b c) (whole e) r = absurd r
leg_stays (strided d a b c) (strided e f i j) r = record {
  binds = λ s.
      append_times (bound d) (bound a ++ (bound b ++ bound c)) (bound e) (bound f ++ (bound i ++ bound j)) s (r.0.binds s)
      (append_times (bound a) (bound b ++ bound c) (bound f) (bound i ++ bound j) s (r.1.binds s) (append_times (bound b) (bound c) (bound i) (bound j) s (r.2.binds s) (r.3.binds s)));
  names = λ s. either (r.0.names s) (either (r.1.names s) (either (r.2.names s) (r.3.names s)));
  no_more_loops = omega (arith, r.0.no_more_loops, r.1.no_more_loops, r.2.no_more_loops, r.3.no_more_loops);
  no_more_legs = omega (arith, r.0.no_more_legs, r.1.no_more_legs, r.2.no_more_legs, r.3.no_more_legs);
  no_more_binders =
      append_lengths (bound d) (bound a ++ (bound b ++ bound c)) (bound e) (bound f ++ (bound i ++ bound j)) r.0.no_more_binders
      (append_lengths (bound a) (bound b ++ bound c) (bound f) (bound i ++ bound j) r.1.no_more_binders (append_lengths (bound b) (bound c) (bound i) (bound j) r.2.no_more_binders r.3.no_more_binders));
  well_made = λ h. (r.0.well_made h.0, r.1.well_made h.1, r.2.well_made h.2, r.3.well_made h.3);
  spellable = λ h. (r.0.spellable h.0, r.1.spellable h.1, r.2.spellable h.2, r.3.spellable h.3);
}

record LegsStay (ks ls : LegTrees) : Type 0 where
  pub binds : (s : ℕ) → times (bound_in_legs ks) s ≤ times (bound_in_legs ls) s
  pub names : (s : ℕ) → LegsAreFree ks s → LegsAreFree ls s
  pub no_more_loops : loops_in_legs ks ≤ loops_in_legs ls
  pub no_more_legs : legs_among ks ≤ legs_among ls
  pub no_more_binders : length (bound_in_legs ks) ≤ length (bound_in_legs ls)
  pub some : HasLegs ls → HasLegs ks
  pub well_made : LegsAreWellMade ls → LegsAreWellMade ks
  pub spellable : LegsAreSpellable ls → LegsAreSpellable ks

legs_stay : (ks ls : LegTrees) → LegsRelate StaysWithin ks ls → LegsStay ks ls
legs_stay no_legs no_legs r = record {
  binds = λ s. omega arith;
  names = λ s h. h;
  no_more_loops = omega arith;
  no_more_legs = omega arith;
  no_more_binders = omega arith;
  some = λ h. h;
  well_made = λ h. h;
  spellable = λ h. h;
}
legs_stay no_legs (more_legs l ls) r = absurd r
legs_stay (more_legs k ks) no_legs r = absurd r
legs_stay (more_legs k ks) (more_legs l ls) r =
    let q = leg_stays k l r.0 in let u = legs_stay ks ls r.1 in
    record {
      binds = λ s. append_times (bound_in_leg k) (bound_in_legs ks) (bound_in_leg l) (bound_in_legs ls) s (q.binds s) (u.binds s);
      names = λ s. either (q.names s) (u.names s);
      no_more_loops = omega (arith, q.no_more_loops, u.no_more_loops);
      no_more_legs = omega (arith, q.no_more_legs, u.no_more_legs);
      no_more_binders = append_lengths (bound_in_leg k) (bound_in_legs ks) (bound_in_leg l) (bound_in_legs ls) q.no_more_binders u.no_more_binders;
      some = λ h. tt;
      well_made = λ h. (q.well_made h.0, u.well_made h.1);
      spellable = λ h. (q.spellable h.0, u.spellable h.1);
    }

loop_stays : (a : At) (ks ls : LegTrees) (c e : ExprTree) (b n x : Binder) (d f : ExprTree) → LegsRelate StaysWithin ks ls → StaysWithin c e → StaysWithin d f → StaysWithin (loop a ks c b n x d) (loop a ls e b n x f)
loop_stays a ks ls c e b n x d f l r u =
    let q = legs_stay ks ls l in
    record {
      binds = λ s.
          append_times (bound_in_legs ks) (bound c ++ (b.sym.0 ∷ n.sym.0 ∷ x.sym.0 ∷ bound d)) (bound_in_legs ls) (bound e ++ (b.sym.0 ∷ n.sym.0 ∷ x.sym.0 ∷ bound f)) s (q.binds s)
          (append_times (bound c) (b.sym.0 ∷ n.sym.0 ∷ x.sym.0 ∷ bound d) (bound e) (b.sym.0 ∷ n.sym.0 ∷ x.sym.0 ∷ bound f) s (r.binds s)
          (loop_times b.sym.0 n.sym.0 x.sym.0 (bound d) (bound f) s (u.binds s)));
      names = λ s. either (q.names s) (either (r.names s) (λ h. (u.names s h.0, h.1, h.2, h.3)));
      no_more_loops = omega (arith, q.no_more_loops, r.no_more_loops, u.no_more_loops);
      no_more_legs = omega (arith, q.no_more_legs, r.no_more_legs, u.no_more_legs);
      no_more_binders =
          append_lengths (bound_in_legs ks) (bound c ++ (b.sym.0 ∷ n.sym.0 ∷ x.sym.0 ∷ bound d)) (bound_in_legs ls) (bound e ++ (b.sym.0 ∷ n.sym.0 ∷ x.sym.0 ∷ bound f)) q.no_more_binders
          (append_lengths (bound c) (b.sym.0 ∷ n.sym.0 ∷ x.sym.0 ∷ bound d) (bound e) (b.sym.0 ∷ n.sym.0 ∷ x.sym.0 ∷ bound f) r.no_more_binders
          (loop_lengths b.sym.0 n.sym.0 x.sym.0 (bound d) (bound f) u.no_more_binders));
      well_made = λ h. (q.some h.0, q.well_made h.1, r.well_made h.2, u.well_made h.3);
      spellable = λ h. (q.spellable h.0, r.spellable h.1, h.2, h.3, h.4, u.spellable h.5);
    }

pub stays_through : IsCongruence StaysWithin
stays_through = record {
  at_leaf = λ a l. stays_itself (leaf a l);
  at_one = one_stays;
  at_two = two_stays;
  at_three = three_stays;
  at_many = many_stays;
  at_let = let_stays;
  at_loop = loop_stays;
  at_iterate = iterate_stays;
}
