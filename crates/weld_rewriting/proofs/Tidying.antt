-- Parts of tidy expressions, what stays within them, and the bodies of programs are tidy.
use Rattle.std.proofs.Common.{◌≡◌, ◌≢◌, ℕ, ◌≤◌, List, ◌∷◌, ◌++◌, sym, subst, inl, inr, ◌⊎◌, arith, length-append}
use Rattle.std.proofs.lemmas.Bool.{cases_eq}
use Rattle.weld_tree.specs.ExprTree.{ExprTree, leaf, one, two, three, many, let_in, loop, iterate, ExprTrees, no_exprs, more_exprs, LegTree, whole, strided, LegTrees, no_legs, more_legs}
use Rattle.weld_tree.specs.Program.{ProgramTree, IsProgram, bound, bound_in, bound_in_leg, bound_in_legs, syms_of}
use Rattle.weld_meaning.specs.Names.{IsFree, AreFree, LegIsFree, LegsAreFree}
use Rattle.weld_rewriting.specs.Within.{times, StaysWithin}
use Rattle.weld_rewriting.specs.Tidy.{IsTidy}
use Rattle.weld_rewriting.specs.Shape.{EachHas, LegHasEach, LegsHaveEach, EachPart}
use Rattle.weld_rewriting.proofs.Scopes.{scoped, in_scope}
use Rattle.weld_rewriting.proofs.Counts.{times-append, times_here, one_of_times, times_one_of, distinct_times, times_distinct}

-- ---- by counts

-- each number is bound at most once, and not at all where it is free
pub record IsClean (bs : List ℕ) (free : ℕ → Type 0) : Type 0 where
  pub once : (s : ℕ) → times bs s ≤ 1
  pub unbound : (s : ℕ) → free s → times bs s ≤ 0

none_or_one : (m : ℕ) → (1 ≤ m) ⊎ (m ≤ 0)
none_or_one m = grind arith

pub clean_of : (e : ExprTree) → IsTidy e → IsClean (bound e) (IsFree e)
clean_of e h = record {
  once = distinct_times (bound e) h.distinct;
  unbound = λ s f. by s f (none_or_one (times (bound e) s));
}
  where
    by : (s : ℕ) → IsFree e s → (1 ≤ times (bound e) s) ⊎ (times (bound e) s ≤ 0) → times (bound e) s ≤ 0
    by s f (inl k) = absurd (h.apart s (times_one_of (bound e) s k) f)
    by s f (inr k) = k

pub tidy_of : (e : ExprTree) → IsClean (bound e) (IsFree e) → IsTidy e
tidy_of e h = record {
  distinct = times_distinct (bound e) h.once;
  apart = λ s k f. absurd (omega (arith, one_of_times (bound e) s k, h.unbound s f));
}

-- a part: it binds some of these, and what is free in it is free in the whole
part_clean : (bs cs : List ℕ) (free inner : ℕ → Type 0) → IsClean bs free → ((s : ℕ) → times cs s ≤ times bs s) → ((s : ℕ) → inner s → free s) → IsClean cs inner
part_clean bs cs free inner h k f = record {
  once = λ s. omega (arith, h.once s, k s);
  unbound = λ s x. omega (arith, h.unbound s (f s x), k s);
}

-- a part behind a binder: its own name is bound there, and so not within
behind_clean : (b : ℕ) (bs cs : List ℕ) (free inner : ℕ → Type 0) → IsClean bs free → ((s : ℕ) → times (b ∷ cs) s ≤ times bs s) → ((s : ℕ) → inner s → s ≢ b → free s) → IsClean cs inner
behind_clean b bs cs free inner h k f = record {
  once = λ s. omega (arith, h.once s, k s, more s);
  unbound = λ s x. by s x (cases_eq s b);
}
  where
    more : (s : ℕ) → times cs s ≤ times (b ∷ cs) s
    more s = omega arith

    by : (s : ℕ) → inner s → (s ≡ b) ⊎ (s ≢ b) → times cs s ≤ 0
    by s x (inl e) = subst (λ u. times cs u ≤ 0) (sym e) (omega (arith, h.once b, k b, times_here b cs))
    by s x (inr ne) = omega (arith, h.unbound s (f s x ne), k s, more s)

-- ---- parts

first_times : (xs ys : List ℕ) (s : ℕ) → times xs s ≤ times (xs ++ ys) s
first_times xs ys s = omega (arith, times-append xs ys s)

second_times : (xs ys : List ℕ) (s : ℕ) → times ys s ≤ times (xs ++ ys) s
second_times xs ys s = omega (arith, times-append xs ys s)

later_times : (xs ys zs : List ℕ) (s : ℕ) → times zs s ≤ times (xs ++ (ys ++ zs)) s
later_times xs ys zs s = omega (arith, second_times xs (ys ++ zs) s, second_times ys zs s)

middle_times : (xs ys zs : List ℕ) (s : ℕ) → times ys s ≤ times (xs ++ (ys ++ zs)) s
middle_times xs ys zs s = omega (arith, second_times xs (ys ++ zs) s, first_times ys zs s)

all_clean : (es : ExprTrees) → IsClean (bound_in es) (AreFree es) → EachHas IsTidy es
all_clean no_exprs h = tt
all_clean (more_exprs e es) h = (
  tidy_of e (part_clean _ (bound e) (AreFree (more_exprs e es)) (IsFree e) h (first_times (bound e) (bound_in es)) (λ s x. inl x)),
  all_clean es (part_clean _ (bound_in es) (AreFree (more_exprs e es)) (AreFree es) h (second_times (bound e) (bound_in es)) (λ s x. inr x)),
)

leg_clean : (l : LegTree) → IsClean (bound_in_leg l) (LegIsFree l) → LegHasEach IsTidy l
leg_clean (whole e) h = tidy_of e (part_clean _ (bound e) (LegIsFree (whole e)) (IsFree e) h (λ s. omega arith) (λ s x. x))
leg_clean (strided e f i j) h =
    let free = LegIsFree (strided e f i j) in (
      tidy_of e (part_clean _ (bound e) free (IsFree e) h (first_times (bound e) (bound f ++ (bound i ++ bound j))) (λ s x. inl x)),
      tidy_of f (part_clean _ (bound f) free (IsFree f) h (middle_times (bound e) (bound f) (bound i ++ bound j)) (λ s x. inr (inl x))),
      tidy_of i (part_clean _ (bound i) free (IsFree i) h (λ s. omega (arith, later_times (bound e) (bound f) (bound i ++ bound j) s, first_times (bound i) (bound j) s)) (λ s x. inr (inr (inl x)))),
      tidy_of j (part_clean _ (bound j) free (IsFree j) h (λ s. omega (arith, later_times (bound e) (bound f) (bound i ++ bound j) s, second_times (bound i) (bound j) s)) (λ s x. inr (inr (inr x)))),
    )

legs_clean : (ls : LegTrees) → IsClean (bound_in_legs ls) (LegsAreFree ls) → LegsHaveEach IsTidy ls
legs_clean no_legs h = tt
legs_clean (more_legs l ls) h = (
  leg_clean l (part_clean _ (bound_in_leg l) (LegsAreFree (more_legs l ls)) (LegIsFree l) h (first_times (bound_in_leg l) (bound_in_legs ls)) (λ s x. inl x)),
  legs_clean ls (part_clean _ (bound_in_legs ls) (LegsAreFree (more_legs l ls)) (LegsAreFree ls) h (second_times (bound_in_leg l) (bound_in_legs ls)) (λ s x. inr x)),
)

-- the body of a loop stands behind three binders
body_clean : (ls : LegTrees) (e : ExprTree) (b n x : ℕ) (f : ExprTree) → IsClean (bound_in_legs ls ++ (bound e ++ (b ∷ n ∷ x ∷ bound f))) (λ s. LegsAreFree ls s ⊎ (IsFree e s ⊎ (IsFree f s × (s ≢ x) × (s ≢ n) × (s ≢ b)))) → IsClean (bound f) (IsFree f)
body_clean ls e b n x f h =
    let outer = behind_clean b _ (n ∷ x ∷ bound f) _ (λ s. IsFree f s × (s ≢ x) × (s ≢ n)) h (later_times (bound_in_legs ls) (bound e) (b ∷ n ∷ x ∷ bound f)) (λ s y ne. inr (inr (y.0, y.1, y.2, ne))) in
    let middle = behind_clean n _ (x ∷ bound f) _ (λ s. IsFree f s × (s ≢ x)) outer (λ s. omega arith) (λ s y ne. (y.0, y.1, ne)) in
    behind_clean x _ (bound f) _ (IsFree f) middle (λ s. omega arith) (λ s y ne. (y, ne))

pub parts_tidy : (e : ExprTree) → IsTidy e → EachPart IsTidy e
parts_tidy (leaf a l) h = tt
parts_tidy (one a o e) h = tidy_of e (part_clean _ (bound e) (IsFree (one a o e)) (IsFree e) (clean_of (one a o e) h) (λ s. omega arith) (λ s x. x))
parts_tidy (two a o e f) h =
    let k = clean_of (two a o e f) h in (
      tidy_of e (part_clean _ (bound e) (IsFree (two a o e f)) (IsFree e) k (first_times (bound e) (bound f)) (λ s x. inl x)),
      tidy_of f (part_clean _ (bound f) (IsFree (two a o e f)) (IsFree f) k (second_times (bound e) (bound f)) (λ s x. inr x)),
    )
parts_tidy (three a o e f g) h =
    let k = clean_of (three a o e f g) h in (
      tidy_of e (part_clean _ (bound e) (IsFree (three a o e f g)) (IsFree e) k (first_times (bound e) (bound f ++ bound g)) (λ s x. inl x)),
      tidy_of f (part_clean _ (bound f) (IsFree (three a o e f g)) (IsFree f) k (middle_times (bound e) (bound f) (bound g)) (λ s x. inr (inl x))),
      tidy_of g (part_clean _ (bound g) (IsFree (three a o e f g)) (IsFree g) k (later_times (bound e) (bound f) (bound g)) (λ s x. inr (inr x))),
    )
parts_tidy (many a o es) h = let k = clean_of (many a o es) h in all_clean es (record { once = k.once; unbound = k.unbound })
parts_tidy (let_in a b e f) h =
    let k = clean_of (let_in a b e f) h in (
      tidy_of e (part_clean _ (bound e) (IsFree (let_in a b e f)) (IsFree e) k (λ s. omega (arith, first_times (bound e) (bound f) s)) (λ s x. inl x)),
      tidy_of f (behind_clean b.sym.0 _ (bound f) (IsFree (let_in a b e f)) (IsFree f) k (λ s. omega (arith, second_times (bound e) (bound f) s)) (λ s x ne. inr (x, ne))),
    )
parts_tidy (loop a ls e b n x f) h =
    let k = clean_of (loop a ls e b n x f) h in (
      legs_clean ls (part_clean _ (bound_in_legs ls) (IsFree (loop a ls e b n x f)) (LegsAreFree ls) k (first_times (bound_in_legs ls) (bound e ++ (b.sym.0 ∷ n.sym.0 ∷ x.sym.0 ∷ bound f))) (λ s y. inl y)),
      tidy_of e (part_clean _ (bound e) (IsFree (loop a ls e b n x f)) (IsFree e) k (middle_times (bound_in_legs ls) (bound e) (b.sym.0 ∷ n.sym.0 ∷ x.sym.0 ∷ bound f)) (λ s y. inr (inl y))),
      tidy_of f (body_clean ls e b.sym.0 n.sym.0 x.sym.0 f (record { once = k.once; unbound = k.unbound })),
    )
parts_tidy (iterate a e b f) h =
    let k = clean_of (iterate a e b f) h in (
      tidy_of e (part_clean _ (bound e) (IsFree (iterate a e b f)) (IsFree e) k (first_times (bound e) (b.sym.0 ∷ bound f)) (λ s x. inl x)),
      tidy_of f (behind_clean b.sym.0 _ (bound f) (IsFree (iterate a e b f)) (IsFree f) k (second_times (bound e) (b.sym.0 ∷ bound f)) (λ s x ne. inr (x, ne))),
    )

-- ---- what stays within

pub within_tidy : (d e : ExprTree) → StaysWithin d e → IsTidy e → IsTidy d
within_tidy d e r h = tidy_of d (part_clean (bound e) (bound d) (IsFree e) (IsFree d) (clean_of e h) r.binds r.names)

-- ---- programs

pub program_tidy : (p : ProgramTree) → IsProgram p.params p.body → IsTidy p.body
program_tidy p h = tidy_of p.body (record {
  once = λ s. omega (arith, distinct_times _ h.distinct s, times-append (syms_of p.params) (bound p.body) s);
  unbound = λ s f. omega (arith, distinct_times _ h.distinct s, times-append (syms_of p.params) (bound p.body) s, one_of_times (syms_of p.params) s (scoped p.body (syms_of p.params) s h.scoped f));
})

-- a program with a body that stays within its own is one
pub program_within : (q p : ProgramTree) → q.params ≡ p.params → StaysWithin q.body p.body → IsProgram p.params p.body → IsProgram q.params q.body
program_within q p e r h = subst (λ bs. IsProgram bs q.body) (sym e) (record {
  distinct = times_distinct _ (λ s. omega (arith, distinct_times _ h.distinct s, times-append (syms_of p.params) (bound p.body) s, times-append (syms_of p.params) (bound q.body) s, r.binds s));
  few = omega (arith, h.few, length-append (syms_of p.params) (bound p.body), length-append (syms_of p.params) (bound q.body), r.no_more_binders);
  noted = h.noted;
  scoped = in_scope q.body (syms_of p.params) (λ s f. scoped p.body (syms_of p.params) s h.scoped (r.names s f));
  well_made = r.well_made h.well_made;
})
