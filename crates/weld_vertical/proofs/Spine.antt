-- Spines of a builder's name: how they are gone through, and what is counted where a consumer is sunk into them.
use Rattle.std.proofs.Common.{◌≡◌, ◌≢◌, ℕ, zero, suc, ◌+◌, ◌≤◌, ◌==◌, if◌then◌else◌, Bool, true, ◌&&◌, ◌∷◌, ◌++◌, length, refl, ap, sym, subst, ◌∙◌, arith, length-append, eqb-true, eq-eqb, ◌⊎◌, inl, inr}
use Rattle.weld_tree.specs.declared.binder.Binder.{Binder}
use Rattle.weld_tree.specs.declared.known.Known.{Known}
use Rattle.weld_tree.specs.ExprTree.{At, ExprTree, leaf, one, two, three, many, let_in, loop, iterate, int, truth, chars, name, fresh, Two, binary, and, or, look_up, key_exists, merge, Three, if_else, select, slice}
use Rattle.weld_tree.specs.Program.{loops, bound, IsWellMade}
use Rattle.weld_meaning.specs.Names.{IsFree, Binds}
use Rattle.weld_print.specs.Spellable.{IsSpellable, NoteIsSpellable}
use Rattle.weld_rewriting.specs.Within.{times, legs}
use Rattle.weld_rewriting.proofs.Counts.{times-append}
use Rattle.weld_substitution.proofs.Following.{and_true, both_true}
use Rattle.weld_substitution.specs.Uses.{uses, is_use}
use Rattle.weld_substitution.proofs.UsedNames.{used_or_free}
use Rattle.weld_vertical.specs.Sinking.{is_merge, is_if, ends_in_merge, is_spine, merges, sunk}

-- ---- by the lets and the merge

used_here : (s : ℕ) (e : ExprTree) → is_use e s ≡ true → uses e s ≡ 1
used_here s (leaf a (int k x)) h = let nothing : ⊥ = cc in absurd nothing
used_here s (leaf a (truth b)) h = let nothing : ⊥ = cc in absurd nothing
used_here s (leaf a (chars bs)) h = let nothing : ⊥ = cc in absurd nothing
used_here s (leaf a (name t)) h = ap (λ c. if c then 1 else 0) h
used_here s (leaf a (fresh b)) h = let nothing : ⊥ = cc in absurd nothing
used_here s (one a o e) h = let nothing : ⊥ = cc in absurd nothing
used_here s (two a o e f) h = let nothing : ⊥ = cc in absurd nothing
used_here s (three a o e f g) h = let nothing : ⊥ = cc in absurd nothing
used_here s (many a o es) h = let nothing : ⊥ = cc in absurd nothing
used_here s (let_in a b e f) h = let nothing : ⊥ = cc in absurd nothing
used_here s (loop a ls e b n x f) h = let nothing : ⊥ = cc in absurd nothing
used_here s (iterate a e b f) h = let nothing : ⊥ = cc in absurd nothing

used_by : (o : Two) (s : ℕ) (e f : ExprTree) → (is_merge o && is_use e s) ≡ true → (o ≡ merge) × (is_use e s ≡ true)
used_by (binary op) s e f h = let nothing : ⊥ = cc in absurd nothing
used_by and s e f h = let nothing : ⊥ = cc in absurd nothing
used_by or s e f h = let nothing : ⊥ = cc in absurd nothing
used_by look_up s e f h = let nothing : ⊥ = cc in absurd nothing
used_by key_exists s e f h = let nothing : ⊥ = cc in absurd nothing
used_by merge s e f h = (refl, h)

some_use : (s : ℕ) (g : ExprTree) → ends_in_merge s g ≡ true → 1 ≤ uses g s
some_use s (leaf a l) h = let nothing : ⊥ = cc in absurd nothing
some_use s (one a o e) h = let nothing : ⊥ = cc in absurd nothing
some_use s (two a o e f) h = omega (arith, used_here s e (used_by o s e f h).1)
some_use s (three a o e f g) h = let nothing : ⊥ = cc in absurd nothing
some_use s (many a o es) h = let nothing : ⊥ = cc in absurd nothing
some_use s (let_in a b e f) h = omega (arith, some_use s f h)
some_use s (loop a ls e b n x f) h = let nothing : ⊥ = cc in absurd nothing
some_use s (iterate a e b f) h = let nothing : ⊥ = cc in absurd nothing

-- the name, as which it is used
use_is : (s : ℕ) (e : ExprTree) → is_use e s ≡ true → (a : At) × (e ≡ leaf a (name s))
use_is s (leaf a (int k x)) h = let nothing : ⊥ = cc in absurd nothing
use_is s (leaf a (truth b)) h = let nothing : ⊥ = cc in absurd nothing
use_is s (leaf a (chars bs)) h = let nothing : ⊥ = cc in absurd nothing
use_is s (leaf a (name t)) h = (a, ap (λ u. leaf a (name u)) (sym (eqb-true s t h)))
use_is s (leaf a (fresh b)) h = let nothing : ⊥ = cc in absurd nothing
use_is s (one a o e) h = let nothing : ⊥ = cc in absurd nothing
use_is s (two a o e f) h = let nothing : ⊥ = cc in absurd nothing
use_is s (three a o e f g) h = let nothing : ⊥ = cc in absurd nothing
use_is s (many a o es) h = let nothing : ⊥ = cc in absurd nothing
use_is s (let_in a b e f) h = let nothing : ⊥ = cc in absurd nothing
use_is s (loop a ls e b n x f) h = let nothing : ⊥ = cc in absurd nothing
use_is s (iterate a e b f) h = let nothing : ⊥ = cc in absurd nothing

-- what holds of a merge into the name, and of a `let` where it holds of the body, holds of lets that end in a merge and use the
-- name once: the values don't use it
pub ends_by : (s : ℕ) (P : ExprTree → Type 0) → ((a : At) (z : Binder) (v h : ExprTree) → uses v s ≡ 0 → P h → P (let_in a z v h)) → ((a c : At) (v : ExprTree) → uses v s ≡ 0 → P (two a merge (leaf c (name s)) v)) → (g : ExprTree) → ends_in_merge s g ≡ true → uses g s ≡ 1 → P g
ends_by s P f k (leaf a l) e u = let nothing : ⊥ = cc in absurd nothing
ends_by s P f k (one a o d) e u = let nothing : ⊥ = cc in absurd nothing
ends_by s P f k (two a o d v) e u =
    let m = used_by o s d v e in let w = use_is s d m.1 in
    let none : uses v s ≡ 0 = omega (arith, u, used_here s d m.1) in
    subst (λ p. P (two a p d v)) (sym m.0) (subst (λ c. P (two a merge c v)) (sym w.1) (k a w.0 v none))
ends_by s P f k (three a o c d g) e u = let nothing : ⊥ = cc in absurd nothing
ends_by s P f k (many a o es) e u = let nothing : ⊥ = cc in absurd nothing
ends_by s P f k (let_in a z v h) e u =
    let some = some_use s h e in
    let none : uses v s ≡ 0 = omega (arith, u, some) in
    let rest : uses h s ≡ 1 = omega (arith, u, some) in
    f a z v h none (ends_by s P f k h e rest)
ends_by s P f k (loop a ls d b n x g) e u = let nothing : ⊥ = cc in absurd nothing
ends_by s P f k (iterate a d b g) e u = let nothing : ⊥ = cc in absurd nothing

-- ---- by the ends of a spine

if_by : (o : Three) (x : Bool) → (is_if o && x) ≡ true → (o ≡ if_else) × (x ≡ true)
if_by if_else x h = (refl, h)
if_by select x h = let nothing : ⊥ = cc in absurd nothing
if_by slice x h = let nothing : ⊥ = cc in absurd nothing

none_of : (n : ℕ) → (n == 0) ≡ true → n ≡ 0
none_of n h = eqb-true n 0 h

-- what holds of the name and of a merge into it, and of a `let` and an `if` where it holds of their ends, holds of each spine
pub spine_by : (s : ℕ) (P : ExprTree → Type 0) → ((a : At) → P (leaf a (name s))) → ((a : At) (z : Binder) (v h : ExprTree) → uses v s ≡ 0 → P h → P (let_in a z v h)) → ((a : At) (c e f : ExprTree) → uses c s ≡ 0 → P e → P f → P (three a if_else c e f)) → ((a c : At) (v : ExprTree) → uses v s ≡ 0 → P (two a merge (leaf c (name s)) v)) → (g : ExprTree) → is_spine s g ≡ true → P g
spine_by s P j f i k (leaf a l) h = let w = use_is s (leaf a l) h in subst P (sym w.1) (j w.0)
spine_by s P j f i k (one a o d) h = let nothing : ⊥ = cc in absurd nothing
spine_by s P j f i k (two a o d v) h =
    let m = merge_by o (is_use d s && (uses v s == 0)) h in
    let x = and_true (is_use d s) (uses v s == 0) m.1 in
    let w = use_is s d x.0 in
    subst (λ p. P (two a p d v)) (sym m.0) (subst (λ c. P (two a merge c v)) (sym w.1) (k a w.0 v (none_of (uses v s) x.1)))
  where
    merge_by : (o : Two) (x : Bool) → (is_merge o && x) ≡ true → (o ≡ merge) × (x ≡ true)
    merge_by (binary op) x h = let nothing : ⊥ = cc in absurd nothing
    merge_by and x h = let nothing : ⊥ = cc in absurd nothing
    merge_by or x h = let nothing : ⊥ = cc in absurd nothing
    merge_by look_up x h = let nothing : ⊥ = cc in absurd nothing
    merge_by key_exists x h = let nothing : ⊥ = cc in absurd nothing
    merge_by merge x h = (refl, h)
spine_by s P j f i k (three a o c e g) h =
    let m = if_by o ((uses c s == 0) && (is_spine s e && is_spine s g)) h in
    let x = and_true (uses c s == 0) (is_spine s e && is_spine s g) m.1 in
    let y = and_true (is_spine s e) (is_spine s g) x.1 in
    subst (λ p. P (three a p c e g)) (sym m.0) (i a c e g (none_of (uses c s) x.0) (spine_by s P j f i k e y.0) (spine_by s P j f i k g y.1))
spine_by s P j f i k (many a o es) h = let nothing : ⊥ = cc in absurd nothing
spine_by s P j f i k (let_in a z v g) h =
    let x = and_true (uses v s == 0) (is_spine s g) h in
    f a z v g (none_of (uses v s) x.0) (spine_by s P j f i k g x.1)
spine_by s P j f i k (loop a ls d b n x g) h = let nothing : ⊥ = cc in absurd nothing
spine_by s P j f i k (iterate a d b g) h = let nothing : ⊥ = cc in absurd nothing

-- lets that end in a merge are a spine with one
pub spine_of_ends : (s : ℕ) (g : ExprTree) → ends_in_merge s g ≡ true → uses g s ≡ 1 → (is_spine s g ≡ true) × (merges g ≡ 1)
spine_of_ends s =
    ends_by s (λ g. (is_spine s g ≡ true) × (merges g ≡ 1)) (λ a z v h none k. (both_true (uses v s == 0) (is_spine s h) (zero_is (uses v s) none) k.0, k.1))
    (λ a c v none. (both_true (s == s) (uses v s == 0) (eq-eqb s s refl) (zero_is (uses v s) none), refl))
  where
    zero_is : (n : ℕ) → n ≡ 0 → (n == 0) ≡ true
    zero_is n e = eq-eqb n 0 e

-- ---- what is counted

-- what there is of where there are none, or some
abbrev pub share : ℕ → ℕ → ℕ
share zero k = 0
share (suc m) k = k

pub share_sum : (m n k : ℕ) → m + n ≤ 1 → share (m + n) k ≡ share m k + share n k
share_sum zero n k h = let none : 0 + n ≡ n = omega arith in ap (λ j. share j k) none ∙ only (share n k)
  where
    only : (j : ℕ) → j ≡ 0 + j
    only j = omega arith
share_sum (suc m) zero k h = let none : suc m + 0 ≡ suc m = omega arith in ap (λ j. share j k) none ∙ only k
  where
    only : (j : ℕ) → j ≡ j + 0
    only j = omega arith
share_sum (suc m) (suc n) k h = absurd (omega (arith, h))

pub whole_share : (m k : ℕ) → m ≡ 1 → share m k ≡ k
whole_share m k e = ap (λ j. share j k) e

pub record Shared (ty : Known) (c i : ℕ) (n x : Binder) (f g : ExprTree) : Type 0 where
  pub binds : (t : ℕ) → times (bound (sunk ty c i n x f g)) t ≡ times (bound g) t + share (merges g) (times (n.sym.0 ∷ x.sym.0 ∷ bound f) t)
  pub binder_count : length (bound (sunk ty c i n x f g)) ≡ length (bound g) + share (merges g) (2 + length (bound f))
  pub loop_count : loops (sunk ty c i n x f g) ≡ loops g + share (merges g) (loops f)
  pub leg_count : legs (sunk ty c i n x f g) ≡ legs g + share (merges g) (legs f)
  pub made : IsWellMade g → IsWellMade f → IsWellMade (sunk ty c i n x f g)
  pub spellable : NoteIsSpellable n.note → NoteIsSpellable x.note → IsSpellable g → IsSpellable f → IsSpellable (sunk ty c i n x f g)

pub record Counted (ty : Known) (c i : ℕ) (n x : Binder) (f g : ExprTree) : Type 0 where
  pub binds : (t : ℕ) → times (bound (sunk ty c i n x f g)) t ≡ times (bound g) t + times (n.sym.0 ∷ x.sym.0 ∷ bound f) t
  pub binder_count : length (bound (sunk ty c i n x f g)) ≡ 2 + length (bound g) + length (bound f)
  pub loop_count : loops (sunk ty c i n x f g) ≡ loops g + loops f
  pub leg_count : legs (sunk ty c i n x f g) ≡ legs g + legs f
  pub made : IsWellMade g → IsWellMade f → IsWellMade (sunk ty c i n x f g)
  pub spellable : NoteIsSpellable n.note → NoteIsSpellable x.note → IsSpellable g → IsSpellable f → IsSpellable (sunk ty c i n x f g)

module _ (ty : Known) (s c i : ℕ) (n x : Binder) (f : ExprTree) where
  abbrev sink : ExprTree → ExprTree
  sink g = sunk ty c i n x f g

  abbrev Shares : ExprTree → Type 0
  Shares g = merges g ≤ 1 → Shared ty c i n x f g

  name_counted : (a : At) → Shares (leaf a (name s))
  name_counted a m = record {
    binds = λ t. omega arith;
    binder_count = omega arith;
    loop_count = omega arith;
    leg_count = omega arith;
    made = λ p q. tt;
    spellable = λ j k p q. tt;
  }

  let_counted : (a : At) (z : Binder) (v h : ExprTree) → uses v s ≡ 0 → Shares h → Shares (let_in a z v h)
  let_counted a z v h none k m =
      let w = k m in
      record {
        binds = λ t. omega (arith, w.binds t, times-append (bound v) (bound (sink h)) t, times-append (bound v) (bound h) t);
        binder_count = omega (arith, w.binder_count, length-append (bound v) (bound (sink h)), length-append (bound v) (bound h));
        loop_count = omega (arith, w.loop_count);
        leg_count = omega (arith, w.leg_count);
        made = λ p q. (p.0, w.made p.1 q);
        spellable = λ j k p q. (p.0, p.1, w.spellable j k p.2 q);
      }

  if_counted : (a : At) (d e g : ExprTree) → uses d s ≡ 0 → Shares e → Shares g → Shares (three a if_else d e g)
  if_counted a d e g none k l m =
      let u = k (omega (arith, m)) in
      let w = l (omega (arith, m)) in
      record {
        binds = λ t.
            omega (
              arith,
              u.binds t,
              w.binds t,
              share_sum (merges e) (merges g) (times (n.sym.0 ∷ x.sym.0 ∷ bound f) t) m,
              times-append (bound d) (bound (sink e) ++ bound (sink g)) t,
              times-append (bound (sink e)) (bound (sink g)) t,
              times-append (bound d) (bound e ++ bound g) t,
              times-append (bound e) (bound g) t,
            );
        binder_count =
            omega (
              arith,
              u.binder_count,
              w.binder_count,
              share_sum (merges e) (merges g) (2 + length (bound f)) m,
              length-append (bound d) (bound (sink e) ++ bound (sink g)),
              length-append (bound (sink e)) (bound (sink g)),
              length-append (bound d) (bound e ++ bound g),
              length-append (bound e) (bound g),
            );
        loop_count = omega (arith, u.loop_count, w.loop_count, share_sum (merges e) (merges g) (loops f) m);
        leg_count = omega (arith, u.leg_count, w.leg_count, share_sum (merges e) (merges g) (legs f) m);
        made = λ p q. (p.0, u.made p.1 q, w.made p.2 q);
        spellable = λ j k p q. (p.0, u.spellable j k p.1 q, w.spellable j k p.2 q);
      }

  merge_counted : (a c : At) (v : ExprTree) → uses v s ≡ 0 → Shares (two a merge (leaf c (name s)) v)
  merge_counted a d v none m = record {
    binds = λ t. omega (arith, times-append (bound v) (bound f) t);
    binder_count = omega (arith, length-append (bound v) (bound f));
    loop_count = omega arith;
    leg_count = omega arith;
    made = λ p q. (tt, (p.1, q));
    spellable = λ j k p q. (j, tt, (k, p.1, q));
  }

  pub sunk_counted : (g : ExprTree) → is_spine s g ≡ true → merges g ≡ 1 → Counted ty c i n x f g
  sunk_counted g h m =
      let w = spine_by s Shares name_counted let_counted if_counted merge_counted g h (omega (arith, m)) in
      record {
        binds = λ t. omega (arith, w.binds t, whole_share (merges g) (times (n.sym.0 ∷ x.sym.0 ∷ bound f) t) m);
        binder_count = omega (arith, w.binder_count, whole_share (merges g) (2 + length (bound f)) m);
        loop_count = omega (arith, w.loop_count, whole_share (merges g) (loops f) m);
        leg_count = omega (arith, w.leg_count, whole_share (merges g) (legs f) m);
        made = w.made;
        spellable = w.spellable;
      }

-- ---- names

-- the values don't name the builder
pub unnamed : (s : ℕ) (v : ExprTree) → Binds (λ z. s ≢ z) v → uses v s ≡ 0 → IsFree v s → ⊥
unnamed s v c none f = let h = (used_or_free v s c).1 f in omega (arith, h, none)

-- what is free in the body with the consumer in it is free in the producer's and isn't its builder, is its row number, is the
-- consumer's builder, or is free in the consumer's body and is neither its row nor its row number
abbrev pub Named : ℕ → ℕ → ℕ → ℕ → ℕ → ExprTree → ExprTree → ℕ → Type 0
Named d c i n x f g s = (IsFree g s × (s ≢ d)) ⊎ ((s ≡ i) ⊎ ((s ≡ c) ⊎ (IsFree f s × (s ≢ x) × (s ≢ n))))

module _ (ty : Known) (d b i : ℕ) (n x : Binder) (f : ExprTree) where
  abbrev Apart : ExprTree → Type 0
  Apart g = Binds (λ z. d ≢ z) g

  abbrev AllNamed : ExprTree → Type 0
  AllNamed g = Apart g → (s : ℕ) → IsFree (sunk ty b i n x f g) s → Named d b i n.sym.0 x.sym.0 f g s

  not_builder : (v : ExprTree) → Binds (λ z. d ≢ z) v → uses v d ≡ 0 → (s : ℕ) → IsFree v s → s ≢ d
  not_builder v c none s k e = unnamed d v c none (subst (IsFree v) e k)

  name_named : (a : At) → AllNamed (leaf a (name d))
  name_named a c s k = inr (inr (inl k))

  let_named : (a : At) (z : Binder) (v h : ExprTree) → uses v d ≡ 0 → AllNamed h → AllNamed (let_in a z v h)
  let_named a z v h none all c s (inl k) = inl (inl k, not_builder v c.1 none s k)
  let_named a z v h none all c s (inr k) = by (all c.2 s k.0)
    where
      by : Named d b i n.sym.0 x.sym.0 f h s → Named d b i n.sym.0 x.sym.0 f (let_in a z v h) s
      by (inl j) = inl (inr (j.0, k.1), j.1)
      by (inr j) = inr j

  if_named : (a : At) (t e g : ExprTree) → uses t d ≡ 0 → AllNamed e → AllNamed g → AllNamed (three a if_else t e g)
  if_named a t e g none all more c s (inl k) = inl (inl k, not_builder t c.0 none s k)
  if_named a t e g none all more c s (inr (inl k)) = by (all c.1 s k)
    where
      by : Named d b i n.sym.0 x.sym.0 f e s → Named d b i n.sym.0 x.sym.0 f (three a if_else t e g) s
      by (inl j) = inl (inr (inl j.0), j.1)
      by (inr j) = inr j
  if_named a t e g none all more c s (inr (inr k)) = by (more c.2 s k)
    where
      by : Named d b i n.sym.0 x.sym.0 f g s → Named d b i n.sym.0 x.sym.0 f (three a if_else t e g) s
      by (inl j) = inl (inr (inr j.0), j.1)
      by (inr j) = inr j

  merge_named : (a c : At) (v : ExprTree) → uses v d ≡ 0 → AllNamed (two a merge (leaf c (name d)) v)
  merge_named a c v none cl s (inl k) = inr (inl k)
  merge_named a c v none cl s (inr k) = by k.0
    where
      by : IsFree v s ⊎ (IsFree f s × (s ≢ x.sym.0)) → Named d b i n.sym.0 x.sym.0 f (two a merge (leaf c (name d)) v) s
      by (inl j) = inl (inr j, not_builder v cl.1 none s j)
      by (inr j) = inr (inr (inr (j.0, j.1, k.1)))

  pub sunk_named : (g : ExprTree) → is_spine d g ≡ true → AllNamed g
  sunk_named = spine_by d AllNamed name_named let_named if_named merge_named
