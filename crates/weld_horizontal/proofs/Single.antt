-- Legs that stand once: the answer is lighter, and may take the loop's place.
use Rattle.std.proofs.Common.{◌≡◌, ℕ, zero, suc, ◌<◌, ◌≤◌, ◌^◌, if◌then◌else◌, Bool, true, false, ◌&&◌, Option, Some, None, is_some, option_map, refl, ap, arith}
use borrow.Author.Tests.{ltb-true}
use Rattle.weld_tree.specs.declared.binder.Binder.{Binder}
use Rattle.weld_tree.specs.ExprTree.{At, ExprTree, leaf, one, two, three, many, let_in, loop, iterate, LegTrees, no_legs, more_legs}
use Rattle.weld_rewriting.specs.Sweep.{RootRule, swept, swept_times}
use Rattle.weld_rewriting.specs.Tidy.{IsTidy}
use Rattle.weld_rewriting.specs.Within.{StaysWithin}
use Rattle.weld_rewriting.specs.Rewriting.{Rewrites}
use Rattle.weld_rewriting.specs.Weight.{weight}
use Rattle.weld_rewriting.specs.Rules.{IsSound}
use Rattle.weld_horizontal.specs.Picked.{is_pick, picked}
use Rattle.weld_horizontal.specs.Twice.{Places, leg_name, place_in, place_of, is_that, or_behind, behind_one, twice, items, count, without_leg, rebuilt, once, IsTwice}
use Rattle.weld_horizontal.specs.Doubles.{picks_rule, are_few, is_double, once_by, without_double, single}
use Rattle.weld_horizontal.proofs.Weights.{weight_put, rebuilt_weight, without_weight, without_count, picked_weight, Keeps, swept_keeps}

some_same : {X : Type 0} {x y : X} → Some x ≡ Some y → x ≡ y
some_same h = cc

both : (a b : Bool) → (a && b) ≡ true → (a ≡ true) × (b ≡ true)
both true b h = (refl, h)
both false b h = let wrong : ⊥ = cc in absurd wrong

-- ---- the places are places of legs

pub record InOrder (p : Places) (n : ℕ) : Type 0 where
  pub order : p.first < p.second
  pub within : p.second < n

place_within : (s : ℕ) (ls : LegTrees) (n : ℕ) → place_in s ls ≡ Some n → n < count (items ls)
place_within s no_legs n h = let wrong : ⊥ = cc in absurd wrong
place_within s (more_legs l ls) n h = by (is_that s (leg_name l)) (place_in s ls) (place_within s ls) n h
  where
    by : (b : Bool) (o : Option ℕ) → ((k : ℕ) → o ≡ Some k → k < count (items ls)) → (n : ℕ) → (if b then Some 0 else option_map suc o) ≡ Some n → n < suc (count (items ls))
    by true o below n h = let e : 0 ≡ n = cc in omega arith
    by false None below n h = let wrong : ⊥ = cc in absurd wrong
    by false (Some k) below n h = let e : suc k ≡ n = cc in omega (arith, below k refl)

leg_within : (o : Option ℕ) (ls : LegTrees) (n : ℕ) → place_of o ls ≡ Some n → n < count (items ls)
leg_within None ls n h = let wrong : ⊥ = cc in absurd wrong
leg_within (Some s) ls n h = place_within s ls n h

pub in_order : (ls : LegTrees) (p : Places) → twice ls ≡ Some p → InOrder p (count (items ls))
in_order no_legs p h = let wrong : ⊥ = cc in absurd wrong
in_order (more_legs l ls) p h = by (place_of (leg_name l) ls) (twice ls) (leg_within (leg_name l) ls) (in_order ls) p h
  where
    by : (o : Option ℕ) (t : Option Places) → ((n : ℕ) → o ≡ Some n → n < count (items ls)) → ((q : Places) → t ≡ Some q → InOrder q (count (items ls)))
        → (p : Places) → or_behind o t ≡ Some p → InOrder p (suc (count (items ls)))
    by (Some n) t here there p h =
        let k = here n refl in
        let e : record { first = 0; second = suc n } ≡ p = some_same h in
        let first : 0 ≡ p.first = ap (λ (q : Places). q.first) e in
        let second : suc n ≡ p.second = ap (λ (q : Places). q.second) e in record { order = omega arith; within = omega arith }
    by None None here there p h = let wrong : ⊥ = cc in absurd wrong
    by None (Some q) here there p h =
        let k = there q refl in
        let order = k.order in
        let within = k.within in
        let e : behind_one q ≡ p = some_same h in
        let first : suc q.first ≡ p.first = ap (λ (u : Places). u.first) e in
        let second : suc q.second ≡ p.second = ap (λ (u : Places). u.second) e in record { order = omega arith; within = omega arith }

-- ---- lighter

once_lighter : (a : At) (ls : LegTrees) (e : ExprTree) (b n x : Binder) (f : ExprTree) (p : Places) → p.second < count (items ls) → weight (once a ls e b n x f p) < weight (loop a ls e b n x f)
once_lighter a ls e b n x f p h =
    omega (
      arith,
      without_weight p.second ls h,
      weight_put f x.sym.0 (rebuilt a.place x.sym.0 (items (without_leg p.second ls)) p) (rebuilt_weight a.place x.sym.0 (items (without_leg p.second ls)) p),
    )

loop_lighter : (a : At) (ls : LegTrees) (e : ExprTree) (b n x : Binder) (f : ExprTree) → (is_some (twice ls) && are_few ls) ≡ true → weight (without_double (loop a ls e b n x f)) < weight (loop a ls e b n x f)
loop_lighter a ls e b n x f h = by (twice ls) refl (both (is_some (twice ls)) (are_few ls) h).0
  where
    by : (o : Option Places) → twice ls ≡ o → is_some o ≡ true → weight (once_by a ls e b n x f o) < weight (loop a ls e b n x f)
    by None q k = let wrong : ⊥ = cc in absurd wrong
    by (Some p) q k = once_lighter a ls e b n x f p (in_order ls p q).within

without_lighter : (e : ExprTree) → is_double e ≡ true → weight (without_double e) < weight e
without_lighter (leaf a l) h = let wrong : ⊥ = cc in absurd wrong
without_lighter (one a o e) h = let wrong : ⊥ = cc in absurd wrong
without_lighter (two a o e f) h = let wrong : ⊥ = cc in absurd wrong
without_lighter (three a o c e f) h = let wrong : ⊥ = cc in absurd wrong
without_lighter (many a o es) h = let wrong : ⊥ = cc in absurd wrong
without_lighter (let_in a b e f) h = let wrong : ⊥ = cc in absurd wrong
without_lighter (loop a ls e b n x f) h = loop_lighter a ls e b n x f h
without_lighter (iterate a e b f) h = let wrong : ⊥ = cc in absurd wrong

picks_keep : Keeps picks_rule
picks_keep = record { no_heavier = λ e d q. by e d (is_pick e) refl q }
  where
    by : (e d : ExprTree) (b : Bool) → is_pick e ≡ b → (if b then Some (picked e) else None) ≡ Some d → weight d ≤ weight e
    by e d true h q = let s : picked e ≡ d = some_same q in omega (arith, picked_weight e h, ap weight s)
    by e d false h q = let wrong : ⊥ = cc in absurd wrong

pub picks_no_heavier : (e : ExprTree) → weight (swept picks_rule e) ≤ weight e
picks_no_heavier e = swept_keeps picks_rule picks_keep e

pub lighter : (e : ExprTree) → is_double e ≡ true → weight (single e) < weight e
lighter e h = omega (arith, without_lighter e h, picks_no_heavier (without_double e))

-- ---- sound

few_left : (ls : LegTrees) (n : ℕ) → are_few ls ≡ true → count (items (without_leg n ls)) < 10 ^ 9
few_left ls n h = let few : count (items ls) < 10 ^ 9 = ltb-true (count (items ls)) (10 ^ 9) h in omega (arith, without_count n ls)

-- the law of legs that stand twice
abbrev pub LegsStandOnce : Type 0
LegsStandOnce =
    (a : At) (ls : LegTrees) (e : ExprTree) (b n x : Binder) (f : ExprTree) (p : Places) → IsTwice ls p → IsTidy (loop a ls e b n x f) → Rewrites (once a ls e b n x f p) (loop a ls e b n x f)

loop_rewrites : LegsStandOnce → (a : At) (ls : LegTrees) (e : ExprTree) (b n x : Binder) (f : ExprTree) → IsTidy (loop a ls e b n x f) → (is_some (twice ls) && are_few ls) ≡ true
    → Rewrites (without_double (loop a ls e b n x f)) (loop a ls e b n x f)
loop_rewrites law a ls e b n x f tidy h = by (twice ls) refl (both (is_some (twice ls)) (are_few ls) h).0 (both (is_some (twice ls)) (are_few ls) h).1
  where
    by : (o : Option Places) → twice ls ≡ o → is_some o ≡ true → are_few ls ≡ true → Rewrites (once_by a ls e b n x f o) (loop a ls e b n x f)
    by None q k few = let wrong : ⊥ = cc in absurd wrong
    by (Some p) q k few = law a ls e b n x f p (q, few_left ls p.second few) tidy

pub without_rewrites : LegsStandOnce → (e : ExprTree) → IsTidy e → is_double e ≡ true → Rewrites (without_double e) e
without_rewrites law (leaf a l) tidy h = let wrong : ⊥ = cc in absurd wrong
without_rewrites law (one a o e) tidy h = let wrong : ⊥ = cc in absurd wrong
without_rewrites law (two a o e f) tidy h = let wrong : ⊥ = cc in absurd wrong
without_rewrites law (three a o c e f) tidy h = let wrong : ⊥ = cc in absurd wrong
without_rewrites law (many a o es) tidy h = let wrong : ⊥ = cc in absurd wrong
without_rewrites law (let_in a b e f) tidy h = let wrong : ⊥ = cc in absurd wrong
without_rewrites law (loop a ls e b n x f) tidy h = loop_rewrites law a ls e b n x f tidy h
without_rewrites law (iterate a e b f) tidy h = let wrong : ⊥ = cc in absurd wrong

-- the laws that the whole answer rests on
pub record Laws : Type 0 where
  pub once_law : LegsStandOnce
  pub picks : IsSound picks_rule
  pub rounds : (r : RootRule) (n : ℕ) (e : ExprTree) → IsSound r → IsTidy e → Rewrites (swept_times n r e) e
  pub in_turn : (c d e : ExprTree) → Rewrites c d → Rewrites d e → Rewrites c e
  pub within : (d e : ExprTree) → StaysWithin d e → IsTidy e → IsTidy d

pub single_rewrites : Laws → (e : ExprTree) → IsTidy e → is_double e ≡ true → Rewrites (single e) e
single_rewrites laws e tidy h =
    let first = without_rewrites laws.once_law e tidy h in
    laws.in_turn (single e) (without_double e) e (laws.rounds picks_rule (suc zero) (without_double e) laws.picks (laws.within (without_double e) e first.within tidy)) first
