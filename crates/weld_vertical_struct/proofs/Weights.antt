-- Taking pairs apart makes nothing heavier; and where there is none, nothing changes.
use Rattle.std.proofs.Common.{◌≡◌, ℕ, zero, suc, ◌+◌, ◌≤◌, ◌<◌, ◌==◌, if◌then◌else◌, Bool, true, false, not, ◌&&◌, ◌||◌, Option, Some, None, is_some, refl, ap, ◌∙◌, arith}
use Rattle.weld_tree.specs.declared.binder.Binder.{Binder}
use Rattle.weld_tree.specs.ExprTree.{At, ExprTree, leaf, one, two, three, many, let_in, loop, iterate, ExprTrees, no_exprs, more_exprs, LegTree, whole, strided, LegTrees, no_legs, more_legs, One, make_vec, make_struct}
use Rattle.weld_rewriting.specs.Weight.{weight, weight_in, weight_in_leg, weight_in_legs}
use Rattle.weld_rewriting.specs.Sweep.{or_same, settled}
use Rattle.weld_substitution.specs.Redex.{has_loop}
use Rattle.weld_substitution.specs.Uses.{uses}
use Rattle.weld_inline.specs.Inlining.{lets_rule}
use Rattle.weld_vertical_struct.specs.Parting.{field_taken, parted_one, parted, all_parted, leg_parted, legs_parted, is_apart, pair_of, both_bound, part_bound, pair_bound, answer_at, pairs_rule, within_body, opened, is_pair, has_pair}
use Rattle.weld_vertical_struct.specs.Held.{depth, opened_loop, opened_result, opened_leg, opened_legs, opened_producer, loop_has_pair, result_has_pair, leg_has_pair, legs_have_pair, producer_has_pair}
use Rattle.weld_vertical_struct.proofs.Parts.{field_by}

module _ (s x i : ℕ) where
  one_weighs : (a : At) (o : One) (e d : ExprTree) → weight d ≡ weight e → weight (parted_one s x i a (field_taken s o e) (one a o d)) ≡ weight e
  one_weighs a o e d h = by (field_taken s o e) refl
    where
      by : (n : Option ℕ) → field_taken s o e ≡ n → weight (parted_one s x i a n (one a o d)) ≡ weight e
      by (Some n) l = field_by s (λ o e n. 0 ≡ weight e) (λ b n. refl) o e n l
      by None l = h

  mutual
    parted_weighs : (e : ExprTree) → weight (parted s x i e) ≡ weight e
    parted_weighs (leaf a l) = refl
    parted_weighs (one a o e) = one_weighs a o e (parted s x i e) (parted_weighs e)
    parted_weighs (two a o e f) = omega (arith, parted_weighs e, parted_weighs f)
    parted_weighs (three a o c e f) = omega (arith, parted_weighs c, parted_weighs e, parted_weighs f)
    parted_weighs (many a o es) = all_parted_weigh es
    parted_weighs (let_in a b e f) = omega (arith, parted_weighs e, parted_weighs f)
    parted_weighs (loop a ls e b n y f) = omega (arith, legs_parted_weigh ls, parted_weighs e)
    parted_weighs (iterate a e b f) = omega (arith, parted_weighs e)

    all_parted_weigh : (es : ExprTrees) → weight_in (all_parted s x i es) ≡ weight_in es
    all_parted_weigh no_exprs = refl
    all_parted_weigh (more_exprs e es) = omega (arith, parted_weighs e, all_parted_weigh es)

    leg_parted_weighs : (l : LegTree) → weight_in_leg (leg_parted s x i l) ≡ weight_in_leg l
    leg_parted_weighs (whole e) = parted_weighs e
    leg_parted_weighs (strided e f g h) = omega (arith, parted_weighs e, parted_weighs f, parted_weighs g, parted_weighs h)

    legs_parted_weigh : (ls : LegTrees) → weight_in_legs (legs_parted s x i ls) ≡ weight_in_legs ls
    legs_parted_weigh no_legs = refl
    legs_parted_weigh (more_legs l ls) = omega (arith, leg_parted_weighs l, legs_parted_weigh ls)

-- ---- a `let` of a pair

-- the parts of a pair weigh what it does
parts_weigh : (v e f : ExprTree) → pair_of v ≡ Some (e, f) → weight v ≡ weight e + weight f
parts_weigh (leaf a l) e f h = let nothing : ⊥ = cc in absurd nothing
parts_weigh (one a o d) e f h = let nothing : ⊥ = cc in absurd nothing
parts_weigh (two a o c d) e f h = let nothing : ⊥ = cc in absurd nothing
parts_weigh (three a o b c d) e f h = let nothing : ⊥ = cc in absurd nothing
parts_weigh (many a make_vec es) e f h = let nothing : ⊥ = cc in absurd nothing
parts_weigh (many a make_struct no_exprs) e f h = let nothing : ⊥ = cc in absurd nothing
parts_weigh (many a make_struct (more_exprs c no_exprs)) e f h = let nothing : ⊥ = cc in absurd nothing
parts_weigh (many a make_struct (more_exprs c (more_exprs d no_exprs))) e f h =
    let same : (e, f) ≡ (c, d) = cc in
    let one_is : weight e ≡ weight c = ap (λ (p : ExprTree × ExprTree). weight p.0) same in
    let other_is : weight f ≡ weight d = ap (λ (p : ExprTree × ExprTree). weight p.1) same in omega (arith, one_is, other_is)
parts_weigh (many a make_struct (more_exprs c (more_exprs d (more_exprs g es)))) e f h = let nothing : ⊥ = cc in absurd nothing
parts_weigh (let_in a b c d) e f h = let nothing : ⊥ = cc in absurd nothing
parts_weigh (loop a ls c b n y d) e f h = let nothing : ⊥ = cc in absurd nothing
parts_weigh (iterate a c b d) e f h = let nothing : ⊥ = cc in absurd nothing

-- lets that are put in their place make lighter
abbrev pub LetsFall : Type 0
LetsFall = (e d : ExprTree) → lets_rule e ≡ Some d → weight d < weight e

module _ (fall : LetsFall) where
  part_weighs : (z : ℕ) (a : At) (b : Binder) (i : ℕ) (e f g d : ExprTree) → answer_at lets_rule (part_bound z a b i e f g) ≡ Some d → weight d ≤ 1 + (weight e + weight f) + weight g
  part_weighs z a b i e f g d h = by (is_apart b.sym.0 z g && not (has_loop e)) h
    where
      by : (c : Bool) → answer_at lets_rule (if c then Some (both_bound z a b i e f g) else None) ≡ Some d → weight d ≤ 1 + (weight e + weight f) + weight g
      by true q = omega (arith, fall (both_bound z a b i e f g) d q, parted_weighs b.sym.0 z i g)
      by false q = let nothing : ⊥ = cc in absurd nothing

  let_weighs : (d z : ℕ) (a : At) (b : Binder) (v g y : ExprTree) → answer_at lets_rule (pair_bound d z a b (pair_of v) g) ≡ Some y → weight y ≤ 1 + weight v + weight g
  let_weighs d z a b v g y h = by (pair_of v) refl h
    where
      second : (e f : ExprTree) (c : Bool) → answer_at lets_rule (if c then None else part_bound z a b 1 f e g) ≡ Some y → weight y ≤ 1 + (weight e + weight f) + weight g
      second e f true k = let nothing : ⊥ = cc in absurd nothing
      second e f false k = omega (arith, part_weighs z a b 1 f e g y k)

      either : (e f : ExprTree) (c : Bool) → answer_at lets_rule (if c then (if uses f d == 0 then None else part_bound z a b 1 f e g) else part_bound z a b 0 e f g) ≡ Some y → weight y ≤ 1 + (weight e + weight f) + weight g
      either e f true k = second e f (uses f d == 0) k
      either e f false k = part_weighs z a b 0 e f g y k

      by : (o : Option (ExprTree × ExprTree)) → pair_of v ≡ o → answer_at lets_rule (pair_bound d z a b o g) ≡ Some y → weight y ≤ 1 + weight v + weight g
      by None k q = let nothing : ⊥ = cc in absurd nothing
      by (Some x) k q = omega (arith, parts_weigh v x.0 x.1 k, either x.0 x.1 (uses x.0 d == 0) q)

  rule_weighs : (d z : ℕ) (e y : ExprTree) → pairs_rule d z e ≡ Some y → weight y ≤ weight e
  rule_weighs d z (leaf a l) y h = let nothing : ⊥ = cc in absurd nothing
  rule_weighs d z (one a o e) y h = let nothing : ⊥ = cc in absurd nothing
  rule_weighs d z (two a o e f) y h = let nothing : ⊥ = cc in absurd nothing
  rule_weighs d z (three a o c e f) y h = let nothing : ⊥ = cc in absurd nothing
  rule_weighs d z (many a o es) y h = let nothing : ⊥ = cc in absurd nothing
  rule_weighs d z (let_in a b v g) y h = let_weighs d z a b v g y h
  rule_weighs d z (loop a ls e b n x f) y h = let nothing : ⊥ = cc in absurd nothing
  rule_weighs d z (iterate a e b f) y h = let nothing : ⊥ = cc in absurd nothing

  settled_weighs : (d z : ℕ) (e : ExprTree) → weight (settled (pairs_rule d z) e) ≤ weight e
  settled_weighs d z e = by (pairs_rule d z e) refl
    where
      by : (o : Option ExprTree) → pairs_rule d z e ≡ o → weight (or_same o e) ≤ weight e
      by None h = omega arith
      by (Some y) h = rule_weighs d z e y h

  within_weighs : (k : ExprTree → ExprTree) → ((e : ExprTree) → weight (k e) ≤ weight e) → (e : ExprTree) → weight (within_body k e) ≤ weight e
  within_weighs k h (leaf a l) = omega arith
  within_weighs k h (one a o e) = omega arith
  within_weighs k h (two a o e f) = omega arith
  within_weighs k h (three a o c e f) = omega (arith, h e, h f)
  within_weighs k h (many a o es) = omega arith
  within_weighs k h (let_in a b v g) = omega (arith, h g)
  within_weighs k h (loop a ls e b n x f) = omega arith
  within_weighs k h (iterate a e b f) = omega arith

  opened_weighs : (d z n : ℕ) (e : ExprTree) → weight (opened d z n e) ≤ weight e
  opened_weighs d z zero e = omega arith
  opened_weighs d z (suc n) e = omega (arith, within_weighs (opened d z n) (opened_weighs d z n) (settled (pairs_rule d z) e), settled_weighs d z e)

  loop_weighs : (z : ℕ) (e : ExprTree) → weight (opened_loop z e) ≤ weight e
  loop_weighs z (leaf a l) = omega arith
  loop_weighs z (one a o e) = omega arith
  loop_weighs z (two a o e f) = omega arith
  loop_weighs z (three a o c e f) = omega arith
  loop_weighs z (many a o es) = omega arith
  loop_weighs z (let_in a b v g) = omega arith
  loop_weighs z (loop a ls e b n y f) = omega (arith, opened_weighs b.sym.0 z depth f)
  loop_weighs z (iterate a e b f) = omega arith

  result_weighs : (z : ℕ) (e : ExprTree) → weight (opened_result z e) ≤ weight e
  result_weighs z (leaf a l) = omega arith
  result_weighs z (one a o e) = loop_weighs z e
  result_weighs z (two a o e f) = omega arith
  result_weighs z (three a o c e f) = omega arith
  result_weighs z (many a o es) = omega arith
  result_weighs z (let_in a b v g) = omega arith
  result_weighs z (loop a ls e b n y f) = omega arith
  result_weighs z (iterate a e b f) = omega arith

  leg_weighs : (z : ℕ) (l : LegTree) → weight_in_leg (opened_leg z l) ≤ weight_in_leg l
  leg_weighs z (whole e) = result_weighs z e
  leg_weighs z (strided e f g h) = omega arith

  legs_weigh : (z : ℕ) (ls : LegTrees) → weight_in_legs (opened_legs z ls) ≤ weight_in_legs ls
  legs_weigh z no_legs = omega arith
  legs_weigh z (more_legs l ls) = omega (arith, leg_weighs z l, legs_weigh z ls)

  pub producer_weighs : (e : ExprTree) → weight (opened_producer e) ≤ weight e
  producer_weighs (leaf a l) = omega arith
  producer_weighs (one a o e) = omega arith
  producer_weighs (two a o e f) = omega arith
  producer_weighs (three a o c e f) = omega arith
  producer_weighs (many a o es) = omega arith
  producer_weighs (let_in a b v g) = omega arith
  producer_weighs (loop a ls e b n y f) = omega (arith, legs_weigh y.sym.0 ls)
  producer_weighs (iterate a e b f) = omega arith

-- ---- where there is no pair

or_none : (b c : Bool) → (b || c) ≡ false → (b ≡ false) × (c ≡ false)
or_none true c h = let nothing : ⊥ = cc in absurd nothing
or_none false c h = (refl, h)

no_pair : (d z : ℕ) (a : At) (b : Binder) (v g : ExprTree) → is_pair v ≡ false → settled (pairs_rule d z) (let_in a b v g) ≡ let_in a b v g
no_pair d z a b v g h = by (pair_of v) h
  where
    by : (o : Option (ExprTree × ExprTree)) → is_some o ≡ false → or_same (answer_at lets_rule (pair_bound d z a b o g)) (let_in a b v g) ≡ let_in a b v g
    by None k = refl
    by (Some y) k = let nothing : ⊥ = cc in absurd nothing

unopened : (d z n : ℕ) (e : ExprTree) → has_pair e ≡ false → opened d z n e ≡ e
unopened d z zero e h = refl
unopened d z (suc n) (leaf a l) h = refl
unopened d z (suc n) (one a o e) h = refl
unopened d z (suc n) (two a o e f) h = refl
unopened d z (suc n) (three a o c e f) h = let k = or_none (has_pair e) (has_pair f) h in let x = unopened d z n e k.0 in let y = unopened d z n f k.1 in λ i. three a o c (x i) (y i)
unopened d z (suc n) (many a o es) h = refl
unopened d z (suc n) (let_in a b v g) h = let k = or_none (is_pair v) (has_pair g) h in ap (within_body (opened d z n)) (no_pair d z a b v g k.0) ∙ ap (let_in a b v) (unopened d z n g k.1)
unopened d z (suc n) (loop a ls e b m y f) h = refl
unopened d z (suc n) (iterate a e b f) h = refl

loop_unopened : (z : ℕ) (e : ExprTree) → loop_has_pair e ≡ false → opened_loop z e ≡ e
loop_unopened z (leaf a l) h = refl
loop_unopened z (one a o e) h = refl
loop_unopened z (two a o e f) h = refl
loop_unopened z (three a o c e f) h = refl
loop_unopened z (many a o es) h = refl
loop_unopened z (let_in a b v g) h = refl
loop_unopened z (loop a ls e b n y f) h = ap (loop a ls e b n y) (unopened b.sym.0 z depth f h)
loop_unopened z (iterate a e b f) h = refl

result_unopened : (z : ℕ) (e : ExprTree) → result_has_pair e ≡ false → opened_result z e ≡ e
result_unopened z (leaf a l) h = refl
result_unopened z (one a o e) h = ap (one a o) (loop_unopened z e h)
result_unopened z (two a o e f) h = refl
result_unopened z (three a o c e f) h = refl
result_unopened z (many a o es) h = refl
result_unopened z (let_in a b v g) h = refl
result_unopened z (loop a ls e b n y f) h = refl
result_unopened z (iterate a e b f) h = refl

leg_unopened : (z : ℕ) (l : LegTree) → leg_has_pair l ≡ false → opened_leg z l ≡ l
leg_unopened z (whole e) h = ap whole (result_unopened z e h)
leg_unopened z (strided e f g k) h = refl

legs_unopened : (z : ℕ) (ls : LegTrees) → legs_have_pair ls ≡ false → opened_legs z ls ≡ ls
legs_unopened z no_legs h = refl
legs_unopened z (more_legs l ls) h = let k = or_none (leg_has_pair l) (legs_have_pair ls) h in let x = leg_unopened z l k.0 in let y = legs_unopened z ls k.1 in λ i. more_legs (x i) (y i)

pub producer_unopened : (e : ExprTree) → producer_has_pair e ≡ false → opened_producer e ≡ e
producer_unopened (leaf a l) h = refl
producer_unopened (one a o e) h = refl
producer_unopened (two a o e f) h = refl
producer_unopened (three a o c e f) h = refl
producer_unopened (many a o es) h = refl
producer_unopened (let_in a b v g) h = refl
producer_unopened (loop a ls e b n y f) h = ap (λ ks. loop a ks e b n y f) (legs_unopened y.sym.0 ls h)
producer_unopened (iterate a e b f) h = refl
