-- The one loop is lighter than the two, and may take their place.
use Rattle.std.proofs.Common.{◌≡◌, ℕ, zero, suc, ◌+◌, ◌<◌, ◌≤◌, true, refl, arith}
use Rattle.weld_tree.specs.declared.place.Place.{Place}
use Rattle.weld_tree.specs.TypeTree.{TypeTree, TypeTrees, no_types, more_types}
use Rattle.weld_tree.specs.ExprTree.{ExprTree, whole, ExprTrees, no_exprs, more_exprs, LegTrees, no_legs, more_legs}
use Rattle.weld_meaning.specs.Names.{put}
use Rattle.weld_rewriting.specs.Tidy.{IsTidy}
use Rattle.weld_rewriting.specs.Within.{StaysWithin}
use Rattle.weld_rewriting.specs.Rewriting.{Rewrites}
use Rattle.weld_rewriting.specs.Rules.{IsSound}
use Rattle.weld_rewriting.specs.Weight.{weight, weight_in, weight_in_legs}
use Rattle.weld_rewriting.specs.Sweep.{RootRule, swept, swept_times}
use Rattle.weld_vertical.specs.Sinking.{fused}
use Rattle.weld_vertical.proofs.Spine.{ends_by}
use Rattle.weld_horizontal.specs.Twice.{item_at, items_from, count}
use Rattle.weld_horizontal.specs.Doubles.{picks_rule}
use Rattle.weld_horizontal.proofs.Weights.{weight_put}
use Rattle.weld_vertical_zip.specs.Zipping.{legs_behind, exprs_behind, Sides, all_items, part_of_row, made_row, is_zipped, unzipped}
use Rattle.weld_vertical_zip.proofs.Splice.{Splice, Simple, places, produced, pattern, row, answer}
use Rattle.weld_vertical_zip.proofs.SpliceRule.{whole_body, zipped_by}
use Rattle.weld_vertical_zip.specs.Zips.{spliced}

-- ---- rows weigh nothing

item_weight : (place : Place) (x : ℕ) (us : TypeTrees) (n : ℕ) (u : TypeTree) → weight (item_at place x us n u) ≡ 0
item_weight place x no_types n u = refl
item_weight place x (more_types t no_types) n u = refl
item_weight place x (more_types t (more_types s ts)) n u = refl

items_weight : (place : Place) (x : ℕ) (all : TypeTrees) (n : ℕ) (us : TypeTrees) → weight_in (items_from place x all n us) ≡ 0
items_weight place x all n no_types = refl
items_weight place x all n (more_types u us) = omega (arith, item_weight place x all n u, items_weight place x all (suc n) us)

pub part_weight : (place : Place) (x : ℕ) (all : TypeTrees) (n : ℕ) (us : TypeTrees) → weight (part_of_row place x all n us) ≡ 0
part_weight place x all n no_types = refl
part_weight place x all n (more_types t no_types) = item_weight place x all n t
part_weight place x all n (more_types t (more_types u us)) = items_weight place x all n (more_types t (more_types u us))

weight_together : (es fs : ExprTrees) → weight_in (exprs_behind es fs) ≡ weight_in es + weight_in fs
weight_together no_exprs fs = omega arith
weight_together (more_exprs e es) fs = omega (arith, weight_together es fs)

pub made_weight : (place : Place) (x : ℕ) (s : Sides) (v : ExprTree) → weight (made_row place x s v) ≡ weight v
made_weight place x s v =
    let front = items_from place x (all_items s) 0 s.before in
    let back = items_from place x (all_items s) (count s.before + count s.within) s.after in
    omega (
      arith,
      weight_together front (more_exprs v back),
      items_weight place x (all_items s) 0 s.before,
      items_weight place x (all_items s) (count s.before + count s.within) s.after,
    )

pub legs_weight : (ls ms : LegTrees) → weight_in_legs (legs_behind ls ms) ≡ weight_in_legs ls + weight_in_legs ms
legs_weight no_legs ms = omega arith
legs_weight (more_legs l ls) ms = omega (arith, legs_weight ls ms)

-- ---- the loop

module _ (c : Splice) where
  own_weight : weight (row c) ≡ 0
  own_weight = part_weight c.a.place c.r.sym.0 (all_items (places c)) (count (places c).before) (places c).within

  body_weight : Simple c → weight (whole_body c c.g) ≡ 2 + weight c.g + weight c.f
  body_weight simple =
      ends_by c.d.sym.0 (λ g. weight (whole_body c g) ≡ 2 + weight g + weight c.f) (λ a z v h none k. omega (arith, k, weight_put v c.r.sym.0 (row c) own_weight))
      (λ a o v none. omega (arith, made_weight c.a.place c.r.sym.0 (places c) (put c.r.sym.0 (row c) v), weight_put v c.r.sym.0 (row c) own_weight)) c.g simple.ends simple.once

  loop_lighter : Simple c → weight (fused (answer c)) < weight (pattern c)
  loop_lighter simple =
      omega (arith, body_weight simple, legs_weight c.bs (more_legs (whole (produced c)) c.zs), legs_weight c.bs (legs_behind c.ks c.zs), legs_weight c.ks c.zs)

unzipped_lighter : (e : ExprTree) → is_zipped e ≡ true → weight (unzipped e) < weight e
unzipped_lighter = zipped_by (λ d j. weight (fused j) < weight d) (λ c simple. loop_lighter c simple)

pub lighter : ((e : ExprTree) → weight (swept picks_rule e) ≤ weight e) → (e : ExprTree) → is_zipped e ≡ true → weight (spliced e) < weight e
lighter never e h = omega (arith, unzipped_lighter e h, never (unzipped e))

-- the laws that the whole answer rests on
pub record Laws : Type 0 where
  pub splices : (e : ExprTree) → IsTidy e → is_zipped e ≡ true → Rewrites (unzipped e) e
  pub picks : IsSound picks_rule
  pub rounds : (r : RootRule) (n : ℕ) (e : ExprTree) → IsSound r → IsTidy e → Rewrites (swept_times n r e) e
  pub in_turn : (c d e : ExprTree) → Rewrites c d → Rewrites d e → Rewrites c e
  pub within : (d e : ExprTree) → StaysWithin d e → IsTidy e → IsTidy d

pub spliced_rewrites : Laws → (e : ExprTree) → IsTidy e → is_zipped e ≡ true → Rewrites (spliced e) e
spliced_rewrites laws e tidy h =
    let first = laws.splices e tidy h in
    laws.in_turn (spliced e) (unzipped e) e (laws.rounds picks_rule (suc zero) (unzipped e) laws.picks (laws.within (unzipped e) e first.within tidy)) first
