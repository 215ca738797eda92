-- The whole answer, with the fields of its rows picked, is lighter than the loop, and may take its place.
use Rattle.std.proofs.Common.{◌≡◌, ℕ, zero, suc, ◌≤◌, ◌<◌, true, arith}
use Rattle.weld_tree.specs.ExprTree.{ExprTree}
use Rattle.weld_meaning.proofs.LoopLaw.{PartLaws}
use Rattle.weld_rewriting.specs.Rewriting.{Rewrites}
use Rattle.weld_rewriting.specs.Rules.{IsSound}
use Rattle.weld_rewriting.specs.Sweep.{RootRule, swept, swept_times}
use Rattle.weld_rewriting.specs.Tidy.{IsTidy}
use Rattle.weld_rewriting.specs.Weight.{weight}
use Rattle.weld_rewriting.specs.Within.{StaysWithin}
use Rattle.weld_horizontal.specs.Doubles.{picks_rule}
use Rattle.weld_vertical_zip_held.specs.Rule.{is_over_each, zip_over, zip_handed}
use Rattle.weld_vertical_zip_held.proofs.ZipRule.{joined_rewrites, joined_lighter}

pub lighter : ((e : ExprTree) → weight (swept picks_rule e) ≤ weight e) → (e : ExprTree) → is_over_each e ≡ true → weight (zip_handed e) < weight e
lighter never e h = omega (arith, joined_lighter e h, never (zip_over e))

-- the laws that picking rests on
pub record Picking : Type 0 where
  pub picks : IsSound picks_rule
  pub rounds : (r : RootRule) (n : ℕ) (e : ExprTree) → IsSound r → IsTidy e → Rewrites (swept_times n r e) e
  pub in_turn : (c d e : ExprTree) → Rewrites c d → Rewrites d e → Rewrites c e
  pub within : (d e : ExprTree) → StaysWithin d e → IsTidy e → IsTidy d

pub handed_rewrites : PartLaws → Picking → (e : ExprTree) → IsTidy e → is_over_each e ≡ true → Rewrites (zip_handed e) e
handed_rewrites laws picking e tidy h =
    let first = joined_rewrites laws e tidy h in
    picking.in_turn (zip_handed e) (zip_over e) e (picking.rounds picks_rule (suc zero) (zip_over e) picking.picks (picking.within (zip_over e) e first.within tidy)) first
