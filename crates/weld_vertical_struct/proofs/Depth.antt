-- Down a body by one.
use Rattle.std.proofs.Common.{◌≡◌, ℕ, zero, suc, ◌-◌, ◌==◌, true, refl, ap, arith, eqb-true}
use Rattle.weld_tree.specs.ExprTree.{ExprTree}
use Rattle.weld_rewriting.specs.Sweep.{settled}
use Rattle.weld_vertical_struct.specs.Parting.{pairs_rule, within_body, opened}

pub opened_none : (d z n : ℕ) (e : ExprTree) → (n == 0) ≡ true → opened d z n e ≡ e
opened_none d z n e h = ap (λ k. opened d z k e) (eqb-true n 0 h)

pub opened_more : (d z n : ℕ) (e : ExprTree) → (n ≡ 0 → ⊥) → opened d z n e ≡ within_body (opened d z (n - 1)) (settled (pairs_rule d z) e)
opened_more d z zero e h = absurd (h refl)
opened_more d z (suc n) e h = let same : n ≡ suc n - 1 = omega arith in ap (λ k. within_body (opened d z k) (settled (pairs_rule d z) e)) same
