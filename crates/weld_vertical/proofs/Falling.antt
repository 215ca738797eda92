-- The one loop is lighter than the two.
use Rattle.std.proofs.Common.{◌≡◌, ℕ, ◌+◌, ◌≤◌, ◌<◌, true, arith}
use Rattle.weld_tree.specs.declared.binder.Binder.{Binder}
use Rattle.weld_tree.specs.declared.known.Known.{Known}
use Rattle.weld_tree.specs.ExprTree.{ExprTree}
use Rattle.weld_rewriting.specs.Weight.{weight}
use Rattle.weld_vertical.specs.Sinking.{is_spine, merges, is_consumer, sunk, fused}
use Rattle.weld_vertical.proofs.Spine.{spine_by, share, share_sum, whole_share}
use Rattle.weld_vertical.proofs.Recognised.{consumer_by}

sunk_weight : (ty : Known) (s c i : ℕ) (n x : Binder) (f g : ExprTree) → is_spine s g ≡ true → merges g ≤ 1 → weight (sunk ty c i n x f g) ≡ weight g + share (merges g) (2 + weight f)
sunk_weight ty s c i n x f =
    spine_by s (λ g. merges g ≤ 1 → weight (sunk ty c i n x f g) ≡ weight g + share (merges g) (2 + weight f)) (λ a m. omega arith) (λ a z v h none k m. omega (arith, k m))
    (λ a d e g none k l m. omega (arith, k (omega (arith, m)), l (omega (arith, m)), share_sum (merges e) (merges g) (2 + weight f) m)) (λ a d v none m. omega arith)

pub lighter : (e : ExprTree) → is_consumer e ≡ true → weight (fused e) < weight e
lighter =
    consumer_by (λ e. weight (fused e) < weight e)
    (λ a e b n x f m p o item ks d i r g spine once numbered. omega (arith, sunk_weight a.ty d.sym.0 b.sym.0 i.sym.0 n x f g spine (omega (arith, once)), whole_share (merges g) (2 + weight f) once))
