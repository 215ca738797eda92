-- Two rules as one.
use Rattle.std.proofs.Common.{◌≡◌, ◌<◌, ◌⊎◌, inl, inr, Option, Some, None, refl, ap, ◌∙◌, sym}
use Rattle.weld_tree.specs.ExprTree.{ExprTree}
use Rattle.weld_rewriting.specs.Rewriting.{Rewrites}
use Rattle.weld_rewriting.specs.Tidy.{IsTidy}
use Rattle.weld_rewriting.specs.Rules.{Falls, IsSound}
use Rattle.weld_rewriting.specs.Weight.{weight}
use Rattle.weld_rewriting.specs.Sweep.{RootRule, IsNoMatch, IsStill}
use Rattle.weld_rewriting.specs.Either.{first_of, either}
use Rattle.weld_rewriting.proofs.EachNodes.{each_node}

which : (o p : Option ExprTree) (d : ExprTree) → first_of o p ≡ Some d → (o ≡ Some d) ⊎ (p ≡ Some d)
which (Some c) p d h = inl h
which None p d h = inr h

neither : (o p : Option ExprTree) → first_of o p ≡ None → (o ≡ None) × (p ≡ None)
neither (Some c) p h = let wrong : ⊥ = cc in absurd wrong
neither None p h = (refl, h)

pub joined_fall : (r s : RootRule) → Falls r → Falls s → Falls (either r s)
joined_fall r s f g = record { lighter = λ e d q. by e d (which (r e) (s e) d q) }
  where
    by : (e d : ExprTree) → (r e ≡ Some d) ⊎ (s e ≡ Some d) → weight d < weight e
    by e d (inl h) = f.lighter e d h
    by e d (inr h) = g.lighter e d h

pub joined_are_sound : (r s : RootRule) → IsSound r → IsSound s → IsSound (either r s)
joined_are_sound r s f g = record { rewrites = λ e d tidy q. by e d tidy (which (r e) (s e) d q) }
  where
    by : (e d : ExprTree) → IsTidy e → (r e ≡ Some d) ⊎ (s e ≡ Some d) → Rewrites d e
    by e d tidy (inl h) = f.rewrites e d tidy h
    by e d tidy (inr h) = g.rewrites e d tidy h

pub first_still : (r s : RootRule) (e : ExprTree) → IsStill (either r s) e → IsStill r e
first_still r s e h = each_node (IsNoMatch (either r s)) (IsNoMatch r) (λ node m. (neither (r node) (s node) m).0) e h

pub second_still : (r s : RootRule) (e : ExprTree) → IsStill (either r s) e → IsStill s e
second_still r s e h = each_node (IsNoMatch (either r s)) (IsNoMatch s) (λ node m. (neither (r node) (s node) m).1) e h
