-- Two lets of loops over one name, or of their results, may be rewritten to one loop and the results of its fields.
use Rattle.std.proofs.Common.{◌≡◌, ◌≢◌, ◌⊎◌, inl, inr, ℕ, ◌∷◌, Some, refl, sym, ap, ◌∙◌, subst}
use Rattle.weld_tree.specs.TypeTree.{TypeTree}
use Rattle.weld_tree.specs.ExprTree.{At, ExprTree}
use Rattle.weld_meaning.proofs.PartsGood.{KeyLaws}
use Rattle.weld_rewriting.specs.Tidy.{IsTidy}
use Rattle.weld_rewriting.specs.Replacing.{MayReplace}
use Rattle.weld_rewriting.specs.Rewriting.{Rewrites}
use Rattle.weld_rewriting.proofs.Nodes.{may_in_turn}
use Rattle.weld_joining.specs.Beside.{Half, two_lets, MayJoin, with_results, side_by_side}
use Rattle.weld_joining.proofs.Placing.{behind_lets, same_from, known}
use Rattle.weld_joining.proofs.Splitting.{placed, taken}
use Rattle.weld_joining.proofs.Coming.{comes_to}
use Rattle.weld_joining.proofs.Renaming.{renamed_rewrites}
use Rattle.weld_joining.proofs.Counting.{within}

lets_replace : KeyLaws → (a m : At) (s : ℕ) (row : TypeTree) (h k : Half) (rest : ExprTree) (may : MayJoin row h k) (tidy : IsTidy (two_lets a m s h k rest))
    → MayReplace (with_results a m s h k (behind_lets a.place row h k) rest) (two_lets a m s h k rest)
lets_replace laws a m s row h k rest may tidy = record {
  same_origin = λ g. same_from a m s row h k rest may tidy g;
  same_chain = λ c e. let wrong : ⊥ = cc in absurd wrong;
  placed = placed a m s row h k rest may tidy;
  taken = λ types g t p. taken a m s row h k rest may tidy types g t (known a m s row h k rest may tidy types g t p);
  means = λ types g t env p fit. comes_to a m s row h k rest may tidy types g t (known a m s row h k rest may tidy types g t p) env fit p.formed laws;
}

pub lets_rewrite : KeyLaws → (a m : At) (s : ℕ) (row : TypeTree) (h k : Half) (rest : ExprTree) → MayJoin row h k → IsTidy (two_lets a m s h k rest) → Rewrites (side_by_side a m s row h k rest) (two_lets a m s h k rest)
lets_rewrite laws a m s row h k rest may tidy = record {
  replaces = may_in_turn (side_by_side a m s row h k rest) (with_results a m s h k (behind_lets a.place row h k) rest) (two_lets a m s h k rest)
      (renamed_rewrites a m s row h k rest tidy laws).replaces (lets_replace laws a m s row h k rest may tidy);
  within = within a m s row h k rest may;
}
