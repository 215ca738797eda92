-- What is put in place rewrites the `let`.
use Rattle.std.proofs.Common.{◌≡◌, true, ◌⊎◌, inl, inr}
use Rattle.weld_tree.specs.declared.binder.Binder.{Binder}
use Rattle.weld_tree.specs.ExprTree.{At, ExprTree, leaf, one, two, three, many, let_in, loop, iterate}
use Rattle.weld_meaning.specs.Names.{put}
use Rattle.weld_rewriting.specs.Tidy.{IsTidy}
use Rattle.weld_rewriting.specs.Rewriting.{Rewrites}
use Rattle.weld_substitution.specs.Redex.{is_plain, is_used_well, is_redex}
use Rattle.weld_inline.specs.Inlining.{opened}
use Rattle.weld_inline.proofs.Falling.{why}

-- the laws of putting that this rests on
pub record Laws : Type 0 where
  pub plain : (a : At) (b : Binder) (v f : ExprTree) → IsTidy (let_in a b v f) → is_plain v ≡ true → Rewrites (put b.sym.0 v f) (let_in a b v f)
  pub once : (a : At) (b : Binder) (v f : ExprTree) → IsTidy (let_in a b v f) → is_used_well b.sym.0 v f ≡ true → Rewrites (put b.sym.0 v f) (let_in a b v f)

opened_rewrites : (laws : Laws) (a : At) (b : Binder) (v f : ExprTree) → IsTidy (let_in a b v f) → (is_plain v ≡ true) ⊎ (is_used_well b.sym.0 v f ≡ true) → Rewrites (put b.sym.0 v f) (let_in a b v f)
opened_rewrites laws a b v f t (inl h) = laws.plain a b v f t h
opened_rewrites laws a b v f t (inr h) = laws.once a b v f t h

pub rewrites : (laws : Laws) (e : ExprTree) → IsTidy e → is_redex e ≡ true → Rewrites (opened e) e
rewrites laws (leaf a l) t h = let wrong : ⊥ = cc in absurd wrong
rewrites laws (one a o e) t h = let wrong : ⊥ = cc in absurd wrong
rewrites laws (two a o e f) t h = let wrong : ⊥ = cc in absurd wrong
rewrites laws (three a o c e f) t h = let wrong : ⊥ = cc in absurd wrong
rewrites laws (many a o es) t h = let wrong : ⊥ = cc in absurd wrong
rewrites laws (let_in a b v f) t h = opened_rewrites laws a b v f t (why b.sym.0 v f h)
rewrites laws (loop a ls e b n x f) t h = let wrong : ⊥ = cc in absurd wrong
rewrites laws (iterate a e b f) t h = let wrong : ⊥ = cc in absurd wrong
