-- Rules that are a test and an answer.
use Rattle.std.proofs.Common.{◌≡◌, ◌<◌, Bool, true, false, if◌then◌else◌, Some, None, refl, subst}
use Rattle.weld_tree.specs.ExprTree.{ExprTree}
use Rattle.weld_rewriting.specs.Rewriting.{Rewrites}
use Rattle.weld_rewriting.specs.Tidy.{IsTidy}
use Rattle.weld_rewriting.specs.Rules.{Falls, IsSound}
use Rattle.weld_rewriting.specs.Weight.{weight}
use Rattle.weld_rewriting.specs.Nodes.{EachNode}
use Rattle.weld_rewriting.specs.Sweep.{IsNoMatch, IsStill}
use Rattle.weld_rewriting.specs.Tested.{tested, AnswersLighter, AnswersSoundly}
use Rattle.weld_rewriting.proofs.EachNodes.{each_node}

matched : (b : Bool) (x d : ExprTree) → (if b then Some x else None) ≡ Some d → (b ≡ true) × (x ≡ d)
matched true x d h = let e : x ≡ d = cc in (refl, e)
matched false x d h = let wrong : ⊥ = cc in absurd wrong

no_match : (b : Bool) (x : ExprTree) → (if b then Some x else None) ≡ None → b ≡ false
no_match true x h = let wrong : ⊥ = cc in absurd wrong
no_match false x h = refl

pub tests_fall : (test : ExprTree → Bool) (answer : ExprTree → ExprTree) → AnswersLighter test answer → Falls (tested test answer)
tests_fall test answer h = record {
  lighter = λ e d q. let m = matched (test e) (answer e) d q in subst (λ (x : ExprTree). weight x < weight e) m.1 (h e m.0);
}

pub tests_are_sound : (test : ExprTree → Bool) (answer : ExprTree → ExprTree) → AnswersSoundly test answer → IsSound (tested test answer)
tests_are_sound test answer h = record {
  rewrites = λ e d tidy q. let m = matched (test e) (answer e) d q in subst (λ (x : ExprTree). Rewrites x e) m.1 (h e tidy m.0);
}

pub no_test_holds : (test : ExprTree → Bool) (answer : ExprTree → ExprTree) (e : ExprTree) → IsStill (tested test answer) e → EachNode (λ node. test node ≡ false) e
no_test_holds test answer e h = each_node (IsNoMatch (tested test answer)) (λ node. test node ≡ false) (λ node m. no_match (test node) (answer node) m) e h
