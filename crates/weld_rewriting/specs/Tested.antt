-- Rules that are a test and an answer.
use Rattle.std.specs.Prelude.{◌≡◌, if◌then◌else◌, Bool, true, Some, None, ◌<◌}
use Rattle.weld_tree.specs.ExprTree.{ExprTree}
use Rattle.weld_rewriting.specs.Rewriting.{Rewrites}
use Rattle.weld_rewriting.specs.Tidy.{IsTidy}
use Rattle.weld_rewriting.specs.Weight.{weight}
use Rattle.weld_rewriting.specs.Sweep.{RootRule}

-- the rule that matches where the test holds
abbrev pub tested : (ExprTree → Bool) → (ExprTree → ExprTree) → RootRule
tested test answer e = if test e then Some (answer e) else None

-- where the test holds, the answer is lighter than the node
abbrev pub AnswersLighter : (ExprTree → Bool) → (ExprTree → ExprTree) → Type 0
AnswersLighter test answer = (e : ExprTree) → test e ≡ true → weight (answer e) < weight e

-- where the test holds of a tidy node, the answer rewrites it
abbrev pub AnswersSoundly : (ExprTree → Bool) → (ExprTree → ExprTree) → Type 0
AnswersSoundly test answer = (e : ExprTree) → IsTidy e → test e ≡ true → Rewrites (answer e) e
