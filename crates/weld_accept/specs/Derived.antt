-- Derivations as the steps of a machine that shifts tokens and reduces rules: the tree in the order in which its nodes end.
use Rattle.std.specs.Prelude.{◌≡◌, List, [], ◌∷◌, ◌++◌}
use Rattle.weld_grammar.specs.declared.terminals.class.Class.{Class}
use Rattle.weld_grammar.specs.declared.rule.Rule.{Rule}
use Rattle.weld_grammar.specs.declared.item.Item.TheVariants.{One, Part as OfRule, Optional, Repeated}
use Rattle.weld_grammar.specs.Grammar.{Part, item, all_of, one_of, body}
use Rattle.weld_grammar.specs.Derivation.{Tree, leaf, node, pair, here, there, yield, IsOf}
use Rattle.weld_accept.specs.declared.step.Step.{Step}
use Rattle.weld_accept.specs.declared.step.Step.TheVariants.{Shift, Reduce}

-- the steps of a tree of the part
abbrev pub steps : {A : Type 0} → Part → Tree A → List Step
steps (item (One a)) (leaf x) = Shift a ∷ []
steps (item (OfRule r)) (node t) = steps (body r) t ++ Reduce r ∷ []
steps (item (Optional r)) (here t) = steps (item (OfRule r)) t
steps (item (Repeated r)) (pair t u) = steps (item (OfRule r)) t ++ steps (item (Repeated r)) u
steps (all_of (i ∷ rest)) (pair t u) = steps (item i) t ++ steps (all_of rest) u
steps (one_of (i ∷ rest)) (here t) = steps (item i) t
steps (one_of (i ∷ rest)) (there t) = steps (one_of rest) t
steps p t = []

-- the rule derives the tokens by a tree of these steps
pub record IsDerivation (r : Rule) (xs : List Class) (ss : List Step) : Type 0 where
  pub tree : Tree Class
  pub tree_of : IsOf (item (OfRule r)) tree
  pub tokens : yield tree ≡ xs
  pub is : steps (item (OfRule r)) tree ≡ ss
