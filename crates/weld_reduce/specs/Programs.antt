-- Derivations over tokens, and what is read of those of a program.
use Rattle.std.specs.Prelude.{◌≡◌, List, Option, Some}
use Rattle.std.specs.List.{AllByRecursion}
use Rattle.weld_grammar.specs.declared.terminals.token.Token.{Token}
use Rattle.weld_tokens.specs.Words.{class_of}
use Rattle.weld_tree.specs.ExprTree.{ExprTree}
use Rattle.weld_tree.specs.declared.binder.Binder.{Binder}
use Rattle.weld_grammar.specs.declared.rule.Rule.{Rule}
use Rattle.weld_grammar.specs.declared.rule.Rule.TheVariants.{Program}
use Rattle.weld_grammar.specs.declared.item.Item.TheVariants.{Part as OfRule}
use Rattle.weld_grammar.specs.Grammar.{item}
use Rattle.weld_grammar.specs.Derivation.{Tree, yield, IsOf}
use Rattle.weld_spell.specs.Seen.{seen}
use Rattle.weld_spell.specs.ProgramOf.{program_of}
use Rattle.weld_spell.specs.Names.{Refused, first_misnamed}
use Rattle.weld_accept.specs.declared.step.Step.{Step}
use Rattle.weld_accept.specs.Derived.{steps}

-- the rule derives the tokens by a tree over them of these steps
pub record IsDerivedBy (r : Rule) (ts : List Token) (ss : List Step) : Type 0 where
  pub tree : Tree Token
  pub tree_of : IsOf (item (OfRule r)) (seen tree)
  pub tokens : yield tree ≡ ts
  pub is : steps (item (OfRule r)) tree ≡ ss

-- the tokens derive a program, by a tree that has these parameters, this body and this first refused name
pub record IsRead (ts : List Token) (params : List Binder) (body : ExprTree) (refused : Option Refused) : Type 0 where
  pub tree : Tree Token
  pub tree_of : IsOf (item (OfRule Program)) (seen tree)
  pub tokens : yield tree ≡ ts
  pub program : program_of tree ≡ record { params = params; body = body }
  pub misnamed : first_misnamed tree ≡ refused

-- each has the class of its bytes
abbrev pub AreOfTheirClasses : List Token → Type 0
AreOfTheirClasses ts = AllByRecursion (λ t. class_of t.word ≡ Some t.class) ts
