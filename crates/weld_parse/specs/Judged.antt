-- What is answered of tokens that derive a program.
use Rattle.std.specs.Prelude.{◌≡◌, List, Some, None}
use Rattle.weld_tree.specs.declared.refusal.Refusal.{Refusal}
use Rattle.weld_tree.specs.Program.{ProgramTree}
use Rattle.weld_grammar.specs.declared.terminals.token.Token.{Token}
use Rattle.weld_tokens.specs.Order.{first_refusal}
use Rattle.weld_grammar.specs.Derivation.{Tree}
use Rattle.weld_spell.specs.ProgramOf.{program_of}
use Rattle.weld_parse.specs.Findings.{IsTreeOf, found_in}

-- their tree spells the program, and no rule up to the names refuses it
pub record IsAccepted (tokens : List Token) (p : ProgramTree) : Type 0 where
  pub tree : Tree Token
  pub tree_of : IsTreeOf tokens tree
  pub unrefused : first_refusal tokens (found_in tree) ≡ None
  pub spelled : program_of tree ≡ p

-- a rule refuses their tree first
pub record IsRefusedTree (tokens : List Token) (refusal : Refusal) : Type 0 where
  pub tree : Tree Token
  pub tree_of : IsTreeOf tokens tree
  pub refused : first_refusal tokens (found_in tree) ≡ Some refusal
