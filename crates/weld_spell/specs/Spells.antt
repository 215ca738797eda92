-- Which program tokens spell.
use Rattle.std.specs.Prelude.{◌≡◌, List}
use Rattle.weld_grammar.specs.declared.terminals.token.Token.{Token}
use Rattle.weld_tree.specs.Program.{ProgramTree}
use Rattle.weld_grammar.specs.declared.rule.Rule.TheVariants.{Program}
use Rattle.weld_grammar.specs.declared.item.Item.TheVariants.{Part as OfRule}
use Rattle.weld_grammar.specs.Grammar.{item}
use Rattle.weld_grammar.specs.Derivation.{Tree, yield, IsOf}
use Rattle.weld_spell.specs.Seen.{seen}
use Rattle.weld_spell.specs.ProgramOf.{program_of}

-- the tokens derive a program, by a tree of which this is the program
pub record Spells (ts : List Token) (p : ProgramTree) : Type 0 where
  pub tree : Tree Token
  pub tree_of : IsOf (item (OfRule Program)) (seen tree)
  pub tokens : yield tree ≡ ts
  pub is : program_of tree ≡ p
