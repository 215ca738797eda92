-- What texts spell, by their tokens.
use Rattle.std.specs.Prelude.{◌≡◌, ℕ, List, None}
use Rattle.weld_grammar.specs.declared.terminals.token.Token.{Token}
use Rattle.weld_tree.specs.TypeTree.{TypeTree}
use Rattle.weld_tree.specs.Program.{ProgramTree}
use Rattle.weld_tokens.specs.Tokens.{AreTokens}
use Rattle.weld_spell.specs.Types.{SpellsType}
use Rattle.weld_spell.specs.Spells.{Spells}
use Rattle.weld_spell.specs.Names.{first_misnamed}
use Rattle.weld_spell.specs.Ranges.{number_out_of_range}

-- the text's tokens spell the type
pub record TextSpellsType (text : List ℕ) (t : TypeTree) : Type 0 where
  pub tokens : List Token
  pub are_tokens : AreTokens text tokens
  pub spells : SpellsType tokens t

-- the text's tokens spell the program
pub record TextSpells (text : List ℕ) (p : ProgramTree) : Type 0 where
  pub tokens : List Token
  pub are_tokens : AreTokens text tokens
  pub spells : Spells tokens p

-- and no name in their tree is refused, and no number in it is out of its range
pub record TextSpellsSoundly (text : List ℕ) (p : ProgramTree) : Type 0 where
  pub tokens : List Token
  pub are_tokens : AreTokens text tokens
  pub spells : Spells tokens p
  pub named : first_misnamed spells.tree ≡ None
  pub ranged : number_out_of_range spells.tree ≡ None
