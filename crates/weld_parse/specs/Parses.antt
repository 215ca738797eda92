-- Which program a text is, or which rule refuses it first.
use Rattle.std.specs.Prelude.{◌≡◌, ℕ, true, false, List, Some, None}
use Rattle.weld_tree.specs.declared.place.Place.{Place}
use Rattle.weld_tree.specs.declared.code.Code.TheVariants.{X1, M2}
use Rattle.weld_tree.specs.declared.refusal.Refusal.{Refusal}
use Rattle.weld_tree.specs.declared.refusal.Refusal.TheVariants.{At, Size}
use Rattle.weld_tree.specs.Program.{ProgramTree}
use Rattle.weld_grammar.specs.declared.terminals.token.Token.{Token}
use Rattle.weld_tokens.specs.declared.order.Findings.{Findings}
use Rattle.weld_tokens.specs.Tokens.{AreTokens, IsWrongAt}
use Rattle.weld_tokens.specs.TokenLimits.{has_too_many_bytes}
use Rattle.weld_tokens.specs.Order.{first_refusal}
use Rattle.weld_spell.specs.Spells.{Spells}
use Rattle.weld_parse.specs.Findings.{Finds}

-- the text isn't too long, these are its tokens, and this is what the grammar finds in them
pub record Reads (text : List ℕ) (tokens : List Token) (found : Findings) : Type 0 where
  pub fits : has_too_many_bytes text ≡ false
  pub tokens_of : AreTokens text tokens
  pub finds : Finds text tokens found

-- the text's tokens spell the program, and no rule up to the names refuses it
pub record Parses (text : List ℕ) (p : ProgramTree) : Type 0 where
  pub tokens : List Token
  pub found : Findings
  pub reads : Reads text tokens found
  pub unrefused : first_refusal tokens found ≡ None
  pub spells : Spells tokens p

-- this is the first refusal of the text: by its bytes, where no token begins, or by its tokens and their grammar
pub data IsRefused (text : List ℕ) (refusal : Refusal) : Type 0 where
  too_long : has_too_many_bytes text ≡ true → refusal ≡ Size M2 → IsRefused text refusal
  no_token : (place : Place) → has_too_many_bytes text ≡ false → IsWrongAt text place → refusal ≡ At X1 place → IsRefused text refusal
  by_rule : (tokens : List Token) (found : Findings) → Reads text tokens found → first_refusal tokens found ≡ Some refusal → IsRefused text refusal
