-- Which type tokens spell.
use Rattle.std.specs.Prelude.{◌≡◌, ℕ, List}
use Rattle.weld_grammar.specs.declared.terminals.token.Token.{Token}
use Rattle.weld_tree.specs.TypeTree.{TypeTree}
use Rattle.weld_tree.specs.Types.{IsWithinLimits}
use Rattle.weld_grammar.specs.declared.rule.Rule.TheVariants.{AnyType}
use Rattle.weld_grammar.specs.declared.item.Item.TheVariants.{Part as OfRule}
use Rattle.weld_grammar.specs.Grammar.{item}
use Rattle.weld_grammar.specs.Derivation.{Tree, yield, IsOf}
use Rattle.weld_grammar.specs.Breaks.{BreaksAt}
use Rattle.weld_grammar.specs.Classes.{classes}
use Rattle.weld_spell.specs.Seen.{seen}
use Rattle.weld_spell.specs.TypeOf.{type_of}

-- the tokens spell the type
pub record SpellsType (ts : List Token) (v : TypeTree) : Type 0 where
  pub tree : Tree Token
  pub tree_of : IsOf (item (OfRule AnyType)) (seen tree)
  pub tokens : yield tree ≡ ts
  pub value : type_of tree ≡ v

-- the tokens aren't derived as a type, or they spell one over the limits on written types
pub data IsNoType (ts : List Token) : Type 0 where
  broken : (n : ℕ) → BreaksAt AnyType (classes ts) n → IsNoType ts
  too_large : (v : TypeTree) → SpellsType ts v → ¬ (IsWithinLimits v) → IsNoType ts
