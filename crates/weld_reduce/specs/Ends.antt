-- What is left when a derivation has run through.
use Rattle.std.specs.Prelude.{◌≡◌, List, [], ◌∷◌}
use Rattle.weld_grammar.specs.declared.terminals.token.Token.{Token}
use Rattle.weld_grammar.specs.declared.rule.Rule.TheVariants.{Program, AnyType}
use Rattle.weld_grammar.specs.declared.item.Item.TheVariants.{Part as OfRule}
use Rattle.weld_grammar.specs.Grammar.{item}
use Rattle.weld_grammar.specs.Derivation.{Tree, yield, IsOf}
use Rattle.weld_tree.specs.declared.place.Place.{Place}
use Rattle.weld_spell.specs.Seen.{seen}
use Rattle.weld_spell.specs.ProgramOf.{program_of}
use Rattle.weld_spell.specs.TypeOf.{type_of}
use Rattle.weld_spell.specs.Names.{first_misnamed}
use Rattle.weld_reduce.specs.Values.{expr, ty}
use Rattle.weld_reduce.specs.States.{State}

-- the program of a tree of the tokens: its expression alone lies on the stack
pub record IsEndOf (ts : List Token) (st : State) : Type 0 where
  pub tree : Tree Token
  pub tree_of : IsOf (item (OfRule Program)) (seen tree)
  pub tokens : yield tree ≡ ts
  pub values : st.values ≡ expr (program_of tree).body ∷ []
  pub params : st.params ≡ (program_of tree).params
  pub misnamed : st.misnamed ≡ first_misnamed tree

-- the type of a tree of the tokens
pub record IsEndOfType (ts : List Token) (st : State) : Type 0 where
  pub tree : Tree Token
  pub tree_of : IsOf (item (OfRule AnyType)) (seen tree)
  pub tokens : yield tree ≡ ts
  pub place : Place
  pub values : st.values ≡ ty place (type_of tree) ∷ []
