-- What the grammar finds in the tokens of a text.
use Rattle.std.specs.Prelude.{◌≡◌, ℕ, zero, suc, false, List, [], ◌∷◌, Some, None}
use Rattle.weld_tree.specs.declared.place.Place.{Place}
use Rattle.weld_grammar.specs.declared.terminals.token.Token.{Token}
use Rattle.weld_tokens.specs.declared.order.Findings.{Findings}
use Rattle.weld_tokens.specs.Tokens.{end_of}
use Rattle.weld_grammar.specs.declared.rule.Rule.TheVariants.{Program}
use Rattle.weld_grammar.specs.declared.item.Item.TheVariants.{Part as OfRule}
use Rattle.weld_grammar.specs.Grammar.{item}
use Rattle.weld_grammar.specs.Derivation.{Tree, yield, IsOf}
use Rattle.weld_grammar.specs.Breaks.{BreaksAt}
use Rattle.weld_grammar.specs.Classes.{classes}
use Rattle.weld_spell.specs.Seen.{seen}
use Rattle.weld_spell.specs.ProgramOf.{program_of}
use Rattle.weld_spell.specs.Ranges.{number_out_of_range}
use Rattle.weld_tokens.specs.Depth.{first_deep_node}
use Rattle.weld_tokens.specs.Lets.{has_too_many_lets}
use Rattle.weld_spell.specs.Measures.{type_too_large, parameter_too_many, field_too_many}
use Rattle.weld_spell.specs.Names.{first_misnamed}

-- the place of the token of this number, counted from 0; the end where there are no more tokens
abbrev pub place_at : List Token → ℕ → Place → Place
place_at [] n end = end
place_at (t ∷ ts) zero end = t.place
place_at (t ∷ ts) (suc n) end = place_at ts n end

-- the grammar is broken at this place: of what comes later nothing is found
abbrev pub broken_at : Place → Findings
broken_at place = record {
  ungrammatical = Some place;
  out_of_range = None;
  too_deep = None;
  too_many_lets = false;
  too_large_type = None;
  too_many_parameters = None;
  too_many_fields = None;
  misnamed = None;
}

-- the tree derives the tokens as a program
pub record IsTreeOf (tokens : List Token) (tree : Tree Token) : Type 0 where
  pub tree_of : IsOf (item (OfRule Program)) (seen tree)
  pub yields : yield tree ≡ tokens

-- what is found in tokens that a program's tree derives
abbrev pub found_in : Tree Token → Findings
found_in tree = record {
  ungrammatical = None;
  out_of_range = number_out_of_range tree;
  too_deep = first_deep_node (program_of tree).body;
  too_many_lets = has_too_many_lets (program_of tree).body;
  too_large_type = type_too_large tree;
  too_many_parameters = parameter_too_many (program_of tree).params;
  too_many_fields = field_too_many tree;
  misnamed = first_misnamed tree;
}

-- what the grammar finds in the tokens of a text: the place where they break it first, or what their tree shows
pub data Finds (text : List ℕ) (tokens : List Token) (found : Findings) : Type 0 where
  broken : (n : ℕ) → BreaksAt Program (classes tokens) n → found ≡ broken_at (place_at tokens n (end_of text)) → Finds text tokens found
  derived : (tree : Tree Token) → IsTreeOf tokens tree → found ≡ found_in tree → Finds text tokens found
