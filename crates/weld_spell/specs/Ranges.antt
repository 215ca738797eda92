-- The number that is first out of its range, by the tree of the tokens.
use Rattle.std.specs.Prelude.{Bool, true, false, if◌then◌else◌, Option, Some, None, ◌∷◌}
use Rattle.weld_tree.specs.declared.place.Place.{Place}
use Rattle.weld_grammar.specs.declared.terminals.token.Token.{Token}
use Rattle.weld_grammar.specs.declared.rule.Rule.{Rule}
use Rattle.weld_grammar.specs.declared.rule.Rule.TheVariants.{Program, Minused}
use Rattle.weld_grammar.specs.declared.item.Item.TheVariants.{One, Part as OfRule, Optional, Repeated}
use Rattle.weld_grammar.specs.Grammar.{Part, item, all_of, one_of, body}
use Rattle.weld_grammar.specs.Derivation.{Tree, leaf, node, pair, here, there}
use Rattle.weld_tokens.specs.Order.{out_of_range}

-- the first of two places
abbrev pub or_else : Option Place → Option Place → Option Place
or_else None other = other
or_else (Some place) other = Some place

-- the place of a token that is a number out of its range, where `negative` says that it is that of a negative literal
abbrev pub refused_number : Bool → Token → Option Place
refused_number negative t = if out_of_range t.class negative t.word then Some t.place else None

-- what stands behind the minus of an operand: a number there is that of a negative literal
abbrev pub is_minused : Rule → Bool
is_minused Minused = true
is_minused _ = false

-- the place of the first number out of its range in a tree of the part, where `negative` says that the part is what stands behind a minus
abbrev pub out_of_range_in : Bool → Part → Tree Token → Option Place
out_of_range_in negative (item (One a)) (leaf t) = refused_number negative t
out_of_range_in negative (item (OfRule r)) (node t) = out_of_range_in (is_minused r) (body r) t
out_of_range_in negative (item (Optional r)) (here t) = out_of_range_in false (item (OfRule r)) t
out_of_range_in negative (item (Repeated r)) (pair t u) = or_else (out_of_range_in false (item (OfRule r)) t) (out_of_range_in false (item (Repeated r)) u)
out_of_range_in negative (all_of (i ∷ rest)) (pair t u) = or_else (out_of_range_in false (item i) t) (out_of_range_in false (all_of rest) u)
out_of_range_in negative (one_of (i ∷ rest)) (here t) = out_of_range_in negative (item i) t
out_of_range_in negative (one_of (i ∷ rest)) (there t) = out_of_range_in negative (one_of rest) t
out_of_range_in negative p t = None

-- X3 of a program's tree
abbrev pub number_out_of_range : Tree Token → Option Place
number_out_of_range t = out_of_range_in false (item (OfRule Program)) t
