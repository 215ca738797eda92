-- That alternatives begin apart, but for what may stand behind a minus.
use Rattle.std.specs.Prelude.{Bool, true, false, not, ◌&&◌, ◌||◌, List, [], ◌∷◌}
use Rattle.weld_grammar.specs.declared.terminals.class.Class.{Class}
use Rattle.weld_grammar.specs.declared.rule.Rule.{Rule}
use Rattle.weld_grammar.specs.declared.rule.Rule.TheVariants.{Minused}
use Rattle.weld_grammar.specs.declared.item.Item.{Item}
use Rattle.weld_grammar.specs.Grammar.{Part, item, all_of, one_of}
use Rattle.weld_grammar.specs.Begins.{begins}

-- the rule's alternatives are taken by their order
abbrev pub takes_order : Rule → Bool
takes_order Minused = true
takes_order _ = false

-- a token of the class may begin one of the items
abbrev pub any_begins : List Item → Class → Bool
any_begins [] x = false
any_begins (i ∷ rest) x = begins i x || any_begins rest x

-- a token of the class begins at most one of the items
abbrev pub apart : List Item → Class → Bool
apart [] x = true
apart (i ∷ rest) x = not (begins i x && any_begins rest x) && apart rest x

-- a token of the class begins at most one of the part's alternatives
abbrev pub choices_apart : Part → Class → Bool
choices_apart (item i) x = true
choices_apart (all_of s) x = true
choices_apart (one_of s) x = apart s x
