-- Why tokens aren't read as a program.
use Rattle.std.specs.Prelude.{◌≡◌, List, Some}
use Rattle.weld_grammar.specs.declared.terminals.token.Token.{Token}
use Rattle.weld_tokens.specs.Order.{first_number_out_of_range}
use Rattle.weld_grammar.specs.declared.rule.Rule.TheVariants.{Program}
use Rattle.weld_grammar.specs.Breaks.{Derives, BreaksAt}
use Rattle.weld_grammar.specs.Classes.{classes}
use Rattle.weld_parse.specs.declared.program.Unread.{Unread}
use Rattle.weld_parse.specs.declared.program.Unread.TheVariants.{Broken, OutOfRange, Memory}

-- they break the grammar first at this token; or they are a program in which the number at this place is the first out of its range;
-- want of memory has no cause here
abbrev pub WhyUnread : List Token → Unread → Type 0
WhyUnread tokens (Broken n) = BreaksAt Program (classes tokens) n
WhyUnread tokens (OutOfRange place) = Derives Program (classes tokens) × (first_number_out_of_range tokens ≡ Some place)
WhyUnread tokens Memory = Unit {0}
