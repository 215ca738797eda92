-- Why the machine stops.
use Rattle.std.specs.Prelude.{⊤, List}
use Rattle.weld_grammar.specs.declared.terminals.class.Class.{Class}
use Rattle.weld_grammar.specs.declared.rule.Rule.{Rule}
use Rattle.weld_grammar.specs.Breaks.{BreaksAt}
use Rattle.weld_accept.specs.declared.stop.Stop.{Stop}
use Rattle.weld_accept.specs.declared.stop.Stop.TheVariants.{Break, Memory}

-- where it stops at a place, the tokens break the rule there first
abbrev pub StopsAt : Rule → List Class → Stop → Type 0
StopsAt r xs (Break n) = BreaksAt r xs n
StopsAt r xs Memory = ⊤
