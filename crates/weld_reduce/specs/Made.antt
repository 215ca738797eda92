-- How many binders the steps of a derivation make.
use Rattle.std.specs.Prelude.{ℕ, ◌+◌, List, [], ◌∷◌}
use Rattle.weld_grammar.specs.declared.terminals.symbol.Symbol.TheVariants.{Equals}
use Rattle.weld_grammar.specs.declared.terminal.Terminal.{Terminal}
use Rattle.weld_grammar.specs.declared.terminal.Terminal.TheVariants.{Sign}
use Rattle.weld_grammar.specs.declared.rule.Rule.{Rule}
use Rattle.weld_grammar.specs.declared.rule.Rule.TheVariants.{Bind, Param}
use Rattle.weld_accept.specs.declared.step.Step.{Step}
use Rattle.weld_accept.specs.declared.step.Step.TheVariants.{Shift, Reduce}

-- the `=` of a `let` makes one
abbrev pub made_by_terminal : Terminal → ℕ
made_by_terminal (Sign Equals) = 1
made_by_terminal _ = 0

-- a name of a lambda, or of the program's parameters, makes one
abbrev pub made_by_rule : Rule → ℕ
made_by_rule Bind = 1
made_by_rule Param = 1
made_by_rule _ = 0

abbrev pub made_by : Step → ℕ
made_by (Shift a) = made_by_terminal a
made_by (Reduce r) = made_by_rule r

-- in all
abbrev pub binders_made : List Step → ℕ
binders_made [] = 0
binders_made (step ∷ steps) = made_by step + binders_made steps
