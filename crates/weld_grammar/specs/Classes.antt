-- What the grammar sees of tokens.
use Rattle.std.specs.Prelude.{List, map}
use Rattle.weld_grammar.specs.declared.terminals.class.Class.{Class}
use Rattle.weld_grammar.specs.declared.terminals.token.Token.{Token}

-- the classes of tokens
abbrev pub classes : List Token → List Class
classes ts = map (λ t. t.class) ts
