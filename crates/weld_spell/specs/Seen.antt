-- Trees over tokens, as the grammar sees them.
use Rattle.weld_grammar.specs.declared.terminals.class.Class.{Class}
use Rattle.weld_grammar.specs.declared.terminals.token.Token.{Token}
use Rattle.weld_grammar.specs.Derivation.{Tree, leaf, node, empty, pair, here, there}

-- what the grammar sees of a tree of tokens
abbrev pub seen : Tree Token → Tree Class
seen (leaf t) = leaf t.class
seen (node t) = node (seen t)
seen empty = empty
seen (pair t u) = pair (seen t) (seen u)
seen (here t) = here (seen t)
seen (there t) = there (seen t)
