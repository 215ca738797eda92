-- The bytes of a token, as they are kept.
use Rattle.std.specs.Prelude.{ℕ, ◌≤◌, List, take}
use Rattle.weld_grammar.specs.declared.terminals.word.Bytes.{Bytes}
use Rattle.weld_grammar.specs.declared.terminals.word.Bytes.TheVariants.{Few, Many}

abbrev pub bytes_of : Bytes → List ℕ
bytes_of (Few count bytes) = take count bytes
bytes_of (Many text) = text.value

-- there are no more in place than have room
abbrev pub AreThere : Bytes → Type 0
AreThere (Few count bytes) = count ≤ 14
AreThere (Many text) = Unit {0}
