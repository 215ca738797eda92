-- What a number in 64 bits stands for.
use Rattle.std.specs.Prelude.{◌≡◌}
use Rattle.weld_data.specs.Value.{Value, number}
use Rattle.weld_eval.specs.declared.short.Short.{Short}
use Rattle.weld_eval.specs.Word.{of_word}

abbrev pub view_short : Short → Value
view_short s = number s.kind (of_word s.kind s.word)

-- the number is the word itself
abbrev pub IsWord : Short → Type 0
IsWord s = of_word s.kind s.word ≡ s.word
