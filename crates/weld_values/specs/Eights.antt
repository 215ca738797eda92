-- Eight bytes of text as one word.
use Rattle.std.specs.Prelude.{ℕ, ◌≤◌, ◌+◌, ◌*◌, ◌-◌, List, [], ◌∷◌, ◌++◌, map, length, replicate}
use Rattle.weld_values.specs.Tokens.{digit_run}

-- the word whose bytes these are, the first the lowest
abbrev pub word_of : List ℕ → ℕ
word_of [] = 0
word_of (byte ∷ bytes) = byte + 256 * word_of bytes

-- the numbers of the digits at the front, moved to the end of eight bytes, and 0 before them
abbrev pub padded : List ℕ → List ℕ
padded bytes = replicate (8 - length (digit_run bytes)) 0 ++ map (λ digit. digit - 48) (digit_run bytes)

-- each is a digit's number
abbrev pub AreSmall : List ℕ → Type 0
AreSmall [] = Unit {0}
AreSmall (digit ∷ digits) = (digit ≤ 9) × AreSmall digits
