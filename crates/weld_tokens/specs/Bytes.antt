-- The bytes of program texts by what they may be part of.
use Rattle.std.specs.Prelude.{ℕ, Bool, true, ◌||◌, ◌&&◌, ◌==◌, nat_le, List, [], ◌∷◌}

-- space, tab, CR or LF
abbrev pub is_blank : ℕ → Bool
is_blank b = b == 32 || b == 9 || b == 13 || b == 10

-- `A` to `Z`, `a` to `z` or `_`
abbrev pub is_letter : ℕ → Bool
is_letter b = (nat_le 65 b && nat_le b 90) || (nat_le 97 b && nat_le b 122) || b == 95

-- a decimal digit
abbrev pub is_digit : ℕ → Bool
is_digit b = nat_le 48 b && nat_le b 57

-- a letter or a digit
abbrev pub is_word_byte : ℕ → Bool
is_word_byte b = is_letter b || is_digit b

-- a hexadecimal digit, of either case
abbrev pub is_hex : ℕ → Bool
is_hex b = is_digit b || (nat_le 65 b && nat_le b 70) || (nat_le 97 b && nat_le b 102)

-- a byte that stands for itself in a string: 0x20 to 0x7e, other than `"` and `\`
abbrev pub is_plain : ℕ → Bool
is_plain b = nat_le 32 b && nat_le b 33 || nat_le 35 b && nat_le b 91 || nat_le 93 b && nat_le b 126

-- what stands behind `\` for one byte: `"`, `\`, `n` or `t`
abbrev pub is_escape : ℕ → Bool
is_escape b = b == 34 || b == 92 || b == 110 || b == 116

-- each of these bytes passes the test
abbrev pub all_of : (ℕ → Bool) → List ℕ → Bool
all_of test [] = true
all_of test (b ∷ bs) = test b && all_of test bs
