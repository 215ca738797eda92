-- What the scanner of this crate answers, one function after another. The public rules are in the files beside this one.
use Rattle.std.specs.Prelude.{◌≡◌, ℕ, suc, ◌+◌, ◌<◌, ◌≤◌, Bool, true, false, ◌&&◌, ◌==◌, nat_eq, if◌then◌else◌, List, [], ◌∷◌, length, take, Option, Some, None, option_and_then}
use Rattle.std.specs.Option.{option_map}
use Rattle.weld_grammar.specs.declared.terminals.class.Class.{Class}
use Rattle.weld_grammar.specs.declared.terminals.class.Class.TheVariants as classes
use Rattle.weld_grammar.specs.declared.terminals.reserved.Reserved.{Reserved}
use Rattle.weld_grammar.specs.ReservedWords.{reserved_text}
use Rattle.weld_tokens.specs.declared.scan.Part.{Part}
use Rattle.weld_tokens.specs.declared.scan.Part.TheVariants.{Item, Escape, Hex, LastHex}
use Rattle.weld_tokens.specs.Bytes.{is_letter, is_digit, is_hex, is_plain, is_escape}
use Rattle.weld_tokens.specs.Words.{class_of}
use Rattle.weld_tokens.specs.Tokens.{longest_token}

-- how many bytes at the front pass the test
abbrev pub run_len : (ℕ → Bool) → List ℕ → ℕ
run_len test [] = 0
run_len test (b ∷ bs) = if test b then 1 + run_len test bs else 0

-- how many bytes of a number stand behind its first digit, and the number's class
abbrev pub longer_number : ℕ × Class → ℕ × Class
longer_number found = (suc found.0, found.1)

abbrev pub number_end : List ℕ → ℕ × Class
number_end [] = (0, classes.Int)
number_end (b ∷ bs) = if is_digit b then longer_number (number_end bs) else if b == 76 then (1, classes.Long) else (0, classes.Int)

-- the part of a string that follows a byte, other than the `"` that ends it
abbrev pub next_part : Part → ℕ → Option Part
next_part Item b = if b == 92 then Some Escape else if is_plain b then Some Item else None
next_part Escape b = if b == 120 then Some Hex else if is_escape b then Some Item else None
next_part Hex b = if is_hex b then Some LastHex else None
next_part LastHex b = if is_hex b then Some Item else None

-- an item or the end is awaited
abbrev pub is_item : Part → Bool
is_item Item = true
is_item Escape = false
is_item Hex = false
is_item LastHex = false

-- how many bytes there are up to the `"` that ends the string
abbrev pub end_in : Part → List ℕ → Option ℕ
end_in part [] = None
end_in part (b ∷ bs) = if is_item part && b == 34 then Some 1 else option_and_then (λ next. option_map (λ n. suc n) (end_in next bs)) (next_part part b)

-- the text begins with the byte
abbrev pub leads : ℕ → List ℕ → Bool
leads b [] = false
leads b (c ∷ cs) = c == b

-- those of these reserved words that begin with the byte
abbrev pub led_by : ℕ → List Reserved → List Reserved
led_by b [] = []
led_by b (r ∷ rs) = if leads b (reserved_text r) then r ∷ led_by b rs else led_by b rs

-- the longest token at the front of a text has so many bytes, and this class
pub record IsLongest (text : List ℕ) (n : ℕ) (class : Class) : Type 0 where
  pub some : 0 < n
  pub within : n ≤ length text
  pub longest : longest_token text ≡ n
  pub class_is : class_of (take n text) ≡ Some class

-- a byte that begins no word, number, field or string
pub record IsOther (b : ℕ) : Type 0 where
  pub letter : is_letter b ≡ false
  pub digit : is_digit b ≡ false
  pub dollar : nat_eq b 36 ≡ false
  pub quote : nat_eq b 34 ≡ false
