-- The steps of reading a word.
use Rattle.std.proofs.Common.{◌≡◌, ℕ, ◌+◌, ◌<◌, ◌≤◌, List, length, drop, get_or, Some}
use Rattle.std.specs.Option.{option_and_then}
use Rattle.std.proofs.lemmas.List.{at_drop_more, at_drop_all}
use Rattle.weld_values.specs.Tokens.{after_byte, after_word}

pub word_step : (word text : List ℕ) (i : ℕ) → i < length word → after_word (drop i word) text ≡ option_and_then (after_word (drop (i + 1) word)) (after_byte (get_or word i 0) text)
unfolding after_word
word_step word text i h = at_drop_more (λ p. after_word p text) word i 0 h

pub word_end : (word text : List ℕ) (i : ℕ) → length word ≤ i → after_word (drop i word) text ≡ Some text
unfolding after_word
word_end word text i h = at_drop_all (λ p. after_word p text) word i h
