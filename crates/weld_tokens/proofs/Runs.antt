-- Steps of the loops over the bytes of a token or of a gap.
use Rattle.std.proofs.Common.{◌≡◌, ℕ, suc, ◌+◌, ◌<◌, Bool, true, false, ◌&&◌, cond, eqb, List, ◌∷◌, length, drop, get_or, ap, ◌∙◌, arith, Some}
use Rattle.std.proofs.Math.Seq.{drop-cons}
use Rattle.std.specs.Prelude.{option_and_then}
use Rattle.std.specs.Option.{option_map}
use Rattle.weld_tokens.specs.Bytes.{is_blank, is_digit}
use Rattle.weld_grammar.specs.declared.terminals.class.Class.TheVariants as classes
use Rattle.weld_tokens.specs.Tokens.{gap_len, comment_len}
use Rattle.weld_tokens.specs.Scanning.{run_len, number_end, longer_number, end_in, is_item, next_part}
use Rattle.weld_tokens.specs.declared.scan.Part.{Part}

cut : (text : List ℕ) (i : ℕ) → i < length text → drop i text ≡ get_or text i 0 ∷ drop (i + 1) text
cut text i h = let e : suc i ≡ i + 1 = omega arith in drop-cons text i 0 h ∙ ap (λ n. get_or text i 0 ∷ drop n text) e

-- the bytes from i on begin with the byte at i
pub run-step : (test : ℕ → Bool) (text : List ℕ) (i : ℕ) → i < length text
    → run_len test (drop i text) ≡ cond (test (get_or text i 0)) (1 + run_len test (drop (i + 1) text)) 0
run-step test text i h = ap (run_len test) (cut text i h)

-- the bytes that are left of a gap
abbrev pub gap_left : Bool → List ℕ → ℕ
gap_left true text = comment_len text
gap_left false text = gap_len text

pub gap-step : (text : List ℕ) (i : ℕ) → i < length text
    → gap_left false (drop i text) ≡ cond (is_blank (get_or text i 0)) (1 + gap_left false (drop (i + 1) text)) (cond (eqb (get_or text i 0) 35) (1 + gap_left true (drop (i + 1) text)) 0)
gap-step text i h = ap gap_len (cut text i h)

pub comment-step : (text : List ℕ) (i : ℕ) → i < length text
    → gap_left true (drop i text) ≡ cond (eqb (get_or text i 0) 10) (1 + gap_left false (drop (i + 1) text)) (1 + gap_left true (drop (i + 1) text))
comment-step text i h = ap comment_len (cut text i h)

pub end-step : (part : Part) (text : List ℕ) (i : ℕ) → i < length text
    → end_in part (drop i text) ≡ cond (is_item part && eqb (get_or text i 0) 34) (Some 1) (option_and_then (λ next. option_map (λ n. suc n) (end_in next (drop (i + 1) text))) (next_part part (get_or text i 0)))
end-step part text i h = ap (end_in part) (cut text i h)

pub number-step : (text : List ℕ) (i : ℕ) → i < length text
    → number_end (drop i text) ≡ cond (is_digit (get_or text i 0)) (longer_number (number_end (drop (i + 1) text))) (cond (eqb (get_or text i 0) 76) (1, classes.Long) (0, classes.Int))
number-step text i h = ap number_end (cut text i h)
