-- The longest token at the front of a text, where its bytes and the byte behind them are known.
use Rattle.std.proofs.Common.{◌≡◌, ℕ, zero, suc, ◌+◌, ◌-◌, ◌<◌, ◌≤◌, Bool, true, false, cond, List, [], ◌∷◌, ◌++◌, length, take, refl, sym, ap, ◌∙◌, arith, Some, None}
use Rattle.std.proofs.Math.Seq.{take-append_seam, take-append-add}
use Rattle.std.proofs.lemmas.List.{length-append}
use Rattle.std.specs.Option.{is_some}
use Rattle.weld_grammar.specs.declared.terminals.class.Class.{Class}
use Rattle.weld_tokens.specs.Words.{class_of, is_token}
use Rattle.weld_tokens.specs.Tokens.{greatest, longest_token, gap_len}

greatest-at : (p : ℕ → Bool) (k n : ℕ) → n ≤ k → (0 < n → p n ≡ true) → ((m : ℕ) → n < m → m ≤ k → p m ≡ false) → greatest p k ≡ n
greatest-at p zero n h here above = omega arith
greatest-at p (suc k) n h here above =
    let step : (b : Bool) → p (suc k) ≡ b → cond b (suc k) (greatest p k) ≡ n =
    λ b. elim b as (λ b. p (suc k) ≡ b → cond b (suc k) (greatest p k) ≡ n) [
      | true ↦ λ e.
          let no : n < suc k → ⊥ = λ below. let bad : true ≡ false = sym e ∙ above (suc k) below (omega arith) in cc in
          omega (arith, no)
      | false ↦ λ e.
          let ne : n ≡ suc k → ⊥ = λ same. let there : p n ≡ true = here (omega arith) in let bad : true ≡ false = sym there ∙ ap p same ∙ e in cc in
          greatest-at p k n (omega (arith, ne)) here (λ m low high. above m low (omega arith))
    ] in
    step (p (suc k)) refl

-- the word is the longest token at the front of itself and these bytes, and no blank or comment stands before it
pub record Lexeme (word : List ℕ) (class : Class) (rest : List ℕ) : Type 0 where
  pub some : 0 < length word
  pub class_is : class_of word ≡ Some class
  pub longest : longest_token (word ++ rest) ≡ length word
  pub gapless : gap_len (word ++ rest) ≡ 0

-- no token goes on with what follows the word
abbrev pub NoneLonger : List ℕ → List ℕ → Type 0
NoneLonger word [] = Unit {0}
NoneLonger word (d ∷ ds) = (more : List ℕ) → class_of (word ++ (d ∷ more)) ≡ None

longer_none : (word rest : List ℕ) (k : ℕ) → NoneLonger word rest → 0 < k → k ≤ length rest → class_of (take (length word + k) (word ++ rest)) ≡ None
longer_none word [] k h low high = absurd (omega arith)
longer_none word (d ∷ ds) zero h low high = absurd (omega arith)
longer_none word (d ∷ ds) (suc k) h low high = ap class_of (take-append-add word (d ∷ ds) (suc k)) ∙ h (take k ds)

pub longest_is : (word rest : List ℕ) (class : Class) → 0 < length word → class_of word ≡ Some class → NoneLonger word rest → longest_token (word ++ rest) ≡ length word
unfolding longest_token is_token
longest_is word rest class some is none =
    let text = word ++ rest in
    let size : length text ≡ length word + length rest = length-append word rest in
    greatest-at (λ m. is_some (class_of (take m text))) (length text) (length word) (omega arith)
    (λ _. ap (λ (t : List ℕ). is_some (class_of t)) (take-append_seam word rest) ∙ ap is_some is)
    (λ m low high.
    let k = m - length word in
    let m_is : length word + k ≡ m = omega arith in
    let fits : k ≤ length rest = omega arith in
    let no : class_of (take (length word + k) text) ≡ None = longer_none word rest k none (omega arith) fits in
    ap (λ (j : ℕ). is_some (class_of (take j text))) (sym m_is) ∙ ap is_some no)

pub lexeme : (word rest : List ℕ) (class : Class) → 0 < length word → class_of word ≡ Some class → NoneLonger word rest → gap_len (word ++ rest) ≡ 0 → Lexeme word class rest
lexeme word rest class some is none gap = record { some = some; class_is = is; longest = longest_is word rest class some is none; gapless = gap }
