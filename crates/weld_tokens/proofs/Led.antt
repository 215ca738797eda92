-- A word is a reserved one only if it is one of those that begin as it does.
use Rattle.std.proofs.Common.{◌≡◌, ℕ, true, false, cond, List, [], ◌∷◌, length, arith, refl, sym, ap, ◌∙◌, Option, Some}
use Rattle.std.specs.Str.{bytes_eq}
use Rattle.weld_grammar.specs.declared.terminals.reserved.Reserved.{Reserved}
use Rattle.weld_grammar.specs.ReservedWords.{reserved_text}
use Rattle.weld_grammar.specs.declared.terminals.class.Class.{Class}
use Rattle.weld_grammar.specs.declared.terminals.class.Class.TheVariants.{Name}
use Rattle.weld_tokens.specs.Words.{written_so, word_class, reserved_or_name, all_reserved}
use Rattle.weld_tokens.specs.Scanning.{leads, led_by}

-- a text that begins with another byte is another
pub led_otherwise : (b : ℕ) (bs text : List ℕ) → leads b text ≡ false → bytes_eq text (b ∷ bs) ≡ false
led_otherwise b bs [] h = refl
led_otherwise b bs (c ∷ cs) h = rw h refl

-- a word is among reserved ones just if it is among those that begin as it does
pub written_led : (b : ℕ) (bs : List ℕ) (rs : List Reserved) → written_so (b ∷ bs) (led_by b rs) ≡ written_so (b ∷ bs) rs
written_led b bs [] = refl
written_led b bs (r ∷ rs) =
    let rest : written_so (b ∷ bs) (led_by b rs) ≡ written_so (b ∷ bs) rs = written_led b bs rs in
    elim (leads b (reserved_text r)) as (λ t. leads b (reserved_text r) ≡ t → written_so (b ∷ bs) (cond t (r ∷ led_by b rs) (led_by b rs)) ≡ written_so (b ∷ bs) (r ∷ rs)) [
      | true ↦ λ h. ap (λ o. cond (bytes_eq (reserved_text r) (b ∷ bs)) (Some r) o) rest
      | false ↦ λ h. rest ∙ ap (λ t. cond t (Some r) (written_so (b ∷ bs) rs)) (sym (led_otherwise b bs (reserved_text r) h))
    ] refl

-- a reserved word that begins with another byte is passed over
pub passed : (b : ℕ) (r : Reserved) (rs : List Reserved) → leads b (reserved_text r) ≡ false → led_by b rs ≡ [] → led_by b (r ∷ rs) ≡ []
passed b r rs h none = rw h none

-- so is its class
pub class_led : (word : List ℕ) (b : ℕ) (bs : List ℕ) (some : List Reserved) (found : Option Reserved) (class : Class) → word ≡ b ∷ bs
    → some ≡ led_by b all_reserved → found ≡ written_so word some → class ≡ reserved_or_name found → class ≡ word_class word
unfolding word_class
class_led word b bs some found class is some_is found_is class_is =
    let led : written_so word (led_by b all_reserved) ≡ written_so word all_reserved = rw is (written_led b bs all_reserved) in
    class_is ∙ ap reserved_or_name (found_is ∙ ap (written_so word) some_is ∙ led)

pub class_nil : (word : List ℕ) → length word ≡ 0 → Name ≡ word_class word
unfolding word_class
class_nil [] h = refl
class_nil (b ∷ bs) h = absurd (omega arith)
