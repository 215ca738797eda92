-- The printed text of a string reads as its bytes.
use Rattle.std.proofs.Common.{◌≡◌, ℕ, ◌+◌, ◌*◌, ◌/◌, ◌%◌, ◌<◌, Bool, true, false, ◌&&◌, ◌==◌, cond, nat_le, List, [], ◌∷◌, ◌++◌, refl, sym, ap, ◌∙◌, arith, Some, None, append_assoc}
use Rattle.std.proofs.lemmas.Bool.Decides.{nat_tests}
use Rattle.std.proofs.lemmas.Bool.{eqb-true}
use Rattle.weld_grammar.specs.declared.terminals.class.Class.TheVariants as classes
use Rattle.weld_tokens.specs.Bytes.{is_hex, is_plain}
use Rattle.weld_tokens.specs.Words.{class_of, ends_string}
use Rattle.weld_tokens.specs.Literals.{string_value, items_value, hex_value}
use Rattle.weld_write_value.specs.Showing.{shown_byte, hex_of}
use Rattle.weld_print.specs.PrintText.{items_text}
use Rattle.weld_print.specs.Spellable.{AreBytes}
use Rattle.weld_print.proofs.Longest.{Lexeme, NoneLonger, lexeme}

hex_is : (n : ℕ) → n < 16 → is_hex (hex_of n) ≡ true
hex_is n h = grind (arith, nat_tests)

hex_back : (n : ℕ) → n < 16 → hex_value (hex_of n) ≡ n
hex_back n h = grind (arith, nat_tests)

-- one byte of a string: it doesn't end the string, and reads as itself
record ByteReads (b : ℕ) (text tail : List ℕ) : Type 0 where
  ends : ends_string (text ++ tail) ≡ ends_string tail
  value : items_value (text ++ tail) ≡ b ∷ items_value tail

hex_reads : (b : ℕ) (tail : List ℕ) → b < 256 → ByteReads b (92 ∷ 120 ∷ hex_of (b / 16) ∷ hex_of (b % 16) ∷ []) tail
hex_reads b tail h =
    let high : b / 16 < 16 = omega arith in
    let low : b % 16 < 16 = omega arith in
    let whole : hex_value (hex_of (b / 16)) * 16 + hex_value (hex_of (b % 16)) ≡ b = omega (arith, hex_back (b / 16) high, hex_back (b % 16) low) in
    record {
      ends = (λ i. hex_is (b / 16) high i && (hex_is (b % 16) low i && ends_string tail));
      value = ap (λ (x : ℕ). x ∷ items_value tail) whole;
    }

plain_reads : (b : ℕ) (tail : List ℕ) → (b == 34) ≡ false → (b == 92) ≡ false → is_plain b ≡ true → ByteReads b (b ∷ []) tail
plain_reads b tail quote slash plain = record { ends = rw (quote, slash, plain) refl; value = rw (quote, slash) refl }

quote_reads : (b : ℕ) (tail : List ℕ) → b ≡ 34 → ByteReads b (92 ∷ 34 ∷ []) tail
quote_reads b tail e = record { ends = refl; value = ap (λ (x : ℕ). x ∷ items_value tail) (sym e) }

slash_reads : (b : ℕ) (tail : List ℕ) → b ≡ 92 → ByteReads b (92 ∷ 92 ∷ []) tail
slash_reads b tail e = record { ends = refl; value = ap (λ (x : ℕ). x ∷ items_value tail) (sym e) }

byte_reads : (b : ℕ) (tail : List ℕ) → b < 256 → ByteReads b (shown_byte b) tail
byte_reads b tail h = by_quote (b == 34) refl
  where
    by_plain : (p : Bool) → (nat_le 32 b && nat_le b 126) ≡ p → (b == 34) ≡ false → (b == 92) ≡ false → ByteReads b (cond p (b ∷ []) (92 ∷ 120 ∷ hex_of (b / 16) ∷ hex_of (b % 16) ∷ [])) tail
    by_plain true p quote slash = let plain : is_plain b ≡ true = grind (arith, nat_tests) in plain_reads b tail quote slash plain
    by_plain false p quote slash = hex_reads b tail h

    by_slash : (s : Bool) → (b == 92) ≡ s → (b == 34) ≡ false → ByteReads b (cond s (92 ∷ 92 ∷ []) (cond (nat_le 32 b && nat_le b 126) (b ∷ []) (92 ∷ 120 ∷ hex_of (b / 16) ∷ hex_of (b % 16) ∷ []))) tail
    by_slash true s quote = slash_reads b tail (eqb-true b 92 s)
    by_slash false s quote = by_plain (nat_le 32 b && nat_le b 126) refl quote s

    by_quote : (q : Bool) → (b == 34) ≡ q → ByteReads b (cond q (92 ∷ 34 ∷ []) (cond (b == 92) (92 ∷ 92 ∷ []) (cond (nat_le 32 b && nat_le b 126) (b ∷ []) (92 ∷ 120 ∷ hex_of (b / 16) ∷ hex_of (b % 16) ∷ [])))) tail
    by_quote true q = quote_reads b tail (eqb-true b 34 q)
    by_quote false q = by_slash (b == 92) refl q

items_end : (bs tail : List ℕ) → AreBytes bs → ends_string (items_text bs ++ tail) ≡ ends_string tail
items_end [] tail h = refl
items_end (b ∷ bs) tail h =
    ap ends_string (append_assoc (shown_byte b) (items_text bs) tail) ∙ (byte_reads b (items_text bs ++ tail) h.0).ends ∙ items_end bs tail h.1

items_back : (bs tail : List ℕ) → AreBytes bs → items_value (items_text bs ++ (34 ∷ tail)) ≡ bs
items_back [] tail h = refl
items_back (b ∷ bs) tail h =
    ap items_value (append_assoc (shown_byte b) (items_text bs) (34 ∷ tail)) ∙ (byte_reads b (items_text bs ++ (34 ∷ tail)) h.0).value ∙ ap (λ (x : List ℕ). b ∷ x) (items_back bs tail h.1)

-- the word of a string
abbrev pub string_word : List ℕ → List ℕ
string_word bs = 34 ∷ (items_text bs ++ (34 ∷ []))

pub string_back : (bs : List ℕ) → AreBytes bs → string_value (string_word bs) ≡ bs
string_back bs h = items_back bs [] h

string_class : (bs : List ℕ) → AreBytes bs → class_of (string_word bs) ≡ Some classes.Chars
unfolding class_of
string_class bs h = rw (items_end bs (34 ∷ []) h) refl

string_none : (bs : List ℕ) (d : ℕ) (more : List ℕ) → AreBytes bs → class_of (string_word bs ++ (d ∷ more)) ≡ None
unfolding class_of
string_none bs d more h =
    let no : ends_string ((items_text bs ++ (34 ∷ [])) ++ (d ∷ more)) ≡ false = ap ends_string (append_assoc (items_text bs) (34 ∷ []) (d ∷ more)) ∙ items_end bs (34 ∷ d ∷ more) h in
    rw no refl

string_longer : (bs rest : List ℕ) → AreBytes bs → NoneLonger (string_word bs) rest
string_longer bs [] h = tt
string_longer bs (d ∷ ds) h = λ more. string_none bs d more h

pub string_lexeme : (bs rest : List ℕ) → AreBytes bs → Lexeme (string_word bs) classes.Chars rest
string_lexeme bs rest h = lexeme (string_word bs) rest classes.Chars (omega arith) (string_class bs h) (string_longer bs rest h) refl
