-- A word that may stand is long, or plain.
use Rattle.std.proofs.Common.{◌≡◌, ◌≢◌, ◌∙◌, ℕ, Bool, cond, true, false, refl, sym, ap, List, [], ◌∷◌, Option, Some, None}
use Rattle.std.specs.Prelude.{◌||◌, ◌&&◌, ◌==◌, not, option_and_then}
use Rattle.std.specs.Str.{bytes_eq}
use Rattle.std.specs.List.{AllByRecursion}
use Rattle.std.proofs.lemmas.Bool.{eqb-true, eq-eqb}
use Rattle.clap.specs.Lexer.{strip_byte, long_of_rest, short_of_rest, long_of, short_of}
use Rattle.weld_words.specs.Line.{may_stand, is_long_rest, has_more}
use Rattle.weld_words.specs.Words.{Text, IsPlain}
use Rattle.weld_words.proofs.Steps.{Stands, two_hyphens}
use Rattle.weld_words.proofs.Reading.{AllStand}
use Rattle.weld_words.proofs.Lexing.{AllMay}

differs : (c : ℕ) → (c == 45) ≡ false → c ≢ 45
differs c e h = let f : (c == 45) ≡ true = eq-eqb c 45 h in let no : true ≡ false = sym f ∙ e in cc

and_first : (a b : Bool) → (a && b) ≡ true → (a ≡ true) × (b ≡ true)
and_first true b e = (refl, e)
and_first false b e = cc

plain_stands : (c : ℕ) (cs : Text) → (c == 45) ≡ false → Stands (c ∷ cs)
plain_stands c cs e = record {
  not_hyphens = ap (λ (b : Bool). b && bytes_eq cs (45 ∷ [])) e;
  not_short = λ h. ap (λ (b : Bool). option_and_then short_of_rest (cond b (Some cs) None)) e;
  plain = λ h. differs c e;
}

long_stands : (c d x : ℕ) (xs : Text) → (c == 45) ≡ true → (d == 45) ≡ true → Stands (c ∷ d ∷ x ∷ xs)
long_stands c d x xs e f = record {
  not_hyphens = ap₂' (c == 45) (d == 45) e f;
  not_short = λ h. absurd (is_long h);
  plain = λ h. absurd (is_long h);
}
  where
    ap₂' : (a b : Bool) → a ≡ true → b ≡ true → (a && (b && false)) ≡ false
    ap₂' true true e f = refl
    ap₂' true false e f = refl
    ap₂' false b e f = refl

    is_long : long_of (c ∷ d ∷ x ∷ xs) ≡ None → ⊥
    is_long h =
        let g : option_and_then long_of_rest (option_and_then (strip_byte 45) (cond true (Some (d ∷ x ∷ xs)) None)) ≡ None = ap (λ (b : Bool). option_and_then long_of_rest (option_and_then (strip_byte 45) (cond b (Some (d ∷ x ∷ xs)) None))) (sym e) ∙ h in
        let k : option_and_then long_of_rest (cond true (Some (x ∷ xs)) None) ≡ None = ap (λ (b : Bool). option_and_then long_of_rest (cond b (Some (x ∷ xs)) None)) (sym f) ∙ g in
        cc

rest_stands : (c : ℕ) (cs : Text) → (c == 45) ≡ true → is_long_rest cs ≡ true → Stands (c ∷ cs)
rest_stands c [] e h = absurd (let no : false ≡ true = h in cc)
rest_stands c (d ∷ []) e h = absurd (let no : (d == 45 ≡ true) × (false ≡ true) = and_first (d == 45) false h in let f : false ≡ true = no.1 in cc)
rest_stands c (d ∷ x ∷ xs) e h = long_stands c d x xs e (and_first (d == 45) true h).0

pub stands : (w : Text) → may_stand w ≡ true → Stands w
stands [] h = record { not_hyphens = refl; not_short = λ e. refl; plain = λ e. tt }
stands (c ∷ cs) h = go (c == 45) refl h
  where
    go : (b : Bool) → (c == 45) ≡ b → (not b || is_long_rest cs) ≡ true → Stands (c ∷ cs)
    go true e g = rest_stands c cs e g
    go false e g = plain_stands c cs e

pub all_stand : (ws : List Text) → AllMay ws → AllStand ws
all_stand [] h = tt
all_stand (w ∷ ws) h = (stands w h.0, all_stand ws h.1)
