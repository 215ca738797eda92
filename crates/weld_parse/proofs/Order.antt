-- What it means that no rule refuses, or that one does.
use Rattle.std.proofs.Common.{◌≡◌, refl, ℕ, zero, suc, ◌<◌, ◌≤◌, Bool, true, false, ltb, List, [], ◌∷◌, length, get_or, Option, Some, None, ap, sym, ◌∙◌, arith}
use Rattle.std.proofs.lemmas.Bool.{false≢true, or_parts, ltb-false}
use Rattle.weld_tree.specs.declared.place.Place.{Place}
use Rattle.weld_tree.specs.declared.code.Code.{Code}
use Rattle.weld_tree.specs.declared.code.Code.TheVariants.{X2, X3, M3, M4, M5, M6, M7, M8, M9}
use Rattle.weld_tree.specs.declared.refusal.Refusal.{Refusal}
use Rattle.weld_tree.specs.declared.refusal.Refusal.TheVariants.{At, Size}
use Rattle.weld_grammar.specs.declared.terminals.token.Token.{Token}
use Rattle.weld_tokens.specs.declared.order.Findings.{Findings}
use Rattle.weld_tokens.specs.TokenLimits.{has_too_many_tokens, nests_too_deep, first_long_name}
use Rattle.weld_tokens.specs.Order.{or_else, at, whole, named, first_refusal}
use Rattle.weld_parse.specs.Findings.{place_at, broken_at}

both_none : (a b : Option Refusal) → or_else a b ≡ None → (a ≡ None) × (b ≡ None)
both_none None b e = (refl, e)
both_none (Some x) b e = absurd (cc)

at_none : (code : Code) (place : Option Place) → at code place ≡ None → place ≡ None
at_none code None e = refl
at_none code (Some p) e = absurd (cc)

named_none : (found : Option (Code × Place)) → named found ≡ None → found ≡ None
named_none None e = refl
named_none (Some f) e = absurd (cc)

whole_none : (code : Code) (b : Bool) → whole code b ≡ None → b ≡ false
whole_none code true e = absurd (cc)
whole_none code false e = refl

record Parts (a c j : Option Refusal) : Type 0 where
  pub first : a ≡ None
  pub third : c ≡ None
  pub last : j ≡ None

parts : (a b c d e f g h i j : Option Refusal) → or_else a (or_else b (or_else c (or_else d (or_else e (or_else f (or_else g (or_else h (or_else i j)))))))) ≡ None → Parts a c j
parts a b c d e f g h i j k =
    let p0 = both_none a (or_else b (or_else c (or_else d (or_else e (or_else f (or_else g (or_else h (or_else i j)))))))) k in
    let p1 = both_none b (or_else c (or_else d (or_else e (or_else f (or_else g (or_else h (or_else i j))))))) p0.1 in
    let p2 = both_none c (or_else d (or_else e (or_else f (or_else g (or_else h (or_else i j)))))) p1.1 in
    let p3 = both_none d (or_else e (or_else f (or_else g (or_else h (or_else i j))))) p2.1 in
    let p4 = both_none e (or_else f (or_else g (or_else h (or_else i j)))) p3.1 in
    let p5 = both_none f (or_else g (or_else h (or_else i j))) p4.1 in
    let p6 = both_none g (or_else h (or_else i j)) p5.1 in
    let p7 = both_none h (or_else i j) p6.1 in
    let p8 = both_none i j p7.1 in
    record { first = p0.0; third = p2.0; last = p8.1 }

-- nothing is found
pub record Clean (tokens : List Token) (found : Findings) : Type 0 where
  pub few : has_too_many_tokens tokens ≡ false
  pub ranged : found.out_of_range ≡ None
  pub well_named : found.misnamed ≡ None

pub clean : (tokens : List Token) (found : Findings) → first_refusal tokens found ≡ None → Clean tokens found
clean tokens found e =
    let p = parts (whole M3 (has_too_many_tokens tokens)) (at X2 found.ungrammatical) (at X3 found.out_of_range) (at M4 found.too_deep) (whole M5 found.too_many_lets) (at M6 found.too_large_type) (at M7 found.too_many_parameters) (at M8 found.too_many_fields) (at M9 (first_long_name tokens)) (named found.misnamed) e in
    record { few = whole_none M3 (has_too_many_tokens tokens) p.first; ranged = at_none X3 found.out_of_range p.third; well_named = named_none found.misnamed p.last }

pub few_tokens : (tokens : List Token) → has_too_many_tokens tokens ≡ false → length tokens ≤ 16384
few_tokens tokens e = ltb-false 16384 (length tokens) (or_parts (ltb 16384 (length tokens)) (nests_too_deep 0 0 tokens) e).0

whole_true : (b : Bool) (rest : Option Refusal) → b ≡ true → or_else (whole M3 b) rest ≡ Some (Size M3)
whole_true true rest e = refl
whole_true false rest e = absurd (false≢true e)

-- M3 comes before all that the grammar finds
pub too_many : (tokens : List Token) (found : Findings) → has_too_many_tokens tokens ≡ true → first_refusal tokens found ≡ Some (Size M3)
too_many tokens found e = whole_true (has_too_many_tokens tokens) _ e

behind_false : (b : Bool) (rest : Option Refusal) → b ≡ false → or_else (whole M3 b) rest ≡ rest
behind_false true rest e = absurd (false≢true (sym e))
behind_false false rest e = refl

-- X2 comes next
pub broken_first : (tokens : List Token) (place : Place) → has_too_many_tokens tokens ≡ false → first_refusal tokens (broken_at place) ≡ Some (At X2 place)
broken_first tokens place e = behind_false (has_too_many_tokens tokens) _ e

-- X3 comes next
pub ranged_first : (tokens : List Token) (found : Findings) (place : Place) → has_too_many_tokens tokens ≡ false → found.ungrammatical ≡ None → found.out_of_range ≡ Some place → first_refusal tokens found ≡ Some (At X3 place)
ranged_first tokens found place few whole_text out =
    behind_false (has_too_many_tokens tokens) _ few ∙ behind_none (at X2 found.ungrammatical) _ (ap (at X2) whole_text) ∙ behind_some (at X3 found.out_of_range) _ (At X3 place) (ap (at X3) out)
  where
    behind_none : (a rest : Option Refusal) → a ≡ None → or_else a rest ≡ rest
    behind_none a rest e = ap (λ z. or_else z rest) e

    behind_some : (a rest : Option Refusal) (r : Refusal) → a ≡ Some r → or_else a rest ≡ Some r
    behind_some a rest r e = ap (λ z. or_else z rest) e

none_some : (r : Refusal) → None ≡ Some r → ⊥
none_some r e = cc

-- where the grammar is broken, some rule refuses
pub broken_refused : (tokens : List Token) (place : Place) → first_refusal tokens (broken_at place) ≡ None → ⊥
broken_refused tokens place e = cases (has_too_many_tokens tokens) refl
  where
    cases : (b : Bool) → has_too_many_tokens tokens ≡ b → ⊥
    cases true k = none_some (Size M3) (sym e ∙ too_many tokens (broken_at place) k)
    cases false k = none_some (At X2 place) (sym e ∙ broken_first tokens place k)

-- the place of the token of a number, and that of the end
pub at_token : (ts : List Token) (n : ℕ) (end : Place) (t : Token) → n < length ts → t ≡ get_or ts n t → t.place ≡ place_at ts n end
at_token [] n end t h e = absurd (omega arith)
at_token (u ∷ ts) zero end t h e = ap (λ (z : Token). z.place) e
at_token (u ∷ ts) (suc n) end t h e = at_token ts n end t (omega arith) e

pub at_end : (ts : List Token) (n : ℕ) (end : Place) → length ts ≤ n → end ≡ place_at ts n end
at_end [] n end h = refl
at_end (u ∷ ts) zero end h = absurd (omega arith)
at_end (u ∷ ts) (suc n) end h = at_end ts n end (omega arith)
