-- A text has one reading.
use Rattle.std.proofs.Common.{◌≡◌, ℕ, List, [], ◌∷◌, refl, sym, ap, subst, ◌∙◌, arith, Some}
use Rattle.weld_tree.specs.declared.place.Place.{Place}
use Rattle.weld_grammar.specs.declared.terminals.class.Class.{Class}
use Rattle.weld_grammar.specs.declared.terminals.token.Token.{Token}
use Rattle.std.specs.List.{AllByRecursion}
use Rattle.weld_tokens.specs.Words.{class_of}
use Rattle.weld_tokens.specs.Tokens.{start, longest_token, word_place, place_behind, after_gap, after_word, IsFirst, Begins, AreTokens, IsWrongAt}
use Rattle.weld_tokens.proofs.Longest.{longest-nil}

same-token : (t u : Token) → t.class ≡ u.class → t.word ≡ u.word → t.place ≡ u.place → t ≡ u
same-token t u c w p =
    let make : Class → List ℕ → Place → Token = λ class word place. record { class = class; word = word; place = place } in
    ap (λ (k : Class). make k t.word t.place) c ∙ ap (λ (k : List ℕ). make u.class k t.place) w ∙ ap (λ (k : Place). make u.class u.word k) p

some-same : (a b : Class) → Some a ≡ Some b → a ≡ b
some-same a b e = cc

first-same : (place : Place) (text : List ℕ) (t u : Token) → IsFirst place text t → IsFirst place text u → t ≡ u
first-same place text t u a b =
    same-token t u (some-same t.class u.class (sym a.class_is ∙ b.class_is)) (a.word_is ∙ sym b.word_is) (a.place_is ∙ sym b.place_is)

-- what is left where no token begins
pub record Ends (tokens others : List Token) (here there : Place) (rest last : List ℕ) : Type 0 where
  pub tokens_are : tokens ≡ others
  pub here_is : here ≡ there
  pub rest_is : rest ≡ last

pub ends-same : (place : Place) (text : List ℕ) (a b : List Token) (here there : Place) (rest last : List ℕ) → Begins place text a here rest → Begins place text b there last
    → longest_token (after_gap rest) ≡ 0 → longest_token (after_gap last) ≡ 0 → Ends a b here there rest last
ends-same place text [] [] here there rest last x y none ends = record { tokens_are = refl; here_is = x.0 ∙ sym y.0; rest_is = x.1 ∙ sym y.1 }
ends-same place text [] (u ∷ b) here there rest last x y none ends =
    let zero_here : longest_token (after_gap text) ≡ 0 = subst (λ (r : List ℕ). longest_token (after_gap r) ≡ 0) x.1 none in
    let some = y.0.some in
    absurd (omega (arith, zero_here, some))
ends-same place text (t ∷ a) [] here there rest last x y none ends =
    let zero_here : longest_token (after_gap text) ≡ 0 = subst (λ (r : List ℕ). longest_token (after_gap r) ≡ 0) y.1 ends in
    let some = x.0.some in
    absurd (omega (arith, zero_here, some))
ends-same place text (t ∷ a) (u ∷ b) here there rest last x y none ends =
    let more = ends-same (place_behind place text) (after_word text) a b here there rest last x.1 y.1 none ends in
    record {
      tokens_are = ap (λ (k : Token). k ∷ a) (first-same place text t u x.0 y.0) ∙ ap (λ (k : List Token). u ∷ k) more.tokens_are;
      here_is = more.here_is;
      rest_is = more.rest_is;
    }

over-none : (rest : List ℕ) → after_gap rest ≡ [] → longest_token (after_gap rest) ≡ 0
over-none rest over = ap longest_token over ∙ longest-nil

pub one-tokens : (text : List ℕ) (a b : List Token) → AreTokens text a → AreTokens text b → a ≡ b
one-tokens text a b x y =
    (ends-same start text a b x.here y.here x.rest y.rest x.begins y.begins (over-none x.rest x.over) (over-none y.rest y.over)).tokens_are

pub one-wrong : (text : List ℕ) (p q : Place) → IsWrongAt text p → IsWrongAt text q → p ≡ q
one-wrong text p q x y =
    let same = ends-same start text x.tokens y.tokens x.here y.here x.rest y.rest x.begins y.begins x.none y.none in
    x.place_is ∙ ap (λ (h : Place). word_place h x.rest) same.here_is ∙ ap (word_place y.here) same.rest_is ∙ sym y.place_is

pub not-both : (text : List ℕ) (a : List Token) (p : Place) → AreTokens text a → IsWrongAt text p → ⊥
not-both text a p x y =
    let same = ends-same start text a y.tokens x.here y.here x.rest y.rest x.begins y.begins (over-none x.rest x.over) y.none in
    y.some (sym (ap after_gap same.rest_is) ∙ x.over)

-- each token has the class of its bytes
begins-classes : (place : Place) (text : List ℕ) (tokens : List Token) (here : Place) (rest : List ℕ) → Begins place text tokens here rest → AllByRecursion (λ t. class_of t.word ≡ Some t.class) tokens
begins-classes place text [] here rest b = tt
begins-classes place text (t ∷ tokens) here rest b =
    (ap class_of b.0.word_is ∙ b.0.class_is, begins-classes (place_behind place text) (after_word text) tokens here rest b.1)

pub classes-of : (text : List ℕ) (tokens : List Token) → AreTokens text tokens → AllByRecursion (λ t. class_of t.word ≡ Some t.class) tokens
classes-of text tokens a = begins-classes start text tokens a.here a.rest a.begins
