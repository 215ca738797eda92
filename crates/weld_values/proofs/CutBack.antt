-- What stands at the front of a text that goes on with a comma stands before that comma.
use Rattle.std.proofs.Common.{◌≡◌, sym, ◌∙◌, ℕ, Bool, true, false, ◌==◌, cond, List, [], ◌∷◌, ◌++◌, Option, Some, None, refl, ap, subst, inl, inr, ◌⊎◌, codes, pos, neg_ℤ, ℤ}
use Rattle.std.proofs.lemmas.Bool.{false≢true}
use Rattle.std.specs.Option.{option_map}
use Rattle.weld_data.specs.declared.kind.Kind.{Kind}
use Rattle.weld_data.specs.declared.kind.Kind.TheVariants.{Bool as BoolKind, I8, I16, I32, I64, U8, U16, U32, U64}
use Rattle.weld_data.specs.Value.{Value, number}
use Rattle.weld_values.specs.Tokens.{after_blanks, after_byte, byte_at, after_word, digit_run, after_digits, value_after, numeral_of, numeral_at, signed_at, integer_at}
use Rattle.weld_values.specs.Grammar.{More, Listed, Found, or_else, truth_at, number_at, scalar_at}
use Rattle.weld_values.specs.Pieces.{Separated}
use Rattle.weld_values.proofs.Listings.{some_is, none_is}
use Rattle.weld_values.proofs.Shrinks.{map_some}
use Rattle.weld_values.proofs.Cuts.{after_blank, after_bare, run_carried, digits_carried, word_front, true_here, false_here, no_truth, with_sign, with_kind, with_truth}

-- what was found before the comma
abbrev Before : {A : Type 0} → (List ℕ → Option (A × List ℕ)) → List ℕ → List ℕ → A → List ℕ → Type 0
Before at text q x rest = (mid : List ℕ) × (rest ≡ mid ++ 44 ∷ q) × (at text ≡ Some (x, mid))

numeral_by : (run mid q : List ℕ) (n : ℕ) (rest : List ℕ) → numeral_of run (mid ++ 44 ∷ q) ≡ Some (n, rest) → (rest ≡ mid ++ 44 ∷ q) × (numeral_of run mid ≡ Some (n, mid))
numeral_by [] mid q n rest e = absurd (none_is (n, rest) e)
numeral_by (d ∷ ds) mid q n rest e =
    let same = some_is (value_after 0 (d ∷ ds), mid ++ 44 ∷ q) (n, rest) e in
    (ap (λ (p : ℕ × List ℕ). p.1) (sym same), ap (λ (p : ℕ × List ℕ). Some (p.0, mid)) same)

numeral_before : (text q : List ℕ) (n : ℕ) (rest : List ℕ) → numeral_at (text ++ 44 ∷ q) ≡ Some (n, rest) → Before numeral_at text q n rest
unfolding numeral_at
numeral_before text q n rest e =
    let f = numeral_by (digit_run text) (after_digits text) q n rest (sym (ap (λ (run : List ℕ). numeral_of run (after_digits (text ++ 44 ∷ q))) (run_carried text 44 q refl) ∙ ap (numeral_of (digit_run text)) (digits_carried text 44 q refl)) ∙ e) in
    (after_digits text, f.0, f.1)

signed_before : (f : ℕ → ℤ) (text q : List ℕ) (z : ℤ) (rest : List ℕ) → option_map (with_sign f) (numeral_at (text ++ 44 ∷ q)) ≡ Some (z, rest) → Before (λ t. option_map (with_sign f) (numeral_at t)) text q z rest
signed_before f text q z rest e =
    let m = map_some (with_sign f) (numeral_at (text ++ 44 ∷ q)) (z, rest) e in
    let b = numeral_before text q m.0.0 m.0.1 m.1 in
    (b.0, ap (λ (p : ℤ × List ℕ). p.1) (sym m.2) ∙ b.1, ap (option_map (with_sign f)) b.2 ∙ ap (λ (p : ℤ × List ℕ). Some (p.0, b.0)) m.2)

integer_by : (c : ℕ) (cs q : List ℕ) (z : ℤ) (rest : List ℕ) (t : Bool) → signed_at (cond t (Some (cs ++ 44 ∷ q)) None) (c ∷ (cs ++ 44 ∷ q)) ≡ Some (z, rest) → (mid : List ℕ) × (rest ≡ mid ++ 44 ∷ q) × (signed_at (cond t (Some cs) None) (c ∷ cs) ≡ Some (z, mid))
integer_by c cs q z rest true e = signed_before (λ (n : ℕ). neg_ℤ (pos n)) cs q z rest e
integer_by c cs q z rest false e = signed_before pos (c ∷ cs) q z rest e

integer_before : (c : ℕ) (cs q : List ℕ) (z : ℤ) (rest : List ℕ) → integer_at (c ∷ (cs ++ 44 ∷ q)) ≡ Some (z, rest) → Before integer_at (c ∷ cs) q z rest
unfolding integer_at
integer_before c cs q z rest e = integer_by c cs q z rest (c == 45) e

no_integer : (q : List ℕ) (z : ℤ) (rest : List ℕ) → integer_at (44 ∷ q) ≡ Some (z, rest) → ⊥
unfolding integer_at numeral_at
no_integer q z rest e = none_is (z, rest) e

number_by : (k : Kind) (text q bare : List ℕ) (v : Value) (rest : List ℕ) → after_blanks text ≡ bare → number_at k (text ++ 44 ∷ q) ≡ Some (v, rest) → Before (number_at k) text q v rest
number_by k text q [] v rest b e =
    let m = map_some (with_kind k) (integer_at (after_blanks (text ++ 44 ∷ q))) (v, rest) e in
    absurd (no_integer q m.0.0 m.0.1 (ap integer_at (sym (after_blank text (44 ∷ q) b)) ∙ m.1))
number_by k text q (c ∷ cs) v rest b e =
    let m = map_some (with_kind k) (integer_at (after_blanks (text ++ 44 ∷ q))) (v, rest) e in
    let i = integer_before c cs q m.0.0 m.0.1 (ap integer_at (sym (after_bare text (44 ∷ q) c cs b)) ∙ m.1) in
    (i.0, ap (λ (p : Value × List ℕ). p.1) (sym m.2) ∙ i.1, ap (λ (x : List ℕ). option_map (with_kind k) (integer_at x)) b ∙ ap (option_map (with_kind k)) i.2 ∙ ap (λ (p : Value × List ℕ). Some (p.0, i.0)) m.2)

-- ---- truth values

-- no comma stands in the word
abbrev NoComma : List ℕ → Type 0
NoComma [] = Unit {0}
NoComma (c ∷ cs) = ((c == 44) ≡ false) × NoComma cs

first_same : (a b : ℕ) (x y : List ℕ) → a ∷ x ≡ b ∷ y → (a ≡ b) × (x ≡ y)
first_same a b x y e = (cc, cc)

word_before : (word text q mid : List ℕ) → NoComma word → text ++ 44 ∷ q ≡ word ++ mid → (m : List ℕ) × (text ≡ word ++ m) × (mid ≡ m ++ 44 ∷ q)
word_before [] text q mid n e = (text, refl, sym e)
word_before (b ∷ word) [] q mid n e = absurd (false≢true (sym (ap (λ (x : ℕ). x == 44) (first_same 44 b q (word ++ mid) e).0 ∙ n.0)))
word_before (b ∷ word) (c ∷ cs) q mid n e =
    let same = first_same c b (cs ++ 44 ∷ q) (word ++ mid) e in
    let rest = word_before word cs q mid n.1 same.1 in
    (rest.0, ap (λ (x : ℕ). x ∷ cs) same.0 ∙ ap (λ (x : List ℕ). b ∷ x) rest.1, rest.2)

truth_by : (text q : List ℕ) (v : Value) (rest : List ℕ) (t f : Option (List ℕ)) → after_word (codes "true") (text ++ 44 ∷ q) ≡ t → after_word (codes "false") (text ++ 44 ∷ q) ≡ f → or_else (option_map (with_truth (pos 1)) t) (option_map (with_truth (pos 0)) f) ≡ Some (v, rest) → Before truth_at text q v rest
truth_by text q v rest (Some x) f a b e =
    let w = word_before (codes "true") text q x (refl, (refl, (refl, (refl, tt)))) (word_front (codes "true") (text ++ 44 ∷ q) x a) in
    let same = some_is (number BoolKind (pos 1), x) (v, rest) e in
    (w.0, ap (λ (p : Value × List ℕ). p.1) (sym same) ∙ w.2, ap truth_at w.1 ∙ true_here w.0 ∙ ap (λ (p : Value × List ℕ). Some (p.0, w.0)) same)
truth_by text q v rest None (Some x) a b e =
    let w = word_before (codes "false") text q x (refl, (refl, (refl, (refl, (refl, tt))))) (word_front (codes "false") (text ++ 44 ∷ q) x b) in
    let same = some_is (number BoolKind (pos 0), x) (v, rest) e in
    (w.0, ap (λ (p : Value × List ℕ). p.1) (sym same) ∙ w.2, ap truth_at w.1 ∙ false_here w.0 ∙ ap (λ (p : Value × List ℕ). Some (p.0, w.0)) same)
truth_by text q v rest None None a b e = absurd (none_is (v, rest) e)

truth_before : (text q : List ℕ) (v : Value) (rest : List ℕ) → truth_at (text ++ 44 ∷ q) ≡ Some (v, rest) → Before truth_at text q v rest
unfolding truth_at
truth_before text q v rest e = truth_by text q v rest (after_word (codes "true") (text ++ 44 ∷ q)) (after_word (codes "false") (text ++ 44 ∷ q)) refl refl e

bool_by : (text q bare : List ℕ) (v : Value) (rest : List ℕ) → after_blanks text ≡ bare → truth_at (after_blanks (text ++ 44 ∷ q)) ≡ Some (v, rest) → Before (λ t. truth_at (after_blanks t)) text q v rest
bool_by text q [] v rest b e =
    let w = truth_before [] q v rest (ap truth_at (sym (after_blank text (44 ∷ q) b)) ∙ e) in
    absurd (no_truth v w.0 w.2)
bool_by text q (c ∷ cs) v rest b e =
    let w = truth_before (c ∷ cs) q v rest (ap truth_at (sym (after_bare text (44 ∷ q) c cs b)) ∙ e) in
    (w.0, w.1, ap truth_at b ∙ w.2)

-- ---- scalars and lists of them

scalar_before : (k : Kind) (text q : List ℕ) (v : Value) (rest : List ℕ) → scalar_at k (text ++ 44 ∷ q) ≡ Some (v, rest) → Before (scalar_at k) text q v rest
unfolding scalar_at
scalar_before BoolKind text q v rest e = bool_by text q (after_blanks text) v rest refl e
scalar_before I8 text q v rest e = number_by I8 text q (after_blanks text) v rest refl e
scalar_before I16 text q v rest e = number_by I16 text q (after_blanks text) v rest refl e
scalar_before I32 text q v rest e = number_by I32 text q (after_blanks text) v rest refl e
scalar_before I64 text q v rest e = number_by I64 text q (after_blanks text) v rest refl e
scalar_before U8 text q v rest e = number_by U8 text q (after_blanks text) v rest refl e
scalar_before U16 text q v rest e = number_by U16 text q (after_blanks text) v rest refl e
scalar_before U32 text q v rest e = number_by U32 text q (after_blanks text) v rest refl e
scalar_before U64 text q v rest e = number_by U64 text q (after_blanks text) v rest refl e

not_blank_by : (mid q bare : List ℕ) → after_blanks mid ≡ bare → after_blanks (mid ++ 44 ∷ q) ≡ [] → ⊥
not_blank_by mid q [] b e = let h : 44 ∷ q ≡ [] = sym (after_blank mid (44 ∷ q) b) ∙ e in cc
not_blank_by mid q (c ∷ cs) b e = let h : c ∷ (cs ++ 44 ∷ q) ≡ [] = sym (after_bare mid (44 ∷ q) c cs b) ∙ e in cc

comma_by : (c : ℕ) (cs q start : List ℕ) (t : Bool) → cond t (Some (cs ++ 44 ∷ q)) None ≡ Some start → (start ≡ cs ++ 44 ∷ q) × (cond t (Some cs) None ≡ Some cs)
comma_by c cs q start true e = (sym (some_is (cs ++ 44 ∷ q) start e), refl)
comma_by c cs q start false e = absurd (none_is start e)

-- a comma after the cut's left side, or in it
comma_found : (mid q start bare : List ℕ) → after_blanks mid ≡ bare → byte_at 44 (mid ++ 44 ∷ q) ≡ Some start → ((after_blanks mid ≡ []) × (start ≡ q)) ⊎ ((left : List ℕ) × (start ≡ left ++ 44 ∷ q) × (byte_at 44 mid ≡ Some left))
unfolding byte_at
comma_found mid q start [] b e = inl (b, sym (some_is q start (sym (ap (after_byte 44) (after_blank mid (44 ∷ q) b)) ∙ e)))
comma_found mid q start (c ∷ cs) b e =
    let f = comma_by c cs q start (c == 44) (sym (ap (after_byte 44) (after_bare mid (44 ∷ q) c cs b)) ∙ e) in
    inr (cs, f.0, ap (after_byte 44) b ∙ f.1)

-- scalars that are cut at a comma
abbrev pub CutInTwo : Kind → List ℕ → List ℕ → List Value → Type 0
CutInTwo k p q us = (vs : List Value) × (ws : List Value) × (us ≡ vs ++ ws) × Separated (Found (scalar_at k)) vs p × Separated (Found (scalar_at k)) ws q

one_more : (k : Kind) (u : Value) (us : List Value) (p mid left q : List ℕ) → scalar_at k p ≡ Some (u, mid) → byte_at 44 mid ≡ Some left → CutInTwo k left q us → CutInTwo k p q (u ∷ us)
one_more k u us p mid left q r c ([], ws, e, (end, l, blank), right) = elim l [ ]
one_more k u us p mid left q r c (v ∷ vs, ws, e, (end, l, blank), right) = (u ∷ v ∷ vs, ws, ap (λ (x : List Value). u ∷ x) e, (end, (mid, r, (left, c, l)), blank), right)

by_comma : (k : Kind) (u w : Value) (ws : List Value) (p mid q end start : List ℕ) → scalar_at k p ≡ Some (u, mid) → Listed (Found (scalar_at k)) (w ∷ ws) start end → after_blanks end ≡ [] → ((left : List ℕ) → Listed (Found (scalar_at k)) (w ∷ ws) (left ++ 44 ∷ q) end → CutInTwo k left q (w ∷ ws)) → ((after_blanks mid ≡ []) × (start ≡ q)) ⊎ ((left : List ℕ) × (start ≡ left ++ 44 ∷ q) × (byte_at 44 mid ≡ Some left)) → CutInTwo k p q (u ∷ w ∷ ws)
by_comma k u w ws p mid q end start r listed blank again (inl (b, e)) = (u ∷ [], w ∷ ws, refl, (mid, (mid, r, refl), b), (end, subst (λ (x : List ℕ). Listed (Found (scalar_at k)) (w ∷ ws) x end) e listed, blank))
by_comma k u w ws p mid q end start r listed blank again (inr (left, e, c)) = one_more k u (w ∷ ws) p mid left q r c (again left (subst (λ (x : List ℕ). Listed (Found (scalar_at k)) (w ∷ ws) x end) e listed))

after_cut : (k : Kind) (u : Value) (us : List Value) (p mid q end : List ℕ) → scalar_at k p ≡ Some (u, mid) → More (Found (scalar_at k)) us (mid ++ 44 ∷ q) end → after_blanks end ≡ [] → ((left : List ℕ) → Listed (Found (scalar_at k)) us (left ++ 44 ∷ q) end → CutInTwo k left q us) → CutInTwo k p q (u ∷ us)
after_cut k u [] p mid q end r more blank again = absurd (not_blank_by mid q (after_blanks mid) refl (ap after_blanks more ∙ blank))
after_cut k u (w ∷ ws) p mid q end r (start, c, listed) blank again = by_comma k u w ws p mid q end start r listed blank again (comma_found mid q start (after_blanks mid) refl c)

separated_cut : (k : Kind) (us : List Value) (p q end : List ℕ) → Listed (Found (scalar_at k)) us (p ++ 44 ∷ q) end → after_blanks end ≡ [] → CutInTwo k p q us
separated_cut k [] p q end l blank = elim l [ ]
separated_cut k (u ∷ us) p q end (mid, r, more) blank =
    let f = scalar_before k p q u mid r in
    after_cut k u us p f.0 q end f.2 (subst (λ (x : List ℕ). More (Found (scalar_at k)) us x end) f.1 more) blank (λ left l. separated_cut k us left q end l blank)

pub cut_separated : (k : Kind) (p q : List ℕ) (us : List Value) → Separated (Found (scalar_at k)) us (p ++ 44 ∷ q) → CutInTwo k p q us
cut_separated k p q us (end, l, blank) = separated_cut k us p q end l blank
