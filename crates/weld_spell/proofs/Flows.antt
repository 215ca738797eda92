-- A number stands behind a minus of an operand, by its tokens, exactly where it is that of a negative literal, by its tree.
use Rattle.std.proofs.Common.{◌≡◌, refl, ℕ, Bool, true, false, not, ◌&&◌, ◌||◌, cond, eqb, Option, Some, None, List, [], ◌∷◌, ◌++◌, ap, sym, subst, ◌∙◌, append_assoc}
use Rattle.std.proofs.lemmas.Bool.{false≢true, eqb-true, and_parts}
use Rattle.std.proofs.lemmas.List.{append-nil}
use Rattle.weld_tree.specs.declared.place.Place.{Place}
use Rattle.weld_grammar.specs.declared.terminals.symbol.Symbol.{Symbol}
use Rattle.weld_grammar.specs.declared.terminals.symbol.Symbol.TheVariants as symbols
use Rattle.weld_grammar.specs.declared.terminals.reserved.Reserved.{Reserved}
use Rattle.weld_grammar.specs.declared.terminals.reserved.Reserved.TheVariants as words
use Rattle.weld_grammar.specs.declared.terminals.class.Class.{Class}
use Rattle.weld_grammar.specs.declared.terminals.class.Class.TheVariants as classes
use Rattle.weld_grammar.specs.declared.terminals.token.Token.{Token}
use Rattle.weld_grammar.specs.Symbols.{symbol_number}
use Rattle.weld_grammar.specs.ReservedWords.{reserved_number}
use Rattle.weld_grammar.specs.declared.terminal.Terminal.{Terminal}
use Rattle.weld_grammar.specs.declared.terminal.Terminal.TheVariants.{Sign, Fixed, Word, Name, Number, Field, Chars}
use Rattle.weld_grammar.specs.declared.rule.Rule.{Rule}
use Rattle.weld_grammar.specs.declared.rule.Rule.TheVariants.{Program, Minused, Unary}
use Rattle.weld_grammar.specs.declared.item.Item.{Item}
use Rattle.weld_grammar.specs.declared.item.Item.TheVariants.{One, Part as OfRule, Optional, Repeated}
use Rattle.weld_grammar.specs.Grammar.{Part, item, all_of, one_of, body, is_of}
use Rattle.weld_grammar.specs.Derivation.{Tree, leaf, node, empty, pair, here, there, yield, IsOf, Unbegun}
use Rattle.weld_grammar.specs.Classes.{classes as classes_of}
use Rattle.weld_spell.specs.Seen.{seen}
use Rattle.weld_tokens.specs.Order.{ends_operand, is_minus, out_of_range, first_out_of_range, behind_signs, first_number_out_of_range}
use Rattle.weld_spell.specs.Ranges.{or_else, is_minused, out_of_range_in, number_out_of_range}
use Rattle.weld_spell.proofs.Modes.{Mode, start, operand, minus, any, Fits, within, widen, mode_in, mode_out, behind_minus, behind_class, behind_terminal, join, behind, reaches, is_plain, and_on, passes, passes_item, passes_row}

-- ---- one token

-- the first number out of range of tokens that stand behind an operand, or behind the minus of one
abbrev scan : Bool → Bool → List Token → Option Place
scan op bh ts = first_out_of_range (behind_signs op bh ts) ts

ends_number : ℕ → Bool
ends_number n = eqb n 1 || eqb n 3 || eqb n 5

minus_number : ℕ → Bool
minus_number n = eqb n 22

true_number : ℕ → Bool
true_number n = eqb n 31 || eqb n 32

symbol-ends : (s : Symbol) → ends_operand (classes.Symbol s) ≡ ends_number (symbol_number s)
unfolding ends_number
symbol-ends symbols.RightParen = refl
symbol-ends _ = refl

symbol-minus : (s : Symbol) → is_minus (classes.Symbol s) ≡ minus_number (symbol_number s)
unfolding minus_number
symbol-minus symbols.Minus = refl
symbol-minus _ = refl

word-ends : (w : Reserved) → ends_operand (classes.Reserved w) ≡ true_number (reserved_number w)
unfolding true_number
word-ends words.True = refl
word-ends _ = refl

-- classes that are behind alike
record Alike (c d : Class) : Type 0 where
  pub ends : ends_operand c ≡ ends_operand d
  pub signs : is_minus c ≡ is_minus d

sign-alike : (s t : Symbol) → eqb (symbol_number s) (symbol_number t) ≡ true → Alike (classes.Symbol s) (classes.Symbol t)
sign-alike s t e =
    let same = eqb-true (symbol_number s) (symbol_number t) e in
    record { ends = symbol-ends s ∙ ap ends_number same ∙ sym (symbol-ends t); signs = symbol-minus s ∙ ap minus_number same ∙ sym (symbol-minus t) }

fixed-alike : (v w : Reserved) → eqb (reserved_number v) (reserved_number w) ≡ true → Alike (classes.Reserved v) (classes.Reserved w)
fixed-alike v w e = record { ends = word-ends v ∙ ap true_number (eqb-true (reserved_number v) (reserved_number w) e) ∙ sym (word-ends w); signs = refl }

-- the states behind a token of the class
abbrev signed : Bool → Class → Bool
signed op c = is_minus c && not op

no-minus : (c : Class) → ends_operand c ≡ true → is_minus c ≡ false
no-minus (classes.Symbol symbols.Minus) e = absurd (false≢true e)
no-minus (classes.Symbol _) e = refl
no-minus _ e = refl

and-false : (a : Bool) → (a && false) ≡ false
and-false true = refl
and-false false = refl

some-mode : (m n : Mode) → Some m ≡ Some n → m ≡ n
some-mode m n e = cc

none-mode : (n : Mode) → None ≡ Some n → ⊥
none-mode n e = cc

fits-at : (m n : Mode) (op bh : Bool) → m ≡ n → Fits m op bh → Fits n op bh
fits-at m n op bh e f = let P : Mode → Type 0 = λ k. Fits k op bh in subst P e f

-- behind a minus
fits-minus : (m n : Mode) (op bh : Bool) → behind_minus m ≡ Some n → Fits m op bh → Fits n false (not op)
fits-minus start n op bh e f = fits-at minus n false (not op) (some-mode minus n e) (refl, ap not f.0)
fits-minus operand n op bh e f = fits-at start n false (not op) (some-mode start n e) (refl, ap not f.0)
fits-minus minus n op bh e f = absurd (none-mode n e)
fits-minus any n op bh e f = absurd (none-mode n e)

fits-class : (m n : Mode) (op bh a b : Bool) → (a ≡ true → b ≡ false) → cond a (Some operand) (cond b (behind_minus m) (Some start)) ≡ Some n → Fits m op bh → Fits n a (b && not op)
fits-class m n op bh true b g e f = fits-at operand n true (b && not op) (some-mode operand n e) (refl, ap (λ k. k && not op) (g refl))
fits-class m n op bh false true g e f = fits-minus m n op bh e f
fits-class m n op bh false false g e f = fits-at start n false false (some-mode start n e) (refl, refl)

fits-alike : (m n : Mode) (op bh : Bool) (c d : Class) → Alike c d → behind_class m c ≡ Some n → Fits m op bh → Fits n (ends_operand d) (signed op d)
fits-alike m n op bh c d l e f =
    let P : Bool → Type 0 = λ a. Fits n a (signed op d) in
    let Q : Bool → Type 0 = λ b. Fits n (ends_operand c) (b && not op) in
    subst P l.ends (subst Q l.signs (fits-class m n op bh (ends_operand c) (is_minus c) (no-minus c) e f))

-- an operand of one token
fits-operand : (n : Mode) (op : Bool) (c : Class) → ends_operand c ≡ true → is_minus c ≡ false → Some operand ≡ Some n → Fits n (ends_operand c) (signed op c)
fits-operand n op c a b e = fits-at operand n (ends_operand c) (signed op c) (some-mode operand n e) (a, ap (λ k. k && not op) b)

fits-word : (n : Mode) (op : Bool) (c : Class) → is_minus c ≡ false → Some any ≡ Some n → Fits n (ends_operand c) (signed op c)
fits-word n op c b e = fits-at any n (ends_operand c) (signed op c) (some-mode any n e) (ap (λ k. k && not op) b)

fits-token : (a : Terminal) (c : Class) (m n : Mode) (op bh : Bool) → is_of a c ≡ true → behind_terminal m a ≡ Some n → Fits m op bh → Fits n (ends_operand c) (signed op c)
fits-token (Sign s) (classes.Symbol t) m n op bh h e f = fits-alike m n op bh (classes.Symbol s) (classes.Symbol t) (sign-alike s t h) e f
fits-token (Fixed v) (classes.Reserved w) m n op bh h e f = fits-alike m n op bh (classes.Reserved v) (classes.Reserved w) (fixed-alike v w h) e f
fits-token Word (classes.Reserved w) m n op bh h e f = fits-word n op (classes.Reserved w) refl e
fits-token Word classes.Name m n op bh h e f = fits-word n op classes.Name refl e
fits-token Name classes.Name m n op bh h e f = fits-operand n op classes.Name refl refl e
fits-token Number classes.Int m n op bh h e f = fits-operand n op classes.Int refl refl e
fits-token Number classes.Long m n op bh h e f = fits-operand n op classes.Long refl refl e
fits-token Field classes.Field m n op bh h e f = fits-operand n op classes.Field refl refl e
fits-token Chars classes.Chars m n op bh h e f = fits-operand n op classes.Chars refl refl e
fits-token _ _ m n op bh h e f = absurd (false≢true h)

-- ---- trees

-- what a tree of a part shows is what its tokens show, and what stands behind it
record Flow (negative : Bool) (p : Part) (t : Tree Token) (op bh : Bool) (out : Mode) : Type 0 where
  pub op_behind : Bool
  pub bh_behind : Bool
  pub fits : Fits out op_behind bh_behind
  pub scans : (ts : List Token) → scan op bh (yield t ++ ts) ≡ or_else (out_of_range_in negative p t) (scan op_behind bh_behind ts)

or_else-cond : (b : Bool) (p : Place) (o : Option Place) → cond b (Some p) o ≡ or_else (cond b (Some p) None) o
or_else-cond true p o = refl
or_else-cond false p o = refl

or_else_assoc : (a b c : Option Place) → or_else a (or_else b c) ≡ or_else (or_else a b) c
or_else_assoc None b c = refl
or_else_assoc (Some p) b c = refl

or_else-none : (a : Option Place) → or_else a None ≡ a
or_else-none None = refl
or_else-none (Some p) = refl

not-behind : (m : Mode) (op bh : Bool) → is_plain m ≡ true → Fits m op bh → bh ≡ false
not-behind start op bh e f = f.1
not-behind operand op bh e f = f.1
not-behind minus op bh e f = absurd (false≢true e)
not-behind any op bh e f = f

reached : (o : Option Mode) (out : Mode) → reaches o out ≡ true → (n : Mode) × (o ≡ Some n) × (within n out ≡ true)
reached None out e = absurd (false≢true e)
reached (Some n) out e = (n, refl, e)

one_token : (negative : Bool) (a : Terminal) (x : Token) (op : Bool) (n out : Mode) → Fits n (ends_operand x.class) (signed op x.class) → within n out ≡ true → Flow negative (item (One a)) (leaf x) op negative out
one_token negative a x op n out f w = record {
  op_behind = ends_operand x.class;
  bh_behind = signed op x.class;
  fits = widen n out (ends_operand x.class) (signed op x.class) w f;
  scans = λ ts. or_else-cond (out_of_range x.class negative x.word) x.place (scan (ends_operand x.class) (signed op x.class) ts);
}

at_terminal : (a : Terminal) (x : Token) (m out : Mode) (op bh : Bool) → is_of a x.class ≡ true → passes m (item (One a)) out ≡ true → Fits m op bh → Flow false (item (One a)) (leaf x) op bh out
at_terminal a x m out op bh h e f =
    let both = and_parts (is_plain m) (reaches (behind_terminal m a) out) e in
    let to = reached (behind_terminal m a) out both.1 in
    let P : Bool → Type 0 = λ b. Flow false (item (One a)) (leaf x) op b out in
    subst P (sym (not-behind m op bh both.0 f)) (one_token false a x op to.0 out (fits-token a x.class m to.0 op bh h to.1 f) to.2)

-- the other state of a flow
widened : (negative : Bool) (p : Part) (t : Tree Token) (op bh : Bool) (n out : Mode) → within n out ≡ true → Flow negative p t op bh n → Flow negative p t op bh out
widened negative p t op bh n out w h = record { op_behind = h.op_behind; bh_behind = h.bh_behind; fits = widen n out h.op_behind h.bh_behind w h.fits; scans = h.scans }

-- nothing
no_tokens : (p : Part) (op bh : Bool) (m out : Mode) → out_of_range_in false p empty ≡ None → within m out ≡ true → Fits m op bh → Flow false p empty op bh out
no_tokens p op bh m out none w f = record {
  op_behind = op;
  bh_behind = bh;
  fits = widen m out op bh w f;
  scans = λ ts. ap (λ o. or_else o (scan op bh ts)) (sym none);
}

-- two trees in a row
in_row : (p q s : Part) (t u : Tree Token) (op bh : Bool) (n out : Mode) (first : Flow false p t op bh n) → ((oq bq : Bool) → Fits n oq bq → Flow false q u oq bq out)
    → out_of_range_in false s (pair t u) ≡ or_else (out_of_range_in false p t) (out_of_range_in false q u) → Flow false s (pair t u) op bh out
in_row p q s t u op bh n out first behind is =
    let second = behind first.op_behind first.bh_behind first.fits in
    record {
      op_behind = second.op_behind;
      bh_behind = second.bh_behind;
      fits = second.fits;
      scans = λ ts.
          ap (scan op bh) (append_assoc (yield t) (yield u) ts) ∙ first.scans (yield u ++ ts)
          ∙ ap (or_else (out_of_range_in false p t)) (second.scans ts)
          ∙ or_else_assoc (out_of_range_in false p t) (out_of_range_in false q u) (scan second.op_behind second.bh_behind ts)
          ∙ ap (λ o. or_else o (scan second.op_behind second.bh_behind ts)) (sym is);
    }

-- a part of the same tokens that shows the same
same_flow : (a b : Bool) (p q : Part) (t u : Tree Token) (op bh : Bool) (out : Mode) → yield t ≡ yield u → out_of_range_in a p t ≡ out_of_range_in b q u → Flow a p t op bh out → Flow b q u op bh out
same_flow a b p q t u op bh out e k h = record {
  op_behind = h.op_behind;
  bh_behind = h.bh_behind;
  fits = h.fits;
  scans = λ ts. ap (λ z. scan op bh (z ++ ts)) (sym e) ∙ h.scans ts ∙ ap (λ o. or_else o (scan h.op_behind h.bh_behind ts)) k;
}

-- ---- behind a minus

is-minused : (q : Rule) → is_minused q ≡ true → q ≡ Minused
is-minused Minused e = refl
is-minused _ e = absurd (false≢true e)

-- where the first token is no number, it is all one whether a minus stands before
no_number : (c : Class) (word : List ℕ) → is_of Number c ≡ false → out_of_range c true word ≡ out_of_range c false word
no_number classes.Int word e = absurd (false≢true (sym e))
no_number classes.Long word e = absurd (false≢true (sym e))
no_number _ word e = refl

classes-append : (xs ys : List Token) → classes_of (xs ++ ys) ≡ classes_of xs ++ classes_of ys
classes-append [] ys = refl
classes-append (x ∷ xs) ys = ap (λ z. x.class ∷ z) (classes-append xs ys)

yield-seen : (t : Tree Token) → yield (seen t) ≡ classes_of (yield t)
yield-seen (leaf x) = refl
yield-seen (node t) = yield-seen t
yield-seen empty = refl
yield-seen (pair t u) = ap (λ z. z ++ yield (seen u)) (yield-seen t) ∙ ap (λ z. classes_of (yield t) ++ z) (yield-seen u) ∙ sym (classes-append (yield t) (yield u))
yield-seen (here t) = yield-seen t
yield-seen (there t) = yield-seen t

unsigned : (us ts : List Token) → Unbegun (One Number) (classes_of us) → scan false true (us ++ ts) ≡ scan false false (us ++ ts)
unsigned [] ts h = absurd h
unsigned (x ∷ us) ts h =
    ap (λ b. cond b (Some x.place) (scan (ends_operand x.class) (is_minus x.class && true) (us ++ ts))) (no_number x.class x.word h)

unbegun_as : (xs ys : List Class) → xs ≡ ys → Unbegun (One Number) xs → Unbegun (One Number) ys
unbegun_as xs ys e h = let P : List Class → Type 0 = Unbegun (One Number) in subst P e h

-- a rule's tree shows the same wherever it stands
resets : (negative : Bool) (q : Rule) (t : Tree Token) → out_of_range_in false (item (OfRule q)) t ≡ out_of_range_in negative (item (OfRule q)) t
resets negative q (node t) = refl
resets negative q _ = refl

minused : (t : Tree Token) → IsOf (body Minused) (seen t) → Flow false (body Minused) t false false operand → Flow true (body Minused) t false true operand
minused (here (leaf x)) h f =
    same_flow true true (item (One Number)) (body Minused) (leaf x) (here (leaf x)) false true operand refl refl
    (one_token true Number x false operand operand (fits-token Number x.class start operand false false h refl (refl, refl)) refl)
minused (there (here u)) h f =
    let begun : Unbegun (One Number) (classes_of (yield u)) = unbegun_as (yield (seen u)) (classes_of (yield u)) (yield-seen u) h.1 in
    record {
      op_behind = f.op_behind;
      bh_behind = f.bh_behind;
      fits = f.fits;
      scans = λ ts. unsigned (yield u) ts begun ∙ f.scans ts ∙ ap (λ o. or_else o (scan f.op_behind f.bh_behind ts)) (resets true Unary u);
    }
minused _ h f = absurd (assumption)

-- ---- rules

-- where the body of a rule is tried from
opens : Rule → Mode
opens Minused = start
opens q = mode_in q

table : (q : Rule) → passes (opens q) (body q) (mode_out q) ≡ true
unfolding opens
table Program = refl
table _ = refl

opens_plain : (q : Rule) → is_minused q ≡ false → opens q ≡ mode_in q
unfolding opens
opens_plain Minused e = absurd (false≢true (sym e))
opens_plain _ e = refl

of_minus : (m : Mode) (op bh : Bool) → within m minus ≡ true → Fits m op bh → (op ≡ false) × (bh ≡ true)
of_minus minus op bh e f = f
of_minus _ op bh e f = absurd (false≢true e)

-- a tree of a rule, by that of its body
abbrev Inner : Rule → Tree Token → Type 0
Inner q t = (m out : Mode) (op bh : Bool) → passes m (body q) out ≡ true → Fits m op bh → Flow false (body q) t op bh out

of_minused : (q : Rule) (t : Tree Token) (m : Mode) (op bh : Bool) → q ≡ Minused → IsOf (body q) (seen t) → Inner q t → within m (mode_in q) ≡ true → Fits m op bh → Flow (is_minused q) (body q) t op bh (mode_out q)
unfolding opens
of_minused q t m op bh e h ih w f =
    let P : Rule → Type 0 = λ k. IsOf (body k) (seen t) → Inner k t → within m (mode_in k) ≡ true → Flow (is_minused k) (body k) t op bh (mode_out k) in
    let at : P Minused = λ h ih w.
    let both = of_minus m op bh w f in
    let Q : Bool → Type 0 = λ o. Flow true (body Minused) t o bh operand in
    let R : Bool → Type 0 = λ b. Flow true (body Minused) t false b operand in
    subst Q (sym both.0) (subst R (sym both.1) (minused t h (ih start operand false false (table Minused) (refl, refl)))) in
    subst P (sym e) at h ih w

of_other : (q : Rule) (t : Tree Token) (m : Mode) (op bh : Bool) → is_minused q ≡ false → Inner q t → within m (mode_in q) ≡ true → Fits m op bh → Flow (is_minused q) (body q) t op bh (mode_out q)
of_other q t m op bh e ih w f =
    let P : Mode → Type 0 = λ k. passes k (body q) (mode_out q) ≡ true in
    let Q : Bool → Type 0 = λ b. Flow b (body q) t op bh (mode_out q) in
    subst Q (sym e) (ih (mode_in q) (mode_out q) op bh (subst P (opens_plain q e) (table q)) (widen m (mode_in q) op bh w f))

of_rule : (b : Bool) (q : Rule) (t : Tree Token) (m : Mode) (op bh : Bool) → is_minused q ≡ b → IsOf (body q) (seen t) → Inner q t → within m (mode_in q) ≡ true → Fits m op bh → Flow (is_minused q) (body q) t op bh (mode_out q)
of_rule true q t m op bh e h ih w f = of_minused q t m op bh (is-minused q e) h ih w f
of_rule false q t m op bh e h ih w f = of_other q t m op bh e ih w f

at_rule : (q : Rule) (t : Tree Token) (m out : Mode) (op bh : Bool) → IsOf (body q) (seen t) → Inner q t → passes m (item (OfRule q)) out ≡ true → Fits m op bh → Flow false (item (OfRule q)) (node t) op bh out
at_rule q t m out op bh h ih e f =
    let to = reached (behind m (OfRule q)) out e in
    cases (within m (mode_in q)) refl to.1 to.2
  where
    cases : (b : Bool) → within m (mode_in q) ≡ b → {n : Mode} → cond b (Some (mode_out q)) None ≡ Some n → within n out ≡ true → Flow false (item (OfRule q)) (node t) op bh out
    cases true w k l =
        let P : Mode → Type 0 = λ z. within z out ≡ true in
        widened false (item (OfRule q)) (node t) op bh (mode_out q) out (subst P (sym (some-mode (mode_out q) _ k)) l)
        (same_flow (is_minused q) false (body q) (item (OfRule q)) t (node t) op bh (mode_out q) refl refl (of_rule (is_minused q) q t m op bh refl h ih w f))
    cases false w k l = absurd (none-mode _ k)

-- an optional rule that is there
at_optional : (q : Rule) (t : Tree Token) (m out : Mode) (op bh : Bool) → passes m (item (Optional q)) out ≡ true → Fits m op bh
    → ((o : Mode) → passes m (item (OfRule q)) o ≡ true → Flow false (item (OfRule q)) t op bh o) → Flow false (item (Optional q)) (here t) op bh out
at_optional q t m out op bh e f ih = let to = reached (behind m (Optional q)) out e in cases (within m (mode_in q)) refl (within m (join m (mode_out q))) refl (within (mode_out q) (join m (mode_out q))) refl to.1 to.2
  where
    cases : (a : Bool) → within m (mode_in q) ≡ a → (b : Bool) → within m (join m (mode_out q)) ≡ b → (c : Bool) → within (mode_out q) (join m (mode_out q)) ≡ c → {n : Mode} → cond (a && b && c) (Some (join m (mode_out q))) None ≡ Some n → within n out ≡ true → Flow false (item (Optional q)) (here t) op bh out
    cases true w true v true u k l =
        let P : Mode → Type 0 = λ z. within z out ≡ true in
        let reach : passes m (item (OfRule q)) (join m (mode_out q)) ≡ true = ap (λ b. reaches (cond b (Some (mode_out q)) None) (join m (mode_out q))) w ∙ u in
        widened false (item (Optional q)) (here t) op bh (join m (mode_out q)) out (subst P (sym (some-mode (join m (mode_out q)) _ k)) l)
        (same_flow false false (item (OfRule q)) (item (Optional q)) t (here t) op bh (join m (mode_out q)) refl refl (ih (join m (mode_out q)) reach))
    cases true w true v false u k l = absurd (none-mode _ k)
    cases true w false v c u k l = absurd (none-mode _ k)
    cases false w b v c u k l = absurd (none-mode _ k)

no_optional : (q : Rule) (m out : Mode) (op bh : Bool) → passes m (item (Optional q)) out ≡ true → Fits m op bh → Flow false (item (Optional q)) empty op bh out
no_optional q m out op bh e f = let to = reached (behind m (Optional q)) out e in cases (within m (mode_in q)) (within m (join m (mode_out q))) refl (within (mode_out q) (join m (mode_out q))) to.1 to.2
  where
    cases : (a b : Bool) → within m (join m (mode_out q)) ≡ b → (c : Bool) → {n : Mode} → cond (a && b && c) (Some (join m (mode_out q))) None ≡ Some n → within n out ≡ true → Flow false (item (Optional q)) empty op bh out
    cases true true v true k l =
        let P : Mode → Type 0 = λ z. within z out ≡ true in
        no_tokens (item (Optional q)) op bh (join m (mode_out q)) out refl (subst P (sym (some-mode (join m (mode_out q)) _ k)) l) (widen m (join m (mode_out q)) op bh v f)
    cases true true v false k l = absurd (none-mode _ k)
    cases true false v c k l = absurd (none-mode _ k)
    cases false b v c k l = absurd (none-mode _ k)

-- what a repeated rule asks
record Repeats (m : Mode) (q : Rule) (out : Mode) : Type 0 where
  pub one : passes m (item (OfRule q)) m ≡ true
  pub ends : within m out ≡ true

repeats : (m : Mode) (q : Rule) (out : Mode) → passes m (item (Repeated q)) out ≡ true → Repeats m q out
repeats m q out e = let to = reached (behind m (Repeated q)) out e in cases (within m (mode_in q)) refl (within (mode_out q) m) refl to.1 to.2
  where
    cases : (a : Bool) → within m (mode_in q) ≡ a → (b : Bool) → within (mode_out q) m ≡ b → {n : Mode} → cond (a && b) (Some m) None ≡ Some n → within n out ≡ true → Repeats m q out
    cases true w true v k l =
        let P : Mode → Type 0 = λ z. within z out ≡ true in
        record { one = ap (λ b. reaches (cond b (Some (mode_out q)) None) m) w ∙ v; ends = subst P (sym (some-mode m _ k)) l }
    cases true w false v k l = absurd (none-mode _ k)
    cases false w b v k l = absurd (none-mode _ k)

-- what a row asks
record Goes (m : Mode) (i : Item) (rest : List Item) (out : Mode) : Type 0 where
  pub next : Mode
  pub one : passes m (item i) next ≡ true
  pub others : passes next (all_of rest) out ≡ true

goes : (m : Mode) (i : Item) (rest : List Item) (out : Mode) → passes m (all_of (i ∷ rest)) out ≡ true → Goes m i rest out
goes m i rest out e = cases (behind m i) e
  where
    cases : (o : Option Mode) → and_on o (λ n. passes_item m i n && passes_row n rest out) ≡ true → Goes m i rest out
    cases None k = absurd (false≢true k)
    cases (Some n) k = let both = and_parts (passes_item m i n) (passes_row n rest out) k in record { next = n; one = both.0; others = both.1 }

flow : (p : Part) (t : Tree Token) (m out : Mode) (op bh : Bool) → IsOf p (seen t) → passes m p out ≡ true → Fits m op bh → Flow false p t op bh out
flow (item (One a)) (leaf x) m out op bh h e f = at_terminal a x m out op bh h e f
flow (item (OfRule q)) (node t) m out op bh h e f = at_rule q t m out op bh h (λ n o oq bq k g. flow (body q) t n o oq bq h k g) e f
flow (item (Optional q)) empty m out op bh h e f = no_optional q m out op bh e f
flow (item (Optional q)) (here t) m out op bh h e f = at_optional q t m out op bh e f (λ o k. flow (item (OfRule q)) t m o op bh h k f)
flow (item (Repeated q)) empty m out op bh h e f = no_tokens (item (Repeated q)) op bh m out refl (repeats m q out e).ends f
flow (item (Repeated q)) (pair t u) m out op bh h e f =
    in_row (item (OfRule q)) (item (Repeated q)) (item (Repeated q)) t u op bh m out (flow (item (OfRule q)) t m m op bh h.0 (repeats m q out e).one f)
    (λ oq bq g. flow (item (Repeated q)) u m out oq bq h.1 e g) refl
flow (all_of []) empty m out op bh h e f = no_tokens (all_of []) op bh m out refl e f
flow (all_of (i ∷ rest)) (pair t u) m out op bh h e f =
    let g = goes m i rest out e in
    in_row (item i) (all_of rest) (all_of (i ∷ rest)) t u op bh g.next out (flow (item i) t m g.next op bh h.0 g.one f)
    (λ oq bq k. flow (all_of rest) u g.next out oq bq h.1 g.others k) refl
flow (one_of (i ∷ rest)) (here t) m out op bh h e f =
    let both = and_parts (passes m (item i) out) (passes m (one_of rest) out) e in
    same_flow false false (item i) (one_of (i ∷ rest)) t (here t) op bh out refl refl (flow (item i) t m out op bh h both.0 f)
flow (one_of (i ∷ rest)) (there t) m out op bh h e f =
    let both = and_parts (passes m (item i) out) (passes m (one_of rest) out) e in
    same_flow false false (one_of rest) (one_of (i ∷ rest)) t (there t) op bh out refl refl (flow (one_of rest) t m out op bh h.0 both.1 f)
flow _ _ m out op bh h e f = absurd h

pub numbers-by-the-tree : (t : Tree Token) → IsOf (item (OfRule Program)) (seen t) → first_number_out_of_range (yield t) ≡ number_out_of_range t
numbers-by-the-tree t h =
    let f = flow (item (OfRule Program)) t start operand false false h refl (refl, refl) in
    ap (scan false false) (sym (append-nil (yield t))) ∙ f.scans [] ∙ or_else-none (out_of_range_in false (item (OfRule Program)) t)
