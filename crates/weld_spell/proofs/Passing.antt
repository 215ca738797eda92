-- A list's items hold no comma and no end of the list: where a list is gone through by commas, a tree's tokens are passed over.
use Rattle.std.proofs.Common.{◌≡◌, refl, ℕ, zero, suc, ◌+◌, ◌-◌, Bool, true, false, not, ◌&&◌, ◌||◌, cond, eqb, Option, Some, None, List, [], ◌∷◌, ◌++◌, ap, sym, subst, ◌∙◌, append_assoc, add-zero, add-suc, suc-add, arith}
use Rattle.std.proofs.lemmas.Bool.{false≢true, eqb-true, eq-eqb, not-true, and_parts}
use Rattle.std.proofs.Math.Dec.{eqb-suc-zero}
use Rattle.weld_grammar.specs.declared.terminals.symbol.Symbol.{Symbol}
use Rattle.weld_grammar.specs.declared.terminals.symbol.Symbol.TheVariants as s
use Rattle.weld_grammar.specs.declared.terminals.class.Class.{Class}
use Rattle.weld_grammar.specs.declared.terminals.class.Class.TheVariants as classes
use Rattle.weld_grammar.specs.declared.terminals.token.Token.{Token}
use Rattle.weld_grammar.specs.declared.terminal.Terminal.{Terminal}
use Rattle.weld_grammar.specs.declared.terminal.Terminal.TheVariants.{Sign, Fixed, Word, Name, Number, Field, Chars}
use Rattle.weld_grammar.specs.declared.rule.Rule.{Rule}
use Rattle.weld_grammar.specs.declared.rule.Rule.TheVariants as r
use Rattle.weld_grammar.specs.declared.item.Item.{Item}
use Rattle.weld_grammar.specs.declared.item.Item.TheVariants.{One, Part as OfRule, Optional, Repeated}
use Rattle.weld_grammar.specs.Grammar.{Part, item, all_of, one_of, body, is_of}
use Rattle.weld_grammar.specs.Derivation.{Tree, leaf, node, empty, pair, here, there, yield, IsOf}
use Rattle.weld_spell.specs.Seen.{seen}
use Rattle.weld_tokens.specs.TokenLimits.{is_opening, is_closing}
use Rattle.weld_tokens.specs.Lists.{is_comma, is_bar, open_behind, ends_list, behind_commas}
use Rattle.weld_spell.proofs.Terminals.{of_sign}

-- ---- tokens

-- a token opens a bracket, closes one, goes on in a list or ends one, or does nothing of that
pub data Effect : Type 0 where
  up : Effect
  down : Effect
  stop : Effect
  flat : Effect

abbrev pub effect_of_symbol : Symbol → Effect
effect_of_symbol s.LeftParen = up
effect_of_symbol s.LeftBracket = up
effect_of_symbol s.LeftBrace = up
effect_of_symbol s.RightParen = down
effect_of_symbol s.RightBracket = down
effect_of_symbol s.RightBrace = down
effect_of_symbol s.Comma = stop
effect_of_symbol s.Bar = stop
effect_of_symbol _ = flat

abbrev pub effect : Class → Effect
effect (classes.Symbol a) = effect_of_symbol a
effect _ = flat

abbrev pub effect_of : Terminal → Effect
effect_of (Sign a) = effect_of_symbol a
effect_of _ = flat

-- what a class of the effect shows
record Shows (c : Class) (opening closing stopping : Bool) : Type 0 where
  pub opens : is_opening c ≡ opening
  pub closes : is_closing c ≡ closing
  pub comma : stopping ≡ false → is_comma c ≡ false
  pub bar : stopping ≡ false → is_bar c ≡ false

abbrev Of : Effect → Class → Type 0
Of up c = Shows c true false false
Of down c = Shows c false true false
Of stop c = Shows c false false true
Of flat c = Shows c false false false

shows_symbol : (a : Symbol) → Of (effect_of_symbol a) (classes.Symbol a)
shows_symbol s.LeftParen = record { opens = refl; closes = refl; comma = λ e. refl; bar = λ e. refl }
shows_symbol s.LeftBracket = record { opens = refl; closes = refl; comma = λ e. refl; bar = λ e. refl }
shows_symbol s.LeftBrace = record { opens = refl; closes = refl; comma = λ e. refl; bar = λ e. refl }
shows_symbol s.RightParen = record { opens = refl; closes = refl; comma = λ e. refl; bar = λ e. refl }
shows_symbol s.RightBracket = record { opens = refl; closes = refl; comma = λ e. refl; bar = λ e. refl }
shows_symbol s.RightBrace = record { opens = refl; closes = refl; comma = λ e. refl; bar = λ e. refl }
shows_symbol s.Comma = record { opens = refl; closes = refl; comma = λ e. e; bar = λ e. refl }
shows_symbol s.Bar = record { opens = refl; closes = refl; comma = λ e. refl; bar = λ e. e }
shows_symbol _ = record { opens = refl; closes = refl; comma = λ e. refl; bar = λ e. refl }

shows : (c : Class) → Of (effect c) c
shows (classes.Symbol a) = shows_symbol a
shows _ = record { opens = refl; closes = refl; comma = λ e. refl; bar = λ e. refl }

pub effect-of : (a : Terminal) (c : Class) → is_of a c ≡ true → effect c ≡ effect_of a
effect-of (Sign a) c e = ap effect (of_sign a c e)
effect-of (Fixed a) (classes.Reserved b) e = refl
effect-of Word (classes.Reserved b) e = refl
effect-of Word classes.Name e = refl
effect-of Name classes.Name e = refl
effect-of Number classes.Int e = refl
effect-of Number classes.Long e = refl
effect-of Field classes.Field e = refl
effect-of Chars classes.Chars e = refl
effect-of _ _ e = absurd (false≢true e)

-- ---- the test of the table

-- the rule's trees have no comma and no bar outside of their brackets
abbrev pub quiet : Rule → Bool
quiet r.Program = false
quiet r.WithParams = false
quiet r.NextParam = false
quiet r.NextExpr = false
quiet r.NextLeg = false
quiet r.NextType = false
quiet _ = true

-- how many brackets more are open behind a token, where so many more were before; `within` some that stand around
abbrev behind_effect : Bool → ℕ → Effect → Option ℕ
behind_effect within k up = Some (k + 1)
behind_effect within k down = cond (eqb k 0) None (Some (k - 1))
behind_effect within k stop = cond (within || not (eqb k 0)) (Some k) None
behind_effect within k flat = Some k

abbrev behind_rule : Bool → ℕ → Rule → Option ℕ
behind_rule within k q = cond ((within || not (eqb k 0)) || quiet q) (Some k) None

abbrev behind : Bool → ℕ → Item → Option ℕ
behind within k (One a) = behind_effect within k (effect_of a)
behind within k (OfRule q) = behind_rule within k q
behind within k (Optional q) = behind_rule within k q
behind within k (Repeated q) = behind_rule within k q

abbrev reaches : Option ℕ → ℕ → Bool
reaches None out = false
reaches (Some k) out = eqb k out

abbrev and_on : Option ℕ → (ℕ → Bool) → Bool
and_on None f = false
and_on (Some k) f = f k

abbrev passes_row : Bool → ℕ → List Item → ℕ → Bool
passes_row within k [] out = eqb k out
passes_row within k (i ∷ rest) out = and_on (behind within k i) (λ n. passes_row within n rest out)

abbrev passes_each : Bool → ℕ → List Item → ℕ → Bool
passes_each within k [] out = true
passes_each within k (i ∷ rest) out = reaches (behind within k i) out && passes_each within k rest out

abbrev passes : Bool → ℕ → Part → ℕ → Bool
passes within k (item i) out = reaches (behind within k i) out
passes within k (all_of s) out = passes_row within k s out
passes within k (one_of s) out = passes_each within k s out

table_within : (q : Rule) → passes true 0 (body q) 0 ≡ true
table_within r.Program = refl
table_within _ = refl

table_quiet : (q : Rule) → quiet q ≡ true → passes false 0 (body q) 0 ≡ true
table_quiet r.Program e = absurd (false≢true e)
table_quiet r.WithParams e = absurd (false≢true e)
table_quiet r.NextParam e = absurd (false≢true e)
table_quiet r.NextExpr e = absurd (false≢true e)
table_quiet r.NextLeg e = absurd (false≢true e)
table_quiet r.NextType e = absurd (false≢true e)
table_quiet _ e = refl

-- ---- one token passed over

-- so many brackets are open
abbrev Around : Bool → ℕ → Type 0
Around within base = within ≡ true → eqb base 0 ≡ false

not-zero : (k : ℕ) → eqb k 0 ≡ false → (base : ℕ) → eqb (base + k) 0 ≡ false
not-zero zero e base = absurd (false≢true (sym e))
not-zero (suc k) e base = rw add-suc (eqb-suc-zero (base + k))

base-not-zero : (base : ℕ) → eqb base 0 ≡ false → (k : ℕ) → eqb (base + k) 0 ≡ false
base-not-zero zero e k = absurd (false≢true (sym e))
base-not-zero (suc base) e k = rw suc-add (eqb-suc-zero (base + k))

around : (within : Bool) (base k : ℕ) → Around within base → (within || not (eqb k 0)) ≡ true → eqb (base + k) 0 ≡ false
around true base k a e = base-not-zero base (a refl) k
around false base k a e = not-zero k (not-true (eqb k 0) e) base

not_ended : (params : Bool) (c : Class) → is_closing c ≡ false → is_bar c ≡ false → ends_list params c ≡ false
not_ended true c e f = f
not_ended false c e f = e

-- at a token that neither goes on in the list nor ends it
step : (params : Bool) (commas brackets : ℕ) (x : Token) (ts : List Token) → eqb commas 0 ≡ false → (eqb brackets 0 && ends_list params x.class) ≡ false → (eqb brackets 0 && is_comma x.class) ≡ false
    → behind_commas params commas brackets (x ∷ ts) ≡ behind_commas params commas (open_behind brackets x.class) ts
step params commas brackets x ts e f g =
    ap (λ b. cond b (x ∷ ts) (cond (eqb brackets 0 && ends_list params x.class) [] (cond (eqb brackets 0 && is_comma x.class) (behind_commas params (commas - 1) 0 ts) (behind_commas params commas (open_behind brackets x.class) ts)))) e
    ∙ ap (λ b. cond b [] (cond (eqb brackets 0 && is_comma x.class) (behind_commas params (commas - 1) 0 ts) (behind_commas params commas (open_behind brackets x.class) ts))) f
    ∙ ap (λ b. cond b (behind_commas params (commas - 1) 0 ts) (behind_commas params commas (open_behind brackets x.class) ts)) g

and_with : (a b : Bool) → b ≡ false → (a && b) ≡ false
and_with true b e = e
and_with false b e = refl

opened : (b : ℕ) (c : Class) → is_opening c ≡ true → open_behind b c ≡ b + 1
opened b c e = ap (λ z. cond z (b + 1) (cond (is_closing c) (b - 1) b)) e

closed : (b : ℕ) (c : Class) → is_opening c ≡ false → is_closing c ≡ true → open_behind b c ≡ b - 1
closed b c e f = ap (λ z. cond z (b + 1) (cond (is_closing c) (b - 1) b)) e ∙ ap (λ z. cond z (b - 1) b) f

kept : (b : ℕ) (c : Class) → is_opening c ≡ false → is_closing c ≡ false → open_behind b c ≡ b
kept b c e f = ap (λ z. cond z (b + 1) (cond (is_closing c) (b - 1) b)) e ∙ ap (λ z. cond z (b - 1) b) f

-- what stands behind these tokens, in a list gone through
abbrev Over : List Token → ℕ → ℕ → Type 0
Over us b c = (params : Bool) (commas : ℕ) (ts : List Token) → eqb commas 0 ≡ false → behind_commas params commas b (us ++ ts) ≡ behind_commas params commas c ts

some-number : (m n : ℕ) → Some m ≡ Some n → m ≡ n
some-number m n e = cc

none-number : (n : ℕ) → None ≡ Some n → ⊥
none-number n e = cc

-- a token at which nothing ends, with what it does to the brackets
over_calm : (x : Token) (b c : ℕ) → is_closing x.class ≡ false → is_comma x.class ≡ false → is_bar x.class ≡ false → open_behind b x.class ≡ c → Over (x ∷ []) b c
over_calm x b c e f g o params commas ts n =
    step params commas b x ts n (and_with (eqb b 0) (ends_list params x.class) (not_ended params x.class e g)) (and_with (eqb b 0) (is_comma x.class) f)
    ∙ ap (λ z. behind_commas params commas z ts) o

-- a token where brackets are open
over_any : (x : Token) (b c : ℕ) → eqb b 0 ≡ false → open_behind b x.class ≡ c → Over (x ∷ []) b c
over_any x b c e o params commas ts n =
    step params commas b x ts n (ap (λ z. z && ends_list params x.class) e) (ap (λ z. z && is_comma x.class) e)
    ∙ ap (λ z. behind_commas params commas z ts) o

over_to : (us : List Token) (b c d : ℕ) → c ≡ d → Over us b c → Over us b d
over_to us b c d e o = let P : ℕ → Type 0 = λ z. Over us b z in subst P e o

over_effect : (f : Effect) (x : Token) (within : Bool) (base k n : ℕ) → Around within base → Of f x.class → behind_effect within k f ≡ Some n → Over (x ∷ []) (base + k) (base + n)
over_effect up x within base k n a s e =
    over_calm x (base + k) (base + n) s.closes (s.comma refl) (s.bar refl) (opened (base + k) x.class s.opens ∙ (let g : k + 1 ≡ n = some-number (k + 1) n e in omega arith))
over_effect flat x within base k n a s e =
    over_calm x (base + k) (base + n) s.closes (s.comma refl) (s.bar refl) (kept (base + k) x.class s.opens s.closes ∙ ap (λ z. base + z) (some-number k n e))
over_effect stop x within base k n a s e = cases (within || not (eqb k 0)) refl e
  where
    cases : (b : Bool) → (within || not (eqb k 0)) ≡ b → cond b (Some k) None ≡ Some n → Over (x ∷ []) (base + k) (base + n)
    cases true w g = over_any x (base + k) (base + n) (around within base k a w) (kept (base + k) x.class s.opens s.closes ∙ ap (λ z. base + z) (some-number k n g))
    cases false w g = absurd (none-number n g)
over_effect down x within base k n a s e = cases (eqb k 0) refl e
  where
    less : (k n : ℕ) → eqb k 0 ≡ false → k - 1 ≡ n → (base + k) - 1 ≡ base + n
    less zero n e f = absurd (false≢true (sym e))
    less (suc k) n e f = omega arith

    cases : (b : Bool) → eqb k 0 ≡ b → cond b None (Some (k - 1)) ≡ Some n → Over (x ∷ []) (base + k) (base + n)
    cases true w g = absurd (none-number n g)
    cases false w g = over_any x (base + k) (base + n) (not-zero k w base) (closed (base + k) x.class s.opens s.closes ∙ less k n w (some-number (k - 1) n g))

-- ---- trees

over_none : (b : ℕ) → Over [] b b
over_none b params commas ts n = refl

over_both : (us vs : List Token) (b c d : ℕ) → Over us b c → Over vs c d → Over (us ++ vs) b d
over_both us vs b c d f g params commas ts n =
    ap (behind_commas params commas b) (append_assoc us vs ts) ∙ f params commas (vs ++ ts) n ∙ g params commas ts n

-- where a rule is passed over: what is asked of its body
record Enters (q : Rule) (b : ℕ) : Type 0 where
  pub within : Bool
  pub fine : Around within b
  pub goes : passes within 0 (body q) 0 ≡ true

enters : (q : Rule) (within : Bool) (base k n : ℕ) → Around within base → behind_rule within k q ≡ Some n → Enters q (base + k) × (k ≡ n)
enters q within base k n a e = cases (within || not (eqb k 0)) refl (quiet q) refl e
  where
    cases : (b : Bool) → (within || not (eqb k 0)) ≡ b → (c : Bool) → quiet q ≡ c → cond (b || c) (Some k) None ≡ Some n → Enters q (base + k) × (k ≡ n)
    cases true w c v g = (record { within = true; fine = λ z. around within base k a w; goes = table_within q }, some-number k n g)
    cases false w true v g = (record { within = false; fine = λ z. absurd (false≢true z); goes = table_quiet q v }, some-number k n g)
    cases false w false v g = absurd (none-number n g)

reached : (o : Option ℕ) (out : ℕ) → reaches o out ≡ true → o ≡ Some out
reached None out e = absurd (false≢true e)
reached (Some n) out e = ap Some (eqb-true n out e)

record Goes (within : Bool) (k : ℕ) (i : Item) (rest : List Item) (out : ℕ) : Type 0 where
  pub next : ℕ
  pub one : behind within k i ≡ Some next
  pub others : passes_row within next rest out ≡ true

goes : (within : Bool) (k : ℕ) (i : Item) (rest : List Item) (out : ℕ) → passes within k (all_of (i ∷ rest)) out ≡ true → Goes within k i rest out
goes within k i rest out e = cases (behind within k i) refl e
  where
    cases : (o : Option ℕ) → behind within k i ≡ o → and_on o (λ n. passes_row within n rest out) ≡ true → Goes within k i rest out
    cases None w g = absurd (false≢true g)
    cases (Some n) w g = record { next = n; one = w; others = g }

same-level : (n : ℕ) → eqb n n ≡ true
same-level n = eq-eqb n n refl

at_some : (o : Option ℕ) (n : ℕ) → o ≡ Some n → reaches o n ≡ true
at_some o n e = ap (λ z. reaches z n) e ∙ same-level n

-- a rule that is passed over where its body is
over_rule : (us : List Token) (q : Rule) (within : Bool) (base k n : ℕ) → Around within base → behind_rule within k q ≡ Some n
    → ((w : Bool) → Around w (base + k) → passes w 0 (body q) 0 ≡ true → Over us ((base + k) + 0) ((base + k) + 0)) → Over us (base + k) (base + n)
over_rule us q within base k n a e f =
    let to = enters q within base k n a e in
    let P : ℕ → Type 0 = λ z. Over us z z in
    over_to us (base + k) (base + k) (base + n) (ap (λ z. base + z) to.1) (subst P (add-zero (base + k)) (f to.0.within to.0.fine to.0.goes))

over : (p : Part) (t : Tree Token) (within : Bool) (base k out : ℕ) → IsOf p (seen t) → passes within k p out ≡ true → Around within base → Over (yield t) (base + k) (base + out)
over (item (One a)) (leaf x) within base k out h e f =
    let P : Effect → Type 0 = λ z. Of z x.class in
    over_effect (effect_of a) x within base k out f (subst P (effect-of a x.class h) (shows x.class)) (reached (behind within k (One a)) out e)
over (item (OfRule q)) (node t) within base k out h e f =
    over_rule (yield t) q within base k out f (reached (behind_rule within k q) out e) (λ w g m. over (body q) t w (base + k) 0 0 h m g)
over (item (Optional q)) empty within base k out h e f =
    over_to [] (base + k) (base + k) (base + out) (ap (λ z. base + z) (enters q within base k out f (reached (behind_rule within k q) out e)).1) (over_none (base + k))
over (item (Optional q)) (here t) within base k out h e f = over (item (OfRule q)) t within base k out h e f
over (item (Repeated q)) empty within base k out h e f =
    over_to [] (base + k) (base + k) (base + out) (ap (λ z. base + z) (enters q within base k out f (reached (behind_rule within k q) out e)).1) (over_none (base + k))
over (item (Repeated q)) (pair t u) within base k out h e f =
    let same = (enters q within base k out f (reached (behind_rule within k q) out e)).1 in
    let P : ℕ → Type 0 = λ z. reaches (behind_rule within z q) out ≡ true in
    over_both (yield t) (yield u) (base + k) (base + out) (base + out) (over (item (OfRule q)) t within base k out h.0 e f) (over (item (Repeated q)) u within base out out h.1 (subst P same e) f)
over (all_of []) empty within base k out h e f = over_to [] (base + k) (base + k) (base + out) (ap (λ z. base + z) (eqb-true k out e)) (over_none (base + k))
over (all_of (i ∷ rest)) (pair t u) within base k out h e f =
    let g = goes within k i rest out e in
    over_both (yield t) (yield u) (base + k) (base + g.next) (base + out)
    (over (item i) t within base k g.next h.0 (at_some (behind within k i) g.next g.one) f)
    (over (all_of rest) u within base g.next out h.1 g.others f)
over (one_of (i ∷ rest)) (here t) within base k out h e f = over (item i) t within base k out h (and_parts (reaches (behind within k i) out) (passes_each within k rest out) e).0 f
over (one_of (i ∷ rest)) (there t) within base k out h e f = over (one_of rest) t within base k out h.0 (and_parts (reaches (behind within k i) out) (passes_each within k rest out) e).1 f
over _ _ within base k out h e f = absurd h

-- the tokens of a quiet rule are passed over in a list
pub passed : (q : Rule) (t : Tree Token) (params : Bool) (commas : ℕ) (ts : List Token) → quiet q ≡ true → IsOf (item (OfRule q)) (seen t) → eqb commas 0 ≡ false
    → behind_commas params commas 0 (yield t ++ ts) ≡ behind_commas params commas 0 ts
passed q t params commas ts e h n =
    over (item (OfRule q)) t false 0 0 0 h (ap (λ b. reaches (cond b (Some 0) None) 0) e) (λ z. absurd (false≢true z)) params commas ts n

-- ---- a comma of the list, and its end

-- behind a comma
pub at_comma : (params : Bool) (n : ℕ) (x : Token) (ts : List Token) → x.class ≡ classes.Symbol s.Comma → behind_commas params (suc n) 0 (x ∷ ts) ≡ behind_commas params n 0 ts
at_comma params n x ts e =
    ap (λ b. cond b (x ∷ ts) (cond (ends_list params x.class) [] (cond (is_comma x.class) (behind_commas params (suc n - 1) 0 ts) (behind_commas params (suc n) (open_behind 0 x.class) ts)))) (eqb-suc-zero n)
    ∙ ap (λ b. cond b [] (cond (is_comma x.class) (behind_commas params (suc n - 1) 0 ts) (behind_commas params (suc n) (open_behind 0 x.class) ts))) (ap (ends_list params) e ∙ goes_on params)
    ∙ ap (λ b. cond b (behind_commas params (suc n - 1) 0 ts) (behind_commas params (suc n) (open_behind 0 x.class) ts)) (ap is_comma e)
    ∙ ap (λ k. behind_commas params k 0 ts) (let k : suc n - 1 ≡ n = omega arith in k)
  where
    goes_on : (params : Bool) → ends_list params (classes.Symbol s.Comma) ≡ false
    goes_on true = refl
    goes_on false = refl

-- none where the list ends
pub at_end : (params : Bool) (commas : ℕ) (x : Token) (ts : List Token) → eqb commas 0 ≡ false → ends_list params x.class ≡ true → behind_commas params commas 0 (x ∷ ts) ≡ []
at_end params commas x ts n e =
    ap (λ b. cond b (x ∷ ts) (cond (ends_list params x.class) [] (cond (is_comma x.class) (behind_commas params (commas - 1) 0 ts) (behind_commas params commas (open_behind 0 x.class) ts)))) n
    ∙ ap (λ b. cond b [] (cond (is_comma x.class) (behind_commas params (commas - 1) 0 ts) (behind_commas params commas (open_behind 0 x.class) ts))) e

-- behind no comma more stand these tokens
pub at_none : (params : Bool) (ts : List Token) → behind_commas params 0 0 ts ≡ ts
at_none params [] = refl
at_none params (x ∷ ts) = refl
