-- Whether a written type is too large, by its tokens and by what they spell.
use Rattle.std.proofs.Common.{◌≡◌, refl, ℕ, ◌+◌, ◌<◌, ◌≤◌, ◌-◌, max, ◌⊎◌, inl, inr, Bool, true, false, not, ◌&&◌, ◌||◌, cond, eqb, leb, List, [], ◌∷◌, ◌++◌, ap, sym, subst, ◌∙◌, append_assoc, add-one, add-zero, zero-add, arith}
use Rattle.std.proofs.lemmas.Bool.{false≢true, leb-true, leb-false, le-leb, or_left, or_right, cases_lt}
use Rattle.std.proofs.Math.Dec.{eqb-suc-zero}
use Rattle.std.proofs.Math.Nat.{max-zero}
use Rattle.weld_tree.specs.TypeTree.{TypeTree, TypeTrees, scalar, vec, struct, dict, build, no_types, more_types, type_nodes, type_depth, types_nodes, types_depth}
use Rattle.weld_grammar.specs.declared.terminals.symbol.Symbol.TheVariants as s
use Rattle.weld_grammar.specs.declared.terminals.reserved.Reserved.{Reserved}
use Rattle.weld_grammar.specs.declared.terminals.reserved.Reserved.TheVariants as w
use Rattle.weld_grammar.specs.declared.terminals.class.Class.{Class}
use Rattle.weld_grammar.specs.declared.terminals.class.Class.TheVariants as classes
use Rattle.weld_grammar.specs.declared.terminals.token.Token.{Token}
use Rattle.weld_grammar.specs.declared.terminal.Terminal.TheVariants.{Sign, Fixed}
use Rattle.weld_grammar.specs.declared.rule.Rule.TheVariants as r
use Rattle.weld_grammar.specs.declared.item.Item.TheVariants.{Part as OfRule, Repeated}
use Rattle.weld_grammar.specs.Grammar.{item, is_of}
use Rattle.weld_grammar.specs.Derivation.{Tree, leaf, node, empty, pair, here, there, yield, IsOf}
use Rattle.weld_spell.specs.Seen.{seen}
use Rattle.weld_spell.specs.TypeOf.{type_of, next_types_of}
use Rattle.weld_tokens.specs.Lists.{begins_type, ends_type, nodes_at, open_behind, is_too_large}
use Rattle.weld_spell.specs.Measures.{fits}
use Rattle.weld_spell.proofs.Terminals.{of_sign, of_fixed}

-- ---- sizes

-- a node is one too many, or stands too deep
abbrev bad : ℕ → ℕ → Bool
bad n b = leb 256 n || leb 16 b

-- so many nodes of such a depth are too many behind n others, or too deep within b brackets
abbrev pub over : ℕ → ℕ → ℕ → ℕ → Bool
over n b nodes depth = not (leb (n + nodes) 256 && leb (b + depth) 16)

abbrev Bad : ℕ → ℕ → Type 0
Bad n b = (256 ≤ n) ⊎ (16 ≤ b)

abbrev Over : ℕ → ℕ → ℕ → ℕ → Type 0
Over n b nodes depth = (256 < n + nodes) ⊎ (16 < b + depth)

bad-true : (n b : ℕ) → bad n b ≡ true → Bad n b
bad-true n b e = cases (leb 256 n) refl e
  where
    cases : (c : Bool) → leb 256 n ≡ c → (c || leb 16 b) ≡ true → Bad n b
    cases true f g = inl (leb-true 256 n f)
    cases false f g = inr (leb-true 16 b g)

true-bad : (n b : ℕ) → Bad n b → bad n b ≡ true
true-bad n b h =
    elim h as (λ _. bad n b ≡ true) [
      | inl e ↦ or_left (leb 256 n) (leb 16 b) (le-leb 256 n e)
      | inr e ↦ or_right (leb 256 n) (leb 16 b) (le-leb 16 b e)
    ]

over-true : (n b nodes depth : ℕ) → over n b nodes depth ≡ true → Over n b nodes depth
over-true n b nodes depth e = cases (leb (n + nodes) 256) refl (leb (b + depth) 16) refl e
  where
    cases : (c : Bool) → leb (n + nodes) 256 ≡ c → (d : Bool) → leb (b + depth) 16 ≡ d → not (c && d) ≡ true → Over n b nodes depth
    cases false f d g k = inl (leb-false (n + nodes) 256 f)
    cases true f false g k = inr (leb-false (b + depth) 16 g)
    cases true f true g k = absurd (false≢true k)

true-over : (n b nodes depth : ℕ) → Over n b nodes depth → over n b nodes depth ≡ true
true-over n b nodes depth h = cases (leb (n + nodes) 256) refl (leb (b + depth) 16) refl
  where
    cases : (c : Bool) → leb (n + nodes) 256 ≡ c → (d : Bool) → leb (b + depth) 16 ≡ d → not (c && d) ≡ true
    cases false f d g = refl
    cases true f false g = refl
    cases true f true g =
        let k = leb-true (n + nodes) 256 f in
        let l = leb-true (b + depth) 16 g in
        elim h as (λ _. false ≡ true) [ inl e ↦ absurd (omega arith) | inr e ↦ absurd (omega arith) ]

same_truth : (a b : Bool) → (a ≡ true → b ≡ true) → (b ≡ true → a ≡ true) → a ≡ b
same_truth true b f g = sym (f refl)
same_truth false true f g = g refl
same_truth false false f g = refl

or-true : (a b : Bool) → (a || b) ≡ true → (a ≡ true) ⊎ (b ≡ true)
or-true true b e = inl e
or-true false b e = inr e

one_node : (n b : ℕ) → bad n b ≡ over n b 1 1
one_node n b = same_truth (bad n b) (over n b 1 1)
    (λ e. true-over n b 1 1 (elim (bad-true n b e) as (λ _. Over n b 1 1) [ inl f ↦ inl (omega arith) | inr f ↦ inr (omega arith) ]))
    (λ e. true-bad n b (elim (over-true n b 1 1 e) as (λ _. Bad n b) [ inl f ↦ inl (omega arith) | inr f ↦ inr (omega arith) ]))

-- a node around others
around : (n b nodes depth : ℕ) → 1 ≤ nodes → 1 ≤ depth → (bad n b || over (n + 1) (b + 1) nodes depth) ≡ over n b (1 + nodes) (1 + depth)
around n b nodes depth p q = same_truth (bad n b || over (n + 1) (b + 1) nodes depth) (over n b (1 + nodes) (1 + depth))
    (λ e. true-over n b (1 + nodes) (1 + depth)
    (elim (or-true (bad n b) (over (n + 1) (b + 1) nodes depth) e) as (λ _. Over n b (1 + nodes) (1 + depth)) [
      | inl f ↦ elim (bad-true n b f) as (λ _. Over n b (1 + nodes) (1 + depth)) [ inl g ↦ inl (omega arith) | inr g ↦ inr (omega arith) ]
      | inr f ↦ elim (over-true (n + 1) (b + 1) nodes depth f) as (λ _. Over n b (1 + nodes) (1 + depth)) [ inl g ↦ inl (omega arith) | inr g ↦ inr (omega arith) ]
    ]))
    (λ e. or_right (bad n b) (over (n + 1) (b + 1) nodes depth)
    (true-over (n + 1) (b + 1) nodes depth
    (elim (over-true n b (1 + nodes) (1 + depth) e) as (λ _. Over (n + 1) (b + 1) nodes depth) [ inl g ↦ inl (omega arith) | inr g ↦ inr (omega arith) ])))

-- one of two numbers is the greater
greater : (d e : ℕ) → ((max d e ≡ d) × (e ≤ d)) ⊎ ((max d e ≡ e) × (d ≤ e))
greater d e =
    elim (cases_lt d e) as (λ _. ((max d e ≡ d) × (e ≤ d)) ⊎ ((max d e ≡ e) × (d ≤ e))) [
      | inl f ↦ inr (omega arith, omega arith)
      | inr f ↦ inl (omega arith, f)
    ]

-- two in a row
both : (n b nodes depth more deeper : ℕ) → (over n b nodes depth || over (n + nodes) b more deeper) ≡ over n b (nodes + more) (max depth deeper)
both n b nodes depth more deeper = same_truth (over n b nodes depth || over (n + nodes) b more deeper) (over n b (nodes + more) (max depth deeper))
    (λ e. true-over n b (nodes + more) (max depth deeper)
    (elim (greater depth deeper) as (λ _. Over n b (nodes + more) (max depth deeper)) [
      | inl m ↦ let k = m.0 in let l = m.1 in elim (or-true (over n b nodes depth) (over (n + nodes) b more deeper) e) as (λ _. Over n b (nodes + more) (max depth deeper)) [
        | inl f ↦ elim (over-true n b nodes depth f) as (λ _. Over n b (nodes + more) (max depth deeper)) [ inl g ↦ inl (omega arith) | inr g ↦ inr (omega arith) ]
        | inr f ↦ elim (over-true (n + nodes) b more deeper f) as (λ _. Over n b (nodes + more) (max depth deeper)) [ inl g ↦ inl (omega arith) | inr g ↦ inr (omega arith) ]
      ]
      | inr m ↦ let k = m.0 in let l = m.1 in elim (or-true (over n b nodes depth) (over (n + nodes) b more deeper) e) as (λ _. Over n b (nodes + more) (max depth deeper)) [
        | inl f ↦ elim (over-true n b nodes depth f) as (λ _. Over n b (nodes + more) (max depth deeper)) [ inl g ↦ inl (omega arith) | inr g ↦ inr (omega arith) ]
        | inr f ↦ elim (over-true (n + nodes) b more deeper f) as (λ _. Over n b (nodes + more) (max depth deeper)) [ inl g ↦ inl (omega arith) | inr g ↦ inr (omega arith) ]
      ]
    ]))
    (λ e. elim (over-true n b (nodes + more) (max depth deeper) e) as (λ _. (over n b nodes depth || over (n + nodes) b more deeper) ≡ true) [
      | inl f ↦ or_right (over n b nodes depth) (over (n + nodes) b more deeper) (true-over (n + nodes) b more deeper (inl (omega arith)))
      | inr f ↦ elim (greater depth deeper) as (λ _. (over n b nodes depth || over (n + nodes) b more deeper) ≡ true) [
        | inl m ↦ let k = m.0 in or_left (over n b nodes depth) (over (n + nodes) b more deeper) (true-over n b nodes depth (inr (omega arith)))
        | inr m ↦ let k = m.0 in or_right (over n b nodes depth) (over (n + nodes) b more deeper) (true-over (n + nodes) b more deeper (inr (omega arith)))
      ]
    ])

-- a type is too large behind n nodes, within b brackets
abbrev pub over_of : ℕ → ℕ → TypeTree → Bool
over_of n b t = over n b (type_nodes t) (type_depth t)

-- some of these
abbrev overs : ℕ → ℕ → TypeTrees → Bool
overs n b no_types = false
overs n b (more_types t ts) = over_of n b t || overs (n + type_nodes t) b ts

or-none : (a : Bool) → (a || false) ≡ a
or-none true = refl
or-none false = refl

or-assoc : (a b c : Bool) → ((a || b) || c) ≡ (a || (b || c))
or-assoc true b c = refl
or-assoc false b c = refl

fields_over : (n b : ℕ) (t : TypeTree) (ts : TypeTrees) → (over_of n b t || overs (n + type_nodes t) b ts) ≡ over n b (type_nodes t + types_nodes ts) (max (type_depth t) (types_depth ts))
fields_over n b t no_types = or-none (over_of n b t) ∙ ap (λ z. over n b z (type_depth t)) (sym (add-zero (type_nodes t))) ∙ ap (over n b (type_nodes t + 0)) (sym (max-zero (type_depth t)))
fields_over n b t (more_types u us) =
    ap (λ z. over_of n b t || z) (fields_over (n + type_nodes t) b u us)
    ∙ both n b (type_nodes t) (type_depth t) (type_nodes u + types_nodes us) (max (type_depth u) (types_depth us))

one-more : (n : ℕ) → 1 ≤ 1 + n
one-more n = omega arith

some_nodes : (t : TypeTree) → 1 ≤ type_nodes t
some_nodes (scalar k) = one-more 0
some_nodes (vec t) = one-more _
some_nodes (struct ts) = one-more _
some_nodes (dict k v) = one-more _
some_nodes (build b) = one-more _

some_depth : (t : TypeTree) → 1 ≤ type_depth t
some_depth (scalar k) = one-more 0
some_depth (vec t) = one-more _
some_depth (struct ts) = one-more _
some_depth (dict k v) = one-more _
some_depth (build b) = one-more _

-- ---- tokens

abbrev bad_at : Bool → ℕ → ℕ → Bool
bad_at begins n b = begins && bad n b

-- what comes behind a type, where brackets are open
abbrev goes_on : ℕ → ℕ → List Token → Bool
goes_on n b ts = cond (eqb b 0) false (is_too_large n b ts)

within-brackets : (n b : ℕ) (ts : List Token) → goes_on n (b + 1) ts ≡ is_too_large n (b + 1) ts
within-brackets n b ts = ap (λ z. cond z false (is_too_large n (b + 1) ts)) (ap (λ k. eqb k 0) (add-one b) ∙ eqb-suc-zero b)

step : (n b m c : ℕ) (begins ends : Bool) (x : Token) (ts : List Token) → begins_type x.class ≡ begins → ends_type x.class ≡ ends → nodes_at n x.class ≡ m → open_behind b x.class ≡ c
    → is_too_large n b (x ∷ ts) ≡ (bad_at begins n b || cond (eqb c 0 && ends) false (is_too_large m c ts))
step n b m c begins ends x ts e f g h =
    ap (λ z. bad_at z n b || cond (eqb (open_behind b x.class) 0 && ends_type x.class) false (is_too_large (nodes_at n x.class) (open_behind b x.class) ts)) e
    ∙ ap (λ z. bad_at begins n b || cond (eqb (open_behind b x.class) 0 && z) false (is_too_large (nodes_at n x.class) (open_behind b x.class) ts)) f
    ∙ ap (λ z. bad_at begins n b || cond (eqb (open_behind b x.class) 0 && ends) false (is_too_large z (open_behind b x.class) ts)) g
    ∙ ap (λ z. bad_at begins n b || cond (eqb z 0 && ends) false (is_too_large m z ts)) h

and-false : (a : Bool) → (a && false) ≡ false
and-false true = refl
and-false false = refl

and-true : (a : Bool) → (a && true) ≡ a
and-true true = refl
and-true false = refl

not_ended : (n b : ℕ) (ts : List Token) → cond (eqb b 0 && false) false (is_too_large n b ts) ≡ is_too_large n b ts
not_ended n b ts = ap (λ z. cond z false (is_too_large n b ts)) (and-false (eqb b 0))

ended : (n b : ℕ) (ts : List Token) → cond (eqb b 0 && true) false (is_too_large n b ts) ≡ goes_on n b ts
ended n b ts = ap (λ z. cond z false (is_too_large n b ts)) (and-true (eqb b 0))

-- the token of a class
record Shows (c : Class) (begins ends : Bool) : Type 0 where
  pub begun : begins_type c ≡ begins
  pub done : ends_type c ≡ ends

-- a comma, or the operator of a merger
abbrev Calm : Class → Type 0
Calm c = Shows c false false × ((n : ℕ) → nodes_at n c ≡ n) × ((b : ℕ) → open_behind b c ≡ b)

-- the word of a type in brackets
abbrev Head : Class → Type 0
Head c = Shows c true false × ((n : ℕ) → nodes_at n c ≡ n + 1) × ((b : ℕ) → open_behind b c ≡ b)

-- the word of a scalar
abbrev Whole : Class → Type 0
Whole c = Shows c true true × ((n : ℕ) → nodes_at n c ≡ n + 1) × ((b : ℕ) → open_behind b c ≡ b)

at_calm : (n b : ℕ) (x : Token) (ts : List Token) → Calm x.class → is_too_large n b (x ∷ ts) ≡ is_too_large n b ts
at_calm n b x ts h = step n b n b false false x ts h.0.begun h.0.done (h.1 n) (h.2 b) ∙ not_ended n b ts

at_head : (n b : ℕ) (x : Token) (ts : List Token) → Head x.class → is_too_large n b (x ∷ ts) ≡ (bad n b || is_too_large (n + 1) b ts)
at_head n b x ts h = step n b (n + 1) b true false x ts h.0.begun h.0.done (h.1 n) (h.2 b) ∙ ap (λ z. bad n b || z) (not_ended (n + 1) b ts)

at_whole : (n b : ℕ) (x : Token) (ts : List Token) → Whole x.class → is_too_large n b (x ∷ ts) ≡ (bad n b || goes_on (n + 1) b ts)
at_whole n b x ts h = step n b (n + 1) b true true x ts h.0.begun h.0.done (h.1 n) (h.2 b) ∙ ap (λ z. bad n b || z) (ended (n + 1) b ts)

at_bracket : (n b : ℕ) (x : Token) (ts : List Token) → x.class ≡ classes.Symbol s.LeftBracket → is_too_large n b (x ∷ ts) ≡ is_too_large n (b + 1) ts
at_bracket n b x ts e = step n b n (b + 1) false false x ts (ap begins_type e) (ap ends_type e) (ap (nodes_at n) e) (ap (open_behind b) e) ∙ not_ended n (b + 1) ts

at_brace : (n b : ℕ) (x : Token) (ts : List Token) → x.class ≡ classes.Symbol s.LeftBrace → is_too_large n b (x ∷ ts) ≡ (bad n b || is_too_large (n + 1) (b + 1) ts)
at_brace n b x ts e = step n b (n + 1) (b + 1) true false x ts (ap begins_type e) (ap ends_type e) (ap (nodes_at n) e) (ap (open_behind b) e) ∙ ap (λ z. bad n b || z) (not_ended (n + 1) (b + 1) ts)

one-less : (b : ℕ) → (b + 1) - 1 ≡ b
one-less b = omega arith

-- a bracket that closes a type
abbrev Last : Class → Type 0
Last c = Shows c false true × ((n : ℕ) → nodes_at n c ≡ n) × ((b : ℕ) → open_behind (b + 1) c ≡ b)

at_last : (n b : ℕ) (x : Token) (ts : List Token) → Last x.class → is_too_large n (b + 1) (x ∷ ts) ≡ goes_on n b ts
at_last n b x ts h = step n (b + 1) n b false true x ts h.0.begun h.0.done (h.1 n) (h.2 b) ∙ ended n b ts

calm_comma : (x : Token) → is_of (Sign s.Comma) x.class ≡ true → Calm x.class
calm_comma x h = let P : Class → Type 0 = Calm in subst P (sym (of_sign s.Comma x.class h)) (record { begun = refl; done = refl }, λ n. refl, λ b. refl)

last_bracket : (x : Token) → is_of (Sign s.RightBracket) x.class ≡ true → Last x.class
last_bracket x h = let P : Class → Type 0 = Last in subst P (sym (of_sign s.RightBracket x.class h)) (record { begun = refl; done = refl }, λ n. refl, λ b. one-less b)

last_brace : (x : Token) → is_of (Sign s.RightBrace) x.class ≡ true → Last x.class
last_brace x h = let P : Class → Type 0 = Last in subst P (sym (of_sign s.RightBrace x.class h)) (record { begun = refl; done = refl }, λ n. refl, λ b. one-less b)

abbrev is_head : Reserved → Bool
is_head w.Vec = true
is_head w.Dict = true
is_head w.Vecbuilder = true
is_head w.Appender = true
is_head w.Merger = true
is_head w.Dictmerger = true
is_head w.Vecmerger = true
is_head w.Groupbuilder = true
is_head w.Groupmerger = true
is_head _ = false

head_word : (a : Reserved) → is_head a ≡ true → Head (classes.Reserved a)
head_word w.Vec e = (record { begun = refl; done = refl }, λ n. refl, λ b. refl)
head_word w.Dict e = (record { begun = refl; done = refl }, λ n. refl, λ b. refl)
head_word w.Vecbuilder e = (record { begun = refl; done = refl }, λ n. refl, λ b. refl)
head_word w.Appender e = (record { begun = refl; done = refl }, λ n. refl, λ b. refl)
head_word w.Merger e = (record { begun = refl; done = refl }, λ n. refl, λ b. refl)
head_word w.Dictmerger e = (record { begun = refl; done = refl }, λ n. refl, λ b. refl)
head_word w.Vecmerger e = (record { begun = refl; done = refl }, λ n. refl, λ b. refl)
head_word w.Groupbuilder e = (record { begun = refl; done = refl }, λ n. refl, λ b. refl)
head_word w.Groupmerger e = (record { begun = refl; done = refl }, λ n. refl, λ b. refl)
head_word _ e = absurd (false≢true e)

head : (a : Reserved) (x : Token) → is_head a ≡ true → is_of (Fixed a) x.class ≡ true → Head x.class
head a x e h = let P : Class → Type 0 = Head in subst P (sym (of_fixed a x.class h)) (head_word a e)

abbrev is_whole : Reserved → Bool
is_whole w.Bool = true
is_whole w.I8 = true
is_whole w.I16 = true
is_whole w.I32 = true
is_whole w.I64 = true
is_whole w.U8 = true
is_whole w.U16 = true
is_whole w.U32 = true
is_whole w.U64 = true
is_whole _ = false

whole_word : (a : Reserved) → is_whole a ≡ true → Whole (classes.Reserved a)
whole_word w.Bool e = (record { begun = refl; done = refl }, λ n. refl, λ b. refl)
whole_word w.I8 e = (record { begun = refl; done = refl }, λ n. refl, λ b. refl)
whole_word w.I16 e = (record { begun = refl; done = refl }, λ n. refl, λ b. refl)
whole_word w.I32 e = (record { begun = refl; done = refl }, λ n. refl, λ b. refl)
whole_word w.I64 e = (record { begun = refl; done = refl }, λ n. refl, λ b. refl)
whole_word w.U8 e = (record { begun = refl; done = refl }, λ n. refl, λ b. refl)
whole_word w.U16 e = (record { begun = refl; done = refl }, λ n. refl, λ b. refl)
whole_word w.U32 e = (record { begun = refl; done = refl }, λ n. refl, λ b. refl)
whole_word w.U64 e = (record { begun = refl; done = refl }, λ n. refl, λ b. refl)
whole_word _ e = absurd (false≢true e)

whole : (a : Reserved) (x : Token) → is_whole a ≡ true → is_of (Fixed a) x.class ≡ true → Whole x.class
whole a x e h = let P : Class → Type 0 = Whole in subst P (sym (of_fixed a x.class h)) (whole_word a e)

-- ---- what stands in the brackets of a type

abbrev Closing : Tree Token → ℕ → ℕ → Bool → ℕ → Type 0
Closing u n b o m = (rest : List Token) → is_too_large n (b + 1) (yield u ++ rest) ≡ (o || goes_on m b rest)

-- a type whole
abbrev Runs : Tree Token → ℕ → ℕ → Type 0
Runs t n b = (rest : List Token) → is_too_large n b (yield t ++ rest) ≡ (over_of n b (type_of t) || goes_on (n + type_nodes (type_of t)) b rest)

close_type : (t u : Tree Token) (n b m : ℕ) (o : Bool) → Runs t n (b + 1) → Closing u (n + type_nodes (type_of t)) b o m → Closing (pair t u) n b (over_of n (b + 1) (type_of t) || o) m
close_type t u n b m o h k rest =
    let size = over_of n (b + 1) (type_of t) in
    ap (is_too_large n (b + 1)) (append_assoc (yield t) (yield u) rest)
    ∙ h (yield u ++ rest)
    ∙ ap (λ z. size || z) (within-brackets (n + type_nodes (type_of t)) b (yield u ++ rest) ∙ k rest)
    ∙ sym (or-assoc size o (goes_on m b rest))

close_last : (x : Token) (n b : ℕ) → Last x.class → Closing (pair (leaf x) empty) n b false n
close_last x n b h rest = at_last n b x rest h

close_calm : (x : Token) (u : Tree Token) (n b m : ℕ) (o : Bool) → Calm x.class → Closing u n b o m → Closing (pair (leaf x) u) n b o m
close_calm x u n b m o h k rest = at_calm n (b + 1) x (yield u ++ rest) h ∙ k rest

close_op : (p u : Tree Token) (n b m : ℕ) (o : Bool) → IsOf (item (OfRule r.MergeOp)) (seen p) → Closing u n b o m → Closing (pair p u) n b o m
close_op (node (here (leaf x))) u n b m o h k rest =
    let P : Class → Type 0 = Calm in
    at_calm n (b + 1) x (yield u ++ rest) (subst P (sym (of_sign s.Plus x.class h)) (record { begun = refl; done = refl }, λ n. refl, λ b. refl)) ∙ k rest
close_op (node (there (here (leaf x)))) u n b m o h k rest =
    let P : Class → Type 0 = Calm in
    at_calm n (b + 1) x (yield u ++ rest) (subst P (sym (of_sign s.Star x.class h.0)) (record { begun = refl; done = refl }, λ n. refl, λ b. refl)) ∙ k rest
close_op (node (there (there (here (leaf x))))) u n b m o h k rest =
    let P : Class → Type 0 = Calm in
    at_calm n (b + 1) x (yield u ++ rest) (subst P (sym (of_fixed w.Min x.class h.0.0)) (record { begun = refl; done = refl }, λ n. refl, λ b. refl)) ∙ k rest
close_op (node (there (there (there (here (leaf x)))))) u n b m o h k rest =
    let P : Class → Type 0 = Calm in
    at_calm n (b + 1) x (yield u ++ rest) (subst P (sym (of_fixed w.Max x.class h.0.0.0)) (record { begun = refl; done = refl }, λ n. refl, λ b. refl)) ∙ k rest
close_op _ u n b m o h k rest = absurd (assumption)

-- a type of its brackets
finish : (n b m : ℕ) (o : Bool) (ty : TypeTree) (rest : List Token) → (bad n b || o) ≡ over_of n b ty → m ≡ n + type_nodes ty → (bad n b || (o || goes_on m b rest)) ≡ (over_of n b ty || goes_on (n + type_nodes ty) b rest)
finish n b m o ty rest e f =
    sym (or-assoc (bad n b) o (goes_on m b rest)) ∙ ap (λ z. z || goes_on m b rest) e ∙ ap (λ z. over_of n b ty || goes_on z b rest) f

in_brackets : (x y : Token) (u : Tree Token) (n b m : ℕ) (o : Bool) (ty : TypeTree) → Head x.class → is_of (Sign s.LeftBracket) y.class ≡ true → Closing u (n + 1) b o m → (bad n b || o) ≡ over_of n b ty → m ≡ n + type_nodes ty
    → (rest : List Token) → is_too_large n b (x ∷ y ∷ (yield u ++ rest)) ≡ (over_of n b ty || goes_on (n + type_nodes ty) b rest)
in_brackets x y u n b m o ty h k f e g rest =
    at_head n b x (y ∷ (yield u ++ rest)) h
    ∙ ap (λ z. bad n b || z) (at_bracket (n + 1) b y (yield u ++ rest) (of_sign s.LeftBracket y.class k) ∙ f rest)
    ∙ finish n b m o ty rest e g

in_braces : (x : Token) (u : Tree Token) (n b m : ℕ) (o : Bool) (ty : TypeTree) → is_of (Sign s.LeftBrace) x.class ≡ true → Closing u (n + 1) b o m → (bad n b || o) ≡ over_of n b ty → m ≡ n + type_nodes ty
    → (rest : List Token) → is_too_large n b (x ∷ (yield u ++ rest)) ≡ (over_of n b ty || goes_on (n + type_nodes ty) b rest)
in_braces x u n b m o ty k f e g rest =
    at_brace n b x (yield u ++ rest) (of_sign s.LeftBrace x.class k)
    ∙ ap (λ z. bad n b || z) (f rest)
    ∙ finish n b m o ty rest e g

-- around one type, two, or some
around_one : (n b : ℕ) (t : TypeTree) → (bad n b || (over_of (n + 1) (b + 1) t || false)) ≡ over n b (1 + type_nodes t) (1 + type_depth t)
around_one n b t = ap (λ z. bad n b || z) (or-none (over_of (n + 1) (b + 1) t)) ∙ around n b (type_nodes t) (type_depth t) (some_nodes t) (some_depth t)

around_two : (n b : ℕ) (t u : TypeTree) → (bad n b || (over_of (n + 1) (b + 1) t || (over_of ((n + 1) + type_nodes t) (b + 1) u || false))) ≡ over n b (1 + (type_nodes t + type_nodes u)) (1 + max (type_depth t) (type_depth u))
around_two n b t u =
    ap (λ z. bad n b || (over_of (n + 1) (b + 1) t || z)) (or-none (over_of ((n + 1) + type_nodes t) (b + 1) u))
    ∙ ap (λ z. bad n b || z) (both (n + 1) (b + 1) (type_nodes t) (type_depth t) (type_nodes u) (type_depth u))
    ∙ around n b (type_nodes t + type_nodes u) (max (type_depth t) (type_depth u)) (let p = some_nodes t in omega arith) (let p = some_depth t in omega arith)

around_some : (n b : ℕ) (t : TypeTree) (ts : TypeTrees) → (bad n b || (over_of (n + 1) (b + 1) t || (overs ((n + 1) + type_nodes t) (b + 1) ts || false))) ≡ over n b (1 + (type_nodes t + types_nodes ts)) (1 + max (type_depth t) (types_depth ts))
around_some n b t ts =
    ap (λ z. bad n b || (over_of (n + 1) (b + 1) t || z)) (or-none (overs ((n + 1) + type_nodes t) (b + 1) ts))
    ∙ ap (λ z. bad n b || z) (fields_over (n + 1) (b + 1) t ts)
    ∙ around n b (type_nodes t + types_nodes ts) (max (type_depth t) (types_depth ts)) (let p = some_nodes t in omega arith) (let p = some_depth t in omega arith)

sum_one : (n k : ℕ) → (n + 1) + k ≡ n + (1 + k)
sum_one n k = omega arith

sum_two : (n k l : ℕ) → ((n + 1) + k) + l ≡ n + (1 + (k + l))
sum_two n k l = omega arith

-- ---- types

-- a scalar
of_scalar : (x : Token) (n b : ℕ) → Whole x.class → (rest : List Token) → is_too_large n b (x ∷ rest) ≡ (over n b 1 1 || goes_on (n + 1) b rest)
of_scalar x n b h rest = at_whole n b x rest h ∙ ap (λ z. z || goes_on (n + 1) b rest) (one_node n b)

-- what closes the brackets behind the last type
with_last : (z : Token) (b : ℕ) → is_of (Sign s.RightBracket) z.class ≡ true → (m : ℕ) → Closing (pair (leaf z) empty) m b false m
with_last z b h m = close_last z m b (last_bracket z h)

with_op : (c z : Token) (p : Tree Token) (b : ℕ) → is_of (Sign s.Comma) c.class ≡ true → IsOf (item (OfRule r.MergeOp)) (seen p) → is_of (Sign s.RightBracket) z.class ≡ true → (m : ℕ) → Closing (pair (leaf c) (pair p (pair (leaf z) empty))) m b false m
with_op c z p b h k l m = close_calm c (pair p (pair (leaf z) empty)) m b m false (calm_comma c h) (close_op p (pair (leaf z) empty) m b m false k (with_last z b l m))

-- one type in brackets, and two
bracket_one : (x y : Token) (t u : Tree Token) (n b : ℕ) → Head x.class → is_of (Sign s.LeftBracket) y.class ≡ true → Runs t (n + 1) (b + 1) → ((m : ℕ) → Closing u m b false m)
    → (rest : List Token) → is_too_large n b (x ∷ y ∷ (yield (pair t u) ++ rest)) ≡ (over_of n b (vec (type_of t)) || goes_on (n + type_nodes (vec (type_of t))) b rest)
bracket_one x y t u n b h k f g =
    let m = (n + 1) + type_nodes (type_of t) in
    in_brackets x y (pair t u) n b m (over_of (n + 1) (b + 1) (type_of t) || false) (vec (type_of t)) h k (close_type t u (n + 1) b m false f (g m)) (around_one n b (type_of t)) (sum_one n (type_nodes (type_of t)))

bracket_two : (x y c : Token) (t u v : Tree Token) (n b : ℕ) → Head x.class → is_of (Sign s.LeftBracket) y.class ≡ true → Runs t (n + 1) (b + 1) → is_of (Sign s.Comma) c.class ≡ true → Runs u ((n + 1) + type_nodes (type_of t)) (b + 1) → ((m : ℕ) → Closing v m b false m)
    → (rest : List Token) → is_too_large n b (x ∷ y ∷ (yield (pair t (pair (leaf c) (pair u v))) ++ rest)) ≡ (over_of n b (dict (type_of t) (type_of u)) || goes_on (n + type_nodes (dict (type_of t) (type_of u))) b rest)
bracket_two x y c t u v n b h k f l g e =
    let one = (n + 1) + type_nodes (type_of t) in
    let m = one + type_nodes (type_of u) in
    let second = over_of one (b + 1) (type_of u) || false in
    in_brackets x y (pair t (pair (leaf c) (pair u v))) n b m (over_of (n + 1) (b + 1) (type_of t) || second) (dict (type_of t) (type_of u)) h k
    (close_type t (pair (leaf c) (pair u v)) (n + 1) b m second f (close_calm c (pair u v) one b m second (calm_comma c l) (close_type u v one b m false g (e m))))
    (around_two n b (type_of t) (type_of u)) (sum_two n (type_nodes (type_of t)) (type_nodes (type_of u)))

-- further types of a struct
abbrev Nexts : Tree Token → ℕ → ℕ → Type 0
Nexts t n b = (rest : List Token) → is_too_large n (b + 1) (yield t ++ rest) ≡ (overs n (b + 1) (next_types_of t) || is_too_large (n + types_nodes (next_types_of t)) (b + 1) rest)

close_more : (t u : Tree Token) (n b m : ℕ) (o : Bool) → Nexts t n b → Closing u (n + types_nodes (next_types_of t)) b o m → Closing (pair t u) n b (overs n (b + 1) (next_types_of t) || o) m
close_more t u n b m o h k rest =
    let size = overs n (b + 1) (next_types_of t) in
    ap (is_too_large n (b + 1)) (append_assoc (yield t) (yield u) rest) ∙ h (yield u ++ rest) ∙ ap (λ z. size || z) (k rest) ∙ sym (or-assoc size o (goes_on m b rest))

braces_some : (x z : Token) (t more : Tree Token) (n b : ℕ) → is_of (Sign s.LeftBrace) x.class ≡ true → Runs t (n + 1) (b + 1) → Nexts more ((n + 1) + type_nodes (type_of t)) b → is_of (Sign s.RightBrace) z.class ≡ true
    → (rest : List Token) → is_too_large n b (x ∷ (yield (pair t (pair more (pair (leaf z) empty))) ++ rest)) ≡ (over_of n b (struct (more_types (type_of t) (next_types_of more))) || goes_on (n + type_nodes (struct (more_types (type_of t) (next_types_of more)))) b rest)
braces_some x z t more n b k f g l =
    let one = (n + 1) + type_nodes (type_of t) in
    let m = one + types_nodes (next_types_of more) in
    let second = overs one (b + 1) (next_types_of more) || false in
    in_braces x (pair t (pair more (pair (leaf z) empty))) n b m (over_of (n + 1) (b + 1) (type_of t) || second) (struct (more_types (type_of t) (next_types_of more))) k
    (close_type t (pair more (pair (leaf z) empty)) (n + 1) b m second f (close_more more (pair (leaf z) empty) one b m false g (close_last z m b (last_brace z l))))
    (around_some n b (type_of t) (next_types_of more)) (sum_two n (type_nodes (type_of t)) (types_nodes (next_types_of more)))

no_nexts : (n b : ℕ) → Nexts empty n b
no_nexts n b rest = ap (λ k. is_too_large k (b + 1) rest) (sym (add-zero n))

more_nexts : (c : Token) (t more : Tree Token) (n b : ℕ) → is_of (Sign s.Comma) c.class ≡ true → Runs t n (b + 1) → Nexts more (n + type_nodes (type_of t)) b → Nexts (pair (node (pair (leaf c) (pair t empty))) more) n b
more_nexts c t more n b h f g rest =
    let one = n + type_nodes (type_of t) in
    let size = over_of n (b + 1) (type_of t) in
    at_calm n (b + 1) c (((yield t ++ []) ++ yield more) ++ rest) (calm_comma c h)
    ∙ ap (is_too_large n (b + 1)) (append_assoc (yield t ++ []) (yield more) rest ∙ append_assoc (yield t) [] (yield more ++ rest))
    ∙ f (yield more ++ rest)
    ∙ ap (λ z. size || z) (within-brackets one b (yield more ++ rest) ∙ g rest)
    ∙ sym (or-assoc size (overs one (b + 1) (next_types_of more)) (is_too_large (one + types_nodes (next_types_of more)) (b + 1) rest))
    ∙ ap (λ k. (size || overs one (b + 1) (next_types_of more)) || is_too_large k (b + 1) rest) (let k : one + types_nodes (next_types_of more) ≡ n + (type_nodes (type_of t) + types_nodes (next_types_of more)) = omega arith in k)

mutual
  runs : (t : Tree Token) (n b : ℕ) → IsOf (item (OfRule r.AnyType)) (seen t) → Runs t n b
  runs (node (here (node (here (leaf x))))) n b h = of_scalar x n b (whole w.Bool x refl h)
  runs (node (here (node (there (here (node (here (leaf x)))))))) n b h = of_scalar x n b (whole w.I8 x refl h.0)
  runs (node (here (node (there (here (node (there (here (leaf x))))))))) n b h = of_scalar x n b (whole w.I16 x refl h.0.0)
  runs (node (here (node (there (here (node (there (there (here (leaf x)))))))))) n b h = of_scalar x n b (whole w.I32 x refl h.0.0.0)
  runs (node (here (node (there (here (node (there (there (there (here (leaf x))))))))))) n b h = of_scalar x n b (whole w.I64 x refl h.0.0.0.0)
  runs (node (here (node (there (here (node (there (there (there (there (here (leaf x)))))))))))) n b h = of_scalar x n b (whole w.U8 x refl h.0.0.0.0.0)
  runs (node (here (node (there (here (node (there (there (there (there (there (here (leaf x))))))))))))) n b h = of_scalar x n b (whole w.U16 x refl h.0.0.0.0.0.0)
  runs (node (here (node (there (here (node (there (there (there (there (there (there (here (leaf x)))))))))))))) n b h = of_scalar x n b (whole w.U32 x refl h.0.0.0.0.0.0.0)
  runs (node (here (node (there (here (node (there (there (there (there (there (there (there (here (leaf x))))))))))))))) n b h = of_scalar x n b (whole w.U64 x refl h.0.0.0.0.0.0.0.0)
  runs (node (there (here (node (pair (leaf x) (pair (leaf y) (pair t (pair (leaf z) empty)))))))) n b h =
      let is = h.0 in bracket_one x y t (pair (leaf z) empty) n b (head w.Vec x refl is.0) is.1.0 (runs t (n + 1) (b + 1) is.1.1.0) (with_last z b is.1.1.1.0)
  runs (node (there (there (here (node (pair (leaf x) (pair t (pair more (pair (leaf z) empty))))))))) n b h =
      let is = h.0.0 in braces_some x z t more n b is.0 (runs t (n + 1) (b + 1) is.1.0) (nexts more ((n + 1) + type_nodes (type_of t)) b is.1.1.0) is.1.1.1.0
  runs (node (there (there (there (here (node (pair (leaf x) (pair (leaf y) (pair t (pair (leaf c) (pair u (pair (leaf z) empty)))))))))))) n b h =
      let is = h.0.0.0 in
      bracket_two x y c t u (pair (leaf z) empty) n b (head w.Dict x refl is.0) is.1.0 (runs t (n + 1) (b + 1) is.1.1.0) is.1.1.1.0 (runs u ((n + 1) + type_nodes (type_of t)) (b + 1) is.1.1.1.1.0) (with_last z b is.1.1.1.1.1.0)
  runs (node (there (there (there (there (here (node (pair (node (here (leaf x))) (pair (leaf y) (pair t (pair (leaf z) empty))))))))))) n b h =
      let is = h.0.0.0.0 in bracket_one x y t (pair (leaf z) empty) n b (head w.Vecbuilder x refl is.0) is.1.0 (runs t (n + 1) (b + 1) is.1.1.0) (with_last z b is.1.1.1.0)
  runs (node (there (there (there (there (here (node (pair (node (there (here (leaf x)))) (pair (leaf y) (pair t (pair (leaf z) empty))))))))))) n b h =
      let is = h.0.0.0.0 in bracket_one x y t (pair (leaf z) empty) n b (head w.Appender x refl is.0.0) is.1.0 (runs t (n + 1) (b + 1) is.1.1.0) (with_last z b is.1.1.1.0)
  runs (node (there (there (there (there (there (here (node (pair (leaf x) (pair (leaf y) (pair t (pair (leaf c) (pair p (pair (leaf z) empty)))))))))))))) n b h =
      let is = h.0.0.0.0.0 in bracket_one x y t (pair (leaf c) (pair p (pair (leaf z) empty))) n b (head w.Merger x refl is.0) is.1.0 (runs t (n + 1) (b + 1) is.1.1.0) (with_op c z p b is.1.1.1.0 is.1.1.1.1.0 is.1.1.1.1.1.0)
  runs (node (there (there (there (there (there (there (here (node (pair (leaf x) (pair (leaf y) (pair t (pair (leaf c) (pair u (pair (leaf d) (pair p (pair (leaf z) empty))))))))))))))))) n b h =
      let is = h.0.0.0.0.0.0 in
      bracket_two x y c t u (pair (leaf d) (pair p (pair (leaf z) empty))) n b (head w.Dictmerger x refl is.0) is.1.0 (runs t (n + 1) (b + 1) is.1.1.0) is.1.1.1.0 (runs u ((n + 1) + type_nodes (type_of t)) (b + 1) is.1.1.1.1.0)
      (with_op d z p b is.1.1.1.1.1.0 is.1.1.1.1.1.1.0 is.1.1.1.1.1.1.1.0)
  runs (node (there (there (there (there (there (there (there (here (node (pair (leaf x) (pair (leaf y) (pair t (pair (leaf c) (pair p (pair (leaf z) empty)))))))))))))))) n b h =
      let is = h.0.0.0.0.0.0.0 in bracket_one x y t (pair (leaf c) (pair p (pair (leaf z) empty))) n b (head w.Vecmerger x refl is.0) is.1.0 (runs t (n + 1) (b + 1) is.1.1.0) (with_op c z p b is.1.1.1.0 is.1.1.1.1.0 is.1.1.1.1.1.0)
  runs (node (there (there (there (there (there (there (there (there (here (node (pair (node (here (leaf x))) (pair (leaf y) (pair t (pair (leaf c) (pair u (pair (leaf z) empty))))))))))))))))) n b h =
      let is = h.0.0.0.0.0.0.0.0 in
      bracket_two x y c t u (pair (leaf z) empty) n b (head w.Groupbuilder x refl is.0) is.1.0 (runs t (n + 1) (b + 1) is.1.1.0) is.1.1.1.0 (runs u ((n + 1) + type_nodes (type_of t)) (b + 1) is.1.1.1.1.0) (with_last z b is.1.1.1.1.1.0)
  runs (node (there (there (there (there (there (there (there (there (here (node (pair (node (there (here (leaf x)))) (pair (leaf y) (pair t (pair (leaf c) (pair u (pair (leaf z) empty))))))))))))))))) n b h =
      let is = h.0.0.0.0.0.0.0.0 in
      bracket_two x y c t u (pair (leaf z) empty) n b (head w.Groupmerger x refl is.0.0) is.1.0 (runs t (n + 1) (b + 1) is.1.1.0) is.1.1.1.0 (runs u ((n + 1) + type_nodes (type_of t)) (b + 1) is.1.1.1.1.0) (with_last z b is.1.1.1.1.1.0)
  runs _ n b h = absurd (assumption)

  nexts : (t : Tree Token) (n b : ℕ) → IsOf (item (Repeated r.NextType)) (seen t) → Nexts t n b
  nexts empty n b h = no_nexts n b
  nexts (pair (node (pair (leaf c) (pair t empty))) more) n b h = more_nexts c t more n b h.0.0 (runs t n (b + 1) h.0.1.0) (nexts more (n + type_nodes (type_of t)) b h.1)
  nexts _ n b h = absurd (assumption)

-- a type by its tokens, and by what they spell
pub too-large : (t : Tree Token) (rest : List Token) → IsOf (item (OfRule r.AnyType)) (seen t) → is_too_large 0 0 (yield t ++ rest) ≡ not (fits (type_of t))
too-large t rest h =
    runs t 0 0 h rest
    ∙ or-none (over_of 0 0 (type_of t))
    ∙ ap (λ k. not (leb k 256 && leb (0 + type_depth (type_of t)) 16)) (zero-add (type_nodes (type_of t)))
    ∙ ap (λ k. not (leb (type_nodes (type_of t)) 256 && leb k 16)) (zero-add (type_depth (type_of t)))
