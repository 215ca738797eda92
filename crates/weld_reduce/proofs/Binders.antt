-- The machine names binders, and opens and closes them.
use Rattle.std.proofs.Common.{◌≡◌, refl, ℕ, ◌+◌, false, Option, Some, None, List, ◌∷◌, ap, sym}
use Rattle.weld_grammar.specs.declared.terminals.symbol.Symbol.TheVariants as s
use Rattle.weld_grammar.specs.declared.terminals.reserved.Reserved.TheVariants as w
use Rattle.weld_grammar.specs.declared.terminals.token.Token.{Token}
use Rattle.weld_tree.specs.ExprTree.{let_in}
use Rattle.weld_grammar.specs.declared.terminal.Terminal.TheVariants.{Sign, Word}
use Rattle.weld_grammar.specs.declared.rule.Rule.TheVariants as r
use Rattle.weld_grammar.specs.declared.item.Item.TheVariants.{One, Part as OfRule, Optional}
use Rattle.weld_grammar.specs.Grammar.{item}
use Rattle.weld_grammar.specs.Derivation.{Tree, leaf, node, empty, pair, here}
use Rattle.weld_spell.specs.ProgramOf.{word_of, binder_of, bound_as, expr_of, or_of}
use Rattle.weld_spell.specs.Names.{Refused, or_else, reserved, misnamed, none}
use Rattle.weld_reduce.specs.Values.{token, expr}
use Rattle.weld_reduce.specs.Forms.{at}
use Rattle.weld_reduce.specs.States.{Named, State, reduce, push, names_of}
use Rattle.weld_reduce.proofs.Does.{Does, since, shifted, opened, kept, first, row, absent, present, refuses, or_else-none}
use Rattle.weld_reduce.proofs.Nameless.{silent}
use Rattle.weld_reduce.proofs.Good.{Good}
use Rattle.weld_reduce.proofs.Tokens.{fixed_told, alone, itself, quiet, at_sign, hushed, closed, ended}
use Rattle.weld_reduce.proofs.TypeForms.{type_at, spells_type}
use Rattle.weld_reduce.proofs.Levels.{with_next, behind, Spells}

-- the binder of the word, with its name
abbrev pub named_as : Tree Token → Tree Token → ℕ → Named
named_as w note n = record { binder = binder_of w note n; word = word_of w }

-- it's open, and seen
abbrev pub opens : Tree Token → Tree Token → State → State
opens w note st = record { values = st.values; binders = named_as w note st.next ∷ st.binders; scope = bound_as w st.next ∷ st.scope; next = st.next + 1; misnamed = st.misnamed; params = st.params }

-- it's open, but not seen yet
abbrev pub opens_let : Tree Token → Tree Token → State → State
opens_let w note st = record { values = st.values; binders = named_as w note st.next ∷ st.binders; scope = st.scope; next = st.next + 1; misnamed = st.misnamed; params = st.params }

-- a word in the place of a name
pub a_word : (x : Token) (st : State) → Does (item (One Word)) (leaf x) st (reserved x.class x.place) (push (token x) st)
a_word x st = shifted {m = reserved x.class x.place} (λ z. refl)

-- ---- notes

abbrev pub noted : Tree Token → State → State
noted (here (node (pair c (pair t rest)))) st = push (type_at t) st
noted _ st = st

pub notes : (t : Tree Token) (st : State) → Good false (item (Optional r.Note)) t → Does (item (Optional r.Note)) t st (misnamed none (item (Optional r.Note)) t (names_of st.scope)) (noted t st)
notes empty st g = absent r.Note st
notes (here (node (pair c (pair t end)))) st g = present (kept (row (quiet s.Colon c st (λ x st. refl) g.0) (row (spells_type t g.1.0 st) (ended end (push (type_at t) st) g.1.1))) (λ z. refl))
notes _ st g = absurd (assumption)

-- ---- the binder of a lambda

binding : (note : Tree Token) (x : Token) (st : State) (z : Option Refused) → Good false (item (Optional r.Note)) note → reduce r.Bind (since z (noted note (push (token x) st))) ≡ Some (since z (opens (leaf x) note st))
binding empty x st z g = refl
binding (here (node (pair c (pair t end)))) x st z g = refl
binding _ x st z g = absurd (assumption)

pub binds : (x : Token) (note end : Tree Token) (st : State) (scope : List (List ℕ)) → Good false (item (OfRule r.Bind)) (node (pair (leaf x) (pair note end))) → Does (item (OfRule r.Bind)) (node (pair (leaf x) (pair note end))) st (misnamed none (item (OfRule r.Bind)) (node (pair (leaf x) (pair note end))) scope) (opens (leaf x) note st)
binds x note end st scope g =
    let before = push (token x) st in
    refuses (opened {next = opens (leaf x) note st} (row (a_word x st) (row (hushed _ refl (notes note before g.1.0)) (closed end (noted note before) g.1.1))) (λ z. binding note x st z g.1.0))
    (ap (λ q. or_else (reserved x.class x.place) (or_else q None)) (sym (silent (item (Optional r.Note)) note scope refl)))

-- ---- `let`

names_it : (q : Tree Token) (x : Token) (note : Tree Token) (st : State) → Good false (item (One (Sign s.Equals))) q → Good false (item (Optional r.Note)) note → Does (item (One (Sign s.Equals))) q (noted note (push (token x) st)) None (opens_let (leaf x) note st)
names_it q x empty st g h = at_sign s.Equals q (λ y z. refl) g
names_it q x (here (node (pair c (pair t end)))) st g h = at_sign s.Equals q (λ y z. refl) g
names_it q x _ st g h = absurd (assumption)

pub let_form : (l : Tree Token) (x : Token) (note q v m b end : Tree Token) → Good false (item (OfRule r.Let)) (node (pair l (pair (leaf x) (pair note (pair q (pair v (pair m (pair b end)))))))) → Spells r.Or or_of v → Spells r.Expr expr_of b
    → Spells r.Expr expr_of (node (here (node (pair l (pair (leaf x) (pair note (pair q (pair v (pair m (pair b end))))))))))
let_form l x note q v m b end g k h st =
    let y = fixed_told w.Let l itself (λ x st. refl) g.0 in
    let st1 = push (token y.is) st in
    let st2 = push (token x) st1 in
    let st3 = opens_let (leaf x) note st1 in
    let value = or_of v st.scope (st.next + 1) in
    let st4 = behind st3 value in
    let st5 : State = record { values = st4.values; binders = st4.binders; scope = bound_as (leaf x) st.next ∷ st.scope; next = value.next; misnamed = st.misnamed; params = st.params } in
    let inner = expr_of b st5.scope value.next in
    kept (first (opened (refuses
    (row (hushed _ refl (y.does st)) (row (a_word x st1) (row (hushed _ refl (notes note st2 g.1.1.0)) (row (names_it q x note st1 g.1.1.1.0 g.1.1.0) (row (k st3) (row (at_sign {next = st5} s.Semicolon m (λ y z. refl) g.1.1.1.1.1.0) (row (h st5) (closed end (behind st5 inner) g.1.1.1.1.1.1.1))))))))
    (ap (λ n. or_else (reserved x.class x.place) (or_else (misnamed none (item (OfRule r.Or)) v (names_of st.scope)) n)) (or_else-none (misnamed none (item (OfRule r.Expr)) b (names_of st5.scope)))))
    (λ z. ap (λ p. Some (since z (push (expr (let_in (at p) (binder_of (leaf x) note st.next) value.expr inner.expr)) (with_next inner.next st)))) (alone y)))) (λ z. refl)
