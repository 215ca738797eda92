-- The machine that spells a program: a stack of values, the binders that are open, the names in scope, the number of
-- the next binder, the first name refused, and the parameters.
use Rattle.std.specs.Prelude.{ℕ, ◌+◌, true, false, Option, Some, None, option_and_then, List, [], ◌∷◌, ◌++◌}
use Rattle.weld_grammar.specs.declared.terminals.symbol.Symbol.TheVariants as s
use Rattle.weld_grammar.specs.declared.terminals.reserved.Reserved.TheVariants as w
use Rattle.weld_grammar.specs.declared.terminals.token.Token.{Token}
use Rattle.weld_tokens.specs.Literals.{string_value}
use Rattle.weld_tree.specs.declared.place.Place.{Place}
use Rattle.weld_tree.specs.declared.binder.Binder.{Binder}
use Rattle.weld_tree.specs.TypeTree.{TypeTree}
use Rattle.weld_tree.specs.ExprTree.{leaf as leaf_at, let_in, loop, iterate, pack_legs, truth, chars, name}
use Rattle.weld_grammar.specs.declared.terminal.Terminal.{Terminal}
use Rattle.weld_grammar.specs.declared.terminal.Terminal.TheVariants.{Sign, Fixed, Word, Name, Number, Field, Chars}
use Rattle.weld_grammar.specs.declared.rule.Rule.{Rule}
use Rattle.weld_grammar.specs.declared.rule.Rule.TheVariants as r
use Rattle.weld_spell.specs.Names.{Refused, or_else, unbound, reserved}
use Rattle.weld_spell.specs.ProgramOf.{Bound, number_in}
use Rattle.weld_reduce.specs.Values.{Value, token, expr, legs, ty, Top, top_token, top_expr, top_legs}
use Rattle.weld_reduce.specs.Forms.{at, reduced}

-- a binder with its name
pub record Named : Type 0 where
  pub binder : Binder
  pub word : List ℕ

pub record State : Type 0 where
  pub values : List Value
  pub binders : List Named
  pub scope : List Bound
  pub next : ℕ
  pub misnamed : Option Refused
  pub params : List Binder

-- before the first token
abbrev pub start : State
start = record { values = []; binders = []; scope = []; next = 0; misnamed = None; params = [] }

-- the names in scope
abbrev pub names_of : List Bound → List (List ℕ)
names_of [] = []
names_of (b ∷ scope) = b.bytes ∷ names_of scope

abbrev pub with_values : State → List Value → State
with_values st vs = record { values = vs; binders = st.binders; scope = st.scope; next = st.next; misnamed = st.misnamed; params = st.params }

abbrev pub push : Value → State → State
push v st = with_values st (v ∷ st.values)

abbrev pub refuse : Option Refused → State → State
refuse refused st = record { values = st.values; binders = st.binders; scope = st.scope; next = st.next; misnamed = or_else st.misnamed refused; params = st.params }

-- the binder is seen from here on
abbrev pub bound : Named → Bound
bound n = record { bytes = n.word; number = n.binder.sym.0 }

-- ---- binders

-- the type written behind a name, with its place, and what lies under it; of no type nothing is said
abbrev pub note : List Value → (Option TypeTree × Place) × List Value
note (ty p t ∷ vs) = ((Some t, p), vs)
note vs = ((None, record { line = 0; column = 0 }), vs)

-- the binder of the word on top, perhaps with a type, of this number
abbrev pub named : ℕ → List Value → Top Named
named n vs = option_and_then (λ t. Some (record { binder = record { sym = record { 0 = n }; place = t.0.place; note = (note vs).0.0; note_place = (note vs).0.1 }; word = t.0.word }, t.1)) (top_token (note vs).1)

-- of a `let`: it isn't seen in its value
abbrev pub name_let : State → Option State
name_let st = option_and_then (λ b. Some (record { values = b.1; binders = b.0 ∷ st.binders; scope = st.scope; next = st.next + 1; misnamed = st.misnamed; params = st.params })) (named st.next st.values)

-- in its body it is
abbrev pub see_let : State → Option State
see_let st =
    elim st.binders as (λ _. Option State) [
      | [] ↦ None
      | b ∷ bs ↦ Some (record { values = st.values; binders = st.binders; scope = bound b ∷ st.scope; next = st.next; misnamed = st.misnamed; params = st.params })
    ]

-- of a lambda
abbrev pub bind : State → Option State
bind st = option_and_then (λ b. Some (record { values = b.1; binders = b.0 ∷ st.binders; scope = bound b.0 ∷ st.scope; next = st.next + 1; misnamed = st.misnamed; params = st.params })) (named st.next st.values)

-- of the program
abbrev pub param : State → Option State
param st = option_and_then (λ b. Some (record { values = b.1; binders = st.binders; scope = bound b.0 ∷ st.scope; next = st.next + 1; misnamed = st.misnamed; params = st.params ++ b.0.binder ∷ [] })) (named st.next st.values)

-- the newest binder, which is closed
abbrev pub Closed : Type 0
Closed = Option (Binder × State)

abbrev pub close : State → Closed
close st =
    elim st.binders as (λ _. Closed) [
      | [] ↦ None
      | b ∷ bs ↦ elim st.scope as (λ _. Closed) [
        | [] ↦ None
        | x ∷ scope ↦ Some (b.binder, record { values = st.values; binders = bs; scope = scope; next = st.next; misnamed = st.misnamed; params = st.params })
      ]
    ]

abbrev pub reduce_let : State → Option State
reduce_let st = option_and_then (λ b. option_and_then (λ f. option_and_then (λ e. option_and_then (λ t. Some (with_values b.1 (expr (let_in (at t.0.place) b.0 e.0 f.0) ∷ t.1))) (top_token e.1)) (top_expr f.1)) (top_expr b.1.values)) (close st)

abbrev pub reduce_iterate : State → Option State
reduce_iterate st = option_and_then (λ b. option_and_then (λ f. option_and_then (λ e. option_and_then (λ t. Some (with_values b.1 (expr (iterate (at t.0.place) e.0 b.0 f.0) ∷ t.1))) (top_token e.1)) (top_expr f.1)) (top_expr b.1.values)) (close st)

abbrev pub reduce_for : State → Option State
reduce_for st = option_and_then (λ z. option_and_then (λ y. option_and_then (λ x. option_and_then (λ f. option_and_then (λ e. option_and_then (λ ls. option_and_then (λ t. Some (with_values x.1 (expr (loop (at t.0.place) (pack_legs ls.0) e.0 x.0 y.0 z.0 f.0) ∷ t.1))) (top_token ls.1)) (top_legs e.1)) (top_expr f.1)) (top_expr x.1.values)) (close y.1)) (close z.1)) (close st)

-- ---- all steps

-- a token is taken as the terminal
abbrev pub shift : Terminal → Token → State → Option State
shift Number t st = Some (push (token t) st)
shift Field t st = Some (push (token t) st)
shift Word t st = Some (refuse (reserved t.class t.place) (push (token t) st))
shift Name t st = Some (refuse (unbound (names_of st.scope) t) (push (expr (leaf_at (at t.place) (name (number_in st.scope t.word)))) st))
shift Chars t st = Some (push (expr (leaf_at (at t.place) (chars (string_value t.word)))) st)
shift (Fixed w.True) t st = Some (push (expr (leaf_at (at t.place) (truth true))) st)
shift (Fixed w.False) t st = Some (push (expr (leaf_at (at t.place) (truth false))) st)
shift (Fixed w.Zip) t st = Some (push (legs []) st)
shift (Fixed word) t st = Some (push (token t) st)
shift (Sign s.LeftParen) t st = Some st
shift (Sign s.RightParen) t st = Some st
shift (Sign s.RightBracket) t st = Some st
shift (Sign s.RightBrace) t st = Some st
shift (Sign s.Comma) t st = Some st
shift (Sign s.Colon) t st = Some st
shift (Sign s.Bar) t st = Some st
shift (Sign s.Equals) t st = name_let st
shift (Sign s.Semicolon) t st = see_let st
shift (Sign symbol) t st = Some (push (token t) st)

-- the rule ends
abbrev pub reduce : Rule → State → Option State
reduce r.Let st = reduce_let st
reduce r.For st = reduce_for st
reduce r.Iterate st = reduce_iterate st
reduce r.Bind st = bind st
reduce r.Param st = param st
reduce rule st = option_and_then (λ vs. Some (with_values st vs)) (reduced rule st.values)
