-- The machine spells each program, and each type that stands alone.
use Rattle.std.proofs.Common.{◌≡◌, refl, ℕ, ◌+◌, false, Option, Some, None, List, [], ◌∷◌, ◌++◌, ap, sym, ◌∙◌, append_assoc}
use Rattle.std.proofs.lemmas.List.{append-nil}
use Rattle.weld_grammar.specs.declared.terminals.symbol.Symbol.TheVariants as s
use Rattle.weld_grammar.specs.declared.terminals.token.Token.{Token}
use Rattle.weld_grammar.specs.declared.terminal.Terminal.TheVariants.{Sign}
use Rattle.weld_grammar.specs.declared.rule.Rule.TheVariants as r
use Rattle.weld_grammar.specs.declared.item.Item.TheVariants.{One, Part as OfRule, Repeated}
use Rattle.weld_grammar.specs.Grammar.{Part, item, all_of}
use Rattle.weld_grammar.specs.Derivation.{Tree, leaf, node, empty, pair, here, there, yield, IsOf}
use Rattle.weld_accept.specs.Derived.{steps}
use Rattle.weld_spell.specs.Seen.{seen}
use Rattle.weld_spell.specs.TypeOf.{type_of}
use Rattle.weld_spell.specs.ProgramOf.{Bound, first_of, expr_of, param_of, param_bound, next_params_of, params_scope, params_behind, program_of}
use Rattle.weld_spell.specs.Names.{Refused, or_else, reserved, misnamed, none, with_params, first_misnamed}
use Rattle.weld_spell.specs.Ranges.{number_out_of_range}
use Rattle.weld_reduce.specs.Values.{token, expr}
use Rattle.weld_reduce.specs.States.{State, push, start, names_of}
use Rattle.weld_reduce.specs.Programs.{AreOfTheirClasses}
use Rattle.weld_reduce.specs.Runs.{run, Comes, ComesToType}
use Rattle.weld_reduce.proofs.Does.{Does, since, opened, kept, first, later, row, no_more, one_more, leads, refuses, or_else-none}
use Rattle.weld_reduce.proofs.Good.{Good, good, numberless}
use Rattle.weld_reduce.proofs.Nameless.{silent}
use Rattle.weld_reduce.proofs.Tokens.{sign_told, itself, quiet, hushed, closed, ended}
use Rattle.weld_reduce.proofs.TypeForms.{type_at, spells_type}
use Rattle.weld_reduce.proofs.Levels.{behind, Spells}
use Rattle.weld_reduce.proofs.Binders.{a_word}
use Rattle.weld_reduce.proofs.Expressions.{spells_expr}

-- ---- parameters

-- behind a parameter
abbrev with_param : Tree Token → State → State
with_param p st = record { values = st.values; binders = st.binders; scope = param_bound p st.next ∷ st.scope; next = st.next + 1; misnamed = st.misnamed; params = st.params ++ param_of p st.next ∷ [] }

-- behind further ones
abbrev with_more : Tree Token → State → State
with_more t st = record { values = st.values; binders = st.binders; scope = params_scope t st.scope st.next; next = params_behind t st.next; misnamed = st.misnamed; params = st.params ++ next_params_of t st.next }

a_param : (x : Token) (c t end : Tree Token) (st : State) (scope : List (List ℕ)) → Good false (item (OfRule r.Param)) (node (pair (leaf x) (pair c (pair t end))))
    → Does (item (OfRule r.Param)) (node (pair (leaf x) (pair c (pair t end)))) st (misnamed none (item (OfRule r.Param)) (node (pair (leaf x) (pair c (pair t end)))) scope) (with_param (node (pair (leaf x) (pair c (pair t end)))) st)
a_param x c t end st scope g =
    let before = push (token x) st in
    refuses (opened (row (a_word x st) (row (hushed _ refl (quiet s.Colon c before (λ x st. refl) g.1.0)) (row (hushed _ refl (spells_type t g.1.1.0 before)) (closed end (push (type_at t) before) g.1.1.1)))) (λ z. refl))
    (ap (λ q. or_else (reserved x.class x.place) q) (sym (silent (all_of (One (Sign s.Colon) ∷ OfRule r.AnyType ∷ [])) (pair c (pair t end)) scope refl)))

more_params : (t : Tree Token) (st : State) (scope : List (List ℕ)) → Good false (item (Repeated r.NextParam)) t → Does (item (Repeated r.NextParam)) t st (misnamed none (item (Repeated r.NextParam)) t scope) (with_more t st)
more_params empty st scope g = leads (no_more r.NextParam st) (ap (λ ps. record { values = st.values; binders = st.binders; scope = st.scope; next = st.next; misnamed = st.misnamed; params = ps }) (sym (append-nil st.params)))
more_params (pair (node (pair c (pair (node (pair (leaf x) (pair d (pair t e)))) end))) more) st scope g =
    let p : Tree Token = node (pair (leaf x) (pair d (pair t e))) in
    let rest = params_scope more (param_bound p st.next ∷ st.scope) (st.next + 1) in
    leads (one_more
    (refuses (kept (row (hushed _ refl (quiet s.Comma c st (λ x st. refl) g.0.0)) (row (a_param x d t e st scope g.0.1.0) (closed end (with_param p st) g.0.1.1))) (λ z. refl))
    (ap (λ q. or_else q (or_else (misnamed none (item (OfRule r.Param)) p scope) None)) (sym (silent (item (One (Sign s.Comma))) c scope refl))))
    (more_params more (with_param p st) scope g.1))
    (ap (λ ps. record { values = st.values; binders = st.binders; scope = rest; next = params_behind more (st.next + 1); misnamed = st.misnamed; params = ps }) (append_assoc st.params (param_of p st.next ∷ []) (next_params_of more (st.next + 1))))
more_params _ st scope g = absurd (assumption)

names_behind : (t : Tree Token) (scope : List Bound) (n : ℕ) → Good false (item (Repeated r.NextParam)) t → names_of (params_scope t scope n) ≡ with_params t (names_of scope)
names_behind empty scope n g = refl
names_behind (pair (node (pair c (pair (node (pair (leaf x) (pair d (pair t e)))) end))) more) scope n g = names_behind more (param_bound (node (pair (leaf x) (pair d (pair t e)))) n ∷ scope) (n + 1) g.1
names_behind _ scope n g = absurd (assumption)

-- ---- programs

-- what the machine does along a program's tree
record Done (t : Tree Token) : Type 0 where
  pub state : State
  pub does : Does (item (OfRule r.Program)) t start (first_misnamed t) state
  pub values : state.values ≡ expr (program_of t).body ∷ []
  pub params : state.params ≡ (program_of t).params

without : (b e end : Tree Token) → Good false (item (OfRule r.WithoutParams)) (node (pair b (pair e end))) → Spells r.Expr expr_of e → Done (node (here (node (pair b (pair e end)))))
without b e end g k =
    let x = sign_told s.BarBar b itself (λ x st. refl) g.0 in
    let before = push (token x.is) start in
    let last = expr_of e [] 0 in
    record { state = behind start last; does = kept (first (opened (row (x.does start) (row (k before) (ended end (behind before last) g.1.1))) (λ z. refl))) (λ z. refl); values = refl; params = refl }

with : (a : Tree Token) (x : Token) (c t e0 more z b end : Tree Token) → Good false (item (OfRule r.WithParams)) (node (pair a (pair (node (pair (leaf x) (pair c (pair t e0)))) (pair more (pair z (pair b end)))))) → Spells r.Expr expr_of b
    → Done (node (there (here (node (pair a (pair (node (pair (leaf x) (pair c (pair t e0)))) (pair more (pair z (pair b end)))))))))
with a x c t e0 more z b end g k =
    let p : Tree Token = node (pair (leaf x) (pair c (pair t e0))) in
    let st1 = with_param p start in
    let st2 = with_more more st1 in
    let last = expr_of b st2.scope st2.next in
    record {
      state = behind st2 last;
      does = kept (later (first (kept (refuses
          (row (hushed _ refl (quiet s.Bar a start (λ x st. refl) g.0)) (row (a_param x c t e0 start [] g.1.0) (row (more_params more st1 [] g.1.1.0) (row (hushed _ refl (quiet s.Bar z st2 (λ x st. refl) g.1.1.1.0)) (row (k st2) (closed end (behind st2 last) g.1.1.1.1.1))))))
          (ap (λ q. or_else (misnamed none (item (OfRule r.Param)) p []) (or_else (misnamed none (item (Repeated r.NextParam)) more []) q)) (or_else-none (misnamed none (item (OfRule r.Expr)) b (names_of st2.scope)) ∙ ap (misnamed none (item (OfRule r.Expr)) b) (names_behind more st1.scope 1 g.1.1.0)))) (λ z. refl)))) (λ z. refl);
      values = refl;
      params = refl;
    }

done : (t : Tree Token) → Good false (item (OfRule r.Program)) t → Done t
done (node (here (node (pair b (pair e end))))) g = without b e end g (spells_expr e g.1.0)
done (node (there (here (node (pair a (pair (node (pair (leaf x) (pair c (pair t e0)))) (pair more (pair z (pair b end))))))))) g = with a x c t e0 more z b end g (spells_expr b g.1.1.1.1.0)
done (node (there (there (here e)))) g = record { state = behind start (expr_of e [] 0); does = kept (later (later (first (spells_expr e g start)))) (λ z. refl); values = refl; params = refl }
done _ g = absurd (assumption)

-- nothing stands behind
whole : {p : Part} {t : Tree Token} {st next : State} {m : Option Refused} → Does p t st m next → (z : Option Refused) → run (steps p t) (yield t) (since z st) ≡ Some (since (or_else z m) next)
whole {p} {t} {st} {next} {m} d z = ap (λ k. run k (yield t) (since z st)) (sym (append-nil (steps p t))) ∙ ap (λ k. run (steps p t ++ []) k (since z st)) (sym (append-nil (yield t))) ∙ d.runs z [] []

pub spelled : (t : Tree Token) → IsOf (item (OfRule r.Program)) (seen t) → number_out_of_range t ≡ None → AreOfTheirClasses (yield t) → Comes (run (steps (item (OfRule r.Program)) t) (yield t) start) (program_of t) (first_misnamed t)
spelled t h e k =
    let d = done t (good false (item (OfRule r.Program)) t h e k) in
    record { state = since (first_misnamed t) d.state; is = whole d.does None; values = d.values; params = d.params; refused = refl }

pub spelled_type : (t : Tree Token) → IsOf (item (OfRule r.AnyType)) (seen t) → ComesToType (run (steps (item (OfRule r.AnyType)) t) (yield t) start) (first_of (yield t)) (type_of t)
spelled_type t h =
    let d = spells_type t (numberless false (item (OfRule r.AnyType)) t h refl) start in
    record { state = since (misnamed none (item (OfRule r.AnyType)) t []) (push (type_at t) start); is = whole d None; values = refl }
