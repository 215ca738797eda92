-- The number of the next binder behind a step.
use Rattle.std.proofs.Common.{◌≡◌, refl, ℕ, ◌+◌, Option, Some, None, option_and_then, IfSome, [], ◌∷◌, subst, arith}
use Rattle.weld_grammar.specs.declared.terminals.symbol.Symbol.TheVariants as s
use Rattle.weld_grammar.specs.declared.terminals.reserved.Reserved.TheVariants as w
use Rattle.weld_grammar.specs.declared.terminals.token.Token.{Token}
use Rattle.weld_tree.specs.declared.binder.Binder.{Binder}
use Rattle.weld_grammar.specs.declared.terminal.Terminal.{Terminal}
use Rattle.weld_grammar.specs.declared.terminal.Terminal.TheVariants.{Sign, Fixed}
use Rattle.weld_grammar.specs.declared.rule.Rule.{Rule}
use Rattle.weld_grammar.specs.declared.rule.Rule.TheVariants as r
use Rattle.weld_reduce.specs.Values.{top_token, top_expr, top_legs}
use Rattle.weld_reduce.specs.Forms.{reduced}
use Rattle.weld_reduce.specs.States.{State, Closed, bound, named, see_let, close, reduce_let, reduce_iterate, reduce_for, shift, reduce}
use Rattle.weld_reduce.specs.Made.{made_by_terminal, made_by_rule}
use Rattle.weld_reduce.proofs.CodeRules.{reduce_stack}

-- where the step fits, the next number is this
abbrev pub Next : ℕ → Option State → Type 0
Next n behind = IfSome behind (λ st. st.next ≡ n)

-- where the newest binder is closed, the next number stays
abbrev pub Stays : ℕ → Closed → Type 0
Stays n closed = IfSome closed (λ c. c.1.next ≡ n)

next_then : {A : Type 0} (f : A → Option State) (o : Option A) (n : ℕ) → ((x : A) → Next n (f x)) → Next n (option_and_then f o)
next_then f None n k = tt
next_then f (Some x) n k = k x

next_closed : (f : Binder × State → Option State) (o : Closed) (n : ℕ) → Stays n o → ((c : Binder × State) → c.1.next ≡ n → Next n (f c)) → Next n (option_and_then f o)
next_closed f None n h k = tt
next_closed f (Some c) n h k = k c h

see_next : (st : State) → Next st.next (see_let st)
see_next st =
    elim st.binders as (λ bs. Next st.next (elim bs as (λ _. Option State) [
      | [] ↦ None
      | b ∷ bs ↦ Some (record { values = st.values; binders = st.binders; scope = bound b ∷ st.scope; next = st.next; misnamed = st.misnamed; params = st.params })
    ])) [
      | [] ↦ tt
      | b ∷ bs ↦ refl
    ]

close_next : (st : State) → Stays st.next (close st)
close_next st =
    elim st.binders as (λ bs. Stays st.next (elim bs as (λ _. Closed) [
      | [] ↦ None
      | b ∷ bs ↦ elim st.scope as (λ _. Closed) [
        | [] ↦ None
        | x ∷ scope ↦ Some (b.binder, record { values = st.values; binders = bs; scope = scope; next = st.next; misnamed = st.misnamed; params = st.params })
      ]
    ])) [
      | [] ↦ tt
      | b ∷ bs ↦ elim st.scope as (λ xs. Stays st.next (elim xs as (λ _. Closed) [
        | [] ↦ None
        | x ∷ scope ↦ Some (b.binder, record { values = st.values; binders = bs; scope = scope; next = st.next; misnamed = st.misnamed; params = st.params })
      ])) [
        | [] ↦ tt
        | x ∷ scope ↦ refl
      ]
    ]

let_next : (st : State) → Next st.next (reduce_let st)
let_next st = next_closed _ (close st) st.next (close_next st) (λ b e. next_then _ (top_expr b.1.values) st.next (λ f. next_then _ (top_expr f.1) st.next (λ v. next_then _ (top_token v.1) st.next (λ t. e))))

iterate_next : (st : State) → Next st.next (reduce_iterate st)
iterate_next st = next_closed _ (close st) st.next (close_next st) (λ b e. next_then _ (top_expr b.1.values) st.next (λ f. next_then _ (top_expr f.1) st.next (λ v. next_then _ (top_token v.1) st.next (λ t. e))))

-- closing one more leaves it as it was
closed_again : (n : ℕ) (st : State) → st.next ≡ n → Stays n (close st)
closed_again n st e = subst (λ m. Stays m (close st)) e (close_next st)

for_next : (st : State) → Next st.next (reduce_for st)
for_next st =
    next_closed _ (close st) st.next (close_next st) (λ z e.
    next_closed _ (close z.1) st.next (closed_again st.next z.1 e) (λ y f.
    next_closed _ (close y.1) st.next (closed_again st.next y.1 f) (λ x g.
    next_then _ (top_expr x.1.values) st.next (λ body. next_then _ (top_expr body.1) st.next (λ b. next_then _ (top_legs b.1) st.next (λ ls. next_then _ (top_token ls.1) st.next (λ t. g)))))))

-- one that makes no binder
same : (n : ℕ) (behind : Option State) → Next n behind → Next (n + 0) behind
same n None h = tt
same n (Some st) h = omega (arith, h)

shift_next : (a : Terminal) (t : Token) (st : State) → Next (st.next + made_by_terminal a) (shift a t st)
shift_next (Sign s.Equals) t st = next_then _ (named st.next st.values) (st.next + 1) (λ b. refl)
shift_next (Sign s.Semicolon) t st = same st.next (see_let st) (see_next st)
shift_next (Sign _) t st = omega arith
shift_next (Fixed w.True) t st = omega arith
shift_next (Fixed w.False) t st = omega arith
shift_next (Fixed w.Zip) t st = omega arith
shift_next (Fixed _) t st = omega arith
shift_next _ t st = omega arith

stack_next : (q : Rule) (st : State) → Next st.next (reduce_stack q st)
stack_next q st = next_then _ (reduced q st.values) st.next (λ vs. refl)

reduce_next : (q : Rule) (st : State) → Next (st.next + made_by_rule q) (reduce q st)
reduce_next r.Let st = same st.next (reduce_let st) (let_next st)
reduce_next r.For st = same st.next (reduce_for st) (for_next st)
reduce_next r.Iterate st = same st.next (reduce_iterate st) (iterate_next st)
reduce_next r.Bind st = next_then _ (named st.next st.values) (st.next + 1) (λ b. refl)
reduce_next r.Param st = next_then _ (named st.next st.values) (st.next + 1) (λ b. refl)
reduce_next q st = same st.next (reduce_stack q st) (stack_next q st)

pub behind_shift : (a : Terminal) (t : Token) (st behind : State) → shift a t st ≡ Some behind → behind.next ≡ st.next + made_by_terminal a
behind_shift a t st behind e = subst (Next (st.next + made_by_terminal a)) e (shift_next a t st)

pub behind_reduce : (q : Rule) (st behind : State) → reduce q st ≡ Some behind → behind.next ≡ st.next + made_by_rule q
behind_reduce q st behind e = subst (Next (st.next + made_by_rule q)) e (reduce_next q st)
