-- The machine spells the operators of one line, signs before an operand, and fields behind one.
use Rattle.std.proofs.Common.{◌≡◌, refl, ℕ, Bool, true, false, not, Some, None, option_and_then, List, ◌∷◌, IsTrue, cond, ap, ◌∙◌}
use Rattle.weld_grammar.specs.declared.terminals.class.Class.{Class}
use Rattle.weld_grammar.specs.declared.terminals.class.Class.TheVariants as classes
use Rattle.weld_grammar.specs.declared.terminals.symbol.Symbol.TheVariants as s
use Rattle.weld_grammar.specs.declared.terminals.token.Token.{Token}
use Rattle.weld_tokens.specs.Literals.{is_in_range, literal_value, field_value}
use Rattle.weld_tokens.specs.Order.{out_of_range}
use Rattle.weld_tree.specs.ExprTree.{ExprTree, leaf as leaf_at, one, two, int, neg, not as not_form, field as field_form, binary, and, or}
use Rattle.weld_grammar.specs.declared.terminal.Terminal.TheVariants.{Number}
use Rattle.weld_grammar.specs.declared.rule.Rule.{Rule}
use Rattle.weld_grammar.specs.declared.rule.Rule.TheVariants as r
use Rattle.weld_grammar.specs.declared.item.Item.TheVariants.{Part as OfRule, Repeated}
use Rattle.weld_grammar.specs.Grammar.{item, is_of}
use Rattle.weld_grammar.specs.Derivation.{Tree, leaf, node, empty, pair, here, there}
use Rattle.weld_spell.specs.ProgramOf.{Bound, Spelled, first_of, node_at, kind_of_class, equality_op_of, relation_op_of, sum_op_of, product_op_of, fields_of, and_of, equality_of, relation_of, sum_of, product_of, unary_of}
use Rattle.weld_spell.specs.Names.{misnamed, none}
use Rattle.weld_reduce.specs.Values.{token, expr}
use Rattle.weld_reduce.specs.Forms.{at, equality_op, relation_op, sum_op, product_op}
use Rattle.weld_reduce.specs.States.{State, push, with_values, names_of}
use Rattle.weld_reduce.proofs.Does.{Does, since, plain, opened, kept, first, later, row, no_more, one_more}
use Rattle.weld_reduce.proofs.Good.{Good}
use Rattle.weld_reduce.proofs.Tokens.{Told, sign_told, alone, itself, ended}

-- ---- the state behind an expression

abbrev pub with_next : ℕ → State → State
with_next n st = record { values = st.values; binders = st.binders; scope = st.scope; next = n; misnamed = st.misnamed; params = st.params }

abbrev pub behind : State → Spelled → State
behind st sp = push (expr sp.expr) (with_next sp.next st)

-- the machine spells what the tree of the rule does
abbrev pub Spells : Rule → (Tree Token → List Bound → ℕ → Spelled) → Tree Token → Type 0
Spells rule of t = (st : State) → Does (item (OfRule rule)) t st (misnamed none (item (OfRule rule)) t (names_of st.scope)) (behind st (of t st.scope st.next))

-- ---- operators

told_equality : (t : Tree Token) → Good false (item (OfRule r.EqualityOp)) t → Told (item (OfRule r.EqualityOp)) t equality_op (equality_op_of t)
told_equality (node (here t)) g = let d = sign_told s.EqualsEquals t equality_op (λ x st. refl) g in record { is = d.is; only = d.only; says = d.says; does = λ st. opened (first (d.does st)) (λ z. refl) }
told_equality (node (there (here t))) g = let d = sign_told s.BangEquals t equality_op (λ x st. refl) g in record { is = d.is; only = d.only; says = d.says; does = λ st. opened (later (first (d.does st))) (λ z. refl) }
told_equality _ g = absurd g

told_relation : (t : Tree Token) → Good false (item (OfRule r.RelationOp)) t → Told (item (OfRule r.RelationOp)) t relation_op (relation_op_of t)
told_relation (node (here t)) g = let d = sign_told s.Less t relation_op (λ x st. refl) g in record { is = d.is; only = d.only; says = d.says; does = λ st. opened (first (d.does st)) (λ z. refl) }
told_relation (node (there (here t))) g = let d = sign_told s.LessEquals t relation_op (λ x st. refl) g in record { is = d.is; only = d.only; says = d.says; does = λ st. opened (later (first (d.does st))) (λ z. refl) }
told_relation (node (there (there (here t)))) g = let d = sign_told s.Greater t relation_op (λ x st. refl) g in record { is = d.is; only = d.only; says = d.says; does = λ st. opened (later (later (first (d.does st)))) (λ z. refl) }
told_relation (node (there (there (there (here t))))) g = let d = sign_told s.GreaterEquals t relation_op (λ x st. refl) g in record { is = d.is; only = d.only; says = d.says; does = λ st. opened (later (later (later (first (d.does st))))) (λ z. refl) }
told_relation _ g = absurd g

told_sum : (t : Tree Token) → Good false (item (OfRule r.SumOp)) t → Told (item (OfRule r.SumOp)) t sum_op (sum_op_of t)
told_sum (node (here t)) g = let d = sign_told s.Plus t sum_op (λ x st. refl) g in record { is = d.is; only = d.only; says = d.says; does = λ st. opened (first (d.does st)) (λ z. refl) }
told_sum (node (there (here t))) g = let d = sign_told s.Minus t sum_op (λ x st. refl) g in record { is = d.is; only = d.only; says = d.says; does = λ st. opened (later (first (d.does st))) (λ z. refl) }
told_sum _ g = absurd g

told_product : (t : Tree Token) → Good false (item (OfRule r.ProductOp)) t → Told (item (OfRule r.ProductOp)) t product_op (product_op_of t)
told_product (node (here t)) g = let d = sign_told s.Star t product_op (λ x st. refl) g in record { is = d.is; only = d.only; says = d.says; does = λ st. opened (first (d.does st)) (λ z. refl) }
told_product (node (there (here t))) g = let d = sign_told s.Slash t product_op (λ x st. refl) g in record { is = d.is; only = d.only; says = d.says; does = λ st. opened (later (first (d.does st))) (λ z. refl) }
told_product (node (there (there (here t)))) g = let d = sign_told s.Percent t product_op (λ x st. refl) g in record { is = d.is; only = d.only; says = d.says; does = λ st. opened (later (later (first (d.does st)))) (λ z. refl) }
told_product _ g = absurd g

-- ---- an operator and what stands behind it

pub or_part : (o t end : Tree Token) (left : ExprTree) (st : State) → Good false (item (OfRule r.OrPart)) (node (pair o (pair t end))) → Spells r.And and_of t → Does (item (OfRule r.OrPart)) (node (pair o (pair t end))) (push (expr left) st) (misnamed none (item (OfRule r.OrPart)) (node (pair o (pair t end))) (names_of st.scope)) (push (expr (two (node_at o) or left (and_of t st.scope st.next).expr)) (with_next (and_of t st.scope st.next).next st))
or_part o t end left st g k =
    let x = sign_told s.BarBar o itself (λ x st. refl) g.0 in
    let right = and_of t st.scope st.next in
    let before = push (token x.is) (push (expr left) st) in
    opened (row (x.does (push (expr left) st)) (row (k before) (ended end (behind before right) g.1.1)))
    (λ z. λ i. Some (since z (push (expr (two (at (first_of (x.only i))) or left right.expr)) (with_next right.next st))))

pub and_part : (o t end : Tree Token) (left : ExprTree) (st : State) → Good false (item (OfRule r.AndPart)) (node (pair o (pair t end))) → Spells r.Equality equality_of t → Does (item (OfRule r.AndPart)) (node (pair o (pair t end))) (push (expr left) st) (misnamed none (item (OfRule r.AndPart)) (node (pair o (pair t end))) (names_of st.scope)) (push (expr (two (node_at o) and left (equality_of t st.scope st.next).expr)) (with_next (equality_of t st.scope st.next).next st))
and_part o t end left st g k =
    let x = sign_told s.AndAnd o itself (λ x st. refl) g.0 in
    let right = equality_of t st.scope st.next in
    let before = push (token x.is) (push (expr left) st) in
    opened (row (x.does (push (expr left) st)) (row (k before) (ended end (behind before right) g.1.1)))
    (λ z. λ i. Some (since z (push (expr (two (at (first_of (x.only i))) and left right.expr)) (with_next right.next st))))

pub equality_part : (o t end : Tree Token) (left : ExprTree) (st : State) → Good false (item (OfRule r.EqualityPart)) (node (pair o (pair t end))) → Spells r.Relation relation_of t → Does (item (OfRule r.EqualityPart)) (node (pair o (pair t end))) (push (expr left) st) (misnamed none (item (OfRule r.EqualityPart)) (node (pair o (pair t end))) (names_of st.scope)) (push (expr (two (node_at o) (binary (equality_op_of o)) left (relation_of t st.scope st.next).expr)) (with_next (relation_of t st.scope st.next).next st))
equality_part o t end left st g k =
    let x = told_equality o g.0 in
    let right = relation_of t st.scope st.next in
    let before = push (token x.is) (push (expr left) st) in
    opened (row (x.does (push (expr left) st)) (row (k before) (ended end (behind before right) g.1.1)))
    (λ z. λ i. Some (since z (push (expr (two (at (first_of (x.only i))) (binary (x.says i)) left right.expr)) (with_next right.next st))))

pub relation_part : (o t end : Tree Token) (left : ExprTree) (st : State) → Good false (item (OfRule r.RelationPart)) (node (pair o (pair t end))) → Spells r.Sum sum_of t → Does (item (OfRule r.RelationPart)) (node (pair o (pair t end))) (push (expr left) st) (misnamed none (item (OfRule r.RelationPart)) (node (pair o (pair t end))) (names_of st.scope)) (push (expr (two (node_at o) (binary (relation_op_of o)) left (sum_of t st.scope st.next).expr)) (with_next (sum_of t st.scope st.next).next st))
relation_part o t end left st g k =
    let x = told_relation o g.0 in
    let right = sum_of t st.scope st.next in
    let before = push (token x.is) (push (expr left) st) in
    opened (row (x.does (push (expr left) st)) (row (k before) (ended end (behind before right) g.1.1)))
    (λ z. λ i. Some (since z (push (expr (two (at (first_of (x.only i))) (binary (x.says i)) left right.expr)) (with_next right.next st))))

pub sum_part : (o t end : Tree Token) (left : ExprTree) (st : State) → Good false (item (OfRule r.SumPart)) (node (pair o (pair t end))) → Spells r.Product product_of t → Does (item (OfRule r.SumPart)) (node (pair o (pair t end))) (push (expr left) st) (misnamed none (item (OfRule r.SumPart)) (node (pair o (pair t end))) (names_of st.scope)) (push (expr (two (node_at o) (binary (sum_op_of o)) left (product_of t st.scope st.next).expr)) (with_next (product_of t st.scope st.next).next st))
sum_part o t end left st g k =
    let x = told_sum o g.0 in
    let right = product_of t st.scope st.next in
    let before = push (token x.is) (push (expr left) st) in
    opened (row (x.does (push (expr left) st)) (row (k before) (ended end (behind before right) g.1.1)))
    (λ z. λ i. Some (since z (push (expr (two (at (first_of (x.only i))) (binary (x.says i)) left right.expr)) (with_next right.next st))))

pub product_part : (o t end : Tree Token) (left : ExprTree) (st : State) → Good false (item (OfRule r.ProductPart)) (node (pair o (pair t end))) → Spells r.Unary unary_of t → Does (item (OfRule r.ProductPart)) (node (pair o (pair t end))) (push (expr left) st) (misnamed none (item (OfRule r.ProductPart)) (node (pair o (pair t end))) (names_of st.scope)) (push (expr (two (node_at o) (binary (product_op_of o)) left (unary_of t st.scope st.next).expr)) (with_next (unary_of t st.scope st.next).next st))
product_part o t end left st g k =
    let x = told_product o g.0 in
    let right = unary_of t st.scope st.next in
    let before = push (token x.is) (push (expr left) st) in
    opened (row (x.does (push (expr left) st)) (row (k before) (ended end (behind before right) g.1.1)))
    (λ z. λ i. Some (since z (push (expr (two (at (first_of (x.only i))) (binary (x.says i)) left right.expr)) (with_next right.next st))))

-- ---- fields

pub fields : (t : Tree Token) (left : ExprTree) (st : State) → Good false (item (Repeated r.FieldPart)) t → Does (item (Repeated r.FieldPart)) t (push (expr left) st) (misnamed none (item (Repeated r.FieldPart)) t (names_of st.scope)) (push (expr (fields_of t left)) st)
fields empty left st g = no_more r.FieldPart (push (expr left) st)
fields (pair (node (pair d (pair (leaf k) end))) more) left st g =
    let x = sign_told s.Dot d itself (λ x st. refl) g.0.0 in
    let before = push (token x.is) (push (expr left) st) in
    one_more
    (opened (row (x.does (push (expr left) st)) (row (plain {next = push (token k) before} (λ z. refl)) (ended end (push (token k) before) g.0.1.1)))
    (λ z. ap (λ b. option_and_then (λ vs. Some (with_values (since z st) vs)) (option_and_then (λ n. Some (expr (one (at x.is.place) (field_form n) left) ∷ st.values)) (cond b (Some (field_value k.word)) None))) g.0.1.0.read
    ∙ λ i. Some (since z (push (expr (one (at (first_of (x.only i))) (field_form (field_value k.word)) left)) st))))
    (fields more (one (node_at d) (field_form (field_value k.word)) left) st g.1)
fields _ left st g = absurd (assumption)

-- ---- numbers

from_not : (b : Bool) → not b ≡ false → b ≡ true
from_not true e = refl
from_not false e = absurd (cc)

pub in_range : (negative : Bool) (c : Class) (word : List ℕ) → IsTrue (is_of Number c) → out_of_range c negative word ≡ false → is_in_range negative c word ≡ true
in_range negative classes.Int word h e = from_not (is_in_range negative classes.Int word) e
in_range negative classes.Long word h e = from_not (is_in_range negative classes.Long word) e
in_range negative _ word h e = absurd (cc)

-- ---- signs before an operand

pub negative_number : (m end : Tree Token) (k : Token) → Good false (item (OfRule r.Minus)) (node (pair m (pair (node (here (leaf k))) end))) → Spells r.Unary unary_of (node (here (node (pair m (pair (node (here (leaf k))) end)))))
negative_number m end k g st =
    let x = sign_told s.Minus m itself (λ x st. refl) g.0 in
    let before = push (token x.is) st in
    kept (first (opened (row (x.does st) (row (opened (first (plain {next = push (token k) before} (λ z. refl))) (λ z. refl)) (ended end (push (token k) before) g.1.1)))
    (λ z. ap (λ b. option_and_then (λ vs. Some (with_values (since z st) vs)) (option_and_then (λ e. Some (expr e ∷ st.values)) (cond b (Some (leaf_at (at x.is.place) (int (kind_of_class k.class) (literal_value true k.word)))) None))) (in_range true k.class k.word g.1.0.is g.1.0.ranged)
    ∙ ap (λ p. Some (since z (push (expr (leaf_at (at p) (int (kind_of_class k.class) (literal_value true k.word)))) st))) (alone x)))) (λ z. refl)

-- behind a minus an operand is as anywhere
pub anywhere : (negative : Bool) (rule : Rule) (t : Tree Token) → Good negative (item (OfRule rule)) t → Good false (item (OfRule rule)) t
anywhere negative rule (node t) g = g
anywhere negative rule _ g = absurd g

pub negation : (m t end : Tree Token) → Good false (item (OfRule r.Minus)) (node (pair m (pair (node (there (here t))) end))) → Spells r.Unary unary_of t → Spells r.Unary unary_of (node (here (node (pair m (pair (node (there (here t))) end)))))
negation m t end g k st =
    let x = sign_told s.Minus m itself (λ x st. refl) g.0 in
    let before = push (token x.is) st in
    let inner = unary_of t st.scope st.next in
    kept (first (opened (row (x.does st) (row (kept (later (first (k before))) (λ z. refl)) (ended end (behind before inner) g.1.1)))
    (λ z. ap (λ p. Some (since z (push (expr (one (at p) neg inner.expr)) (with_next inner.next st)))) (alone x)))) (λ z. refl)

pub complement : (m t end : Tree Token) → Good false (item (OfRule r.Not)) (node (pair m (pair t end))) → Spells r.Unary unary_of t → Spells r.Unary unary_of (node (there (here (node (pair m (pair t end))))))
complement m t end g k st =
    let x = sign_told s.Bang m itself (λ x st. refl) g.0 in
    let before = push (token x.is) st in
    let inner = unary_of t st.scope st.next in
    kept (later (first (opened (row (x.does st) (row (k before) (ended end (behind before inner) g.1.1)))
    (λ z. ap (λ p. Some (since z (push (expr (one (at p) not_form inner.expr)) (with_next inner.next st)))) (alone x))))) (λ z. refl)
