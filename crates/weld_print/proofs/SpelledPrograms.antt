-- What tokens spell is spellable: its literals are of kind i32 or i64, its fields have nine digits at most, its strings are of bytes, and no struct type in it is empty.
use Rattle.std.proofs.Common.{◌≡◌, ℕ, ◌+◌, ◌<◌, ◌^◌, IsTrue, true, false, Some, List, [], ◌∷◌, ◌++◌, refl, sym, ap, ◌∙◌, subst}
use Rattle.std.specs.List.{AllByRecursion}
use Rattle.weld_tree.specs.ExprTree.{ExprTree, one, two, or, and, binary, field}
use Rattle.weld_tree.specs.Program.{ProgramTree}
use Rattle.weld_grammar.specs.declared.terminals.class.Class.{Class}
use Rattle.weld_grammar.specs.declared.terminals.class.Class.TheVariants as classes
use Rattle.weld_grammar.specs.declared.terminals.token.Token.{Token}
use Rattle.weld_grammar.specs.declared.terminal.Terminal.TheVariants.{Field, Chars}
use Rattle.weld_grammar.specs.declared.rule.Rule.TheVariants as r
use Rattle.weld_grammar.specs.declared.item.Item.TheVariants.{One, Part as OfRule, Optional, Repeated}
use Rattle.weld_grammar.specs.Grammar.{Part, item, all_of, one_of, body, is_of}
use Rattle.weld_grammar.specs.Derivation.{Tree, leaf, node, empty, pair, here, there, yield, IsOf}
use Rattle.weld_spell.specs.Seen.{seen}
use Rattle.weld_tokens.specs.Words.{class_of}
use Rattle.weld_tokens.specs.Tokens.{AreTokens}
use Rattle.weld_tokens.specs.Literals.{field_value, string_value}
use Rattle.weld_spell.specs.ProgramOf.{Bound, bound_as, node_at, word_of, class_of as class_of_tree, kind_of_class, note_of, equality_op_of, relation_op_of, sum_op_of, product_op_of, build_of, fields_of, expr_of, or_of, or_parts_of, and_of, and_parts_of, equality_of, equality_parts_of, relation_of, relation_parts_of, sum_of, sum_parts_of, product_of, product_parts_of, unary_of, primary_of, builder_of, next_exprs_of, rows_of, next_legs_of, leg_of, param_of, param_bound, next_params_of, params_scope, params_behind, program_of}
use Rattle.weld_print.specs.Texts.{TextSpells}
use Rattle.weld_print.specs.Spellable.{AreBytes, IsWritten, BuildHasNoEmptyStruct, NoteIsSpellable, IsSpellable, AreSpellable, LegIsSpellable, LegsAreSpellable, IsSpellableProgram}
use Rattle.weld_print.proofs.Words.{field_small, string_bytes}
use Rattle.weld_print.proofs.Spelled.{type_made}

-- ---- trees of tokens that have the classes of their words

abbrev pub HasItsClass : Token → Type 0
HasItsClass t = class_of t.word ≡ Some t.class

-- the tree is one of the part, and each of its tokens has the class of its word
abbrev Fits : Part → Tree Token → Type 0
Fits (item (One a)) (leaf x) = IsTrue (is_of a x.class) × HasItsClass x
Fits (item (OfRule q)) (node t) = Fits (body q) t
Fits (item (Optional q)) empty = Unit {0}
Fits (item (Optional q)) (here t) = Fits (item (OfRule q)) t
Fits (item (Repeated q)) empty = Unit {0}
Fits (item (Repeated q)) (pair t u) = Fits (item (OfRule q)) t × Fits (item (Repeated q)) u
Fits (all_of []) empty = Unit {0}
Fits (all_of (i ∷ rest)) (pair t u) = Fits (item i) t × Fits (all_of rest) u
Fits (one_of (i ∷ rest)) (here t) = Fits (item i) t
Fits (one_of (i ∷ rest)) (there t) = Fits (one_of rest) t
Fits _ _ = ⊥

each : (ts us : List Token) → AllByRecursion HasItsClass (ts ++ us) → AllByRecursion HasItsClass ts × AllByRecursion HasItsClass us
each [] us h = (tt, h)
each (t ∷ ts) us h = let k = each ts us h.1 in ((h.0, k.0), k.1)

fits : (p : Part) (t : Tree Token) → IsOf p (seen t) → AllByRecursion HasItsClass (yield t) → Fits p t
fits (item (One a)) (leaf x) h k = (h, k.0)
fits (item (OfRule q)) (node t) h k = fits (body q) t h k
fits (item (Optional q)) empty h k = tt
fits (item (Optional q)) (here t) h k = fits (item (OfRule q)) t h k
fits (item (Repeated q)) empty h k = tt
fits (item (Repeated q)) (pair t u) h k = let e = each (yield t) (yield u) k in (fits (item (OfRule q)) t h.0 e.0, fits (item (Repeated q)) u h.1 e.1)
fits (all_of []) empty h k = tt
fits (all_of (i ∷ rest)) (pair t u) h k = let e = each (yield t) (yield u) k in (fits (item i) t h.0 e.0, fits (all_of rest) u h.1 e.1)
fits (one_of (i ∷ rest)) (here t) h k = fits (item i) t h k
fits (one_of (i ∷ rest)) (there t) h k = fits (one_of rest) t h.0 k
fits _ _ h k = absurd (assumption)

-- ---- leaves

kind_written : (c : Class) → IsWritten (kind_of_class c)
kind_written classes.Long = tt
kind_written _ = tt

field_class : (c : Class) → IsTrue (is_of Field c) → c ≡ classes.Field
field_class classes.Field h = refl
field_class _ h = absurd (let bad : false ≡ true = h in cc)

chars_class : (c : Class) → IsTrue (is_of Chars c) → c ≡ classes.Chars
chars_class classes.Chars h = refl
chars_class _ h = absurd (let bad : false ≡ true = h in cc)

field_made : (t : Tree Token) → Fits (item (One Field)) t → field_value (word_of t) < 10 ^ 9
field_made (leaf x) h = field_small x.word (h.1 ∙ ap (λ (c : Class). Some c) (field_class x.class h.0))
field_made _ h = absurd (assumption)

chars_made : (t : Tree Token) → Fits (item (One Chars)) t → AreBytes (string_value (word_of t))
chars_made (leaf x) h = string_bytes x.word (h.1 ∙ ap (λ (c : Class). Some c) (chars_class x.class h.0))
chars_made _ h = absurd (assumption)

note_made : (t : Tree Token) → NoteIsSpellable (note_of t)
note_made (here (node (pair c (pair t rest)))) = type_made t
note_made _ = tt

build_made : (t : Tree Token) → BuildHasNoEmptyStruct (build_of t)
build_made (node (here (node (pair w (pair b (pair t end)))))) = type_made t
build_made (node (there (here (node (pair w (pair b (pair t (pair c (pair o end))))))))) = type_made t
build_made (node (there (there (here (node (pair w (pair b (pair t (pair c (pair u (pair d (pair o end)))))))))))) = (type_made t, type_made u)
build_made (node (there (there (there (here (node (pair w (pair b (pair t (pair c (pair o end))))))))))) = type_made t
build_made (node (there (there (there (there (here (node (pair w (pair b (pair t (pair c (pair u end)))))))))))) = (type_made t, type_made u)
build_made _ = tt

fields_made : (t : Tree Token) (e : ExprTree) → IsSpellable e → Fits (item (Repeated r.FieldPart)) t → IsSpellable (fields_of t e)
fields_made (pair (node (pair d (pair k end))) more) base b h = fields_made more (one (node_at d) (field (field_value (word_of k))) base) (field_made k h.0.1.0, b) h.1
fields_made _ base b h = b

-- ---- expressions

mutual
  expr_made : (t : Tree Token) (scope : List Bound) (n : ℕ) → Fits (item (OfRule r.Expr)) t → IsSpellable (expr_of t scope n).expr
  expr_made (node (here (node (pair l (pair w (pair note (pair q (pair v (pair m (pair b end)))))))))) scope n h =
      let value = or_of v scope (n + 1) in
      (note_made note, or_made v scope (n + 1) h.1.1.1.1.0, expr_made b (bound_as w n ∷ scope) value.next h.1.1.1.1.1.1.0)
  expr_made (node (there (here t))) scope n h = or_made t scope n h
  expr_made _ scope n h = tt

  or_made : (t : Tree Token) (scope : List Bound) (n : ℕ) → Fits (item (OfRule r.Or)) t → IsSpellable (or_of t scope n).expr
  or_made (node (pair t (pair more end))) scope n h = let left = and_of t scope n in or_parts_made more left.expr scope left.next (and_made t scope n h.0) h.1.0
  or_made _ scope n h = tt

  or_parts_made : (t : Tree Token) (left : ExprTree) (scope : List Bound) (n : ℕ) → IsSpellable left → Fits (item (Repeated r.OrPart)) t → IsSpellable (or_parts_of t left scope n).expr
  or_parts_made (pair (node (pair o (pair t end))) more) left scope n k h = let right = and_of t scope n in or_parts_made more (two (node_at o) or left right.expr) scope right.next (k, and_made t scope n h.0.1.0) h.1
  or_parts_made _ left scope n k h = k

  and_made : (t : Tree Token) (scope : List Bound) (n : ℕ) → Fits (item (OfRule r.And)) t → IsSpellable (and_of t scope n).expr
  and_made (node (pair t (pair more end))) scope n h = let left = equality_of t scope n in and_parts_made more left.expr scope left.next (equality_made t scope n h.0) h.1.0
  and_made _ scope n h = tt

  and_parts_made : (t : Tree Token) (left : ExprTree) (scope : List Bound) (n : ℕ) → IsSpellable left → Fits (item (Repeated r.AndPart)) t → IsSpellable (and_parts_of t left scope n).expr
  and_parts_made (pair (node (pair o (pair t end))) more) left scope n k h = let right = equality_of t scope n in and_parts_made more (two (node_at o) and left right.expr) scope right.next (k, equality_made t scope n h.0.1.0) h.1
  and_parts_made _ left scope n k h = k

  equality_made : (t : Tree Token) (scope : List Bound) (n : ℕ) → Fits (item (OfRule r.Equality)) t → IsSpellable (equality_of t scope n).expr
  equality_made (node (pair t (pair more end))) scope n h = let left = relation_of t scope n in equality_parts_made more left.expr scope left.next (relation_made t scope n h.0) h.1.0
  equality_made _ scope n h = tt

  equality_parts_made : (t : Tree Token) (left : ExprTree) (scope : List Bound) (n : ℕ) → IsSpellable left → Fits (item (Repeated r.EqualityPart)) t → IsSpellable (equality_parts_of t left scope n).expr
  equality_parts_made (pair (node (pair o (pair t end))) more) left scope n k h = let right = relation_of t scope n in equality_parts_made more (two (node_at o) (binary (equality_op_of o)) left right.expr) scope right.next (k, relation_made t scope n h.0.1.0) h.1
  equality_parts_made _ left scope n k h = k

  relation_made : (t : Tree Token) (scope : List Bound) (n : ℕ) → Fits (item (OfRule r.Relation)) t → IsSpellable (relation_of t scope n).expr
  relation_made (node (pair t (pair more end))) scope n h = let left = sum_of t scope n in relation_parts_made more left.expr scope left.next (sum_made t scope n h.0) h.1.0
  relation_made _ scope n h = tt

  relation_parts_made : (t : Tree Token) (left : ExprTree) (scope : List Bound) (n : ℕ) → IsSpellable left → Fits (item (Repeated r.RelationPart)) t → IsSpellable (relation_parts_of t left scope n).expr
  relation_parts_made (pair (node (pair o (pair t end))) more) left scope n k h = let right = sum_of t scope n in relation_parts_made more (two (node_at o) (binary (relation_op_of o)) left right.expr) scope right.next (k, sum_made t scope n h.0.1.0) h.1
  relation_parts_made _ left scope n k h = k

  sum_made : (t : Tree Token) (scope : List Bound) (n : ℕ) → Fits (item (OfRule r.Sum)) t → IsSpellable (sum_of t scope n).expr
  sum_made (node (pair t (pair more end))) scope n h = let left = product_of t scope n in sum_parts_made more left.expr scope left.next (product_made t scope n h.0) h.1.0
  sum_made _ scope n h = tt

  sum_parts_made : (t : Tree Token) (left : ExprTree) (scope : List Bound) (n : ℕ) → IsSpellable left → Fits (item (Repeated r.SumPart)) t → IsSpellable (sum_parts_of t left scope n).expr
  sum_parts_made (pair (node (pair o (pair t end))) more) left scope n k h = let right = product_of t scope n in sum_parts_made more (two (node_at o) (binary (sum_op_of o)) left right.expr) scope right.next (k, product_made t scope n h.0.1.0) h.1
  sum_parts_made _ left scope n k h = k

  product_made : (t : Tree Token) (scope : List Bound) (n : ℕ) → Fits (item (OfRule r.Product)) t → IsSpellable (product_of t scope n).expr
  product_made (node (pair t (pair more end))) scope n h = let left = unary_of t scope n in product_parts_made more left.expr scope left.next (unary_made t scope n h.0) h.1.0
  product_made _ scope n h = tt

  product_parts_made : (t : Tree Token) (left : ExprTree) (scope : List Bound) (n : ℕ) → IsSpellable left → Fits (item (Repeated r.ProductPart)) t → IsSpellable (product_parts_of t left scope n).expr
  product_parts_made (pair (node (pair o (pair t end))) more) left scope n k h = let right = unary_of t scope n in product_parts_made more (two (node_at o) (binary (product_op_of o)) left right.expr) scope right.next (k, unary_made t scope n h.0.1.0) h.1
  product_parts_made _ left scope n k h = k

  unary_made : (t : Tree Token) (scope : List Bound) (n : ℕ) → Fits (item (OfRule r.Unary)) t → IsSpellable (unary_of t scope n).expr
  unary_made (node (here (node (pair m (pair (node (here k)) end))))) scope n h = kind_written (class_of_tree k)
  unary_made (node (here (node (pair m (pair (node (there (here t))) end))))) scope n h = (tt, unary_made t scope n h.1.0)
  unary_made (node (there (here (node (pair m (pair t end)))))) scope n h = (tt, unary_made t scope n h.1.0)
  unary_made (node (there (there (here (node (pair t (pair more end))))))) scope n h = fields_made more (primary_of t scope n).expr (primary_made t scope n h.0) h.1.0
  unary_made _ scope n h = tt

  primary_made : (t : Tree Token) (scope : List Bound) (n : ℕ) → Fits (item (OfRule r.Primary)) t → IsSpellable (primary_of t scope n).expr
  primary_made (node (here t)) scope n h = kind_written (class_of_tree t)
  primary_made (node (there (here t))) scope n h = chars_made t h
  primary_made (node (there (there (here t)))) scope n h = tt
  primary_made (node (there (there (there (here t))))) scope n h = tt
  primary_made (node (there (there (there (there (here t)))))) scope n h = tt
  primary_made (node (there (there (there (there (there (here (node (pair a (pair t end)))))))))) scope n h = expr_made t scope n h.1.0
  primary_made (node (there (there (there (there (there (there (here (node (pair a (pair t (pair more end)))))))))))) scope n h = let e = expr_of t scope n in (expr_made t scope n h.1.0, next_exprs_made more scope e.next h.1.1.0)
  primary_made (node (there (there (there (there (there (there (there (here (node (pair a (pair t (pair more end))))))))))))) scope n h = let e = expr_of t scope n in (expr_made t scope n h.1.0, next_exprs_made more scope e.next h.1.1.0)
  primary_made (node (there (there (there (there (there (there (there (there (here (node (pair w (pair a (pair t (pair c (pair u (pair d (pair v end)))))))))))))))))) scope n h =
      let e = expr_of t scope n in
      let f = expr_of u scope e.next in
      (expr_made t scope n h.1.1.0, expr_made u scope e.next h.1.1.1.1.0, expr_made v scope f.next h.1.1.1.1.1.1.0)
  primary_made (node (there (there (there (there (there (there (there (there (there (here (node (pair w (pair a (pair t (pair c (pair u (pair d (pair v end))))))))))))))))))) scope n h =
      let e = expr_of t scope n in
      let f = expr_of u scope e.next in
      (expr_made t scope n h.1.1.0, expr_made u scope e.next h.1.1.1.1.0, expr_made v scope f.next h.1.1.1.1.1.1.0)
  primary_made (node (there (there (there (there (there (there (there (there (there (there (here (node (pair w (pair a (pair t (pair c (pair u end)))))))))))))))))) scope n h = let e = expr_of t scope n in (expr_made t scope n h.1.1.0, expr_made u scope e.next h.1.1.1.1.0)
  primary_made (node (there (there (there (there (there (there (there (there (there (there (there (here (node (pair w (pair a (pair t (pair c (pair u end))))))))))))))))))) scope n h = let e = expr_of t scope n in (expr_made t scope n h.1.1.0, expr_made u scope e.next h.1.1.1.1.0)
  primary_made (node (there (there (there (there (there (there (there (there (there (there (there (there (here (node (pair w (pair a (pair t end)))))))))))))))))) scope n h = (tt, expr_made t scope n h.1.1.0)
  primary_made (node (there (there (there (there (there (there (there (there (there (there (there (there (there (here (node (pair w (pair a (pair t (pair c (pair u (pair d (pair v end))))))))))))))))))))))) scope n h =
      let e = expr_of t scope n in
      let f = expr_of u scope e.next in
      (expr_made t scope n h.1.1.0, expr_made u scope e.next h.1.1.1.1.0, expr_made v scope f.next h.1.1.1.1.1.1.0)
  primary_made (node (there (there (there (there (there (there (there (there (there (there (there (there (there (there (here (node (pair w (pair a (pair t (pair c (pair u end)))))))))))))))))))))) scope n h = let e = expr_of t scope n in (expr_made t scope n h.1.1.0, expr_made u scope e.next h.1.1.1.1.0)
  primary_made (node (there (there (there (there (there (there (there (there (there (there (there (there (there (there (there (here (node (pair w (pair a (pair t end))))))))))))))))))))) scope n h = (tt, expr_made t scope n h.1.1.0)
  primary_made (node (there (there (there (there (there (there (there (there (there (there (there (there (there (there (there (there (here (node (pair w (pair a (pair l (pair c (pair t (pair d (pair i (pair (node (pair x (pair p end))) (pair j (pair (node (pair y (pair q end2))) (pair k (pair (node (pair z (pair s end3))) (pair m (pair b end4))))))))))))))))))))))))))))))))) scope n h =
      let legs = rows_of l scope n in
      let builder = expr_of t scope legs.next in (
        rows_made l scope n h.1.1.0,
        expr_made t scope legs.next h.1.1.1.1.0,
        note_made p,
        note_made q,
        note_made s,
        expr_made b (bound_as z (builder.next + 2) ∷ bound_as y (builder.next + 1) ∷ bound_as x builder.next ∷ scope) (builder.next + 3) h.1.1.1.1.1.1.1.1.1.1.1.1.1.0,
      )
  primary_made (node (there (there (there (there (there (there (there (there (there (there (there (there (there (there (there (there (there (here (node (pair w (pair a (pair t (pair c (pair i (pair (node (pair x (pair p end))) (pair m (pair b end2)))))))))))))))))))))))))))) scope n h =
      let state = expr_of t scope n in
      (expr_made t scope n h.1.1.0, note_made p, expr_made b (bound_as x state.next ∷ scope) (state.next + 1) h.1.1.1.1.1.1.1.0)
  primary_made (node (there (there (there (there (there (there (there (there (there (there (there (there (there (there (there (there (there (there (here (node (pair f (pair a (pair t end)))))))))))))))))))))))) scope n h = (tt, expr_made t scope n h.1.1.0)
  primary_made (node (there (there (there (there (there (there (there (there (there (there (there (there (there (there (there (there (there (there (there (here b))))))))))))))))))))) scope n h = builder_made b scope n h
  primary_made _ scope n h = tt

  builder_made : (t : Tree Token) (scope : List Bound) (n : ℕ) → Fits (item (OfRule r.Build)) t → IsSpellable (builder_of t scope n).expr
  builder_made (node (there (here (node (pair w (pair b (pair t (pair c (pair o (pair d (pair (here (node (pair a (pair e end)))) end2))))))))))) scope n h = (type_made t, expr_made e scope n h.1.1.1.1.1.1.0.1.0)
  builder_made (node (there (there (there (here (node (pair w (pair b (pair t (pair c (pair o (pair d (pair (node (pair a (pair e end))) end2))))))))))))) scope n h = (type_made t, expr_made e scope n h.1.1.1.1.1.1.0.1.0)
  builder_made t scope n h = build_made t

  next_exprs_made : (t : Tree Token) (scope : List Bound) (n : ℕ) → Fits (item (Repeated r.NextExpr)) t → AreSpellable (next_exprs_of t scope n).exprs
  next_exprs_made (pair (node (pair c (pair t end))) more) scope n h = let e = expr_of t scope n in (expr_made t scope n h.0.1.0, next_exprs_made more scope e.next h.1)
  next_exprs_made _ scope n h = tt

  rows_made : (t : Tree Token) (scope : List Bound) (n : ℕ) → Fits (item (OfRule r.Rows)) t → LegsAreSpellable (rows_of t scope n).legs
  rows_made (node (here (node (pair w (pair a (pair t (pair c (pair u (pair more end))))))))) scope n h =
      let e = leg_of t scope n in
      let f = leg_of u scope e.next in
      (leg_made t scope n h.1.1.0, (leg_made u scope e.next h.1.1.1.1.0, next_legs_made more scope f.next h.1.1.1.1.1.0))
  rows_made (node (there (here t))) scope n h = (leg_made t scope n h, tt)
  rows_made _ scope n h = tt

  next_legs_made : (t : Tree Token) (scope : List Bound) (n : ℕ) → Fits (item (Repeated r.NextLeg)) t → LegsAreSpellable (next_legs_of t scope n).legs
  next_legs_made (pair (node (pair c (pair t end))) more) scope n h = let e = leg_of t scope n in (leg_made t scope n h.0.1.0, next_legs_made more scope e.next h.1)
  next_legs_made _ scope n h = tt

  leg_made : (t : Tree Token) (scope : List Bound) (n : ℕ) → Fits (item (OfRule r.Leg)) t → LegIsSpellable (leg_of t scope n).leg
  leg_made (node (here (node (pair w (pair a (pair t (pair c (pair u (pair d (pair v (pair i (pair x end)))))))))))) scope n h =
      let e = expr_of t scope n in
      let f = expr_of u scope e.next in
      let g = expr_of v scope f.next in
      (expr_made t scope n h.1.1.0, expr_made u scope e.next h.1.1.1.1.0, expr_made v scope f.next h.1.1.1.1.1.1.0, expr_made x scope g.next h.1.1.1.1.1.1.1.1.0)
  leg_made (node (there (here t))) scope n h = expr_made t scope n h
  leg_made _ scope n h = tt

-- ---- programs

param_made : (t : Tree Token) (n : ℕ) → NoteIsSpellable (param_of t n).note
param_made (node (pair w (pair c (pair t rest)))) n = type_made t
param_made _ n = tt

params_made : (t : Tree Token) (n : ℕ) → AllByRecursion (λ b. NoteIsSpellable b.note) (next_params_of t n)
params_made (pair (node (pair c (pair t rest))) more) n = (param_made t n, params_made more (n + 1))
params_made _ n = tt

program_made : (t : Tree Token) → Fits (item (OfRule r.Program)) t → IsSpellableProgram (program_of t)
program_made (node (here (node (pair b (pair e end))))) h = record { params = tt; body = expr_made e [] 0 h.1.0 }
program_made (node (there (here (node (pair a (pair p (pair more (pair b (pair e end))))))))) h = record {
  params = (param_made p 0, params_made more 1);
  body = expr_made e (params_scope more (param_bound p 0 ∷ []) 1) (params_behind more 1) h.1.1.1.1.0;
}
program_made (node (there (there (here e)))) h = record { params = tt; body = expr_made e [] 0 h }
program_made _ h = record { params = tt; body = tt }

-- the law of classes
abbrev pub HaveTheirClasses : Type 0
HaveTheirClasses = (text : List ℕ) (tokens : List Token) → AreTokens text tokens → AllByRecursion (λ t. class_of t.word ≡ Some t.class) tokens

pub text_spells_spellable : HaveTheirClasses → (text : List ℕ) (p : ProgramTree) → TextSpells text p → IsSpellableProgram p
text_spells_spellable law text p s =
    let tree = s.spells.tree in
    let every : AllByRecursion HasItsClass (yield tree) = subst (λ (ts : List Token). AllByRecursion HasItsClass ts) (sym s.spells.tokens) (law text s.tokens s.are_tokens) in
    subst IsSpellableProgram s.spells.is (program_made tree (fits (item (OfRule r.Program)) tree s.spells.tree_of every))
