-- An operand opens what the table says, level by level.
use Rattle.std.proofs.Common.{◌≡◌, refl, true, Option, Some, None, List, [], ◌∷◌, ◌++◌, ap, sym, ◌∙◌}
use Rattle.std.proofs.lemmas.Option.{none-some}
use Rattle.weld_grammar.specs.declared.terminals.class.Class.{Class}
use Rattle.weld_grammar.specs.declared.terminals.class.Class.TheVariants as classes
use Rattle.weld_grammar.specs.declared.terminals.symbol.Symbol.TheVariants as s
use Rattle.weld_grammar.specs.declared.terminals.reserved.Reserved.TheVariants as w
use Rattle.weld_grammar.specs.declared.rule.Rule.{Rule}
use Rattle.weld_grammar.specs.declared.rule.Rule.TheVariants as r
use Rattle.weld_grammar.specs.declared.item.Item.{Item}
use Rattle.weld_grammar.specs.declared.item.Item.TheVariants.{Part as OfRule, Repeated}
use Rattle.weld_accept.specs.declared.step.Step.{Step}
use Rattle.weld_accept.specs.declared.entry.Entry.{Entry}
use Rattle.weld_accept.specs.declared.entry.Entry.TheVariants.{Due, End}
use Rattle.weld_grammar.specs.Grammar.{Part, item, one_of, body}
use Rattle.weld_grammar.specs.Pending.{first_begun, behind, depth}
use Rattle.weld_grammar.specs.Apart.{any_begins}
use Rattle.weld_grammar.proofs.Opening.{behind_rule, behind_all, behind_one_of}
use Rattle.weld_accept.specs.Machine.{items_of, Opens}
use Rattle.weld_accept.specs.Operand.{operand, primary}
use Rattle.weld_accept.proofs.Made.{opens_choice, opens_row, opens_same}

abbrev unsome : Option Item → Item
unsome (Some i) = i
unsome None = OfRule r.Primary

abbrev pub listed : Option (List Entry) → List Entry
listed (Some es) = es
listed None = []

abbrev pub choices : Part → List Item
choices (one_of is) = is
choices _ = []

-- what is chosen at each level where the operand begins
record Chosen (x : Class) (i : Item) : Type 0 where
  pub primary : first_begun (choices (body r.Primary)) x ≡ i
  pub primary_begins : any_begins (choices (body r.Primary)) x ≡ true
  pub unary : first_begun (choices (body r.Unary)) x ≡ OfRule r.Post
  pub unary_begins : any_begins (choices (body r.Unary)) x ≡ true
  pub expr : first_begun (choices (body r.Expr)) x ≡ OfRule r.Or
  pub expr_begins : any_begins (choices (body r.Expr)) x ≡ true

chosen : (x : Class) (i : Item) → primary x ≡ Some i → Chosen x i
chosen classes.Name i h = record { primary = ap unsome h; primary_begins = refl; unary = refl; unary_begins = refl; expr = refl; expr_begins = refl }
chosen classes.Int i h = record { primary = ap unsome h; primary_begins = refl; unary = refl; unary_begins = refl; expr = refl; expr_begins = refl }
chosen classes.Long i h = record { primary = ap unsome h; primary_begins = refl; unary = refl; unary_begins = refl; expr = refl; expr_begins = refl }
chosen classes.Chars i h = record { primary = ap unsome h; primary_begins = refl; unary = refl; unary_begins = refl; expr = refl; expr_begins = refl }
chosen (classes.Symbol s.LeftParen) i h = record { primary = ap unsome h; primary_begins = refl; unary = refl; unary_begins = refl; expr = refl; expr_begins = refl }
chosen (classes.Symbol s.LeftBracket) i h = record { primary = ap unsome h; primary_begins = refl; unary = refl; unary_begins = refl; expr = refl; expr_begins = refl }
chosen (classes.Symbol s.LeftBrace) i h = record { primary = ap unsome h; primary_begins = refl; unary = refl; unary_begins = refl; expr = refl; expr_begins = refl }
chosen (classes.Reserved w.True) i h = record { primary = ap unsome h; primary_begins = refl; unary = refl; unary_begins = refl; expr = refl; expr_begins = refl }
chosen (classes.Reserved w.False) i h = record { primary = ap unsome h; primary_begins = refl; unary = refl; unary_begins = refl; expr = refl; expr_begins = refl }
chosen (classes.Reserved w.If) i h = record { primary = ap unsome h; primary_begins = refl; unary = refl; unary_begins = refl; expr = refl; expr_begins = refl }
chosen (classes.Reserved w.Select) i h = record { primary = ap unsome h; primary_begins = refl; unary = refl; unary_begins = refl; expr = refl; expr_begins = refl }
chosen (classes.Reserved w.Lookup) i h = record { primary = ap unsome h; primary_begins = refl; unary = refl; unary_begins = refl; expr = refl; expr_begins = refl }
chosen (classes.Reserved w.Keyexists) i h = record { primary = ap unsome h; primary_begins = refl; unary = refl; unary_begins = refl; expr = refl; expr_begins = refl }
chosen (classes.Reserved w.Len) i h = record { primary = ap unsome h; primary_begins = refl; unary = refl; unary_begins = refl; expr = refl; expr_begins = refl }
chosen (classes.Reserved w.Slice) i h = record { primary = ap unsome h; primary_begins = refl; unary = refl; unary_begins = refl; expr = refl; expr_begins = refl }
chosen (classes.Reserved w.Merge) i h = record { primary = ap unsome h; primary_begins = refl; unary = refl; unary_begins = refl; expr = refl; expr_begins = refl }
chosen (classes.Reserved w.Result) i h = record { primary = ap unsome h; primary_begins = refl; unary = refl; unary_begins = refl; expr = refl; expr_begins = refl }
chosen (classes.Reserved w.For) i h = record { primary = ap unsome h; primary_begins = refl; unary = refl; unary_begins = refl; expr = refl; expr_begins = refl }
chosen (classes.Reserved w.Iterate) i h = record { primary = ap unsome h; primary_begins = refl; unary = refl; unary_begins = refl; expr = refl; expr_begins = refl }
chosen (classes.Reserved w.I8) i h = record { primary = ap unsome h; primary_begins = refl; unary = refl; unary_begins = refl; expr = refl; expr_begins = refl }
chosen (classes.Reserved w.I16) i h = record { primary = ap unsome h; primary_begins = refl; unary = refl; unary_begins = refl; expr = refl; expr_begins = refl }
chosen (classes.Reserved w.I32) i h = record { primary = ap unsome h; primary_begins = refl; unary = refl; unary_begins = refl; expr = refl; expr_begins = refl }
chosen (classes.Reserved w.I64) i h = record { primary = ap unsome h; primary_begins = refl; unary = refl; unary_begins = refl; expr = refl; expr_begins = refl }
chosen (classes.Reserved w.U8) i h = record { primary = ap unsome h; primary_begins = refl; unary = refl; unary_begins = refl; expr = refl; expr_begins = refl }
chosen (classes.Reserved w.U16) i h = record { primary = ap unsome h; primary_begins = refl; unary = refl; unary_begins = refl; expr = refl; expr_begins = refl }
chosen (classes.Reserved w.U32) i h = record { primary = ap unsome h; primary_begins = refl; unary = refl; unary_begins = refl; expr = refl; expr_begins = refl }
chosen (classes.Reserved w.U64) i h = record { primary = ap unsome h; primary_begins = refl; unary = refl; unary_begins = refl; expr = refl; expr_begins = refl }
chosen (classes.Reserved w.Vecbuilder) i h = record { primary = ap unsome h; primary_begins = refl; unary = refl; unary_begins = refl; expr = refl; expr_begins = refl }
chosen (classes.Reserved w.Appender) i h = record { primary = ap unsome h; primary_begins = refl; unary = refl; unary_begins = refl; expr = refl; expr_begins = refl }
chosen (classes.Reserved w.Merger) i h = record { primary = ap unsome h; primary_begins = refl; unary = refl; unary_begins = refl; expr = refl; expr_begins = refl }
chosen (classes.Reserved w.Dictmerger) i h = record { primary = ap unsome h; primary_begins = refl; unary = refl; unary_begins = refl; expr = refl; expr_begins = refl }
chosen (classes.Reserved w.Vecmerger) i h = record { primary = ap unsome h; primary_begins = refl; unary = refl; unary_begins = refl; expr = refl; expr_begins = refl }
chosen (classes.Reserved w.Groupbuilder) i h = record { primary = ap unsome h; primary_begins = refl; unary = refl; unary_begins = refl; expr = refl; expr_begins = refl }
chosen (classes.Reserved w.Groupmerger) i h = record { primary = ap unsome h; primary_begins = refl; unary = refl; unary_begins = refl; expr = refl; expr_begins = refl }
chosen _ i h = absurd (none-some i h)

-- what is left on the stack, level by level
abbrev below_primary : List Entry → List Entry
below_primary s = End r.Primary ∷ s

abbrev below_post : List Entry → List Entry
below_post s = below_primary (Due (Repeated r.FieldPart) ∷ End r.Post ∷ s)

abbrev below_unary : List Entry → List Entry
below_unary s = below_post (End r.Unary ∷ s)

abbrev below_product : List Entry → List Entry
below_product s = below_unary (Due (Repeated r.ProductPart) ∷ End r.Product ∷ s)

abbrev below_sum : List Entry → List Entry
below_sum s = below_product (Due (Repeated r.SumPart) ∷ End r.Sum ∷ s)

abbrev below_relation : List Entry → List Entry
below_relation s = below_sum (Due (Repeated r.RelationPart) ∷ End r.Relation ∷ s)

abbrev below_equality : List Entry → List Entry
below_equality s = below_relation (Due (Repeated r.EqualityPart) ∷ End r.Equality ∷ s)

abbrev below_and : List Entry → List Entry
below_and s = below_equality (Due (Repeated r.AndPart) ∷ End r.And ∷ s)

abbrev below_or : List Entry → List Entry
below_or s = below_and (Due (Repeated r.OrPart) ∷ End r.Or ∷ s)

abbrev below_expr : List Entry → List Entry
below_expr s = below_or (End r.Expr ∷ s)

-- ---- it opens them

at_primary : (x : Class) (i : Item) (s : List Entry) (old : List Step) (t : List Entry) (new : List Step) → Chosen x i → Opens i x (below_primary s) old t new → Opens (OfRule r.Primary) x s old t new
at_primary x i s old t new c o = opens_choice r.Primary (choices (body r.Primary)) x s old t new refl c.primary_begins (opens_same i (first_begun (choices (body r.Primary)) x) x (below_primary s) (below_primary s) old t new (sym c.primary) refl o)

at_post : (x : Class) (i : Item) (s : List Entry) (old : List Step) (t : List Entry) (new : List Step) → Chosen x i → Opens i x (below_post s) old t new → Opens (OfRule r.Post) x s old t new
at_post x i s old t new c o = opens_row r.Post (OfRule r.Primary) (Repeated r.FieldPart ∷ []) x s old t new refl (at_primary x i (Due (Repeated r.FieldPart) ∷ End r.Post ∷ s) old t new c o)

at_unary : (x : Class) (i : Item) (s : List Entry) (old : List Step) (t : List Entry) (new : List Step) → Chosen x i → Opens i x (below_unary s) old t new → Opens (OfRule r.Unary) x s old t new
at_unary x i s old t new c o = opens_choice r.Unary (choices (body r.Unary)) x s old t new refl c.unary_begins (opens_same (OfRule r.Post) (first_begun (choices (body r.Unary)) x) x (End r.Unary ∷ s) (End r.Unary ∷ s) old t new (sym c.unary) refl (at_post x i (End r.Unary ∷ s) old t new c o))

at_product : (x : Class) (i : Item) (s : List Entry) (old : List Step) (t : List Entry) (new : List Step) → Chosen x i → Opens i x (below_product s) old t new → Opens (OfRule r.Product) x s old t new
at_product x i s old t new c o = opens_row r.Product (OfRule r.Unary) (Repeated r.ProductPart ∷ []) x s old t new refl (at_unary x i (Due (Repeated r.ProductPart) ∷ End r.Product ∷ s) old t new c o)

at_sum : (x : Class) (i : Item) (s : List Entry) (old : List Step) (t : List Entry) (new : List Step) → Chosen x i → Opens i x (below_sum s) old t new → Opens (OfRule r.Sum) x s old t new
at_sum x i s old t new c o = opens_row r.Sum (OfRule r.Product) (Repeated r.SumPart ∷ []) x s old t new refl (at_product x i (Due (Repeated r.SumPart) ∷ End r.Sum ∷ s) old t new c o)

at_relation : (x : Class) (i : Item) (s : List Entry) (old : List Step) (t : List Entry) (new : List Step) → Chosen x i → Opens i x (below_relation s) old t new → Opens (OfRule r.Relation) x s old t new
at_relation x i s old t new c o = opens_row r.Relation (OfRule r.Sum) (Repeated r.RelationPart ∷ []) x s old t new refl (at_sum x i (Due (Repeated r.RelationPart) ∷ End r.Relation ∷ s) old t new c o)

at_equality : (x : Class) (i : Item) (s : List Entry) (old : List Step) (t : List Entry) (new : List Step) → Chosen x i → Opens i x (below_equality s) old t new → Opens (OfRule r.Equality) x s old t new
at_equality x i s old t new c o = opens_row r.Equality (OfRule r.Relation) (Repeated r.EqualityPart ∷ []) x s old t new refl (at_relation x i (Due (Repeated r.EqualityPart) ∷ End r.Equality ∷ s) old t new c o)

at_and : (x : Class) (i : Item) (s : List Entry) (old : List Step) (t : List Entry) (new : List Step) → Chosen x i → Opens i x (below_and s) old t new → Opens (OfRule r.And) x s old t new
at_and x i s old t new c o = opens_row r.And (OfRule r.Equality) (Repeated r.AndPart ∷ []) x s old t new refl (at_equality x i (Due (Repeated r.AndPart) ∷ End r.And ∷ s) old t new c o)

at_or : (x : Class) (i : Item) (s : List Entry) (old : List Step) (t : List Entry) (new : List Step) → Chosen x i → Opens i x (below_or s) old t new → Opens (OfRule r.Or) x s old t new
at_or x i s old t new c o = opens_row r.Or (OfRule r.And) (Repeated r.OrPart ∷ []) x s old t new refl (at_and x i (Due (Repeated r.OrPart) ∷ End r.Or ∷ s) old t new c o)

at_expr : (x : Class) (i : Item) (s : List Entry) (old : List Step) (t : List Entry) (new : List Step) → Chosen x i → Opens i x (below_expr s) old t new → Opens (OfRule r.Expr) x s old t new
at_expr x i s old t new c o = opens_choice r.Expr (choices (body r.Expr)) x s old t new refl c.expr_begins (opens_same (OfRule r.Or) (first_begun (choices (body r.Expr)) x) x (End r.Expr ∷ s) (End r.Expr ∷ s) old t new (sym c.expr) refl (at_or x i (End r.Expr ∷ s) old t new c o))

pub opens_operand : (q : Rule) (x : Class) (i : Item) (s es : List Entry) (old : List Step) (t : List Entry) (new : List Step) → primary x ≡ Some i → operand q ≡ Some es → Opens i x (es ++ s) old t new → Opens (OfRule q) x s old t new
opens_operand r.Primary x i s es old t new h o m = at_primary x i s old t new (chosen x i h) (opens_same i i x (es ++ s) (below_primary s) old t new refl (ap (λ z. listed z ++ s) (sym o)) m)
opens_operand r.Post x i s es old t new h o m = at_post x i s old t new (chosen x i h) (opens_same i i x (es ++ s) (below_post s) old t new refl (ap (λ z. listed z ++ s) (sym o)) m)
opens_operand r.Unary x i s es old t new h o m = at_unary x i s old t new (chosen x i h) (opens_same i i x (es ++ s) (below_unary s) old t new refl (ap (λ z. listed z ++ s) (sym o)) m)
opens_operand r.Product x i s es old t new h o m = at_product x i s old t new (chosen x i h) (opens_same i i x (es ++ s) (below_product s) old t new refl (ap (λ z. listed z ++ s) (sym o)) m)
opens_operand r.Sum x i s es old t new h o m = at_sum x i s old t new (chosen x i h) (opens_same i i x (es ++ s) (below_sum s) old t new refl (ap (λ z. listed z ++ s) (sym o)) m)
opens_operand r.Or x i s es old t new h o m = at_or x i s old t new (chosen x i h) (opens_same i i x (es ++ s) (below_or s) old t new refl (ap (λ z. listed z ++ s) (sym o)) m)
opens_operand r.Expr x i s es old t new h o m = at_expr x i s old t new (chosen x i h) (opens_same i i x (es ++ s) (below_expr s) old t new refl (ap (λ z. listed z ++ s) (sym o)) m)
opens_operand _ x i s es old t new h o m = absurd (none-some es o)

-- ---- and so it is pending

pending_primary : (x : Class) (i : Item) (s : List Item) → Chosen x i → behind depth (item (OfRule r.Primary)) x s ≡ behind depth (item i) x (s)
pending_primary x i s c = behind_rule r.Primary x s ∙ behind_one_of (choices (body r.Primary)) x s ∙ ap (λ z. behind depth (item z) x s) c.primary

pending_post : (x : Class) (i : Item) (s : List Item) → Chosen x i → behind depth (item (OfRule r.Post)) x s ≡ behind depth (item i) x (Repeated r.FieldPart ∷ s)
pending_post x i s c = behind_rule r.Post x s ∙ behind_all (OfRule r.Primary) (Repeated r.FieldPart ∷ []) x s ∙ pending_primary x i (Repeated r.FieldPart ∷ s) c

pending_unary : (x : Class) (i : Item) (s : List Item) → Chosen x i → behind depth (item (OfRule r.Unary)) x s ≡ behind depth (item i) x (Repeated r.FieldPart ∷ s)
pending_unary x i s c = behind_rule r.Unary x s ∙ behind_one_of (choices (body r.Unary)) x s ∙ ap (λ z. behind depth (item z) x s) c.unary ∙ pending_post x i s c

pending_product : (x : Class) (i : Item) (s : List Item) → Chosen x i → behind depth (item (OfRule r.Product)) x s ≡ behind depth (item i) x (Repeated r.FieldPart ∷ Repeated r.ProductPart ∷ s)
pending_product x i s c = behind_rule r.Product x s ∙ behind_all (OfRule r.Unary) (Repeated r.ProductPart ∷ []) x s ∙ pending_unary x i (Repeated r.ProductPart ∷ s) c

pending_sum : (x : Class) (i : Item) (s : List Item) → Chosen x i → behind depth (item (OfRule r.Sum)) x s ≡ behind depth (item i) x (Repeated r.FieldPart ∷ Repeated r.ProductPart ∷ Repeated r.SumPart ∷ s)
pending_sum x i s c = behind_rule r.Sum x s ∙ behind_all (OfRule r.Product) (Repeated r.SumPart ∷ []) x s ∙ pending_product x i (Repeated r.SumPart ∷ s) c

pending_relation : (x : Class) (i : Item) (s : List Item) → Chosen x i → behind depth (item (OfRule r.Relation)) x s ≡ behind depth (item i) x (Repeated r.FieldPart ∷ Repeated r.ProductPart ∷ Repeated r.SumPart ∷ Repeated r.RelationPart ∷ s)
pending_relation x i s c = behind_rule r.Relation x s ∙ behind_all (OfRule r.Sum) (Repeated r.RelationPart ∷ []) x s ∙ pending_sum x i (Repeated r.RelationPart ∷ s) c

pending_equality : (x : Class) (i : Item) (s : List Item) → Chosen x i → behind depth (item (OfRule r.Equality)) x s ≡ behind depth (item i) x (Repeated r.FieldPart ∷ Repeated r.ProductPart ∷ Repeated r.SumPart ∷ Repeated r.RelationPart ∷ Repeated r.EqualityPart ∷ s)
pending_equality x i s c = behind_rule r.Equality x s ∙ behind_all (OfRule r.Relation) (Repeated r.EqualityPart ∷ []) x s ∙ pending_relation x i (Repeated r.EqualityPart ∷ s) c

pending_and : (x : Class) (i : Item) (s : List Item) → Chosen x i → behind depth (item (OfRule r.And)) x s ≡ behind depth (item i) x (Repeated r.FieldPart ∷ Repeated r.ProductPart ∷ Repeated r.SumPart ∷ Repeated r.RelationPart ∷ Repeated r.EqualityPart ∷ Repeated r.AndPart ∷ s)
pending_and x i s c = behind_rule r.And x s ∙ behind_all (OfRule r.Equality) (Repeated r.AndPart ∷ []) x s ∙ pending_equality x i (Repeated r.AndPart ∷ s) c

pending_or : (x : Class) (i : Item) (s : List Item) → Chosen x i → behind depth (item (OfRule r.Or)) x s ≡ behind depth (item i) x (Repeated r.FieldPart ∷ Repeated r.ProductPart ∷ Repeated r.SumPart ∷ Repeated r.RelationPart ∷ Repeated r.EqualityPart ∷ Repeated r.AndPart ∷ Repeated r.OrPart ∷ s)
pending_or x i s c = behind_rule r.Or x s ∙ behind_all (OfRule r.And) (Repeated r.OrPart ∷ []) x s ∙ pending_and x i (Repeated r.OrPart ∷ s) c

pending_expr : (x : Class) (i : Item) (s : List Item) → Chosen x i → behind depth (item (OfRule r.Expr)) x s ≡ behind depth (item i) x (Repeated r.FieldPart ∷ Repeated r.ProductPart ∷ Repeated r.SumPart ∷ Repeated r.RelationPart ∷ Repeated r.EqualityPart ∷ Repeated r.AndPart ∷ Repeated r.OrPart ∷ s)
pending_expr x i s c = behind_rule r.Expr x s ∙ behind_one_of (choices (body r.Expr)) x s ∙ ap (λ z. behind depth (item z) x s) c.expr ∙ pending_or x i s c

pub pending_operand : (q : Rule) (x : Class) (i : Item) (s es : List Entry) → primary x ≡ Some i → operand q ≡ Some es → behind depth (item i) x (items_of (es ++ s)) ≡ behind depth (item (OfRule q)) x (items_of s)
pending_operand r.Primary x i s es h o = ap (λ z. behind depth (item i) x (items_of (listed z ++ s))) (sym o) ∙ sym (pending_primary x i (items_of s) (chosen x i h))
pending_operand r.Post x i s es h o = ap (λ z. behind depth (item i) x (items_of (listed z ++ s))) (sym o) ∙ sym (pending_post x i (items_of s) (chosen x i h))
pending_operand r.Unary x i s es h o = ap (λ z. behind depth (item i) x (items_of (listed z ++ s))) (sym o) ∙ sym (pending_unary x i (items_of s) (chosen x i h))
pending_operand r.Product x i s es h o = ap (λ z. behind depth (item i) x (items_of (listed z ++ s))) (sym o) ∙ sym (pending_product x i (items_of s) (chosen x i h))
pending_operand r.Sum x i s es h o = ap (λ z. behind depth (item i) x (items_of (listed z ++ s))) (sym o) ∙ sym (pending_sum x i (items_of s) (chosen x i h))
pending_operand r.Or x i s es h o = ap (λ z. behind depth (item i) x (items_of (listed z ++ s))) (sym o) ∙ sym (pending_or x i (items_of s) (chosen x i h))
pending_operand r.Expr x i s es h o = ap (λ z. behind depth (item i) x (items_of (listed z ++ s))) (sym o) ∙ sym (pending_expr x i (items_of s) (chosen x i h))
pending_operand _ x i s es h o = absurd (none-some es o)
