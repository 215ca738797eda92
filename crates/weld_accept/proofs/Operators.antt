-- An operator opens what the table says.
use Rattle.std.proofs.Common.{◌≡◌, refl, true, Some, List, [], ◌∷◌, ◌++◌, ap, sym, ◌∙◌, subst}
use Rattle.std.proofs.lemmas.Bool.{false≢true}
use Rattle.std.proofs.lemmas.Option.{none-some}
use Rattle.weld_grammar.specs.declared.terminals.class.Class.{Class}
use Rattle.weld_grammar.specs.declared.terminals.class.Class.TheVariants as classes
use Rattle.weld_grammar.specs.declared.terminals.symbol.Symbol.{Symbol}
use Rattle.weld_grammar.specs.declared.terminals.symbol.Symbol.TheVariants as s
use Rattle.weld_grammar.specs.declared.terminal.Terminal.TheVariants.{Sign}
use Rattle.weld_grammar.specs.declared.rule.Rule.{Rule}
use Rattle.weld_grammar.specs.declared.rule.Rule.TheVariants as r
use Rattle.weld_grammar.specs.declared.item.Item.{Item}
use Rattle.weld_grammar.specs.declared.item.Item.TheVariants.{One, Part as OfRule, Repeated}
use Rattle.weld_grammar.specs.Grammar.{item, all_of, one_of, body, is_of}
use Rattle.weld_grammar.specs.Begins.{begins}
use Rattle.weld_grammar.specs.Pending.{first_begun, behind, depth}
use Rattle.weld_grammar.specs.Apart.{any_begins}
use Rattle.weld_grammar.proofs.Opening.{behind_one, behind_rule, behind_repeated, behind_all, behind_one_of}
use Rattle.weld_accept.specs.declared.step.Step.{Step}
use Rattle.weld_accept.specs.declared.step.Step.TheVariants.{Shift}
use Rattle.weld_accept.specs.declared.entry.Entry.{Entry}
use Rattle.weld_accept.specs.declared.entry.Entry.TheVariants.{Due, End}
use Rattle.weld_accept.specs.Machine.{items_of, Opens}
use Rattle.weld_accept.specs.Operand.{operator}
use Rattle.weld_accept.proofs.AtOnce.{listed, choices}
use Rattle.weld_accept.proofs.Made.{opens_one, opens_repeated, opens_choice, opens_row, opens_same}

-- the rule is an operator of a line and an operand, and the symbol is such an operator
record Line (q o t : Rule) (y : Symbol) : Type 0 where
  pub row : all_of (OfRule o ∷ OfRule t ∷ []) ≡ body q
  pub one : one_of (choices (body o)) ≡ body o
  pub first : first_begun (choices (body o)) (classes.Symbol y) ≡ One (Sign y)
  pub begun : any_begins (choices (body o)) (classes.Symbol y) ≡ true
  pub is : is_of (Sign y) (classes.Symbol y) ≡ true

product_line : (y : Symbol) → begins (Repeated r.ProductPart) (classes.Symbol y) ≡ true → Line r.ProductPart r.ProductOp r.Unary y
product_line s.Star h = record { row = refl; one = refl; first = refl; begun = refl; is = refl }
product_line s.Slash h = record { row = refl; one = refl; first = refl; begun = refl; is = refl }
product_line s.Percent h = record { row = refl; one = refl; first = refl; begun = refl; is = refl }
product_line _ h = absurd (false≢true h)

sum_line : (y : Symbol) → begins (Repeated r.SumPart) (classes.Symbol y) ≡ true → Line r.SumPart r.SumOp r.Product y
sum_line s.Plus h = record { row = refl; one = refl; first = refl; begun = refl; is = refl }
sum_line s.Minus h = record { row = refl; one = refl; first = refl; begun = refl; is = refl }
sum_line _ h = absurd (false≢true h)

relation_line : (y : Symbol) → begins (Repeated r.RelationPart) (classes.Symbol y) ≡ true → Line r.RelationPart r.RelationOp r.Sum y
relation_line s.Less h = record { row = refl; one = refl; first = refl; begun = refl; is = refl }
relation_line s.LessEquals h = record { row = refl; one = refl; first = refl; begun = refl; is = refl }
relation_line s.Greater h = record { row = refl; one = refl; first = refl; begun = refl; is = refl }
relation_line s.GreaterEquals h = record { row = refl; one = refl; first = refl; begun = refl; is = refl }
relation_line _ h = absurd (false≢true h)

equality_line : (y : Symbol) → begins (Repeated r.EqualityPart) (classes.Symbol y) ≡ true → Line r.EqualityPart r.EqualityOp r.Relation y
equality_line s.EqualsEquals h = record { row = refl; one = refl; first = refl; begun = refl; is = refl }
equality_line s.BangEquals h = record { row = refl; one = refl; first = refl; begun = refl; is = refl }
equality_line _ h = absurd (false≢true h)

-- what it leaves on the stack
abbrev left : Rule → Rule → Rule → List Entry
left q o t = End o ∷ Due (OfRule t) ∷ End q ∷ Due (Repeated q) ∷ []

opens_line : (q o t : Rule) (y : Symbol) (s : List Entry) (old new : List Step) → Line q o t y → new ≡ old ++ Shift (Sign y) ∷ []
    → Opens (Repeated q) (classes.Symbol y) s old (left q o t ++ s) new
opens_line q o t y s old new l e =
    let x = classes.Symbol y in
    let below = Due (OfRule t) ∷ End q ∷ Due (Repeated q) ∷ s in
    let all = left q o t ++ s in
    opens_repeated q x s old all new
    (opens_row q (OfRule o) (OfRule t ∷ []) x (Due (Repeated q) ∷ s) old all new l.row
    (opens_choice o (choices (body o)) x below old all new l.one l.begun
    (opens_same (One (Sign y)) (first_begun (choices (body o)) x) x all all old all new (sym l.first) refl
    (opens_one (Sign y) x all old new l.is e))))

pending_line : (q o t : Rule) (y : Symbol) (s : List Item) → Line q o t y → behind depth (item (Repeated q)) (classes.Symbol y) s ≡ OfRule t ∷ Repeated q ∷ s
pending_line q o t y s l =
    let x = classes.Symbol y in
    behind_repeated q x s ∙ behind_rule q x (Repeated q ∷ s) ∙ ap (λ p. behind depth p x (Repeated q ∷ s)) (sym l.row)
    ∙ behind_all (OfRule o) (OfRule t ∷ []) x (Repeated q ∷ s) ∙ behind_rule o x (OfRule t ∷ Repeated q ∷ s)
    ∙ ap (λ p. behind depth p x (OfRule t ∷ Repeated q ∷ s)) (sym l.one) ∙ behind_one_of (choices (body o)) x (OfRule t ∷ Repeated q ∷ s)
    ∙ ap (λ i. behind depth (item i) x (OfRule t ∷ Repeated q ∷ s)) l.first ∙ behind_one (Sign y) x (OfRule t ∷ Repeated q ∷ s)

opens_left : (q o t : Rule) (y : Symbol) (s es : List Entry) (old new : List Step) → Line q o t y → Some (left q o t) ≡ Some es → new ≡ old ++ Shift (Sign y) ∷ []
    → Opens (Repeated q) (classes.Symbol y) s old (es ++ s) new
opens_left q o t y s es old new l h e =
    let P : List Entry → Type 0 = λ z. Opens (Repeated q) (classes.Symbol y) s old (z ++ s) new in
    subst P (ap listed h) (opens_line q o t y s old new l e)

pub opens_operator : (q : Rule) (y : Symbol) (s es : List Entry) (old new : List Step) → begins (Repeated q) (classes.Symbol y) ≡ true → operator q ≡ Some es
    → new ≡ old ++ Shift (Sign y) ∷ [] → Opens (Repeated q) (classes.Symbol y) s old (es ++ s) new
opens_operator r.ProductPart y s es old new b h e = opens_left r.ProductPart r.ProductOp r.Unary y s es old new (product_line y b) h e
opens_operator r.SumPart y s es old new b h e = opens_left r.SumPart r.SumOp r.Product y s es old new (sum_line y b) h e
opens_operator r.RelationPart y s es old new b h e = opens_left r.RelationPart r.RelationOp r.Sum y s es old new (relation_line y b) h e
opens_operator r.EqualityPart y s es old new b h e = opens_left r.EqualityPart r.EqualityOp r.Relation y s es old new (equality_line y b) h e
opens_operator _ y s es old new b h e = absurd (none-some es h)

pending_left : (q o t : Rule) (y : Symbol) (s es : List Entry) → Line q o t y → Some (left q o t) ≡ Some es → items_of (es ++ s) ≡ behind depth (item (Repeated q)) (classes.Symbol y) (items_of s)
pending_left q o t y s es l h = ap (λ z. items_of (listed z ++ s)) (sym h) ∙ sym (pending_line q o t y (items_of s) l)

pub pending_operator : (q : Rule) (y : Symbol) (s es : List Entry) → begins (Repeated q) (classes.Symbol y) ≡ true → operator q ≡ Some es
    → items_of (es ++ s) ≡ behind depth (item (Repeated q)) (classes.Symbol y) (items_of s)
pending_operator r.ProductPart y s es b h = pending_left r.ProductPart r.ProductOp r.Unary y s es (product_line y b) h
pending_operator r.SumPart y s es b h = pending_left r.SumPart r.SumOp r.Product y s es (sum_line y b) h
pending_operator r.RelationPart y s es b h = pending_left r.RelationPart r.RelationOp r.Sum y s es (relation_line y b) h
pending_operator r.EqualityPart y s es b h = pending_left r.EqualityPart r.EqualityOp r.Relation y s es (equality_line y b) h
pending_operator _ y s es b h = absurd (none-some es h)

-- the same where item, token and stack are known by other names

begun_at : (i : Item) (x : Class) (q : Rule) (y : Symbol) → i ≡ Repeated q → x ≡ classes.Symbol y → begins i x ≡ true → begins (Repeated q) (classes.Symbol y) ≡ true
begun_at i x q y p k b = sym (λ j. begins (p j) (k j)) ∙ b

pub opens_at : (i : Item) (x : Class) (q : Rule) (y : Symbol) (s es : List Entry) (old : List Step) (t : List Entry) (new : List Step) → i ≡ Repeated q → x ≡ classes.Symbol y → t ≡ es ++ s
    → begins i x ≡ true → operator q ≡ Some es → new ≡ old ++ Shift (Sign y) ∷ [] → Opens i x s old t new
opens_at i x q y s es old t new p k u b h e =
    let P : Item → Type 0 = λ z. Opens z x s old t new in
    let Q : Class → Type 0 = λ z. Opens (Repeated q) z s old t new in
    let R : List Entry → Type 0 = λ z. Opens (Repeated q) (classes.Symbol y) s old z new in
    subst P (sym p) (subst Q (sym k) (subst R (sym u) (opens_operator q y s es old new (begun_at i x q y p k b) h e)))

pub pending_at : (i : Item) (x : Class) (q : Rule) (y : Symbol) (s es t : List Entry) → i ≡ Repeated q → x ≡ classes.Symbol y → t ≡ es ++ s
    → begins i x ≡ true → operator q ≡ Some es → items_of t ≡ behind depth (item i) x (items_of s)
pending_at i x q y s es t p k u b h =
    ap items_of u ∙ pending_operator q y s es (begun_at i x q y p k b) h ∙ sym (λ j. behind depth (item (p j)) (k j) (items_of s))
