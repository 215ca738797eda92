-- What is asked of trees so that what they spell is well made and scoped, and how their parts have it.
use Rattle.std.proofs.Common.{◌≡◌, ◌⊎◌, inl, inr, refl, ℕ, suc, ◌+◌, ◌<◌, ◌≤◌, Bool, true, false, ◌||◌, cond, Option, Some, None, List, [], ◌∷◌, ◌++◌, length, ap, sym, subst, ◌∙◌, arith, length-append, pos, neg_ℤ, bytes_eq}
use Rattle.std.proofs.lemmas.Bool.{false≢true, leb-true, not-false}
use Rattle.std.proofs.lemmas.Int.{ints}
use Rattle.weld_data.specs.declared.kind.Kind.TheVariants as kinds
use Rattle.weld_data.specs.Kind.{IsInteger, InRange}
use Rattle.weld_tree.specs.declared.place.Place.{Place}
use Rattle.weld_tree.specs.declared.code.Code.TheVariants.{N1}
use Rattle.weld_tree.specs.ExprTree.{ExprTree, ExprTrees, LegTree, LegTrees, int}
use Rattle.weld_tree.specs.Program.{bound, bound_in, bound_in_leg, bound_in_legs, IsOneOf, IsScoped, AreScoped, LegIsScoped, LegsAreScoped, IsWellMade, AreWellMade, LegIsWellMade, LegsAreWellMade, LeafIsWellMade}
use Rattle.weld_grammar.specs.declared.terminals.class.Class.{Class}
use Rattle.weld_grammar.specs.declared.terminals.class.Class.TheVariants as classes
use Rattle.weld_grammar.specs.declared.terminals.token.Token.{Token}
use Rattle.weld_grammar.specs.declared.terminal.Terminal.TheVariants.{Word, Name, Number}
use Rattle.weld_grammar.specs.declared.rule.Rule.{Rule}
use Rattle.weld_grammar.specs.declared.item.Item.{Item}
use Rattle.weld_grammar.specs.declared.item.Item.TheVariants.{One, Part as OfRule, Repeated}
use Rattle.weld_grammar.specs.Grammar.{Part, item, all_of, one_of, body, is_of}
use Rattle.weld_grammar.specs.Derivation.{Tree, leaf, node, empty, pair, here, there, yield, IsOf}
use Rattle.weld_spell.specs.Seen.{seen}
use Rattle.weld_spell.specs.TypeOf.{int_kind_of}
use Rattle.weld_tokens.specs.Literals.{number_value, greatest_literal, is_in_range, literal_value}
use Rattle.weld_tokens.specs.Order.{out_of_range}
use Rattle.weld_spell.specs.ProgramOf.{Bound, number_in, word_of, class_of, kind_of_class}
use Rattle.weld_spell.specs.Names.{Refused, bears, unbound, misnamed, none, binding_of, name_of}
use Rattle.weld_spell.specs.Names.{or_else as first_name}
use Rattle.weld_spell.specs.Ranges.{or_else, refused_number, is_minused, out_of_range_in}

-- ---- scopes

-- the names of a scope
abbrev pub names : List Bound → List (List ℕ)
names [] = []
names (b ∷ scope) = b.bytes ∷ names scope

-- the numbers hold that of each name that a binder bears
pub record Covers (scope : List Bound) (xs : List ℕ) : Type 0 where
  pub covered : (word : List ℕ) → bears (names scope) word ≡ true → IsOneOf xs (number_in scope word)

pub covers_none : Covers [] []
covers_none = record { covered = λ word e. absurd (false≢true e) }

covers-cases : (scope : List Bound) (xs : List ℕ) (n : ℕ) (word : List ℕ) (b : Bool) → (bears (names scope) word ≡ true → IsOneOf xs (number_in scope word)) → (b || bears (names scope) word) ≡ true → IsOneOf (n ∷ xs) (cond b n (number_in scope word))
covers-cases scope xs n word true c e = inl refl
covers-cases scope xs n word false c e = inr (c e)

pub covers_more : (scope : List Bound) (xs : List ℕ) (bytes : List ℕ) (n : ℕ) → Covers scope xs → Covers (record { bytes = bytes; number = n } ∷ scope) (n ∷ xs)
covers_more scope xs bytes n c = record { covered = λ word e. covers-cases scope xs n word (bytes_eq bytes word) (c.covered word) e }

one_left : (xs ys : List ℕ) (s : ℕ) → IsOneOf xs s → IsOneOf (xs ++ ys) s
one_left [] ys s h = absurd h
one_left (x ∷ xs) ys s h =
    elim h as (λ _. (s ≡ x) ⊎ IsOneOf (xs ++ ys) s) [
      | inl e ↦ inl e
      | inr k ↦ inr (one_left xs ys s k)
    ]

one_last : (xs : List ℕ) (n : ℕ) → IsOneOf (xs ++ n ∷ []) n
one_last [] n = inl refl
one_last (x ∷ xs) n = inr (one_last xs n)

pub covers_bound : (scope : List Bound) (xs : List ℕ) (b : Bound) (n : ℕ) → b.number ≡ n → Covers scope xs → Covers (b ∷ scope) (n ∷ xs)
covers_bound scope xs b n e c = let P : ℕ → Type 0 = λ k. Covers (b ∷ scope) (k ∷ xs) in subst P e (covers_more scope xs b.bytes b.number c)

last-cases : (scope : List Bound) (xs : List ℕ) (n k : ℕ) (word : List ℕ) (b : Bool) → k ≡ n → (bears (names scope) word ≡ true → IsOneOf xs (number_in scope word)) → (b || bears (names scope) word) ≡ true → IsOneOf (xs ++ n ∷ []) (cond b k (number_in scope word))
last-cases scope xs n k word true e c h = let P : ℕ → Type 0 = IsOneOf (xs ++ n ∷ []) in subst P (sym e) (one_last xs n)
last-cases scope xs n k word false e c h = one_left xs (n ∷ []) (number_in scope word) (c h)

pub covers_last : (scope : List Bound) (xs : List ℕ) (b : Bound) (n : ℕ) → b.number ≡ n → Covers scope xs → Covers (b ∷ scope) (xs ++ n ∷ [])
covers_last scope xs b n e c = record { covered = λ word h. last-cases scope xs n b.number word (bytes_eq b.bytes word) e (c.covered word) h }

-- ---- what is asked

-- the first of two refusals is none
pub no_name : (a b : Option Refused) → first_name a b ≡ None → (a ≡ None) × (b ≡ None)
no_name None b e = (refl, e)
no_name (Some x) b e = absurd (cc)

-- of six in a row
pub no_six : (a b c d e f : Option Refused) → first_name a (first_name b (first_name c (first_name d (first_name e f)))) ≡ None → (a ≡ None) × (b ≡ None) × (f ≡ None)
no_six None None None None None f e = (refl, refl, e)
no_six (Some x) b c d e f k = absurd (cc)
no_six None (Some x) c d e f k = absurd (cc)
no_six None None (Some x) d e f k = absurd (cc)
no_six None None None (Some x) e f k = absurd (cc)
no_six None None None None (Some x) f k = absurd (cc)

-- of three in a row
pub no_three : (a b c : Option Refused) → first_name a (first_name b c) ≡ None → (a ≡ None) × (b ≡ None) × (c ≡ None)
no_three None None c e = (refl, refl, e)
no_three (Some x) b c e = absurd (cc)
no_three None (Some x) c e = absurd (cc)

pub no_place : (a b : Option Place) → or_else a b ≡ None → (a ≡ None) × (b ≡ None)
no_place None b e = (refl, e)
no_place (Some x) b e = absurd (cc)

-- the tree is one of the part, and no number in it is out of its range
pub record Shaped (p : Part) (t : Tree Token) : Type 0 where
  pub tree_of : IsOf p (seen t)
  pub ranged : out_of_range_in false p t ≡ None

-- and no name in it is refused in the scope
pub record Sound (p : Part) (t : Tree Token) (scope : List Bound) : Type 0 where
  pub shape : Shaped p t
  pub named : misnamed none p t (names scope) ≡ None

pub s_first : {i : Item} {rest : List Item} {t u : Tree Token} → Shaped (all_of (i ∷ rest)) (pair t u) → Shaped (item i) t
s_first h = record { tree_of = h.tree_of.0; ranged = (no_place _ _ h.ranged).0 }

pub s_next : {i : Item} {rest : List Item} {t u : Tree Token} → Shaped (all_of (i ∷ rest)) (pair t u) → Shaped (all_of rest) u
s_next h = record { tree_of = h.tree_of.1; ranged = (no_place _ _ h.ranged).1 }

pub first : {i : Item} {rest : List Item} {t u : Tree Token} {scope : List Bound} → Sound (all_of (i ∷ rest)) (pair t u) scope → Sound (item i) t scope
first h = record { shape = s_first h.shape; named = (no_name _ _ h.named).0 }

pub next : {i : Item} {rest : List Item} {t u : Tree Token} {scope : List Bound} → Sound (all_of (i ∷ rest)) (pair t u) scope → Sound (all_of rest) u scope
next h = record { shape = s_next h.shape; named = (no_name _ _ h.named).1 }

pub once : {q : Rule} {t u : Tree Token} {scope : List Bound} → Sound (item (Repeated q)) (pair t u) scope → Sound (item (OfRule q)) t scope
once h = record { shape = record { tree_of = h.shape.tree_of.0; ranged = (no_place _ _ h.shape.ranged).0 }; named = (no_name _ _ h.named).0 }

pub again : {q : Rule} {t u : Tree Token} {scope : List Bound} → Sound (item (Repeated q)) (pair t u) scope → Sound (item (Repeated q)) u scope
again h = record { shape = record { tree_of = h.shape.tree_of.1; ranged = (no_place _ _ h.shape.ranged).1 }; named = (no_name _ _ h.named).1 }

pub now : {i : Item} {rest : List Item} {t : Tree Token} {scope : List Bound} → Sound (one_of (i ∷ rest)) (here t) scope → Sound (item i) t scope
now h = record { shape = record { tree_of = h.shape.tree_of; ranged = h.shape.ranged }; named = h.named }

pub later : {i : Item} {rest : List Item} {t : Tree Token} {scope : List Bound} → Sound (one_of (i ∷ rest)) (there t) scope → Sound (one_of rest) t scope
later h = record { shape = record { tree_of = h.shape.tree_of.0; ranged = h.shape.ranged }; named = h.named }

pub opened : {q : Rule} {t : Tree Token} {scope : List Bound} → Sound (item (OfRule q)) (node t) scope → binding_of q ≡ none → is_minused q ≡ false → Sound (body q) t scope
opened {q = q} {t = t} {scope = scope} h e f = record { shape = record { tree_of = h.shape.tree_of; ranged = ap (λ b. out_of_range_in b (body q) t) (sym f) ∙ h.shape.ranged }; named = ap (λ b. misnamed b (body q) t (names scope)) (sym e) ∙ h.named }

-- what a rule opens to, but for its names
pub s_opened : {q : Rule} {t : Tree Token} {scope : List Bound} → Sound (item (OfRule q)) (node t) scope → is_minused q ≡ false → Shaped (body q) t
s_opened {q = q} {t = t} h f = record { tree_of = h.shape.tree_of; ranged = ap (λ b. out_of_range_in b (body q) t) (sym f) ∙ h.shape.ranged }

pub sound_in : (p : Part) (t : Tree Token) (scope : List Bound) (zs : List (List ℕ)) → zs ≡ names scope → Shaped p t → misnamed none p t zs ≡ None → Sound p t scope
sound_in p t scope zs e s n = record { shape = s; named = ap (λ z. misnamed none p t z) (sym e) ∙ n }

-- ---- words, names and numbers

-- how many tokens a tree has
abbrev pub weight : Tree Token → ℕ
weight (leaf x) = 1
weight (node t) = weight t
weight empty = 0
weight (pair t u) = weight t + weight u
weight (here t) = weight t
weight (there t) = weight t

pub weight-yield : (t : Tree Token) → weight t ≡ length (yield t)
weight-yield (leaf x) = refl
weight-yield (node t) = weight-yield t
weight-yield empty = refl
weight-yield (pair t u) = ap (λ n. n + weight u) (weight-yield t) ∙ ap (λ n. length (yield t) + n) (weight-yield u) ∙ sym (length-append (yield t) (yield u))
weight-yield (here t) = weight-yield t
weight-yield (there t) = weight-yield t

pub word_name : (w : Tree Token) → IsOf (item (One Word)) (seen w) → name_of w ≡ word_of w
word_name (leaf x) h = refl
word_name _ h = absurd h

pub word_weight : (w : Tree Token) → IsOf (item (One Word)) (seen w) → weight w ≡ 1
word_weight (leaf x) h = refl
word_weight _ h = absurd h

none_else : (b : Bool) (x : Refused) → cond b None (Some x) ≡ None → b ≡ true
none_else true x e = refl
none_else false x e = absurd (cc)

borne : (scope : List (List ℕ)) (t : Token) → unbound scope t ≡ None → bears scope t.word ≡ true
borne scope t e = none_else (bears scope t.word) (N1, t.place) e

pub name_scoped : (t : Tree Token) (scope : List Bound) (xs : List ℕ) → Sound (item (One Name)) t scope → Covers scope xs → IsOneOf xs (number_in scope (word_of t))
name_scoped (leaf x) scope xs h c = c.covered x.word (borne (names scope) x h.named)
name_scoped (node t) scope xs h c = absurd h.shape.tree_of
name_scoped empty scope xs h c = absurd h.shape.tree_of
name_scoped (pair t u) scope xs h c = absurd h.shape.tree_of
name_scoped (here t) scope xs h c = absurd h.shape.tree_of
name_scoped (there t) scope xs h c = absurd h.shape.tree_of

small : (negative : Bool) (c : Class) (word : List ℕ) → is_in_range negative c word ≡ true → number_value word ≤ greatest_literal negative c
small negative c word e = leb-true (number_value word) (greatest_literal negative c) e

int_range : (negative : Bool) (v : ℕ) → v ≤ cond negative 2147483648 2147483647 → InRange kinds.I32 (cond negative (neg_ℤ (pos v)) (pos v))
int_range true v h = record { low = omega (arith, ints); high = omega (arith, ints) }
int_range false v h = record { low = omega (arith, ints); high = omega (arith, ints) }

long_range : (negative : Bool) (v : ℕ) → v ≤ cond negative 9223372036854775808 9223372036854775807 → InRange kinds.I64 (cond negative (neg_ℤ (pos v)) (pos v))
long_range true v h = record { low = omega (arith, ints); high = omega (arith, ints) }
long_range false v h = record { low = omega (arith, ints); high = omega (arith, ints) }

some_else : (b : Bool) (p : Place) → cond b (Some p) None ≡ None → b ≡ false
some_else true p e = absurd (cc)
some_else false p e = refl

in_range : (negative : Bool) (x : Token) → refused_number negative x ≡ None → out_of_range x.class negative x.word ≡ false
in_range negative x e = some_else (out_of_range x.class negative x.word) x.place e

number_made : (negative : Bool) (c : Class) (word : List ℕ) → is_of Number c ≡ true → out_of_range c negative word ≡ false → LeafIsWellMade (int (kind_of_class c) (literal_value negative word))
number_made negative classes.Int word h e = (tt, int_range negative (number_value word) (small negative classes.Int word (not-false _ e)))
number_made negative classes.Long word h e = (tt, long_range negative (number_value word) (small negative classes.Long word (not-false _ e)))
number_made negative _ word h e = absurd (false≢true h)

pub literal_made : (negative : Bool) (t : Tree Token) → IsOf (item (One Number)) (seen t) → out_of_range_in negative (item (One Number)) t ≡ None → LeafIsWellMade (int (kind_of_class (class_of t)) (literal_value negative (word_of t)))
literal_made negative (leaf x) h e = number_made negative x.class x.word h (in_range negative x e)
literal_made negative _ h e = absurd h

pub kind_integer : (t : Tree Token) → IsInteger (int_kind_of t)
kind_integer (node (here t)) = tt
kind_integer (node (there (here t))) = tt
kind_integer (node (there (there (here t)))) = tt
kind_integer (node (there (there (there (here t))))) = tt
kind_integer (node (there (there (there (there (here t)))))) = tt
kind_integer (node (there (there (there (there (there (here t))))))) = tt
kind_integer (node (there (there (there (there (there (there (here t)))))))) = tt
kind_integer _ = tt

pub resets : (negative : Bool) (q : Rule) (t : Tree Token) → out_of_range_in false (item (OfRule q)) t ≡ out_of_range_in negative (item (OfRule q)) t
resets negative q (node t) = refl
resets negative q _ = refl

-- ---- what is shown

-- an expression in a scope of these numbers, which binds at most so many
pub record Good (e : ExprTree) (xs : List ℕ) (size : ℕ) : Type 0 where
  pub scoped : IsScoped e xs
  pub made : IsWellMade e
  pub few : length (bound e) ≤ size

pub record GoodList (es : ExprTrees) (xs : List ℕ) (size : ℕ) : Type 0 where
  pub scoped : AreScoped es xs
  pub made : AreWellMade es
  pub few : length (bound_in es) ≤ size

pub record GoodLeg (l : LegTree) (xs : List ℕ) (size : ℕ) : Type 0 where
  pub scoped : LegIsScoped l xs
  pub made : LegIsWellMade l
  pub few : length (bound_in_leg l) ≤ size

pub record GoodLegs (ls : LegTrees) (xs : List ℕ) (size : ℕ) : Type 0 where
  pub scoped : LegsAreScoped ls xs
  pub made : LegsAreWellMade ls
  pub few : length (bound_in_legs ls) ≤ size

pub at_least : (n : ℕ) → 0 ≤ n
at_least n = omega arith

-- of parts that stand among others
pub few_one : (n a b c d : ℕ) → n ≤ c → n ≤ a + (b + (c + d))
few_one n a b c d h = omega arith

pub few_two : (xs ys : List ℕ) (a b c d e f : ℕ) → length xs ≤ c → length ys ≤ e → length (xs ++ ys) ≤ a + (b + (c + (d + (e + f))))
few_two xs ys a b c d e f h k = omega (arith, length-append xs ys)

pub few_three : (xs ys zs : List ℕ) (a b c d e f g h : ℕ) → length xs ≤ c → length ys ≤ e → length zs ≤ g → length (xs ++ (ys ++ zs)) ≤ a + (b + (c + (d + (e + (f + (g + h))))))
few_three xs ys zs a b c d e f g h i j k = omega (arith, length-append xs (ys ++ zs), length-append ys zs)

pub few_four : (xs ys zs ws : List ℕ) (a b c d e f g h i j : ℕ) → length xs ≤ c → length ys ≤ e → length zs ≤ g → length ws ≤ i → length (xs ++ (ys ++ (zs ++ ws))) ≤ a + (b + (c + (d + (e + (f + (g + (h + (i + j))))))))
few_four xs ys zs ws a b c d e f g h i j o p q r = omega (arith, length-append xs (ys ++ (zs ++ ws)), length-append ys (zs ++ ws), length-append zs ws)

pub few_list : (xs ys : List ℕ) (a b c d : ℕ) → length xs ≤ b → length ys ≤ c → length (xs ++ ys) ≤ a + (b + (c + d))
few_list xs ys a b c d h k = omega (arith, length-append xs ys)

pub few_next : (xs ys : List ℕ) (a b c d : ℕ) → length xs ≤ b → length ys ≤ d → length (xs ++ ys) ≤ a + (b + c) + d
few_next xs ys a b c d h k = omega (arith, length-append xs ys)

-- operators of one line
pub few_line : (n t more end : ℕ) → n ≤ t + more → n ≤ t + (more + end)
few_line n t more end h = omega arith

pub few_step : (n s o t end more : ℕ) → n ≤ s + t + more → n ≤ s + (o + (t + end) + more)
few_step n s o t end more h = omega arith

pub few_both : (xs ys : List ℕ) (s t : ℕ) → length xs ≤ s → length ys ≤ t → length (xs ++ ys) ≤ s + t
few_both xs ys s t h k = omega (arith, length-append xs ys)

pub few_kept : (n s k : ℕ) → n ≤ s → n ≤ s + k
few_kept n s k h = omega arith

pub few_behind : (n a t end : ℕ) → n ≤ t → n ≤ a + (t + end)
few_behind n a t end h = omega arith

pub few_front : (xs ys : List ℕ) (t more end : ℕ) → xs ≡ ys → length ys ≤ t → length xs ≤ t + (more + end)
few_front xs ys t more end e h = let k : length xs ≡ length ys = ap length e in omega arith

pub few_zip : (xs ys zs : List ℕ) (w a t c u more end : ℕ) → length xs ≤ t → length ys ≤ u → length zs ≤ more → length (xs ++ (ys ++ zs)) ≤ w + (a + (t + (c + (u + (more + end)))))
few_zip xs ys zs w a t c u more end h k l = omega (arith, length-append xs (ys ++ zs), length-append ys zs)

pub few_alone : (xs : List ℕ) (t : ℕ) → length xs ≤ t → length (xs ++ []) ≤ t
few_alone xs t h = omega (arith, length-append xs [])

-- of a program
pub few_within : (n a b : ℕ) → n ≤ a → a ≤ b → n ≤ b
few_within n a b h k = omega arith

pub few_inside : (a b c : ℕ) → b ≤ a + (b + c)
few_inside a b c = omega arith

pub few_same : (a : ℕ) → a ≤ a
few_same a = omega arith

pub at_word : (w n : ℕ) → w ≡ 1 → 1 ≤ w + n
at_word w n e = omega arith

pub few_parameter : (n o t rest more : ℕ) → 1 ≤ t → n ≤ more → suc n ≤ o + (t + rest) + more
few_parameter n o t rest more h k = omega arith

pub few_program : (n : ℕ) (xs ys : List ℕ) (a p more b e end : ℕ) → 1 ≤ p → length xs ≤ more → length ys ≤ e → length ((n ∷ xs) ++ ys) ≤ a + (p + (more + (b + (e + end))))
few_program n xs ys a p more b e end h k l = omega (arith, length-append xs ys)

pub few_limit : (n w k : ℕ) → n ≤ w → w ≡ k → k ≤ 16384 → n < 4294967295
few_limit n w k h e l = omega arith

-- a `let`, a `for`, an `iterate`
pub few_let : (xs ys : List ℕ) (x l w note q v m b end : ℕ) → w ≡ 1 → length xs ≤ v → length ys ≤ b → length (x ∷ (xs ++ ys)) ≤ l + (w + (note + (q + (v + (m + (b + end))))))
few_let xs ys x l w note q v m b end e h k = omega (arith, length-append xs ys)

pub few_for : (xs ys zs : List ℕ) (u v y w a l c t d i b1 n1 j b2 n2 k b3 n3 m b end : ℕ) → b1 ≡ 1 → b2 ≡ 1 → b3 ≡ 1 → length xs ≤ l → length ys ≤ t → length zs ≤ b
    → length (xs ++ (ys ++ (u ∷ v ∷ y ∷ zs))) ≤ w + (a + (l + (c + (t + (d + (i + (b1 + n1 + (j + (b2 + n2 + (k + (b3 + n3 + (m + (b + end)))))))))))))
few_for xs ys zs u v y w a l c t d i b1 n1 j b2 n2 k b3 n3 m b end e f g h o p =
    omega (arith, length-append xs (ys ++ (u ∷ v ∷ y ∷ zs)), length-append ys (u ∷ v ∷ y ∷ zs))

pub few_iterate : (xs ys : List ℕ) (x w a t c i b1 n1 m b end : ℕ) → b1 ≡ 1 → length xs ≤ t → length ys ≤ b
    → length (xs ++ (x ∷ ys)) ≤ w + (a + (t + (c + (i + (b1 + n1 + (m + (b + end)))))))
few_iterate xs ys x w a t c i b1 n1 m b end e h k = omega (arith, length-append xs (x ∷ ys))

-- of a starting value
pub few_total : (n w b t c o d a e z end : ℕ) → n ≤ e → n ≤ w + (b + (t + (c + (o + (d + (a + (e + z) + end))))))
few_total n w b t c o d a e z end h = omega arith
