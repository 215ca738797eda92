-- Facts on trees: which yield nothing, and what begins those that yield something.
use Rattle.std.proofs.Common.{true, false, not, ◌≡◌, refl, List, [], ◌∷◌, ◌++◌, ap, sym, ◌∙◌}
use Rattle.std.proofs.lemmas.Bool.{and_parts, or_left, or_right, not-true, false≢true}
use Rattle.weld_grammar.specs.declared.terminals.class.Class.{Class}
use Rattle.weld_grammar.specs.declared.item.Item.{Item}
use Rattle.weld_grammar.specs.declared.item.Item.TheVariants.{One, Part as OfRule, Optional, Repeated}
use Rattle.weld_grammar.specs.Grammar.{Part, item, all_of, one_of, body, is_of}
use Rattle.weld_grammar.specs.Begins.{begins, nullable}
use Rattle.weld_grammar.specs.Derivation.{Tree, leaf, node, empty, pair, here, there, yield, IsOf}
use Rattle.weld_grammar.proofs.Table.{solid, none_empty, part_begins}
use Rattle.weld_grammar.specs.Apart.{any_begins}
use Rattle.weld_grammar.proofs.Opening.{solid_rule, begins_rule}

-- these tokens begin so and go on so
pub record Begun (xs : List Class) : Type 0 where
  pub first : Class
  pub rest : List Class
  pub is : xs ≡ first ∷ rest

pub begun-append : (xs ys : List Class) → Begun xs → Begun (xs ++ ys)
begun-append xs ys b = record { first = b.first; rest = b.rest ++ ys; is = ap (λ z. z ++ ys) b.is }

pub nonempty : (p : Part) (t : Tree Class) → IsOf p t → solid p ≡ true → Begun (yield t)
nonempty (item (One a)) (leaf x) h e = record { first = x; rest = []; is = refl }
nonempty (item (OfRule r)) (node t) h e = nonempty (body r) t h (solid_rule r)
nonempty (item (Optional r)) t h e = absurd (false≢true e)
nonempty (item (Repeated r)) t h e = absurd (false≢true e)
nonempty (all_of []) t h e = absurd (false≢true e)
nonempty (all_of (i ∷ rest)) (pair t u) h e = begun-append (yield t) (yield u) (nonempty (item i) t h.0 e)
nonempty (one_of (i ∷ rest)) (here t) h e = nonempty (item i) t h (and_parts (not (nullable i)) (none_empty rest) e).0
nonempty (one_of (i ∷ rest)) (there t) h e = nonempty (one_of rest) t h.0 (and_parts (not (nullable i)) (none_empty rest) e).1
nonempty _ _ h e = absurd h

-- what yields nothing can be empty
pub nullable-empty : (i : Item) (t : Tree Class) → IsOf (item i) t → yield t ≡ [] → nullable i ≡ true
nullable-empty (One a) (leaf x) h e = absurd (cc)
nullable-empty (OfRule r) t h e = let b = nonempty (item (OfRule r)) t h refl in absurd (let k : yield t ≡ b.first ∷ b.rest = b.is in cc)
nullable-empty (Optional r) t h e = refl
nullable-empty (Repeated r) t h e = refl
nullable-empty (One a) _ h e = absurd h

-- the first item of the part can't be empty
abbrev pub FrontSolid : Part → Type 0
FrontSolid (item i) = Unit {0}
FrontSolid (all_of []) = Unit {0}
FrontSolid (all_of (i ∷ rest)) = nullable i ≡ false
FrontSolid (one_of choices) = Unit {0}

pub front_solid : (p : Part) → solid p ≡ true → FrontSolid p
front_solid (item i) e = tt
front_solid (all_of []) e = tt
front_solid (all_of (i ∷ rest)) e = not-true (nullable i) e
front_solid (one_of choices) e = tt

pub solid_item : (i : Item) → nullable i ≡ false → solid (item i) ≡ true
solid_item i e = ap not e

-- what yields something begins with what may begin it
pub begun : (p : Part) (t : Tree Class) (x : Class) (xs : List Class) → IsOf p t → FrontSolid p → yield t ≡ x ∷ xs → part_begins p x ≡ true
begun (item (One a)) (leaf y) x xs h k e = let same : y ≡ x = cc in ap (is_of a) (sym same) ∙ h
begun (item (OfRule r)) (node t) x xs h k e = begins_rule r x ∙ begun (body r) t x xs h (front_solid (body r) (solid_rule r)) e
begun (item (Optional r)) empty x xs h k e = absurd (cc)
begun (item (Optional r)) (here t) x xs h k e = begun (item (OfRule r)) t x xs h tt e
begun (item (Repeated r)) empty x xs h k e = absurd (cc)
begun (item (Repeated r)) (pair t u) x xs h k e =
    let b = nonempty (item (OfRule r)) t h.0 refl in
    let front : b.first ≡ x = head_of b.first x (b.rest ++ yield u) xs (sym (ap (λ z. z ++ yield u) b.is) ∙ e) in
    begun (item (OfRule r)) t x b.rest h.0 tt (b.is ∙ ap (λ z. z ∷ b.rest) front)
  where
    head_of : (a b : Class) (xs ys : List Class) → a ∷ xs ≡ b ∷ ys → a ≡ b
    head_of a b xs ys e = cc
begun (all_of []) empty x xs h k e = absurd (cc)
begun (all_of (i ∷ rest)) (pair t u) x xs h k e =
    let b = nonempty (item i) t h.0 (solid_item i k) in
    let front : b.first ≡ x = head_of b.first x (b.rest ++ yield u) xs (sym (ap (λ z. z ++ yield u) b.is) ∙ e) in
    begun (item i) t x b.rest h.0 tt (b.is ∙ ap (λ z. z ∷ b.rest) front)
  where
    head_of : (a b : Class) (xs ys : List Class) → a ∷ xs ≡ b ∷ ys → a ≡ b
    head_of a b xs ys e = cc
begun (one_of (i ∷ rest)) (here t) x xs h k e = or_left (begins i x) (any_begins rest x) (begun (item i) t x xs h tt e)
begun (one_of (i ∷ rest)) (there t) x xs h k e = or_right (begins i x) (any_begins rest x) (begun (one_of rest) t x xs h.0 tt e)
begun _ _ x xs h k e = absurd h
