-- Tokens have at most one tree.
use Rattle.std.proofs.Common.{Bool, true, false, not, ◌&&◌, ◌||◌, ◌≡◌, refl, List, [], ◌∷◌, ◌++◌, ap, sym, ◌∙◌, append_assoc, subst}
use Rattle.std.proofs.lemmas.Bool.{and_parts, and_from, or_left, or_right, true≢false}
use Rattle.weld_grammar.specs.declared.terminals.class.Class.{Class}
use Rattle.weld_grammar.specs.declared.rule.Rule.{Rule}
use Rattle.weld_grammar.specs.declared.item.Item.{Item}
use Rattle.weld_grammar.specs.declared.item.Item.TheVariants.{One, Part as OfRule, Optional, Repeated}
use Rattle.weld_grammar.specs.Grammar.{Part, item, all_of, one_of, body}
use Rattle.weld_grammar.specs.Begins.{begins, nullable, starts}
use Rattle.weld_grammar.specs.Derivation.{Tree, leaf, node, empty, pair, here, there, yield, IsOf, Unbegun}
use Rattle.weld_grammar.proofs.Table.{solid, implies, firsts, fits, fit, each_fits, part_fits, follow, none_empty}
use Rattle.weld_grammar.proofs.Opening.{solid_rule}
use Rattle.weld_grammar.proofs.Trees.{Begun, begun-append, nonempty, nullable-empty, begun}
use Rattle.weld_grammar.proofs.Kept.{body_fits, fit_apart}
use Rattle.weld_grammar.proofs.Reached.{cons_front, unbegun_at}

-- what comes next is among what may
abbrev pub Next : (Class → Bool) → List Class → Type 0
Next f [] = Unit {0}
Next f (x ∷ xs) = f x ≡ true

next_begun : (f : Class → Bool) (x : Class) (xs zs : List Class) → zs ≡ x ∷ xs → Next f zs → f x ≡ true
next_begun f x xs zs e h = let P : List Class → Type 0 = Next f in subst P e h

begun_next : (f : Class → Bool) (x : Class) (xs zs : List Class) → zs ≡ x ∷ xs → f x ≡ true → Next f zs
begun_next f x xs zs e h = let P : List Class → Type 0 = Next f in subst P (sym e) h

-- behind the first of some items come those that the others may begin with
next_rest : (s : List Item) (t : Tree Class) (f : Class → Bool) (k : List Class) → IsOf (all_of s) t → Next f k → Next (λ x. firsts x s (f x)) (yield t ++ k)
next_rest [] empty f k h n = n
next_rest (i ∷ s) (pair t u) f k h n = cases (yield t) refl (next_rest s u f k h.1 n)
  where
    on : (zs : List Class) → nullable i ≡ true → Next (λ x. firsts x s (f x)) zs → Next (λ x. firsts x (i ∷ s) (f x)) zs
    on [] e m = tt
    on (z ∷ zs) e m = or_right (begins i z) (nullable i && firsts z s (f z)) (and_from (nullable i) (firsts z s (f z)) e m)

    cases : (ys : List Class) → yield t ≡ ys → Next (λ x. firsts x s (f x)) (yield u ++ k) → Next (λ x. firsts x (i ∷ s) (f x)) ((yield t ++ yield u) ++ k)
    cases [] e m =
        let P : List Class → Type 0 = λ zs. Next (λ x. firsts x (i ∷ s) (f x)) ((zs ++ yield u) ++ k) in
        subst P (sym e) (on (yield u ++ k) (nullable-empty i t h.0 e) m)
    cases (y ∷ ys) e m =
        begun_next (λ x. firsts x (i ∷ s) (f x)) y ((ys ++ yield u) ++ k) ((yield t ++ yield u) ++ k) (ap (λ zs. (zs ++ yield u) ++ k) e) (or_left (begins i y) (nullable i && firsts y s (f y)) (begun (item i) t y ys h.0 tt e))
next_rest _ _ f k h n = absurd h

-- two trees are one, and so are the tokens behind them
pub record Same (t u : Tree Class) (k l : List Class) : Type 0 where
  pub trees : t ≡ u
  pub rests : k ≡ l

same_node : (t u : Tree Class) (k l : List Class) → Same t u k l → Same (node t) (node u) k l
same_node t u k l h = record { trees = ap node h.trees; rests = h.rests }

same_here : (t u : Tree Class) (k l : List Class) → Same t u k l → Same (here t) (here u) k l
same_here t u k l h = record { trees = ap here h.trees; rests = h.rests }

same_there : (t u : Tree Class) (k l : List Class) → Same t u k l → Same (there t) (there u) k l
same_there t u k l h = record { trees = ap there h.trees; rests = h.rests }

same_leaf : (x y : Class) (k l : List Class) → x ∷ k ≡ y ∷ l → Same (leaf x) (leaf y) k l
same_leaf x y k l e = record { trees = ap leaf (front x y k l e); rests = rest x y k l e }
  where
    front : (x y : Class) (k l : List Class) → x ∷ k ≡ y ∷ l → x ≡ y
    front x y k l e = cc

    rest : (x y : Class) (k l : List Class) → x ∷ k ≡ y ∷ l → k ≡ l
    rest x y k l e = cc

same_pair : (a b t u : Tree Class) (k l : List Class) → Same a b (yield t ++ k) (yield u ++ l) → (yield t ++ k ≡ yield u ++ l → Same t u k l) → Same (pair a t) (pair b u) k l
same_pair a b t u k l h g = let rest = g h.rests in record { trees = ap (λ z. pair z t) h.trees ∙ ap (pair b) rest.trees; rests = rest.rests }

-- a tree that yields something isn't followed by the same tokens as one that yields nothing, where what comes next can't begin it
next_apart : (f : Class → Bool) (x : Class) (xs zs : List Class) → zs ≡ x ∷ xs → Next f zs → f x ≡ false → ⊥
next_apart f x xs zs e n h = true≢false (sym (next_begun f x xs zs e n) ∙ h)

-- each alternative yields something
abbrev pub Solid : Part → Type 0
Solid (item i) = Unit {0}
Solid (all_of s) = Unit {0}
Solid (one_of s) = none_empty s ≡ true

solid_choices : (p : Part) → solid p ≡ true → Solid p
solid_choices (item i) e = tt
solid_choices (all_of s) e = tt
solid_choices (one_of s) e = e

-- what comes behind the front of a repeated rule
next_repeated : (r : Rule) (t : Tree Class) (f : Class → Bool) (k : List Class) → IsOf (item (Repeated r)) t → Next f k → Next (λ x. starts r x || f x) (yield t ++ k)
next_repeated r empty f [] h n = tt
next_repeated r empty f (x ∷ k) h n = or_right (starts r x) (f x) n
next_repeated r (pair t u) f k h n =
    let b = nonempty (item (OfRule r)) t h.0 refl in
    begun_next (λ x. starts r x || f x) b.first ((b.rest ++ yield u) ++ k) ((yield t ++ yield u) ++ k) (ap (λ zs. (zs ++ yield u) ++ k) b.is) (or_left (starts r b.first) (f b.first) (begun (item (OfRule r)) t b.first b.rest h.0 tt b.is))
next_repeated r _ f k h n = absurd h

-- nothing there, but something here: then what comes next begins the item
nothing_there : (i : Item) (f : Class → Bool) (u : Tree Class) (k l : List Class) → nullable i ≡ true → ((x : Class) → fits x i (f x) ≡ true) → Next f k → IsOf (item i) u → Begun (yield u) → k ≡ yield u ++ l → ⊥
nothing_there i f u k l n g m h b e =
    let next : f b.first ≡ true = next_begun f b.first (b.rest ++ l) k (e ∙ ap (λ z. z ++ l) b.is) m in
    true≢false (sym (begun (item i) u b.first b.rest h tt b.is) ∙ fit_apart b.first i n (ap (fits b.first i) (sym next) ∙ g b.first))

-- the first alternative here, a later one there: then the first begins so, and doesn't
other_choice : (i : Item) (t u : Tree Class) (k l : List Class) → IsOf (item i) t → Begun (yield t) → Begun (yield u) → Unbegun i (yield u) → yield t ++ k ≡ yield u ++ l → ⊥
other_choice i t u k l h b c n e =
    let front : b.first ≡ c.first = cons_front b.first c.first (b.rest ++ k) (c.rest ++ l) (sym (ap (λ z. z ++ k) b.is) ∙ e ∙ ap (λ z. z ++ l) c.is) in
    true≢false (sym (begun (item i) t b.first b.rest h tt b.is) ∙ ap (begins i) front ∙ unbegun_at i c.first c.rest (yield u) c.is n)

unique : (p : Part) (f : Class → Bool) (t u : Tree Class) (k l : List Class) → Solid p → ((x : Class) → part_fits x p (f x) ≡ true) → Next f k → Next f l → IsOf p t → IsOf p u → yield t ++ k ≡ yield u ++ l → Same t u k l
unique (item (One a)) f (leaf x) (leaf y) k l s g m n h j e = same_leaf x y k l e
unique (item (One a)) f (leaf x) _ k l s g m n h j e = absurd j
unique (item (OfRule r)) f (node t) (node u) k l s g m n h j e = same_node t u k l (unique (body r) f t u k l (solid_choices (body r) (solid_rule r)) (λ x. body_fits x r (f x) (g x)) m n h j e)
unique (item (OfRule r)) f (node t) _ k l s g m n h j e = absurd j
unique (item (Optional r)) f empty empty k l s g m n h j e = record { trees = refl; rests = e }
unique (item (Optional r)) f empty (here u) k l s g m n h j e = absurd (nothing_there (Optional r) f (here u) k l refl g m j (nonempty (item (OfRule r)) u j refl) e)
unique (item (Optional r)) f empty _ k l s g m n h j e = absurd j
unique (item (Optional r)) f (here t) empty k l s g m n h j e = absurd (nothing_there (Optional r) f (here t) l k refl g n h (nonempty (item (OfRule r)) t h refl) (sym e))
unique (item (Optional r)) f (here t) (here u) k l s g m n h j e = same_here t u k l (unique (item (OfRule r)) f t u k l tt (λ x. (and_parts (implies (f x) (not (starts r x))) (implies (f x) (follow r x)) (g x)).1) m n h j e)
unique (item (Optional r)) f (here t) _ k l s g m n h j e = absurd j
unique (item (Repeated r)) f empty empty k l s g m n h j e = record { trees = refl; rests = e }
unique (item (Repeated r)) f empty (pair c d) k l s g m n h j e = absurd (nothing_there (Repeated r) f (pair c d) k l refl g m j (begun-append (yield c) (yield d) (nonempty (item (OfRule r)) c j.0 refl)) e)
unique (item (Repeated r)) f empty _ k l s g m n h j e = absurd j
unique (item (Repeated r)) f (pair a b) empty k l s g m n h j e = absurd (nothing_there (Repeated r) f (pair a b) l k refl g n h (begun-append (yield a) (yield b) (nonempty (item (OfRule r)) a h.0 refl)) (sym e))
unique (item (Repeated r)) f (pair a b) (pair c d) k l s g m n h j e =
    let e' : yield a ++ (yield b ++ k) ≡ yield c ++ (yield d ++ l) = sym (append_assoc (yield a) (yield b) k) ∙ e ∙ append_assoc (yield c) (yield d) l in
    same_pair a c b d k l
    (unique (item (OfRule r)) (λ x. starts r x || f x) a c (yield b ++ k) (yield d ++ l) tt (λ x. (and_parts (implies (f x) (not (starts r x))) (implies (starts r x || f x) (follow r x)) (g x)).1) (next_repeated r b f k h.1 m) (next_repeated r d f l j.1 n) h.0 j.0 e')
    (λ q. unique (item (Repeated r)) f b d k l tt g m n h.1 j.1 q)
unique (item (Repeated r)) f (pair a b) _ k l s g m n h j e = absurd j
unique (all_of []) f empty empty k l s g m n h j e = record { trees = refl; rests = e }
unique (all_of []) f empty _ k l s g m n h j e = absurd j
unique (all_of (i ∷ r)) f (pair a b) (pair c d) k l s g m n h j e =
    let e' : yield a ++ (yield b ++ k) ≡ yield c ++ (yield d ++ l) = sym (append_assoc (yield a) (yield b) k) ∙ e ∙ append_assoc (yield c) (yield d) l in
    same_pair a c b d k l
    (unique (item i) (λ x. firsts x r (f x)) a c (yield b ++ k) (yield d ++ l) tt (λ x. (and_parts (fits x i (firsts x r (f x))) (fit x r (f x)) (g x)).0) (next_rest r b f k h.1 m) (next_rest r d f l j.1 n) h.0 j.0 e')
    (λ q. unique (all_of r) f b d k l tt (λ x. (and_parts (fits x i (firsts x r (f x))) (fit x r (f x)) (g x)).1) m n h.1 j.1 q)
unique (all_of (i ∷ r)) f (pair a b) _ k l s g m n h j e = absurd j
unique (one_of (i ∷ r)) f (here t) (here u) k l s g m n h j e = same_here t u k l (unique (item i) f t u k l tt (λ x. (and_parts (fits x i (f x)) (each_fits x r (f x)) (g x)).0) m n h j e)
unique (one_of (i ∷ r)) f (here t) (there u) k l s g m n h j e =
    let both = and_parts (not (nullable i)) (none_empty r) s in
    absurd (other_choice i t u k l h (nonempty (item i) t h both.0) (nonempty (one_of r) u j.0 both.1) j.1 e)
unique (one_of (i ∷ r)) f (here t) _ k l s g m n h j e = absurd j
unique (one_of (i ∷ r)) f (there t) (here u) k l s g m n h j e =
    let both = and_parts (not (nullable i)) (none_empty r) s in
    absurd (other_choice i u t l k j (nonempty (item i) u j both.0) (nonempty (one_of r) t h.0 both.1) h.1 (sym e))
unique (one_of (i ∷ r)) f (there t) (there u) k l s g m n h j e = same_there t u k l (unique (one_of r) f t u k l (and_parts (not (nullable i)) (none_empty r) s).1 (λ x. (and_parts (fits x i (f x)) (each_fits x r (f x)) (g x)).1) m n h.0 j.0 e)
unique (one_of (i ∷ r)) f (there t) _ k l s g m n h j e = absurd j
unique _ f _ _ k l s g m n h j e = absurd h

-- two trees of a rule with one yield are one
pub one_tree : (r : Rule) (t u : Tree Class) → IsOf (item (OfRule r)) t → IsOf (item (OfRule r)) u → yield t ≡ yield u → t ≡ u
one_tree r t u h j e = (unique (item (OfRule r)) (λ x. false) t u [] [] tt (λ x. refl) tt tt h j (ap (λ z. z ++ []) e)).trees
