-- From what is pending to trees: where all that is pending can be empty, there is a tree.
use Rattle.std.proofs.Common.{ℕ, zero, suc, Bool, true, false, cond, ◌||◌, ◌≡◌, refl, Option, Some, None, option_and_then, List, [], ◌∷◌, ◌++◌, ap, sym, ◌∙◌, append_assoc, subst}
use Rattle.std.proofs.lemmas.Bool.{and_parts, cond-true, cond-false, false≢true}
use Rattle.weld_grammar.specs.declared.terminals.class.Class.{Class}
use Rattle.weld_grammar.specs.declared.rule.Rule.{Rule}
use Rattle.weld_grammar.specs.declared.item.Item.{Item}
use Rattle.weld_grammar.specs.declared.item.Item.TheVariants.{One, Part as OfRule, Optional, Repeated}
use Rattle.weld_grammar.specs.Grammar.{Part, item, all_of, one_of, body}
use Rattle.weld_grammar.specs.Begins.{begins, nullable}
use Rattle.weld_grammar.specs.Derivation.{Tree, leaf, node, empty, pair, here, there, yield, IsOf, Unbegun}
use Rattle.weld_grammar.specs.Pending.{first_begun, behind, depth, step, pending_from, can_end}
use Rattle.weld_grammar.proofs.Table.{part_begins, enough}
use Rattle.weld_grammar.specs.Apart.{any_begins}
use Rattle.weld_grammar.proofs.Opening.{begins_rule, enough_depth}

-- two trees that stand in a row, of these parts, with these tokens
pub record InRow (p : Part) (s : List Item) (xs : List Class) : Type 0 where
  pub left : Tree Class
  pub right : Tree Class
  pub left_of : IsOf p left
  pub right_of : IsOf (all_of s) right
  pub tokens : xs ≡ yield left ++ yield right

-- a tree of items in a row is the tree of the first and that of the others
pub split_first : (i : Item) (s : List Item) (t : Tree Class) → IsOf (all_of (i ∷ s)) t → InRow (item i) s (yield t)
split_first i s (pair t u) h = record { left = t; right = u; left_of = h.0; right_of = h.1; tokens = refl }
split_first i s _ h = absurd h

pub split_append : (r s : List Item) (t : Tree Class) → IsOf (all_of (r ++ s)) t → InRow (all_of r) s (yield t)
split_append [] s t h = record { left = empty; right = t; left_of = tt; right_of = h; tokens = refl }
split_append (i ∷ r) s (pair t u) h =
    let rest = split_append r s u h.1 in
    record {
      left = pair t rest.left;
      right = rest.right;
      left_of = (h.0, rest.left_of);
      right_of = rest.right_of;
      tokens = ap (λ z. yield t ++ z) rest.tokens ∙ sym (append_assoc (yield t) (yield rest.left) (yield rest.right));
    }
split_append (i ∷ r) s _ h = absurd h

-- a tree of the part that begins with the token, and a tree of these items, whose tokens but the first are those
pub record Made (p : Part) (x : Class) (s : List Item) (xs : List Class) : Type 0 where
  pub left : Tree Class
  pub right : Tree Class
  pub ys : List Class
  pub left_of : IsOf p left
  pub left_is : yield left ≡ x ∷ ys
  pub right_of : IsOf (all_of s) right
  pub tokens : xs ≡ ys ++ yield right

made_rule : (r : Rule) (x : Class) (s : List Item) (xs : List Class) → Made (body r) x s xs → Made (item (OfRule r)) x s xs
made_rule r x s xs m = record { left = node m.left; right = m.right; ys = m.ys; left_of = m.left_of; left_is = m.left_is; right_of = m.right_of; tokens = m.tokens }

made_optional : (r : Rule) (x : Class) (s : List Item) (xs : List Class) → Made (item (OfRule r)) x s xs → Made (item (Optional r)) x s xs
made_optional r x s xs m = record { left = here m.left; right = m.right; ys = m.ys; left_of = m.left_of; left_is = m.left_is; right_of = m.right_of; tokens = m.tokens }

made_repeated : (r : Rule) (x : Class) (s : List Item) (xs : List Class) → Made (item (OfRule r)) x (Repeated r ∷ s) xs → Made (item (Repeated r)) x s xs
made_repeated r x s xs m =
    let rest = split_first (Repeated r) s m.right m.right_of in
    record {
      left = pair m.left rest.left;
      right = rest.right;
      ys = m.ys ++ yield rest.left;
      left_of = (m.left_of, rest.left_of);
      left_is = ap (λ z. z ++ yield rest.left) m.left_is;
      right_of = rest.right_of;
      tokens = m.tokens ∙ ap (λ z. m.ys ++ z) rest.tokens ∙ sym (append_assoc m.ys (yield rest.left) (yield rest.right));
    }

made_all : (i : Item) (r : List Item) (x : Class) (s : List Item) (xs : List Class) → Made (item i) x (r ++ s) xs → Made (all_of (i ∷ r)) x s xs
made_all i r x s xs m =
    let rest = split_append r s m.right m.right_of in
    record {
      left = pair m.left rest.left;
      right = rest.right;
      ys = m.ys ++ yield rest.left;
      left_of = (m.left_of, rest.left_of);
      left_is = ap (λ z. z ++ yield rest.left) m.left_is;
      right_of = rest.right_of;
      tokens = m.tokens ∙ ap (λ z. m.ys ++ z) rest.tokens ∙ sym (append_assoc m.ys (yield rest.left) (yield rest.right));
    }

made_here : (i : Item) (r : List Item) (x : Class) (s : List Item) (xs : List Class) → Made (item i) x s xs → Made (one_of (i ∷ r)) x s xs
made_here i r x s xs m = record { left = here m.left; right = m.right; ys = m.ys; left_of = m.left_of; left_is = m.left_is; right_of = m.right_of; tokens = m.tokens }

unbegun_front : (i : Item) (x : Class) (ys zs : List Class) → zs ≡ x ∷ ys → begins i x ≡ false → Unbegun i zs
unbegun_front i x ys zs e h = let P : List Class → Type 0 = Unbegun i in subst P (sym e) h

made_there : (i : Item) (r : List Item) (x : Class) (s : List Item) (xs : List Class) → begins i x ≡ false → Made (one_of r) x s xs → Made (one_of (i ∷ r)) x s xs
made_there i r x s xs h m = record { left = there m.left; right = m.right; ys = m.ys; left_of = (m.left_of, unbegun_front i x m.ys (yield m.left) m.left_is h); left_is = m.left_is; right_of = m.right_of; tokens = m.tokens }

-- which alternative is taken
pub chosen_begins : (choices : List Item) (x : Class) → any_begins choices x ≡ true → begins (first_begun choices x) x ≡ true
chosen_begins [] x h = absurd (false≢true h)
chosen_begins (i ∷ r) x h = cases (begins i x) refl (chosen_begins r x)
  where
    cases : (b : Bool) → begins i x ≡ b → (any_begins r x ≡ true → begins (first_begun r x) x ≡ true) → begins (first_begun (i ∷ r) x) x ≡ true
    cases true e ih = ap (λ j. begins j x) (cond-true (begins i x) i (first_begun r x) e) ∙ e
    cases false e ih = ap (λ j. begins j x) (cond-false (begins i x) i (first_begun r x) e) ∙ ih (sym (ap (λ b. b || any_begins r x) e) ∙ h)

made_one_of : (choices : List Item) (x : Class) (s : List Item) (xs : List Class) → any_begins choices x ≡ true → Made (item (first_begun choices x)) x s xs → Made (one_of choices) x s xs
made_one_of [] x s xs h m = absurd (false≢true h)
made_one_of (i ∷ r) x s xs h m = cases (begins i x) refl (made_one_of r x s xs)
  where
    cases : (b : Bool) → begins i x ≡ b → (any_begins r x ≡ true → Made (item (first_begun r x)) x s xs → Made (one_of r) x s xs) → Made (one_of (i ∷ r)) x s xs
    cases true e ih = let P : Item → Type 0 = λ j. Made (item j) x s xs in made_here i r x s xs (subst P (cond-true (begins i x) i (first_begun r x) e) m)
    cases false e ih = let P : Item → Type 0 = λ j. Made (item j) x s xs in made_there i r x s xs e (ih (sym (ap (λ b. b || any_begins r x) e) ∙ h) (subst P (cond-false (begins i x) i (first_begun r x) e) m))

made : (n : ℕ) (p : Part) (x : Class) (s : List Item) (u : Tree Class) → enough n p x ≡ true → part_begins p x ≡ true → IsOf (all_of (behind n p x s)) u → Made p x s (yield u)
made zero p x s u e b h = absurd (false≢true e)
made (suc n) (item (One a)) x s u e b h = record { left = leaf x; right = u; ys = []; left_of = b; left_is = refl; right_of = h; tokens = refl }
made (suc n) (item (OfRule r)) x s u e b h = made_rule r x s (yield u) (made n (body r) x s u e (sym (begins_rule r x) ∙ b) h)
made (suc n) (item (Optional r)) x s u e b h = made_optional r x s (yield u) (made n (item (OfRule r)) x s u e b h)
made (suc n) (item (Repeated r)) x s u e b h = made_repeated r x s (yield u) (made n (item (OfRule r)) x (Repeated r ∷ s) u e b h)
made (suc n) (all_of []) x s u e b h = absurd (false≢true b)
made (suc n) (all_of (i ∷ r)) x s u e b h = made_all i r x s (yield u) (made n (item i) x (r ++ s) u e b h)
made (suc n) (one_of choices) x s u e b h = made_one_of choices x s (yield u) b (made n (item (first_begun choices x)) x s u e (chosen_begins choices x b) h)

-- a tree of these items with these tokens
pub record HasTree (s : List Item) (xs : List Class) : Type 0 where
  pub tree : Tree Class
  pub tree_of : IsOf (all_of s) tree
  pub tokens : yield tree ≡ xs

nothing : (i : Item) → nullable i ≡ true → (t : Tree Class) × IsOf (item i) t × (yield t ≡ [])
nothing (One a) h = absurd (false≢true h)
nothing (OfRule r) h = absurd (false≢true h)
nothing (Optional r) h = (empty, tt, refl)
nothing (Repeated r) h = (empty, tt, refl)

with_nothing : (i : Item) (s : List Item) (xs : List Class) → nullable i ≡ true → HasTree s xs → HasTree (i ∷ s) xs
with_nothing i s xs e h =
    let none = nothing i e in
    record { tree = pair none.0 h.tree; tree_of = (none.1, h.tree_of); tokens = ap (λ z. z ++ yield h.tree) none.2 ∙ h.tokens }

pub ended : (s : List Item) → can_end s ≡ true → HasTree s []
ended [] h = record { tree = empty; tree_of = tt; tokens = refl }
ended (i ∷ s) h = let both = and_parts (nullable i) (can_end s) h in with_nothing i s [] both.0 (ended s both.1)

opened_tree : (i : Item) (s : List Item) (x : Class) (xs : List Class) → begins i x ≡ true → HasTree (behind depth (item i) x s) xs → HasTree (i ∷ s) (x ∷ xs)
opened_tree i s x xs b h =
    let m = made depth (item i) x s h.tree (enough_depth (item i) x) b h.tree_of in
    record { tree = pair m.left m.right; tree_of = (m.left_of, m.right_of); tokens = ap (λ z. z ++ yield m.right) m.left_is ∙ ap (λ z. x ∷ z) (sym m.tokens ∙ h.tokens) }

pub some_same : (a b : List Item) → Some a ≡ Some b → a ≡ b
some_same a b e = cc

-- what one step is, by cases
pub step_begun : (i : Item) (s : List Item) (x : Class) → begins i x ≡ true → step (i ∷ s) x ≡ Some (behind depth (item i) x s)
step_begun i s x b = cond-true (begins i x) (Some (behind depth (item i) x s)) (cond (nullable i) (step s x) None) b

pub step_skip : (i : Item) (s : List Item) (x : Class) → begins i x ≡ false → nullable i ≡ true → step (i ∷ s) x ≡ step s x
step_skip i s x b k = cond-false (begins i x) (Some (behind depth (item i) x s)) (cond (nullable i) (step s x) None) b ∙ cond-true (nullable i) (step s x) None k

pub step_stuck : (i : Item) (s : List Item) (x : Class) → begins i x ≡ false → nullable i ≡ false → step (i ∷ s) x ≡ None
step_stuck i s x b k = cond-false (begins i x) (Some (behind depth (item i) x s)) (cond (nullable i) (step s x) None) b ∙ cond-false (nullable i) (step s x) None k

pub none_some : (t : List Item) → None ≡ Some t → ⊥
none_some t e = cc

-- one token back: a tree of what is pending behind it gives one of what was before
pub stepped_back : (s t : List Item) (x : Class) (xs : List Class) → step s x ≡ Some t → HasTree t xs → HasTree s (x ∷ xs)
stepped_back [] t x xs e h = absurd (none_some t e)
stepped_back (i ∷ s) t x xs e h = cases (begins i x) refl (λ k. stepped_back s t x xs k h)
  where
    empties : (b : Bool) → begins i x ≡ false → nullable i ≡ b → (step s x ≡ Some t → HasTree s (x ∷ xs)) → HasTree (i ∷ s) (x ∷ xs)
    empties true b k ih = with_nothing i s (x ∷ xs) k (ih (sym (step_skip i s x b k) ∙ e))
    empties false b k ih = absurd (none_some t (sym (step_stuck i s x b k) ∙ e))

    cases : (b : Bool) → begins i x ≡ b → (step s x ≡ Some t → HasTree s (x ∷ xs)) → HasTree (i ∷ s) (x ∷ xs)
    cases true b ih =
        let same : behind depth (item i) x s ≡ t = some_same (behind depth (item i) x s) t (sym (step_begun i s x b) ∙ e) in
        let P : List Item → Type 0 = λ z. HasTree z xs in
        opened_tree i s x xs b (subst P (sym same) h)
    cases false b ih = empties (nullable i) b refl ih

-- all tokens back
pub derived_from : (s t : List Item) (xs : List Class) → pending_from s xs ≡ Some t → can_end t ≡ true → HasTree s xs
derived_from s t [] e h = let same : s ≡ t = some_same s t e in let P : List Item → Type 0 = λ z. HasTree z [] in subst P (sym same) (ended t h)
derived_from s t (x ∷ xs) e h = cases (step s x) refl (λ z k. derived_from z t xs k h)
  where
    cases : (o : Option (List Item)) → step s x ≡ o → ((z : List Item) → pending_from z xs ≡ Some t → HasTree z xs) → HasTree s (x ∷ xs)
    cases None k ih = absurd (none_some t (sym (ap (option_and_then (λ z. pending_from z xs)) k) ∙ e))
    cases (Some z) k ih = stepped_back s z x xs k (ih z (sym (ap (option_and_then (λ y. pending_from y xs)) k) ∙ e))
