-- From trees to what is pending: where these tokens begin what some tree yields, something is pending behind them,
-- and a tree of it yields the rest.
use Rattle.std.proofs.Common.{ℕ, zero, suc, true, false, ◌&&◌, ◌≡◌, refl, Some, option_and_then, List, [], ◌∷◌, ◌++◌, ap, sym, ◌∙◌, append_assoc, subst}
use Rattle.std.proofs.lemmas.Bool.{and_parts, and_from, or_left, or_right, cond-true, cond-false, false≢true}
use Rattle.weld_grammar.specs.declared.terminals.class.Class.{Class}
use Rattle.weld_grammar.specs.declared.rule.Rule.{Rule}
use Rattle.weld_grammar.specs.declared.item.Item.{Item}
use Rattle.weld_grammar.specs.declared.item.Item.TheVariants.{One, Part as OfRule, Optional, Repeated}
use Rattle.weld_grammar.specs.Grammar.{Part, item, all_of, one_of, body}
use Rattle.weld_grammar.specs.Begins.{begins, nullable}
use Rattle.weld_grammar.specs.Derivation.{Tree, leaf, node, empty, pair, here, there, yield, IsOf, Unbegun}
use Rattle.weld_grammar.specs.Pending.{first_begun, behind, depth, step, pending_from, can_end}
use Rattle.weld_grammar.proofs.Table.{enough, firsts, fits, fit}
use Rattle.weld_grammar.proofs.Opening.{enough_depth, solid_rule}
use Rattle.weld_grammar.proofs.Trees.{Begun, nonempty, nullable-empty, FrontSolid, front_solid, solid_item, begun}
use Rattle.weld_grammar.proofs.Made.{HasTree, step_begun, step_skip}
use Rattle.weld_grammar.proofs.Kept.{kept, fit_apart}

record Chosen (i : Item) (xs : List Class) : Type 0 where
  pub tree : Tree Class
  pub tree_of : IsOf (item i) tree
  pub tokens : yield tree ≡ xs

pub unbegun_at : (i : Item) (x : Class) (xs zs : List Class) → zs ≡ x ∷ xs → Unbegun i zs → begins i x ≡ false
unbegun_at i x xs zs e h = let P : List Class → Type 0 = Unbegun i in subst P e h

chosen : (choices : List Item) (t : Tree Class) (x : Class) (xs : List Class) → IsOf (one_of choices) t → yield t ≡ x ∷ xs → Chosen (first_begun choices x) (x ∷ xs)
chosen (i ∷ r) (here t) x xs h e =
    let P : Item → Type 0 = λ j. Chosen j (x ∷ xs) in
    subst P (sym (cond-true (begins i x) i (first_begun r x) (begun (item i) t x xs h tt e))) (record { tree = t; tree_of = h; tokens = e })
chosen (i ∷ r) (there t) x xs h e =
    let P : Item → Type 0 = λ j. Chosen j (x ∷ xs) in
    subst P (sym (cond-false (begins i x) i (first_begun r x) (unbegun_at i x xs (yield t) e h.1))) (chosen r t x xs h.0 e)
chosen _ _ x xs h e = absurd h

pub cons_front : (a b : Class) (xs ys : List Class) → a ∷ xs ≡ b ∷ ys → a ≡ b
cons_front a b xs ys e = cc

cons_rest : (a b : Class) (xs ys : List Class) → a ∷ xs ≡ b ∷ ys → xs ≡ ys
cons_rest a b xs ys e = cc

no_tokens : (x : Class) (xs : List Class) → [] ≡ x ∷ xs → ⊥
no_tokens x xs e = cc

-- a tree of the items, with other tokens that are the same
pub with_tokens : (s : List Item) (xs ys : List Class) → xs ≡ ys → HasTree s xs → HasTree s ys
with_tokens s xs ys e h = record { tree = h.tree; tree_of = h.tree_of; tokens = h.tokens ∙ e }

join_first : (i : Item) (s : List Item) (t : Tree Class) (zs : List Class) → IsOf (item i) t → HasTree s zs → HasTree (i ∷ s) (yield t ++ zs)
join_first i s t zs h k = record { tree = pair t k.tree; tree_of = (h, k.tree_of); tokens = ap (λ z. yield t ++ z) k.tokens }

join_append : (r s : List Item) (t : Tree Class) (zs : List Class) → IsOf (all_of r) t → HasTree s zs → HasTree (r ++ s) (yield t ++ zs)
join_append [] s empty zs h k = k
join_append (i ∷ r) s (pair t u) zs h k =
    let rest = join_append r s u zs h.1 k in
    record { tree = pair t rest.tree; tree_of = (h.0, rest.tree_of); tokens = ap (λ z. yield t ++ z) rest.tokens ∙ sym (append_assoc (yield t) (yield u) zs) }
join_append _ s _ zs h k = absurd h

pub record Cut (xs ys : List Class) (x : Class) (zs : List Class) : Type 0 where
  pub rest : List Class
  pub left : xs ≡ x ∷ rest
  pub right : zs ≡ rest ++ ys

pub cut_front : (xs ys : List Class) (x : Class) (zs : List Class) → Begun xs → xs ++ ys ≡ x ∷ zs → Cut xs ys x zs
cut_front xs ys x zs b e =
    let whole : b.first ∷ (b.rest ++ ys) ≡ x ∷ zs = sym (ap (λ z. z ++ ys) b.is) ∙ e in
    record { rest = b.rest; left = b.is ∙ ap (λ z. z ∷ b.rest) (cons_front b.first x (b.rest ++ ys) zs whole); right = sym (cons_rest b.first x (b.rest ++ ys) zs whole) }

ahead : (n : ℕ) (p : Part) (t : Tree Class) (x : Class) (ys zs : List Class) (s : List Item) → enough n p x ≡ true → FrontSolid p → IsOf p t → yield t ≡ x ∷ ys → HasTree s zs → HasTree (behind n p x s) (ys ++ zs)
ahead zero p t x ys zs s e f h k m = absurd (false≢true e)
ahead (suc n) (item (One a)) (leaf y) x ys zs s e f h k m = with_tokens s zs (ys ++ zs) (ap (λ z. z ++ zs) (cons_rest y x [] ys k)) m
ahead (suc n) (item (OfRule r)) (node t) x ys zs s e f h k m = ahead n (body r) t x ys zs s e (front_solid (body r) (solid_rule r)) h k m
ahead (suc n) (item (Optional r)) empty x ys zs s e f h k m = absurd (no_tokens x ys k)
ahead (suc n) (item (Optional r)) (here t) x ys zs s e f h k m = ahead n (item (OfRule r)) t x ys zs s e tt h k m
ahead (suc n) (item (Repeated r)) empty x ys zs s e f h k m = absurd (no_tokens x ys k)
ahead (suc n) (item (Repeated r)) (pair t u) x ys zs s e f h k m =
    let c = cut_front (yield t) (yield u) x ys (nonempty (item (OfRule r)) t h.0 refl) k in
    with_tokens (behind n (item (OfRule r)) x (Repeated r ∷ s)) (c.rest ++ (yield u ++ zs)) (ys ++ zs) (sym (append_assoc c.rest (yield u) zs) ∙ ap (λ z. z ++ zs) (sym c.right))
    (ahead n (item (OfRule r)) t x c.rest (yield u ++ zs) (Repeated r ∷ s) e tt h.0 c.left (join_first (Repeated r) s u zs h.1 m))
ahead (suc n) (all_of []) empty x ys zs s e f h k m = absurd (no_tokens x ys k)
ahead (suc n) (all_of (i ∷ r)) (pair t u) x ys zs s e f h k m =
    let c = cut_front (yield t) (yield u) x ys (nonempty (item i) t h.0 (solid_item i f)) k in
    with_tokens (behind n (item i) x (r ++ s)) (c.rest ++ (yield u ++ zs)) (ys ++ zs) (sym (append_assoc c.rest (yield u) zs) ∙ ap (λ z. z ++ zs) (sym c.right))
    (ahead n (item i) t x c.rest (yield u ++ zs) (r ++ s) e tt h.0 c.left (join_append r s u zs h.1 m))
ahead (suc n) (one_of choices) t x ys zs s e f h k m =
    let c = chosen choices t x ys h k in ahead n (item (first_begun choices x)) c.tree x ys zs s e tt c.tree_of c.tokens m
ahead _ _ _ x ys zs s e f h k m = absurd h

-- the items fit before each token
unfoldable pub AllFit : List Item → Type 0
AllFit s = (y : Class) → fit y s false ≡ true

-- where a tree of the items yields something, they may begin with it
stack_begun : (s : List Item) (t : Tree Class) (x : Class) (xs : List Class) → IsOf (all_of s) t → yield t ≡ x ∷ xs → firsts x s false ≡ true
stack_begun [] empty x xs h e = absurd (no_tokens x xs e)
stack_begun (i ∷ s) (pair t u) x xs h e = cases (yield t) refl (stack_begun s u x xs h.1)
  where
    cases : (ys : List Class) → yield t ≡ ys → (yield u ≡ x ∷ xs → firsts x s false ≡ true) → firsts x (i ∷ s) false ≡ true
    cases [] k ih = or_right (begins i x) (nullable i && firsts x s false) (and_from (nullable i) (firsts x s false) (nullable-empty i t h.0 k) (ih (sym (ap (λ z. z ++ yield u) k) ∙ e)))
    cases (y ∷ ys) k ih =
        let front : y ≡ x = cons_front y x (ys ++ yield u) xs (sym (ap (λ z. z ++ yield u) k) ∙ e) in
        or_left (begins i x) (nullable i && firsts x s false) (begun (item i) t x ys h.0 tt (k ∙ ap (λ z. z ∷ ys) front))
stack_begun _ _ x xs h e = absurd h

record Stepped (s : List Item) (x : Class) (xs : List Class) : Type 0 where
  pub next : List Item
  pub is : step s x ≡ Some next
  pub has : HasTree next xs
  pub fits : AllFit next

fit_rest : (i : Item) (s : List Item) → AllFit (i ∷ s) → AllFit s
unfolding AllFit
fit_rest i s f = λ y. (and_parts (fits y i (firsts y s false)) (fit y s false) (f y)).1

-- the first item isn't begun by what a later one begins with
skipped : (i : Item) (s : List Item) (x : Class) → AllFit (i ∷ s) → firsts x s false ≡ true → nullable i ≡ true → begins i x ≡ false
unfolding AllFit
skipped i s x f k e = fit_apart x i e (ap (fits x i) (sym k) ∙ (and_parts (fits x i (firsts x s false)) (fit x s false) (f x)).0)

fit_opened : (i : Item) (s : List Item) (x : Class) → AllFit (i ∷ s) → AllFit (behind depth (item i) x s)
unfolding AllFit
fit_opened i s x f = λ y. let both = and_parts (fits y i (firsts y s false)) (fit y s false) (f y) in kept depth (item i) x y s both.0 both.1

stepped_over : (i : Item) (s : List Item) (x : Class) (xs : List Class) → begins i x ≡ false → nullable i ≡ true → Stepped s x xs → Stepped (i ∷ s) x xs
stepped_over i s x xs b e h = record { next = h.next; is = step_skip i s x b e ∙ h.is; has = h.has; fits = h.fits }

stepped : (s : List Item) (t : Tree Class) (x : Class) (xs : List Class) → IsOf (all_of s) t → yield t ≡ x ∷ xs → AllFit s → Stepped s x xs
stepped [] empty x xs h e f = absurd (no_tokens x xs e)
stepped (i ∷ s) (pair t u) x xs h e f = cases (yield t) refl (λ k. stepped s u x xs h.1 k (fit_rest i s f))
  where
    cases : (ys : List Class) → yield t ≡ ys → (yield u ≡ x ∷ xs → Stepped s x xs) → Stepped (i ∷ s) x xs
    cases [] k ih =
        let later : yield u ≡ x ∷ xs = sym (ap (λ z. z ++ yield u) k) ∙ e in
        let e : nullable i ≡ true = nullable-empty i t h.0 k in
        stepped_over i s x xs (skipped i s x f (stack_begun s u x xs h.1 later) e) e (ih later)
    cases (y ∷ ys) k ih =
        let c = cut_front (yield t) (yield u) x xs (record { first = y; rest = ys; is = k }) e in
        record {
          next = behind depth (item i) x s;
          is = step_begun i s x (begun (item i) t x c.rest h.0 tt c.left);
          has = with_tokens (behind depth (item i) x s) (c.rest ++ yield u) xs (sym c.right) (ahead depth (item i) t x c.rest (yield u) s (enough_depth (item i) x) tt h.0 c.left (record { tree = u; tree_of = h.1; tokens = refl }));
          fits = fit_opened i s x f;
        }
stepped _ _ x xs h e f = absurd h

-- what is pending behind these tokens, of which a tree yields those
pub record Reached (s : List Item) (xs ys : List Class) : Type 0 where
  pub next : List Item
  pub is : pending_from s xs ≡ Some next
  pub has : HasTree next ys
  pub fits : AllFit next

reached_on : (s : List Item) (x : Class) (xs ys : List Class) → (h : Stepped s x (xs ++ ys)) → Reached h.next xs ys → Reached s (x ∷ xs) ys
reached_on s x xs ys h r = record { next = r.next; is = ap (option_and_then (λ z. pending_from z xs)) h.is ∙ r.is; has = r.has; fits = r.fits }

reached_from : (s : List Item) (xs ys : List Class) → HasTree s (xs ++ ys) → AllFit s → Reached s xs ys
reached_from s [] ys h f = record { next = s; is = refl; has = h; fits = f }
reached_from s (x ∷ xs) ys h f =
    let first = stepped s h.tree x (xs ++ ys) h.tree_of h.tokens f in
    reached_on s x xs ys first (reached_from first.next xs ys first.has first.fits)

-- at the end each item can be empty
can_end_empty : (s : List Item) (t : Tree Class) → IsOf (all_of s) t → yield t ≡ [] → can_end s ≡ true
can_end_empty [] t h e = refl
can_end_empty (i ∷ s) (pair t u) h e =
    let both = append_empty (yield t) (yield u) e in
    and_from (nullable i) (can_end s) (nullable-empty i t h.0 both.0) (can_end_empty s u h.1 both.1)
  where
    append_empty : (xs ys : List Class) → xs ++ ys ≡ [] → (xs ≡ []) × (ys ≡ [])
    append_empty [] ys e = (refl, e)
    append_empty (x ∷ xs) ys e = absurd (cc)
can_end_empty _ _ h e = absurd h

pub ended_empty : (s : List Item) → HasTree s [] → can_end s ≡ true
ended_empty s h = can_end_empty s h.tree h.tree_of h.tokens

fit_rule : (r : Rule) → AllFit (OfRule r ∷ [])
unfolding AllFit
fit_rule r = λ y. refl

pub reached : (r : Rule) (xs ys : List Class) → HasTree (OfRule r ∷ []) (xs ++ ys) → Reached (OfRule r ∷ []) xs ys
reached r xs ys h = reached_from (OfRule r ∷ []) xs ys h (fit_rule r)
