-- The laws of the grammar, from trees and pending lists.
use Rattle.std.proofs.Common.{ℕ, zero, suc, ◌+◌, ◌<◌, ◌≤◌, IsTrue, ◌≡◌, refl, Option, Some, None, option_and_then, is_some, IsSome, List, [], ◌∷◌, ◌++◌, length, take, drop, ap, sym, ◌∙◌, subst, arith, inl, inr}
use Rattle.std.proofs.lemmas.Bool.{true≢false, cases_order}
use Rattle.std.proofs.lemmas.List.{append-nil, take-append-drop}
use Rattle.weld_grammar.specs.declared.terminals.class.Class.{Class}
use Rattle.weld_grammar.specs.declared.rule.Rule.{Rule}
use Rattle.weld_grammar.specs.declared.item.Item.{Item}
use Rattle.weld_grammar.specs.declared.item.Item.TheVariants.{Part as OfRule}
use Rattle.weld_grammar.specs.Grammar.{all_of}
use Rattle.weld_grammar.specs.Derivation.{Tree, empty, pair, yield, IsOf}
use Rattle.weld_grammar.specs.Pending.{step, pending_from, pending, can_end}
use Rattle.weld_grammar.specs.Breaks.{Derives, BreaksAt, at_token, at_end}
use Rattle.weld_grammar.proofs.Made.{HasTree, split_first, derived_from, none_some, some_same}
use Rattle.weld_grammar.proofs.Reached.{with_tokens, reached, ended_empty}

has_tree : (r : Rule) (xs : List Class) → Derives r xs → HasTree (OfRule r ∷ []) xs
has_tree r xs d = record { tree = pair d.0 empty; tree_of = (d.1, tt); tokens = append-nil (yield d.0) ∙ d.2 }

yields_none : (t : Tree Class) → IsOf (all_of []) t → yield t ≡ []
yields_none empty h = refl
yields_none _ h = absurd h

derives : (r : Rule) (xs : List Class) → HasTree (OfRule r ∷ []) xs → Derives r xs
derives r xs h =
    let row = split_first (OfRule r) [] h.tree h.tree_of in
    (row.left, row.left_of, sym (append-nil (yield row.left)) ∙ ap (λ z. yield row.left ++ z) (sym (yields_none row.right row.right_of)) ∙ sym row.tokens ∙ h.tokens)

is_some_at : (o : Option (List Item)) (s : List Item) → o ≡ Some s → IsSome o
is_some_at o s e = ap is_some e

-- fronts of tokens that derive a program
record Front (r : Rule) (xs : List Class) : Type 0 where
  pub next : List Item
  pub is : pending r xs ≡ Some next

front : (r : Rule) (xs ys : List Class) → Derives r (xs ++ ys) → Front r xs
front r xs ys d = let z = reached r xs ys (has_tree r (xs ++ ys) d) in record { next = z.next; is = z.is }

pub fronts_pending : (r : Rule) (xs ys : List Class) → Derives r (xs ++ ys) → IsSome (pending r xs)
fronts_pending r xs ys d = let f = front r xs ys d in is_some_at (pending r xs) f.next f.is

pub end_pending : (r : Rule) (xs : List Class) → Derives r xs → (s : List Item) × (pending r xs ≡ Some s) × IsTrue (can_end s)
end_pending r xs d =
    let z = reached r xs [] (with_tokens (OfRule r ∷ []) xs (xs ++ []) (sym (append-nil xs)) (has_tree r xs d)) in
    (z.next, z.is, ended_empty z.next z.has)

pub end_derives : (r : Rule) (xs : List Class) (s : List Item) → pending r xs ≡ Some s → IsTrue (can_end s) → Derives r xs
end_derives r xs s e h = derives r xs (derived_from (OfRule r ∷ []) s xs e h)

derives_same : (r : Rule) (xs ys : List Class) → xs ≡ ys → Derives r xs → Derives r ys
derives_same r xs ys e d = let P : List Class → Type 0 = Derives r in subst P e d

pub derived_unbroken : (r : Rule) (xs : List Class) (n : ℕ) → Derives r xs → BreaksAt r xs n → ⊥
derived_unbroken r xs n d (at_token s lt e f) =
    let next = front r (take (n + 1) xs) (drop (n + 1) xs) (derives_same r xs (take (n + 1) xs ++ drop (n + 1) xs) (sym (take-append-drop (n + 1) xs)) d) in
    none_some next.next (sym f ∙ next.is)
derived_unbroken r xs n d (at_end s eq e f) =
    let end = end_pending r xs d in
    true≢false (sym end.2 ∙ ap can_end (some_same end.0 s (sym end.1 ∙ e)) ∙ f)

-- the front of a list that ends later
record Longer (m n : ℕ) (xs : List Class) : Type 0 where
  pub more : List Class
  pub is : take n xs ≡ take m xs ++ more

longer_on : (m n : ℕ) (x : Class) (xs : List Class) → Longer m n xs → Longer (suc m) (suc n) (x ∷ xs)
longer_on m n x xs h = record { more = h.more; is = ap (λ z. x ∷ z) h.is }

longer : (m n : ℕ) (xs : List Class) → m ≤ n → Longer m n xs
longer zero n xs h = record { more = take n xs; is = refl }
longer (suc m) zero xs h = absurd (omega arith)
longer (suc m) (suc n) [] h = record { more = []; is = refl }
longer (suc m) (suc n) (x ∷ xs) h = longer_on m n x xs (longer m n xs (omega arith))

-- something is pending behind each front of tokens behind which something is
front_of : (s : List Item) (xs ys : List Class) (t : List Item) → pending_from s (xs ++ ys) ≡ Some t → IsSome (pending_from s xs)
front_of s [] ys t e = refl
front_of s (x ∷ xs) ys t e = cases (step s x) refl (λ z. front_of z xs ys t)
  where
    cases : (o : Option (List Item)) → step s x ≡ o → ((z : List Item) → pending_from z (xs ++ ys) ≡ Some t → IsSome (pending_from z xs)) → IsSome (pending_from s (x ∷ xs))
    cases None k ih = absurd (none_some t (sym (ap (option_and_then (λ z. pending_from z (xs ++ ys))) k) ∙ e))
    cases (Some z) k ih = ap (λ o. is_some (option_and_then (λ y. pending_from y xs) o)) k ∙ ih z (sym (ap (option_and_then (λ y. pending_from y (xs ++ ys))) k) ∙ e)

take_whole : (n : ℕ) (xs : List Class) → n ≡ length xs → take n xs ≡ xs
take_whole zero [] e = refl
take_whole zero (x ∷ xs) e = absurd (omega arith)
take_whole (suc n) [] e = refl
take_whole (suc n) (x ∷ xs) e = ap (λ z. x ∷ z) (take_whole n xs (omega arith))

pending_before : (r : Rule) (xs : List Class) (n : ℕ) → BreaksAt r xs n → Front r (take n xs)
pending_before r xs n (at_token s lt e f) = record { next = s; is = e }
pending_before r xs n (at_end s eq e f) = record { next = s; is = ap (pending r) (take_whole n xs eq) ∙ e }

not_past : (r : Rule) (xs : List Class) (n : ℕ) → BreaksAt r xs n → n ≤ length xs
not_past r xs n (at_token s lt e f) = omega arith
not_past r xs n (at_end s eq e f) = omega arith

not_before : (r : Rule) (xs : List Class) (m n : ℕ) → BreaksAt r xs m → BreaksAt r xs n → m < n → ⊥
not_before r xs m n (at_token s lt e f) b h =
    let l = longer (m + 1) n xs (omega arith) in
    let p = pending_before r xs n b in
    let some : IsSome (pending r (take (m + 1) xs)) = front_of (OfRule r ∷ []) (take (m + 1) xs) l.more p.next (sym (ap (pending r) l.is) ∙ p.is) in
    true≢false (sym some ∙ ap is_some f)
not_before r xs m n (at_end s eq e f) b h = let past : n ≤ length xs = not_past r xs n b in omega arith

pub breaks_once : (r : Rule) (xs : List Class) (m n : ℕ) → BreaksAt r xs m → BreaksAt r xs n → m ≡ n
breaks_once r xs m n a b = elim (cases_order m n) [ inl e ↦ e | inr h ↦ elim h [ inl lt ↦ absurd (not_before r xs m n a b lt) | inr gt ↦ absurd (not_before r xs n m b a gt) ] ]
