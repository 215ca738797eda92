-- A rule derives tokens, or they break it at a place.
use Rattle.std.proofs.Common.{◌≡◌, ◌⊎◌, inl, inr, refl, ℕ, suc, ◌<◌, Bool, true, false, IsTrue, Option, Some, None, option_and_then, List, [], ◌∷◌, ◌++◌, length, take, ap, sym, subst, ◌∙◌, append_assoc, add-one, arith, length-append}
use Rattle.std.proofs.lemmas.List.{append-nil}
use Rattle.weld_grammar.specs.declared.terminals.class.Class.{Class}
use Rattle.weld_grammar.specs.declared.rule.Rule.{Rule}
use Rattle.weld_grammar.specs.declared.item.Item.{Item}
use Rattle.weld_grammar.specs.declared.item.Item.TheVariants.{Part as OfRule}
use Rattle.weld_grammar.specs.Pending.{step, pending_from, pending, can_end}
use Rattle.weld_grammar.specs.Breaks.{Derives, BreaksAt, at_token, at_end}

-- the grammar's law: where all that is pending can be empty, the tokens are derived
abbrev pub EndDerives : Type 0
EndDerives = (r : Rule) (xs : List Class) (s : List Item) → pending r xs ≡ Some s → IsTrue (can_end s) → Derives r xs

abbrev pub Decided : Rule → List Class → Type 0
Decided r xs = Derives r xs ⊎ ((n : ℕ) × BreaksAt r xs n)

some_same : (a b : List Item) → Some a ≡ Some b → a ≡ b
some_same a b e = cc

none_some : (t : List Item) → None ≡ Some t → ⊥
none_some t e = cc

-- more tokens behind these
more : (z : List Item) (xs ys : List Class) (s : List Item) → pending_from z xs ≡ Some s → pending_from z (xs ++ ys) ≡ pending_from s ys
more z [] ys s e = ap (λ t. pending_from t ys) (some_same z s e)
more z (x ∷ xs) ys s e = cases (step z x) refl (λ t. more t xs ys s)
  where
    cases : (o : Option (List Item)) → step z x ≡ o → ((t : List Item) → pending_from t xs ≡ Some s → pending_from t (xs ++ ys) ≡ pending_from s ys) → pending_from z (x ∷ (xs ++ ys)) ≡ pending_from s ys
    cases None k ih = absurd (none_some s (sym (ap (option_and_then (λ t. pending_from t xs)) k) ∙ e))
    cases (Some t) k ih = ap (option_and_then (λ y. pending_from y (xs ++ ys))) k ∙ ih t (sym (ap (option_and_then (λ y. pending_from y xs)) k) ∙ e)

single : (o : Option (List Item)) → option_and_then (λ t. Some t) o ≡ o
single None = refl
single (Some t) = refl

one_more : (r : Rule) (xs : List Class) (x : Class) (s : List Item) → pending r xs ≡ Some s → pending r (xs ++ x ∷ []) ≡ step s x
one_more r xs x s e = more (OfRule r ∷ []) xs (x ∷ []) s e ∙ single (step s x)

take_front : (xs : List Class) (x : Class) (ys : List Class) → take (length xs) (xs ++ x ∷ ys) ≡ xs
take_front [] x ys = refl
take_front (z ∷ xs) x ys = ap (λ k. z ∷ k) (take_front xs x ys)

take_next : (xs : List Class) (x : Class) (ys : List Class) → take (suc (length xs)) (xs ++ x ∷ ys) ≡ xs ++ x ∷ []
take_next [] x ys = refl
take_next (z ∷ xs) x ys = ap (λ k. z ∷ k) (take_next xs x ys)

less : (xs : List Class) (x : Class) (ys : List Class) → length xs < length (xs ++ x ∷ ys)
less xs x ys = omega (arith, length-append xs (x ∷ ys))

breaks : (r : Rule) (xs : List Class) (x : Class) (ys : List Class) (s : List Item) → pending r xs ≡ Some s → step s x ≡ None → BreaksAt r (xs ++ x ∷ ys) (length xs)
breaks r xs x ys s e k =
    at_token s (less xs x ys) (ap (pending r) (take_front xs x ys) ∙ e)
    (ap (λ n. pending r (take n (xs ++ x ∷ ys))) (add-one (length xs)) ∙ ap (pending r) (take_next xs x ys) ∙ one_more r xs x s e ∙ k)

at_the_end : EndDerives → (r : Rule) (xs : List Class) (s : List Item) → pending r xs ≡ Some s → (b : Bool) → can_end s ≡ b → Decided r xs
at_the_end law r xs s e true k = inl (law r xs s e k)
at_the_end law r xs s e false k = inr (length xs, at_end s refl e k)

one_by_one : (xs : List Class) (x : Class) (ys : List Class) → (xs ++ x ∷ []) ++ ys ≡ xs ++ x ∷ ys
one_by_one xs x ys = append_assoc xs (x ∷ []) ys

decided : EndDerives → (r : Rule) (ys xs : List Class) (s : List Item) → pending r xs ≡ Some s → Decided r (xs ++ ys)
decided law r [] xs s e = let P : List Class → Type 0 = Decided r in subst P (sym (append-nil xs)) (at_the_end law r xs s e (can_end s) refl)
decided law r (x ∷ ys) xs s e = cases (step s x) refl (λ t k. decided law r ys (xs ++ x ∷ []) t (one_more r xs x s e ∙ k))
  where
    cases : (o : Option (List Item)) → step s x ≡ o → ((t : List Item) → step s x ≡ Some t → Decided r ((xs ++ x ∷ []) ++ ys)) → Decided r (xs ++ x ∷ ys)
    cases None k ih = inr (length xs, breaks r xs x ys s e k)
    cases (Some t) k ih = let P : List Class → Type 0 = Decided r in subst P (one_by_one xs x ys) (ih t k)

pub derived-or-broken : EndDerives → (r : Rule) (xs : List Class) → Decided r xs
derived-or-broken law r xs = decided law r xs [] (OfRule r ∷ []) refl
