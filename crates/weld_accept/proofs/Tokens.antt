-- What is pending after one token more.
use Rattle.std.proofs.Common.{◌≡◌, refl, ℕ, zero, suc, ◌+◌, ◌<◌, ◌≤◌, Option, Some, None, option_and_then, List, [], ◌∷◌, ◌++◌, length, take, get_or, ap, sym, ◌∙◌, add-one, arith}
use Rattle.weld_grammar.specs.declared.terminals.class.Class.{Class}
use Rattle.weld_grammar.specs.declared.terminals.token.Token.{Token}
use Rattle.weld_grammar.specs.declared.rule.Rule.{Rule}
use Rattle.weld_grammar.specs.declared.item.Item.{Item}
use Rattle.weld_grammar.specs.declared.item.Item.TheVariants.{Part as OfRule}
use Rattle.weld_grammar.specs.Pending.{step, pending_from, pending}
use Rattle.weld_grammar.specs.Classes.{classes}

some_same : (a b : List Item) → Some a ≡ Some b → a ≡ b
some_same a b e = cc

none_some : (t : List Item) → None ≡ Some t → ⊥
none_some t e = cc

-- more tokens behind these
more : (z : List Item) (xs ys : List Class) (s : List Item) → pending_from z xs ≡ Some s → pending_from z (xs ++ ys) ≡ pending_from s ys
more z [] ys s e = ap (λ t. pending_from t ys) (some_same z s e)
more z (x ∷ xs) ys s e = cases (step z x) refl (λ t. more t xs ys s)
  where
    cases : (o : Option (List Item)) → step z x ≡ o → ((t : List Item) → pending_from t xs ≡ Some s → pending_from t (xs ++ ys) ≡ pending_from s ys) → pending_from z (x ∷ (xs ++ ys)) ≡ pending_from s ys
    cases None k ih = absurd (none_some s (sym (ap (option_and_then (λ t. pending_from t xs)) k) ∙ e))
    cases (Some t) k ih = ap (option_and_then (λ y. pending_from y (xs ++ ys))) k ∙ ih t (sym (ap (option_and_then (λ y. pending_from y xs)) k) ∙ e)

single : (o : Option (List Item)) → option_and_then (λ t. Some t) o ≡ o
single None = refl
single (Some t) = refl

one_more : (r : Rule) (xs : List Class) (x : Class) (s : List Item) → pending r xs ≡ Some s → pending r (xs ++ x ∷ []) ≡ step s x
one_more r xs x s e = more (OfRule r ∷ []) xs (x ∷ []) s e ∙ single (step s x)

pub take_class : (ts : List Token) (i : ℕ) (t : Token) → i < length ts → t ≡ get_or ts i t → take (i + 1) (classes ts) ≡ take i (classes ts) ++ t.class ∷ []
take_class [] i t lt e = absurd (omega arith)
take_class (u ∷ ts) zero t lt e = let k : u ≡ t = sym e in ap (λ z. z.class ∷ []) k
take_class (u ∷ ts) (suc i) t lt e = rw add-one (ap (λ z. u.class ∷ z) (sym (ap (λ n. take n (classes ts)) (add-one i)) ∙ take_class ts i t (omega arith) e))

-- what is pending after the token at a place
pub pending_at : (r : Rule) (ts : List Token) (i : ℕ) (t : Token) (s : List Item) → i < length ts → t ≡ get_or ts i t → pending r (take i (classes ts)) ≡ Some s → pending r (take (i + 1) (classes ts)) ≡ step s t.class
pending_at r ts i t s lt e p = ap (pending r) (take_class ts i t lt e) ∙ one_more r (take i (classes ts)) t.class s p

pub length-classes : (ts : List Token) → length (classes ts) ≡ length ts
length-classes [] = refl
length-classes (t ∷ ts) = ap suc (length-classes ts)

pub take-classes : (ts : List Token) → take (length ts) (classes ts) ≡ classes ts
take-classes [] = refl
take-classes (t ∷ ts) = ap (λ z. t.class ∷ z) (take-classes ts)

-- all tokens
pub take_all : (ts : List Token) (i : ℕ) → length ts ≤ i → i ≤ length ts → take i (classes ts) ≡ classes ts
take_all ts i h k = let same : i ≡ length ts = omega arith in ap (λ n. take n (classes ts)) same ∙ take-classes ts

-- what is pending behind all tokens
pub pending_end : (r : Rule) (ts : List Token) (i : ℕ) (s : List Item) → length ts ≤ i → i ≤ length ts → pending r (take i (classes ts)) ≡ Some s → pending r (classes ts) ≡ Some s
pending_end r ts i s h k e = ap (pending r) (sym (take_all ts i h k)) ∙ e
