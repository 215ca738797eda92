-- A refused name stands in the text.
use Rattle.std.proofs.Common.{◌≡◌, ◌⊎◌, inl, inr, ℕ, true, false, cond, List, [], ◌∷◌, ◌++◌, Option, Some, None}
use Rattle.weld_tree.specs.declared.code.Code.TheVariants.{N1}
use Rattle.weld_grammar.specs.declared.terminals.token.Token.{Token}
use Rattle.weld_grammar.specs.declared.terminal.Terminal.{Terminal}
use Rattle.weld_grammar.specs.declared.terminal.Terminal.TheVariants.{Sign, Fixed, Word, Name, Number, Field, Chars}
use Rattle.weld_grammar.specs.declared.rule.Rule.TheVariants.{Param, NextParam, Expr, Or, Rows, Bind}
use Rattle.weld_grammar.specs.declared.item.Item.TheVariants.{One, Part as OfRule, Optional, Repeated}
use Rattle.weld_grammar.specs.Grammar.{Part, item, all_of, one_of, body}
use Rattle.weld_grammar.specs.Derivation.{Tree, leaf, node, pair, here, there, yield}
use Rattle.weld_spell.specs.Names.{Refused, or_else, bears, unbound, misnamed_token, name_of, with_params, Binding, none, by_let, by_for, by_iterate, by_params, binding_of, misnamed, IsFor, StandsIn}

or_else-is : (a b : Option Refused) (r : Refused) → or_else a b ≡ Some r → (a ≡ Some r) ⊎ (b ≡ Some r)
or_else-is None b r e = inr e
or_else-is (Some x) b r e = inl e

left : (r : Refused) (xs ys : List Token) → StandsIn r xs → StandsIn r (xs ++ ys)
left r [] ys s = absurd s
left r (x ∷ xs) ys s =
    elim s as (λ _. IsFor r x ⊎ StandsIn r (xs ++ ys)) [
      | inl is ↦ inl is
      | inr more ↦ inr (left r xs ys more)
    ]

right : (r : Refused) (xs ys : List Token) → StandsIn r ys → StandsIn r (xs ++ ys)
right r [] ys s = s
right r (x ∷ xs) ys s = inr (right r xs ys s)

-- of two parts in a row
both : (r : Refused) (a b : Option Refused) (xs ys : List Token) → (a ≡ Some r → StandsIn r xs) → (b ≡ Some r → StandsIn r ys) → or_else a b ≡ Some r → StandsIn r (xs ++ ys)
both r a b xs ys f g e =
    elim (or_else-is a b r e) as (λ _. StandsIn r (xs ++ ys)) [
      | inl h ↦ left r xs ys (f h)
      | inr h ↦ right r xs ys (g h)
    ]

unbound-for : (scope : List (List ℕ)) (t : Token) (r : Refused) → unbound scope t ≡ Some r → StandsIn r (t ∷ [])
unbound-for scope t r e =
    elim (bears scope t.word) as (λ b. cond b None (Some (N1, t.place)) ≡ Some r → StandsIn r (t ∷ [])) [
      | true ↦ λ e. cc
      | false ↦ λ e. let same : r ≡ (N1, t.place) = cc in inl (inl same)
    ] e

token-for : (a : Terminal) (t : Token) (scope : List (List ℕ)) (r : Refused) → misnamed_token a t scope ≡ Some r → StandsIn r (t ∷ [])
token-for (Sign s) t scope r e = cc
token-for (Fixed w) t scope r e = cc
token-for Word t scope r e = inl (inr e)
token-for Name t scope r e = unbound-for scope t r e
token-for Number t scope r e = cc
token-for Field t scope r e = cc
token-for Chars t scope r e = cc

pub stands : (by : Binding) (p : Part) (t : Tree Token) (scope : List (List ℕ)) (r : Refused) → misnamed by p t scope ≡ Some r → StandsIn r (yield t)
stands by_let (all_of items) (pair l (pair w (pair note (pair q (pair v (pair m (pair b end))))))) scope r e =
    right r (yield l) _
    (both r _ _ (yield w) _ (stands none (item (One Word)) w scope r)
    (λ e. right r (yield note) _ (right r (yield q) _
    (both r _ _ (yield v) _ (stands none (item (OfRule Or)) v scope r)
    (λ e. right r (yield m) _ (left r (yield b) _ (stands none (item (OfRule Expr)) b (name_of w ∷ scope) r e))) e))) e)
stands by_for (all_of items) (pair w (pair a (pair l (pair c (pair t (pair d (pair i (pair x (pair j (pair y (pair k (pair z (pair m (pair b end)))))))))))))) scope r e =
    right r (yield w) _ (right r (yield a) _
    (both r _ _ (yield l) _ (stands none (item (OfRule Rows)) l scope r)
    (λ e. right r (yield c) _
    (both r _ _ (yield t) _ (stands none (item (OfRule Expr)) t scope r)
    (λ e. right r (yield d) _ (right r (yield i) _
    (both r _ _ (yield x) _ (stands none (item (OfRule Bind)) x scope r)
    (λ e. right r (yield j) _
    (both r _ _ (yield y) _ (stands none (item (OfRule Bind)) y scope r)
    (λ e. right r (yield k) _
    (both r _ _ (yield z) _ (stands none (item (OfRule Bind)) z scope r)
    (λ e. right r (yield m) _ (left r (yield b) _ (stands none (item (OfRule Expr)) b (name_of z ∷ name_of y ∷ name_of x ∷ scope) r e))) e)) e)) e))) e)) e))
stands by_iterate (all_of items) (pair w (pair a (pair t (pair c (pair i (pair x (pair m (pair b end)))))))) scope r e =
    right r (yield w) _ (right r (yield a) _
    (both r _ _ (yield t) _ (stands none (item (OfRule Expr)) t scope r)
    (λ e. right r (yield c) _ (right r (yield i) _
    (both r _ _ (yield x) _ (stands none (item (OfRule Bind)) x scope r)
    (λ e. right r (yield m) _ (left r (yield b) _ (stands none (item (OfRule Expr)) b (name_of x ∷ scope) r e))) e))) e))
stands by_params (all_of items) (pair a (pair p (pair more (pair z (pair b end))))) scope r e =
    right r (yield a) _
    (both r _ _ (yield p) _ (stands none (item (OfRule Param)) p scope r)
    (λ e. both r _ _ (yield more) _ (stands none (item (Repeated NextParam)) more scope r)
    (λ e. right r (yield z) _ (left r (yield b) _ (stands none (item (OfRule Expr)) b (with_params more (name_of p ∷ scope)) r e))) e) e)
stands none (all_of (i ∷ rest)) (pair t u) scope r e = both r _ _ (yield t) (yield u) (stands none (item i) t scope r) (stands none (all_of rest) u scope r) e
stands by (item (One a)) (leaf t) scope r e = token-for a t scope r e
stands by (item (OfRule q)) (node t) scope r e = stands (binding_of q) (body q) t scope r e
stands by (item (Optional q)) (here t) scope r e = stands none (item (OfRule q)) t scope r e
stands by (item (Repeated q)) (pair t u) scope r e = both r _ _ (yield t) (yield u) (stands none (item (OfRule q)) t scope r) (stands none (item (Repeated q)) u scope r) e
stands by (one_of (i ∷ rest)) (here t) scope r e = stands none (item i) t scope r e
stands by (one_of (i ∷ rest)) (there t) scope r e = stands by (one_of rest) t scope r e
stands by p t scope r e = cc
