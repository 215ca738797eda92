-- Trees over tokens, and over the classes of tokens.
use Rattle.std.proofs.Common.{◌≡◌, refl, List, [], ◌∷◌, ◌++◌, ap, sym, ◌∙◌, append_assoc}
use Rattle.std.proofs.lemmas.List.{append-nil}
use Rattle.weld_grammar.specs.declared.terminals.class.Class.{Class}
use Rattle.weld_grammar.specs.declared.terminals.token.Token.{Token}
use Rattle.weld_grammar.specs.Derivation.{Tree, leaf, node, empty, pair, here, there, yield}
use Rattle.weld_grammar.specs.Classes.{classes}
use Rattle.weld_spell.specs.Seen.{seen}

classes-append : (xs ys : List Token) → classes (xs ++ ys) ≡ classes xs ++ classes ys
classes-append [] ys = refl
classes-append (x ∷ xs) ys = ap (λ z. x.class ∷ z) (classes-append xs ys)

-- a tree over tokens is seen to yield their classes
pub yield-seen : (t : Tree Token) → yield (seen t) ≡ classes (yield t)
yield-seen (leaf x) = refl
yield-seen (node t) = yield-seen t
yield-seen empty = refl
yield-seen (pair t u) = ap (λ z. z ++ yield (seen u)) (yield-seen t) ∙ ap (λ z. classes (yield t) ++ z) (yield-seen u) ∙ sym (classes-append (yield t) (yield u))
yield-seen (here t) = yield-seen t
yield-seen (there t) = yield-seen t

-- a tree over the classes of tokens is one over the tokens
record Lifted (t : Tree Class) (ts : List Token) (zs : List Class) : Type 0 where
  pub tree : Tree Token
  pub rest : List Token
  pub alike : seen tree ≡ t
  pub tokens : ts ≡ yield tree ++ rest
  pub left : classes rest ≡ zs

lift_leaf : (x : Class) (ts : List Token) (zs : List Class) → classes ts ≡ x ∷ zs → Lifted (leaf x) ts zs
lift_leaf x [] zs e = absurd (cc)
lift_leaf x (t ∷ ts) zs e = record { tree = leaf t; rest = ts; alike = ap leaf (first t.class x (classes ts) zs e); tokens = refl; left = rest t.class x (classes ts) zs e }
  where
    first : (a b : Class) (k l : List Class) → a ∷ k ≡ b ∷ l → a ≡ b
    first a b k l e = cc

    rest : (a b : Class) (k l : List Class) → a ∷ k ≡ b ∷ l → k ≡ l
    rest a b k l e = cc

lift_pair : (t u : Tree Class) (ts : List Token) (ys zs : List Class) → (h : Lifted t ts ys) → Lifted u h.rest zs → Lifted (pair t u) ts zs
lift_pair t u ts ys zs h k = record {
  tree = pair h.tree k.tree;
  rest = k.rest;
  alike = ap (λ z. pair z (seen k.tree)) h.alike ∙ ap (pair t) k.alike;
  tokens = h.tokens ∙ ap (λ z. yield h.tree ++ z) k.tokens ∙ sym (append_assoc (yield h.tree) (yield k.tree) k.rest);
  left = k.left;
}

lift : (t : Tree Class) (ts : List Token) (zs : List Class) → classes ts ≡ yield t ++ zs → Lifted t ts zs
lift (leaf x) ts zs e = lift_leaf x ts zs e
lift (node t) ts zs e =
    let h = lift t ts zs e in record { tree = node h.tree; rest = h.rest; alike = ap node h.alike; tokens = h.tokens; left = h.left }
lift empty ts zs e = record { tree = empty; rest = ts; alike = refl; tokens = refl; left = e }
lift (pair t u) ts zs e =
    let h = lift t ts (yield u ++ zs) (e ∙ append_assoc (yield t) (yield u) zs) in
    lift_pair t u ts (yield u ++ zs) zs h (lift u h.rest zs h.left)
lift (here t) ts zs e =
    let h = lift t ts zs e in record { tree = here h.tree; rest = h.rest; alike = ap here h.alike; tokens = h.tokens; left = h.left }
lift (there t) ts zs e =
    let h = lift t ts zs e in record { tree = there h.tree; rest = h.rest; alike = ap there h.alike; tokens = h.tokens; left = h.left }

no_classes : (ts : List Token) → classes ts ≡ [] → ts ≡ []
no_classes [] e = refl
no_classes (t ∷ ts) e = absurd (cc)

-- it is seen so, and yields the tokens
pub record Over (t : Tree Class) (ts : List Token) : Type 0 where
  pub tree : Tree Token
  pub alike : seen tree ≡ t
  pub tokens : yield tree ≡ ts

pub over_tokens : (t : Tree Class) (ts : List Token) → yield t ≡ classes ts → Over t ts
over_tokens t ts e =
    let h = lift t ts [] (sym e ∙ sym (append-nil (yield t))) in
    record { tree = h.tree; alike = h.alike; tokens = sym (append-nil (yield h.tree)) ∙ ap (λ z. yield h.tree ++ z) (sym (no_classes h.rest h.left)) ∙ sym h.tokens }
