-- Derivations of the classes of tokens are derivations of the tokens.
use Rattle.std.proofs.Common.{◌≡◌, refl, List, [], ◌∷◌, ◌++◌, ap, sym, ◌∙◌, append_assoc, subst}
use Rattle.std.proofs.lemmas.List.{append-nil}
use Rattle.weld_grammar.specs.declared.terminals.class.Class.{Class}
use Rattle.weld_grammar.specs.declared.terminals.token.Token.{Token}
use Rattle.weld_grammar.specs.declared.rule.Rule.{Rule}
use Rattle.weld_grammar.specs.declared.item.Item.TheVariants.{One, Part as OfRule, Optional, Repeated}
use Rattle.weld_grammar.specs.Grammar.{Part, item, all_of, one_of, body}
use Rattle.weld_grammar.specs.Derivation.{Tree, leaf, node, empty, pair, here, there, yield, IsOf}
use Rattle.weld_grammar.specs.Classes.{classes}
use Rattle.weld_spell.specs.Seen.{seen}
use Rattle.weld_accept.specs.declared.step.Step.{Step}
use Rattle.weld_accept.specs.declared.step.Step.TheVariants.{Reduce}
use Rattle.weld_accept.specs.Derived.{steps, IsDerivation}
use Rattle.weld_reduce.specs.Programs.{IsDerivedBy}

-- a tree over the classes of tokens is one over the tokens
record Lifted (t : Tree Class) (ts : List Token) (zs : List Class) : Type 0 where
  pub tree : Tree Token
  pub rest : List Token
  pub alike : seen tree ≡ t
  pub tokens : ts ≡ yield tree ++ rest
  pub left : classes rest ≡ zs

lift_leaf : (x : Class) (ts : List Token) (zs : List Class) → classes ts ≡ x ∷ zs → Lifted (leaf x) ts zs
lift_leaf x [] zs e = absurd (cc)
lift_leaf x (t ∷ ts) zs e = record { tree = leaf t; rest = ts; alike = ap leaf (first t.class x (classes ts) zs e); tokens = refl; left = rest t.class x (classes ts) zs e }
  where
    first : (a b : Class) (k l : List Class) → a ∷ k ≡ b ∷ l → a ≡ b
    first a b k l e = cc

    rest : (a b : Class) (k l : List Class) → a ∷ k ≡ b ∷ l → k ≡ l
    rest a b k l e = cc

lift_node : (t : Tree Class) (ts : List Token) (zs : List Class) → Lifted t ts zs → Lifted (node t) ts zs
lift_node t ts zs h = record { tree = node h.tree; rest = h.rest; alike = ap node h.alike; tokens = h.tokens; left = h.left }

lift_here : (t : Tree Class) (ts : List Token) (zs : List Class) → Lifted t ts zs → Lifted (here t) ts zs
lift_here t ts zs h = record { tree = here h.tree; rest = h.rest; alike = ap here h.alike; tokens = h.tokens; left = h.left }

lift_there : (t : Tree Class) (ts : List Token) (zs : List Class) → Lifted t ts zs → Lifted (there t) ts zs
lift_there t ts zs h = record { tree = there h.tree; rest = h.rest; alike = ap there h.alike; tokens = h.tokens; left = h.left }

lift_pair : (t u : Tree Class) (ts : List Token) (ys zs : List Class) → (h : Lifted t ts ys) → Lifted u h.rest zs → Lifted (pair t u) ts zs
lift_pair t u ts ys zs h k = record {
  tree = pair h.tree k.tree;
  rest = k.rest;
  alike = ap (λ z. pair z (seen k.tree)) h.alike ∙ ap (pair t) k.alike;
  tokens = h.tokens ∙ ap (λ z. yield h.tree ++ z) k.tokens ∙ sym (append_assoc (yield h.tree) (yield k.tree) k.rest);
  left = k.left;
}

lift : (t : Tree Class) (ts : List Token) (zs : List Class) → classes ts ≡ yield t ++ zs → Lifted t ts zs
lift (leaf x) ts zs e = lift_leaf x ts zs e
lift (node t) ts zs e = lift_node t ts zs (lift t ts zs e)
lift empty ts zs e = record { tree = empty; rest = ts; alike = refl; tokens = refl; left = e }
lift (pair t u) ts zs e =
    let h = lift t ts (yield u ++ zs) (e ∙ append_assoc (yield t) (yield u) zs) in
    lift_pair t u ts (yield u ++ zs) zs h (lift u h.rest zs h.left)
lift (here t) ts zs e = lift_here t ts zs (lift t ts zs e)
lift (there t) ts zs e = lift_there t ts zs (lift t ts zs e)

no_classes : (ts : List Token) → classes ts ≡ [] → ts ≡ []
no_classes [] e = refl
no_classes (t ∷ ts) e = absurd (cc)

-- the steps of a tree are those of what the grammar sees of it
steps-seen : (p : Part) (t : Tree Token) → steps p (seen t) ≡ steps p t
steps-seen (item (One a)) (leaf x) = refl
steps-seen (item (OfRule r)) (node t) = ap (λ z. z ++ Reduce r ∷ []) (steps-seen (body r) t)
steps-seen (item (Optional r)) (here t) = steps-seen (item (OfRule r)) t
steps-seen (item (Repeated r)) (pair t u) = ap (λ z. z ++ steps (item (Repeated r)) (seen u)) (steps-seen (item (OfRule r)) t) ∙ ap (λ z. steps (item (OfRule r)) t ++ z) (steps-seen (item (Repeated r)) u)
steps-seen (all_of (i ∷ rest)) (pair t u) = ap (λ z. z ++ steps (all_of rest) (seen u)) (steps-seen (item i) t) ∙ ap (λ z. steps (item i) t ++ z) (steps-seen (all_of rest) u)
steps-seen (one_of (i ∷ rest)) (here t) = steps-seen (item i) t
steps-seen (one_of (i ∷ rest)) (there t) = steps-seen (one_of rest) t
steps-seen _ _ = refl

pub over_tokens : (r : Rule) (ts : List Token) (ss : List Step) → IsDerivation r (classes ts) ss → IsDerivedBy r ts ss
over_tokens r ts ss d =
    let h = lift d.tree ts [] (sym d.tokens ∙ sym (append-nil (yield d.tree))) in
    let P : Tree Class → Type 0 = IsOf (item (OfRule r)) in
    record {
      tree = h.tree;
      tree_of = subst P (sym h.alike) d.tree_of;
      tokens = sym (append-nil (yield h.tree)) ∙ ap (λ z. yield h.tree ++ z) (sym (no_classes h.rest h.left)) ∙ sym h.tokens;
      is = sym (steps-seen (item (OfRule r)) h.tree) ∙ ap (steps (item (OfRule r))) h.alike ∙ d.is;
    }
